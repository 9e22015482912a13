use Rattle.dr_laws_cuts.proofs.Told.{once-told, holds-new}
use Rattle.dr_laws_cuts.proofs.Places.{cut-found, cut-once}
use Rattle.dr_laws_cuts.proofs.cuts_have_one_place.Goals as goal

pub returns-clause-found : goal.returns-clause-found
returns-clause-found c = cut-found

pub returns-clause-one : goal.returns-clause-one
returns-clause-one c = cut-once

pub returns-clause-done : goal.returns-clause-done
returns-clause-done c = once-told

pub returns-clause-new : goal.returns-clause-new
returns-clause-new c = λ write T c m laws rows a. holds-new write T rows c laws.cut m a
