use Rattle.dr_laws_closed.proofs.Places.{moment-at, group-stands}
use Rattle.dr_laws_closed.proofs.Told.{moments-told, standing-told}
use Rattle.dr_laws_closed.proofs.moments_and_groups_are_those_of_places.Goals as goal

pub returns-clause-last : goal.returns-clause-last
returns-clause-last c = moment-at

pub returns-clause-stands : goal.returns-clause-stands
returns-clause-stands c = group-stands

pub returns-clause-moments : goal.returns-clause-moments
returns-clause-moments c = moments-told

pub returns-clause-groups : goal.returns-clause-groups
returns-clause-groups c = standing-told
