use Rattle.dr_laws_targets.proofs.Places.{in-group, committed-found, committed-stands}
use Rattle.dr_laws_targets.proofs.Told.{committeds-told}
use Rattle.dr_laws_targets.proofs.groups_and_commits_are_those_of_places.Goals as goal

pub returns-clause-in_group : goal.returns-clause-in_group
returns-clause-in_group c = λ events s n a. in-group s n a events

pub returns-clause-found : goal.returns-clause-found
returns-clause-found c = λ events s n a. committed-found s n a events

pub returns-clause-stands : goal.returns-clause-stands
returns-clause-stands c = λ events s n a. committed-stands s n a events

pub returns-clause-told : goal.returns-clause-told
returns-clause-told c = committeds-told
