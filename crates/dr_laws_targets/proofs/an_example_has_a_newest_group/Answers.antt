use Rattle.dr_laws_targets.proofs.Example.{is-newest, none-left, was-acknowledged, was-replaced, not-held}
use Rattle.dr_laws_targets.proofs.an_example_has_a_newest_group.Goals as goal

pub returns-clause-newest : goal.returns-clause-newest
returns-clause-newest c = is-newest

pub returns-clause-parted : goal.returns-clause-parted
returns-clause-parted c = none-left

pub returns-clause-acknowledged : goal.returns-clause-acknowledged
returns-clause-acknowledged c = was-acknowledged

pub returns-clause-replaced : goal.returns-clause-replaced
returns-clause-replaced c = was-replaced

pub returns-clause-gone : goal.returns-clause-gone
returns-clause-gone c = not-held
