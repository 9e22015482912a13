use Rattle.dr_laws_closed.proofs.Example.{held-closed, held-stands, torn-open, parted-out}
use Rattle.dr_laws_closed.proofs.an_example_is_closed_and_another_is_not.Goals as goal

pub returns-clause-closed : goal.returns-clause-closed
returns-clause-closed c = held-closed

pub returns-clause-stands : goal.returns-clause-stands
returns-clause-stands c = held-stands

pub returns-clause-torn : goal.returns-clause-torn
returns-clause-torn c = torn-open

pub returns-clause-parted : goal.returns-clause-parted
returns-clause-parted c = parted-out
