use Rattle.dr_laws_progress.proofs.GivenUp.{aborts-lead-on}
use Rattle.dr_laws_progress.proofs.an_abort_leaves_its_orders.Goals as goal

pub returns : goal.returns
returns c = aborts-lead-on
