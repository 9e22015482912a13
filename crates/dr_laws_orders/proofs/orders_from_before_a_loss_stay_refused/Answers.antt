use Rattle.dr_laws_orders.proofs.StaysOld.{before-stays, before-run}
use Rattle.dr_laws_orders.proofs.orders_from_before_a_loss_stay_refused.Goals as goal

pub returns-clause-worlds : goal.returns-clause-worlds
returns-clause-worlds c = before-stays

pub returns-clause-runs : goal.returns-clause-runs
returns-clause-runs c = before-run
