use Rattle.dr_laws_orders.proofs.Older.{leaves-volumes, leaves-run}
use Rattle.dr_laws_orders.proofs.an_older_order_leaves_the_volumes.Goals as goal

pub returns-clause-worlds : goal.returns-clause-worlds
returns-clause-worlds c = λ w n m sound older. leaves-volumes w sound n m older

pub returns-clause-runs : goal.returns-clause-runs
returns-clause-runs c = leaves-run
