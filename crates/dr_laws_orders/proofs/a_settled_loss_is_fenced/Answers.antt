use Rattle.dr_laws_orders.proofs.SettledLosses.{settled-fenced, settled-run}
use Rattle.dr_laws_orders.proofs.a_settled_loss_is_fenced.Goals as goal

pub returns-clause-worlds : goal.returns-clause-worlds
returns-clause-worlds c = settled-fenced

pub returns-clause-runs : goal.returns-clause-runs
returns-clause-runs c = settled-run
