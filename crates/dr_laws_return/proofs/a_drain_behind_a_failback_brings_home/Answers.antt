use Rattle.dr_laws_return.proofs.Returned.{returned-run}
use Rattle.dr_laws_return.proofs.a_drain_behind_a_failback_brings_home.Goals as goal

pub returns : goal.returns
returns c = returned-run
