use Rattle.dr_laws_sound.proofs.Acknowledged.{acked-task, acked-run}
use Rattle.dr_laws_sound.proofs.what_is_acknowledged_is_answered.Goals as goal

pub returns-clause-steps : goal.returns-clause-steps
returns-clause-steps c = acked-task

pub returns-clause-runs : goal.returns-clause-runs
returns-clause-runs c = acked-run
