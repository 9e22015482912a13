use Rattle.dr_laws_recovery.proofs.TurnsEnd.{turns-end}
use Rattle.dr_laws_recovery.proofs.runs_of_groups_end.Goals as goal

pub returns : goal.returns
returns c = turns-end
