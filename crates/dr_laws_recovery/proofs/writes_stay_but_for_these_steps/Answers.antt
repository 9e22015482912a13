use Rattle.dr_laws_recovery.proofs.KeepsWrites.{keeps-run}
use Rattle.dr_laws_recovery.proofs.writes_stay_but_for_these_steps.Goals as goal

pub returns : goal.returns
returns c = keeps-run
