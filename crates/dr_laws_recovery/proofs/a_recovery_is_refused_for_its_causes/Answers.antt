use Rattle.dr_laws_recovery.proofs.RecoveryAnswers.{answers-for-cause}
use Rattle.dr_laws_recovery.proofs.a_recovery_is_refused_for_its_causes.Goals as goal

pub returns : goal.returns
returns c = answers-for-cause
