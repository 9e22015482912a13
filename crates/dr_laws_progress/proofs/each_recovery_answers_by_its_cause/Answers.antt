use Rattle.dr_laws_progress.proofs.Causes.{recoveries-answer}
use Rattle.dr_laws_progress.proofs.each_recovery_answers_by_its_cause.Goals as goal

pub returns : goal.returns
returns c = recoveries-answer
