use Rattle.dr_laws_progress.proofs.Aborts.{aborts-answer}
use Rattle.dr_laws_progress.proofs.an_abort_answers_by_the_state.Goals as goal

pub returns : goal.returns
returns c = aborts-answer
