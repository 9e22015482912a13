use Rattle.dr_laws_progress.proofs.Exchanges.{exchanges-answer}
use Rattle.dr_laws_progress.proofs.an_exchange_answers_by_the_state.Goals as goal

pub returns : goal.returns
returns c = exchanges-answer
