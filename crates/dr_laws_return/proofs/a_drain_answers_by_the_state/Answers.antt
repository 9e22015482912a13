use Rattle.dr_laws_return.proofs.DrainAnswers.{drains-or-stops}
use Rattle.dr_laws_return.proofs.a_drain_answers_by_the_state.Goals as goal

pub returns : goal.returns
returns c = drains-or-stops
