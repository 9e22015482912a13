use Rattle.dr_laws_return.proofs.DrainAnswers.{second-drains}
use Rattle.dr_laws_return.proofs.a_second_drain_answers_by_the_first.Goals as goal

pub returns : goal.returns
returns c = second-drains
