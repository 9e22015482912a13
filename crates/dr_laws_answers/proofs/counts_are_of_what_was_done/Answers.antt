use Rattle.dr_laws_answers.proofs.Counts.{counts-are-of-steps}
use Rattle.dr_laws_answers.proofs.counts_are_of_what_was_done.Goals as goal

pub returns : goal.returns
returns c = counts-are-of-steps
