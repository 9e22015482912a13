use Rattle.dr_laws_answers.proofs.Holds.{holds-end}
use Rattle.dr_laws_answers.proofs.holds_end_as_named.Goals as goal

pub returns : goal.returns
returns c = holds-end
