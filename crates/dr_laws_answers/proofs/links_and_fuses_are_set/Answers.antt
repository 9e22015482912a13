use Rattle.dr_laws_answers.proofs.Settings.{steps-set}
use Rattle.dr_laws_answers.proofs.links_and_fuses_are_set.Goals as goal

pub returns : goal.returns
returns c = steps-set
