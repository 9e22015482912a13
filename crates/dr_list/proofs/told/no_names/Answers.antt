use Rattle.dr_list.proofs.TextLemmas.{none-named}
use Rattle.dr_list.proofs.told.no_names.Goals as goal

pub returns : goal.returns
returns c = none-named 256
