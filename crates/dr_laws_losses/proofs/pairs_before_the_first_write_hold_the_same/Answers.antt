use Rattle.dr_laws_losses.proofs.Early.{hold-same}
use Rattle.dr_laws_losses.proofs.pairs_before_the_first_write_hold_the_same.Goals as goal

pub returns : goal.returns
returns c = hold-same
