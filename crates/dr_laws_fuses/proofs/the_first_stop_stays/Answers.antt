use Rattle.dr_laws_fuses.proofs.Places.{first-place-stays}
use Rattle.dr_laws_fuses.proofs.the_first_stop_stays.Goals as goal

pub returns : goal.returns
returns c = first-place-stays
