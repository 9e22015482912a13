use Rattle.dr_laws_flashes.proofs.Windows.{flash-cut}
use Rattle.dr_laws_flashes.proofs.flash_sets_leave_one_cut.Goals as goal

pub returns : goal.returns
returns c = flash-cut
