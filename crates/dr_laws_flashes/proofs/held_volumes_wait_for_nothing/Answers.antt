use Rattle.dr_laws_flashes.proofs.Windows.{none-waits}
use Rattle.dr_laws_flashes.proofs.held_volumes_wait_for_nothing.Goals as goal

pub returns : goal.returns
returns c = none-waits
