use Rattle.dr_laws_flashes.proofs.Windows.{none-lands}
use Rattle.dr_laws_flashes.proofs.no_write_lands_under_a_flash_hold.Goals as goal

pub returns : goal.returns
returns c = none-lands
