use Rattle.std.proofs.Common.{refl}
use Rattle.dr_logic.specs.Bytes.{zeros}
use Rattle.dr_plant.proofs.devices.zero_block.Goals as goal

pub returns : goal.returns
unfolding zeros
returns c = refl
