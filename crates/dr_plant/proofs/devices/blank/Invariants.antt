use Rattle.std.proofs.Common.{◌≡◌, replicate}
use Rattle.dr_logic.specs.Bytes.{zeros}
use Rattle.dr_plant.proofs.devices.blank.Given as goal

abbrev pub invariant-loop-i : goal.invariant-loop-i
invariant-loop-i l = l.blocks.items ≡ replicate l.i zeros
