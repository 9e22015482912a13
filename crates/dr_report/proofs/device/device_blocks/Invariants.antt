use Rattle.std.proofs.Common.{◌≡◌, map}
use Rattle.std.specs.List.{range_with_len}
use Rattle.dr_image.specs.Shown.{block_at}
use Rattle.dr_report.proofs.device.device_blocks.Given as goal

abbrev pub invariant-loop-index : goal.invariant-loop-index
invariant-loop-index l = l.blocks.items ≡ map (block_at l.image l.place) (range_with_len 0 l.index)
