use Rattle.std.proofs.Common.{◌≡◌, ◌++◌, drop, map}
use Rattle.dr_model.specs.PlantImage.{block_line, ended}
use Rattle.dr_image.specs.Shown.{all_kept}
use Rattle.dr_image.proofs.writer.push_blocks.Given as goal

abbrev pub invariant-loop-block : goal.invariant-loop-block
invariant-loop-block l = l.text ++ ended (map (block_line l.held.volume.volume.0) (all_kept (drop l.block-index l.blocks))) ≡ l.fn.text ++ ended (map (block_line l.held.volume.volume.0) (all_kept l.blocks))
