use Rattle.std.proofs.Common.{◌≡◌, drop}
use Rattle.dr_model.specs.PlantImage.{block_in}
use Rattle.dr_image.specs.Shown.{all_kept}
use Rattle.dr_image.proofs.held.block_in.Given as goal

abbrev pub invariant-loop-block : goal.invariant-loop-block
invariant-loop-block l = block_in (all_kept l.blocks) l.index ≡ block_in (all_kept (drop l.block-index l.blocks)) l.index
