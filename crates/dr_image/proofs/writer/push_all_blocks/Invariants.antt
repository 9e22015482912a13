use Rattle.std.proofs.Common.{◌≡◌, ◌++◌, drop}
use Rattle.std.specs.List.{flat_map}
use Rattle.dr_model.specs.PlantImage.{block_lines, ended}
use Rattle.dr_image.specs.Shown.{all_shown}
use Rattle.dr_image.proofs.writer.push_all_blocks.Given as goal

abbrev pub invariant-loop-held : goal.invariant-loop-held
invariant-loop-held l = l.text ++ ended (flat_map block_lines (all_shown (drop l.held-index l.volumes))) ≡ l.fn.text ++ ended (flat_map block_lines (all_shown l.volumes))
