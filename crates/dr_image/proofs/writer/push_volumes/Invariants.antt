use Rattle.std.proofs.Common.{◌≡◌, ◌++◌, drop, map}
use Rattle.dr_model.specs.PlantImage.{volume_line, ended}
use Rattle.dr_image.specs.Shown.{all_shown}
use Rattle.dr_image.proofs.writer.push_volumes.Given as goal

abbrev pub invariant-loop-held : goal.invariant-loop-held
invariant-loop-held l = l.text ++ ended (map volume_line (all_shown (drop l.held-index l.volumes))) ≡ l.fn.text ++ ended (map volume_line (all_shown l.volumes))
