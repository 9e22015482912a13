use Rattle.std.proofs.Common.{◌++◌, ◌+◌, ap, ◌∙◌, drop}
use Rattle.std.specs.List.{flat_map}
use Rattle.dr_model.specs.PlantImage.{block_lines, ended}
use Rattle.dr_image.specs.Shown.{all_shown}
use Rattle.dr_image.proofs.TextLemmas.{blocks-turn}
use Rattle.dr_image.proofs.writer.push_all_blocks.Goals as goal

pub loop-held-preserved : goal.loop-held-preserved
loop-held-preserved c =
    let hs = c.args.volumes.now in
    ap (λ t. t ++ ended (flat_map block_lines (all_shown (drop (c.loop-held.held-index + 1) hs)))) c.in_ok-push_blocks.ensures
    ∙ blocks-turn c.loop-held.text hs c.loop-held.held-index c.held-item.result c.loop-held-test.true c.held-item.is ∙ c.loop-held.invariant
