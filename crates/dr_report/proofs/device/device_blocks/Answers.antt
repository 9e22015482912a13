use Rattle.std.proofs.Common.{◌≡◌, ◌+◌, ◌++◌, ◌∷◌, [], sym, ◌∙◌, arith}
use Rattle.std.proofs.lemmas.List.FromFn.{map-range_with_len_more}
use Rattle.dr_image.specs.Shown.{block_at}
use Rattle.dr_report.proofs.device.device_blocks.Goals as goal

pub loop-index-preserved : goal.loop-index-preserved
loop-index-preserved c =
    let i = c.loop-index.index in
    let start : 0 + i ≡ i = omega arith in
    c.in_ok-push.ensures.items ∙ (λ j. c.loop-index.invariant j ++ c.block.ensures j ∷ []) ∙ sym (map-range_with_len_more (block_at c.args.image.now c.args.place) 0 i i start)
