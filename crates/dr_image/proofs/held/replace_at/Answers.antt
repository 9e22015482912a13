use Rattle.std.proofs.Common.{suc, ap, sym, ◌∙◌, take, drop, arith}
use Rattle.dr_image.specs.Shown.{all_kept}
use Rattle.dr_image.specs.declared.held.KeptBlock.{KeptBlock}
use Rattle.dr_image.proofs.HeldLemmas.{put-between, none-between, between, set-parts}
use Rattle.dr_image.proofs.held.replace_at.Goals as goal

pub returns-then-is_zero : goal.returns-then-is_zero
returns-then-is_zero c =
    let bs = c.args.blocks.now.items in
    ap all_kept c.remove.ensures.items ∙ none-between bs c.args.index c.args.bytes.now c.args.at (suc c.args.at) (sym c.if-is_zero.ensures)

pub returns-else-is_zero : goal.returns-else-is_zero
returns-else-is_zero c =
    let bs = c.args.blocks.now.items in
    let b : KeptBlock = record { index = c.args.index; bytes = c.args.bytes.now } in
    ap all_kept (set-parts bs c.args.at b (omega arith) ∙ between (take c.args.at bs) b (drop (suc c.args.at) bs)) ∙ put-between bs b c.args.at (suc c.args.at) (sym c.if-is_zero.ensures)
