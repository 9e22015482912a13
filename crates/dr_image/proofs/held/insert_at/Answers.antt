use Rattle.std.proofs.Common.{ap, sym, ◌∙◌, take, drop}
use Rattle.dr_image.specs.Shown.{all_kept}
use Rattle.dr_image.specs.declared.held.KeptBlock.{KeptBlock}
use Rattle.dr_image.proofs.HeldLemmas.{put-between, none-between, between, taken-and-dropped}
use Rattle.dr_image.proofs.held.insert_at.Goals as goal

pub returns-clause-ok : goal.returns-clause-ok
returns-clause-ok c =
    let bs = c.args.blocks.now.items in
    let b : KeptBlock = record { index = c.args.index; bytes = c.args.bytes.now } in
    ap all_kept (c.in_ok-insert.ensures.items ∙ between (take c.args.at bs) b (drop c.args.at bs)) ∙ put-between bs b c.args.at c.args.at (sym c.if-is_zero.ensures)

pub returns-then-is_zero-clause-ok : goal.returns-then-is_zero-clause-ok
returns-then-is_zero-clause-ok c =
    let bs = c.args.blocks.now.items in
    ap all_kept (taken-and-dropped c.args.at bs) ∙ none-between bs c.args.index c.args.bytes.now c.args.at c.args.at (sym c.if-is_zero.ensures)
