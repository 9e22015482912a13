use Rattle.std.proofs.Common.{◌≡◌, ◌+◌, ap, ◌∙◌, length, vec_len, slice_index, arith}
use Rattle.dr_lost.proofs.RowLemmas.{row-resized}
use Rattle.dr_lost.proofs.rows.widen.Goals as goal

pub returns-in_ok-resize-clause-same : goal.returns-in_ok-resize-clause-same
returns-in_ok-resize-clause-same c =
    let row = c.args.row.now in
    let count : vec_len row ≡ length row.items = omega (arith, row.ok.0) in
    ap slice_index c.in_ok-resize.ensures.items ∙ row-resized row.items (vec_len row) (c.args.place + 1) count (omega arith)
