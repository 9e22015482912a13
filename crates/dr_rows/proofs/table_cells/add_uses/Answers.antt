use Rattle.std.proofs.Common.{map, ℕ, [], ◌∷◌, ◌++◌, List, ap, ◌∙◌, arith}
use Rattle.dr_rows.specs.Table.{use_cells}
use Rattle.dr_rows.proofs.RangeLemmas.{each-more}
use Rattle.dr_rows.proofs.table_cells.add_uses.Goals as goal

pub loop-which-preserved : goal.loop-which-preserved
loop-which-preserved c =
    let at = c.loop-which.which in
    let before = c.loop-which.table.items in
    let cells : ℕ → List (List ℕ) = use_cells c.args.plan.now c.args.asks c.args.numbers.now c.args.disaster (map (λ row. row.now) c.args.rows.now) in
    c.in_ok-push.ensures.items ∙ ap (λ (of : List (List ℕ)). before ++ of ∷ []) c.in_ok-use_cells.ensures ∙ ap (λ rows. rows ++ cells at ∷ []) c.loop-which.invariant
    ∙ each-more cells c.args.table.now.items 0 at at (omega arith)
