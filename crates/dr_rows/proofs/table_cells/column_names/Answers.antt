use Rattle.std.proofs.Common.{ℕ, [], ◌∷◌, ◌++◌, List, ap, ◌∙◌, arith}
use Rattle.dr_rows.specs.Table.{column_name}
use Rattle.dr_rows.proofs.RangeLemmas.{each-more}
use Rattle.dr_rows.proofs.table_cells.column_names.Goals as goal

pub loop-column-preserved : goal.loop-column-preserved
loop-column-preserved c =
    let at = c.loop-column.column in
    let before = c.loop-column.cells in
    c.in_ok-add_bytes.ensures ∙ ap (λ (name : List ℕ). before ++ name ∷ []) c.column_name.ensures ∙ ap (λ cells. cells ++ column_name at ∷ []) c.loop-column.invariant
    ∙ each-more column_name [] 0 at at (omega arith)
