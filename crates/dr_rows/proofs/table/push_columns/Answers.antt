use Rattle.std.proofs.Common.{ℕ, ◌++◌, List, ap, ◌∙◌, arith}
use Rattle.dr_rows.specs.Table.{column_said}
use Rattle.dr_rows.proofs.RangeLemmas.{said-more}
use Rattle.dr_rows.proofs.table.push_columns.Goals as goal

pub loop-column-preserved : goal.loop-column-preserved
loop-column-preserved c =
    let at = c.loop-column.column in
    let says : ℕ → List ℕ = column_said c.args.layout c.args.rows.now c.args.cells.now in
    c.in_ok-push_column.ensures ∙ ap (λ t. t ++ says at) c.loop-column.invariant ∙ said-more says c.args.text.now 0 at at (omega arith)
