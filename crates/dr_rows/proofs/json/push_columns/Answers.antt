use Rattle.std.proofs.Common.{ℕ, ◌++◌, List, ap, ◌∙◌, arith}
use Rattle.dr_rows.specs.Json.{column_field}
use Rattle.dr_rows.proofs.RangeLemmas.{said-more}
use Rattle.dr_rows.proofs.json.push_columns.Goals as goal

pub loop-column-preserved : goal.loop-column-preserved
loop-column-preserved c =
    let at = c.loop-column.column in
    let says : ℕ → List ℕ = column_field c.args.cells.now in
    c.in_ok-push_column.ensures ∙ ap (λ t. t ++ says at) c.loop-column.invariant ∙ said-more says c.args.fields.now 0 at at (omega arith)
