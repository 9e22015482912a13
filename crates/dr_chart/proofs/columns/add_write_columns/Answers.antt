use Rattle.std.proofs.Common.{ℕ, ◌++◌, List, map, ap, ◌∙◌, arith}
use Rattle.dr_chart.specs.declared.columns.Column.{Column}
use Rattle.dr_chart.specs.Columns.{write_column}
use Rattle.dr_rows.proofs.RangeLemmas.{said-more}
use Rattle.dr_chart.proofs.columns.add_write_columns.Goals as goal

pub loop-place-preserved : goal.loop-place-preserved
loop-place-preserved c =
    let at = c.loop-place.place in
    let says : ℕ → List Column = write_column c.args.asks c.args.which c.args.stretch (map (λ row. row.now) c.args.rows.now) in
    c.in_ok-add_write_column.ensures ∙ ap (λ t. t ++ says at) c.loop-place.invariant ∙ said-more says c.args.found.now.items 0 at at (omega arith)
