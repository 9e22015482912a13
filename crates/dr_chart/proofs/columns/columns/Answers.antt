use Rattle.std.proofs.Common.{ℕ, [], ◌++◌, List, map, ap, ◌∙◌, arith}
use Rattle.dr_chart.specs.declared.columns.Column.{Column}
use Rattle.dr_chart.specs.Columns.{columns_in}
use Rattle.dr_rows.proofs.RangeLemmas.{said-more}
use Rattle.dr_chart.proofs.columns.columns.Goals as goal

pub loop-stretch-preserved : goal.loop-stretch-preserved
loop-stretch-preserved c =
    let at = c.loop-stretch.stretch in
    let says : ℕ → List Column = columns_in c.args.asks c.args.which (map (λ row. row.now) c.args.rows.now) in
    c.in_ok-add_columns_in.ensures ∙ ap (λ t. t ++ says at) c.loop-stretch.invariant ∙ said-more says [] 0 at at (omega arith)
