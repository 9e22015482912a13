use Rattle.std.proofs.Common.{ℕ, [], ◌∷◌, ◌++◌, List, ap, ◌∙◌, arith}
use Rattle.dr_rows.specs.Findings.{wanted}
use Rattle.dr_rows.specs.Table.{column_names, disaster_cells}
use Rattle.dr_rows.proofs.RangeLemmas.{said-more}
use Rattle.dr_rows.proofs.table_cells.table.Goals as goal

pub loop-disaster-preserved : goal.loop-disaster-preserved
loop-disaster-preserved c =
    let at = c.loop-disaster.disaster in
    let plan = c.args.plan.now in
    let says : ℕ → List (List (List ℕ)) = disaster_cells plan c.args.asks (wanted plan) c.args.rows.now in
    c.in_ok-add_disaster.ensures ∙ ap (λ numbers. c.loop-disaster.found.items ++ disaster_cells plan c.args.asks numbers c.args.rows.now at) (c.deref.ensures.value ∙ c.in_ok-numbers.ensures)
    ∙ ap (λ rows. rows ++ says at) c.loop-disaster.invariant ∙ said-more says (column_names ∷ []) 0 at at (omega arith)
