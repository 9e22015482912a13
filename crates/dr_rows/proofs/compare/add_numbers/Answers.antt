use Rattle.std.proofs.Common.{ℕ, ◌++◌, List, ap, ◌∙◌, arith}
use Rattle.dr_rows.specs.Compare.{both}
use Rattle.dr_rows.proofs.RangeLemmas.{said-more}
use Rattle.dr_rows.proofs.compare.add_numbers.Goals as goal

pub loop-column-preserved : goal.loop-column-preserved
loop-column-preserved c =
    let at = c.loop-column.column in
    let says : ℕ → List (List ℕ) = both c.args.first.now c.args.second.now in
    c.in_ok-add_both.ensures ∙ ap (λ cells. cells ++ says at) c.loop-column.invariant ∙ said-more says c.args.cells.now 0 at at (omega arith)
