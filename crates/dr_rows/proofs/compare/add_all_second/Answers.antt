use Rattle.std.proofs.Common.{ℕ, ◌++◌, List, ap, ◌∙◌, arith}
use Rattle.dr_rows.specs.Compare.{second_rows}
use Rattle.dr_rows.proofs.RangeLemmas.{said-more}
use Rattle.dr_rows.proofs.compare.add_all_second.Goals as goal

pub loop-disaster-preserved : goal.loop-disaster-preserved
loop-disaster-preserved c =
    let at = c.loop-disaster.disaster in
    let says : ℕ → List (List (List ℕ)) = second_rows c.args.first.now c.args.second.now in
    c.in_ok-add_second_rows.ensures ∙ ap (λ rows. rows ++ says at) c.loop-disaster.invariant ∙ said-more says c.args.table.now.items 0 at at (omega arith)
