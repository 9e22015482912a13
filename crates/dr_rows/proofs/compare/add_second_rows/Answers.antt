use Rattle.std.proofs.Common.{ℕ, ◌++◌, List, ap, ◌∙◌, arith}
use Rattle.dr_rows.specs.Compare.{only_second}
use Rattle.dr_rows.proofs.RangeLemmas.{said-more}
use Rattle.dr_rows.proofs.compare.add_second_rows.Goals as goal

pub loop-which-preserved : goal.loop-which-preserved
loop-which-preserved c =
    let at = c.loop-which.which in
    let says : ℕ → List (List (List ℕ)) = only_second c.args.first.now c.args.second.now c.args.disaster in
    c.in_ok-add_only_second.ensures ∙ ap (λ rows. rows ++ says at) c.loop-which.invariant ∙ said-more says c.args.table.now.items 0 at at (omega arith)
