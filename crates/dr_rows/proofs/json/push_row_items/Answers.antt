use Rattle.std.proofs.Common.{ℕ, ◌++◌, List, ap, ◌∙◌, arith}
use Rattle.dr_rows.specs.Json.{use_row}
use Rattle.dr_rows.proofs.RangeLemmas.{said-more}
use Rattle.dr_rows.proofs.json.push_row_items.Goals as goal

pub loop-which-preserved : goal.loop-which-preserved
loop-which-preserved c =
    let at = c.loop-which.which in
    let says : ℕ → List ℕ = use_row c.args.plan.now c.args.row.now in
    c.in_ok-push_use_row.ensures ∙ ap (λ t. t ++ says at) c.loop-which.invariant ∙ said-more says c.args.items.now 0 at at (omega arith)
