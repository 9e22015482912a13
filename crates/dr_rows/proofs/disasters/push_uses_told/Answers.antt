use Rattle.std.proofs.Common.{map, ℕ, ◌++◌, List, ap, ◌∙◌, arith}
use Rattle.dr_rows.specs.Kinds.{told}
use Rattle.dr_rows.proofs.RangeLemmas.{said-more}
use Rattle.dr_rows.proofs.disasters.push_uses_told.Goals as goal

pub loop-which-preserved : goal.loop-which-preserved
loop-which-preserved c =
    let at = c.loop-which.which in
    let says : ℕ → List ℕ = told c.args.plan.now c.args.asks (map (λ row. row.now) c.args.rows.now) in
    c.in_ok-push_told.ensures ∙ ap (λ t. t ++ says at) c.loop-which.invariant ∙ said-more says c.args.text.now 0 at at (omega arith)
