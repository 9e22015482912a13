use Rattle.std.proofs.Common.{ℕ, ◌++◌, List, ap, ◌∙◌, arith}
use Rattle.dr_rows.specs.Strip.{use_strip}
use Rattle.dr_rows.proofs.RangeLemmas.{said-more}
use Rattle.dr_rows.proofs.strip.push_use_strips.Goals as goal

pub loop-which-preserved : goal.loop-which-preserved
loop-which-preserved c =
    let at = c.loop-which.which in
    let says : ℕ → List ℕ = use_strip c.args.plan.now c.args.asks c.args.rows.now c.args.disaster in
    c.in_ok-push_use_strip.ensures ∙ ap (λ t. t ++ says at) c.loop-which.invariant ∙ said-more says c.args.text.now 0 at at (omega arith)
