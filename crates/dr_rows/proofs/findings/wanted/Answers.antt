use Rattle.std.proofs.Common.{ℕ, [], ◌++◌, List, ap, ◌∙◌, arith}
use Rattle.dr_rows.specs.Findings.{wanted_at}
use Rattle.dr_rows.proofs.RangeLemmas.{said-more}
use Rattle.dr_rows.proofs.findings.wanted.Goals as goal

pub loop-place-preserved : goal.loop-place-preserved
loop-place-preserved c =
    let at = c.loop-place.place in
    let says : ℕ → List ℕ = wanted_at c.args.plan.now in
    c.in_ok-add_wanted.ensures ∙ ap (λ t. t ++ says at) c.loop-place.invariant ∙ said-more says [] 0 at at (omega arith)
