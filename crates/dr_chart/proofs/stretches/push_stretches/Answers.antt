use Rattle.std.proofs.Common.{ℕ, ◌++◌, List, ap, ◌∙◌, arith}
use Rattle.dr_chart.specs.Picture.{stretch_at}
use Rattle.dr_rows.proofs.RangeLemmas.{said-more}
use Rattle.dr_chart.proofs.stretches.push_stretches.Goals as goal

pub loop-stretch-preserved : goal.loop-stretch-preserved
loop-stretch-preserved c =
    let at = c.loop-stretch.stretch in
    let says : ℕ → List ℕ = stretch_at c.args.plan.now c.args.frame c.args.columns.now in
    c.in_ok-push_stretch.ensures ∙ ap (λ t. t ++ says at) c.loop-stretch.invariant ∙ said-more says c.args.text.now 0 at at (omega arith)
