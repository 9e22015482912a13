use Rattle.std.proofs.Common.{ℕ, [], ◌++◌, List, ap, ◌∙◌, arith}
use Rattle.dr_chart.specs.Panels.{Panel, disaster_panels}
use Rattle.dr_rows.proofs.RangeLemmas.{said-more}
use Rattle.dr_chart.proofs.panels.panels.Goals as goal

pub loop-disaster-preserved : goal.loop-disaster-preserved
loop-disaster-preserved c =
    let at = c.loop-disaster.disaster in
    let says : ℕ → List Panel = disaster_panels c.args.plan.now c.args.asks c.args.rows.now in
    c.in_ok-add_panels.ensures ∙ ap (λ t. t ++ says at) c.loop-disaster.invariant ∙ said-more says [] 0 at at (omega arith)
