use Rattle.std.proofs.Common.{ℕ, ◌++◌, List, ap, ◌∙◌, arith}
use Rattle.dr_rows.specs.Kinds.{disaster_told}
use Rattle.dr_rows.proofs.RangeLemmas.{said-more}
use Rattle.dr_rows.proofs.disasters.push_disasters.Goals as goal

pub loop-disaster-preserved : goal.loop-disaster-preserved
loop-disaster-preserved c =
    let at = c.loop-disaster.disaster in
    let says : ℕ → List ℕ = disaster_told c.args.plan.now c.args.asks c.args.rows.now in
    c.in_ok-push_disaster_told.ensures ∙ ap (λ t. t ++ says at) c.loop-disaster.invariant ∙ said-more says c.args.text.now 0 at at (omega arith)
