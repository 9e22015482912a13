use Rattle.std.proofs.Common.{ℕ, ◌++◌, List, ap, ◌∙◌, arith}
use Rattle.dr_rows.specs.Refusals.{recovery_line}
use Rattle.dr_rows.proofs.RangeLemmas.{said-more}
use Rattle.dr_rows.proofs.recovery.push_recovery_lines.Goals as goal

pub loop-place-preserved : goal.loop-place-preserved
loop-place-preserved c =
    let at = c.loop-place.place in
    let says : ℕ → List ℕ = recovery_line c.args.before c.args.lines.now c.args.rows.now in
    c.in_ok-push_recovery_line.ensures ∙ ap (λ t. t ++ says at) c.loop-place.invariant ∙ said-more says c.args.text.now 0 at at (omega arith)
