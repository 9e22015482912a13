use Rattle.std.proofs.Common.{ℕ, ap, sym, ◌∙◌, arith, length}
use Rattle.std.specs.Prelude.{max}
use Rattle.dr_chart.specs.Panels.{label}
use Rattle.dr_chart.proofs.NumberedLemmas.{most-more}
use Rattle.dr_chart.proofs.panels.longest.Goals as goal

pub loop-stretch-preserved : goal.loop-stretch-preserved
loop-stretch-preserved c =
    let at = c.loop-stretch.stretch in
    let f : ℕ → ℕ = λ stretch. length (label c.args.plan.now stretch) in
    c.larger-most.ensures ∙ ap (λ n. max n c.in_ok-label_length.field-0) c.loop-stretch.invariant ∙ ap (max _) c.in_ok-label_length.ensures ∙ sym (most-more f at at (omega arith))
