use Rattle.std.proofs.Common.{ℕ, ap, sym, ◌∙◌, arith}
use Rattle.std.specs.Prelude.{max}
use Rattle.dr_rows.specs.Places.{most_lost}
use Rattle.dr_chart.proofs.NumberedLemmas.{most-more}
use Rattle.dr_chart.proofs.panels.highest.Goals as goal

pub loop-which-preserved : goal.loop-which-preserved
loop-which-preserved c =
    let at = c.loop-which.which in
    let f : ℕ → ℕ = λ which. most_lost which c.args.rows.now in
    c.larger-most.ensures ∙ ap (λ n. max n c.most_lost.result) c.loop-which.invariant ∙ ap (max _) c.most_lost.ensures ∙ sym (most-more f at at (omega arith))
