use Rattle.std.proofs.Common.{ℕ, ◌++◌, List, ap, ◌∙◌, arith}
use Rattle.dr_rows.specs.Strip.{line_strip}
use Rattle.dr_rows.proofs.RangeLemmas.{said-more}
use Rattle.dr_rows.proofs.strip.push_line_strips.Goals as goal

pub loop-place-preserved : goal.loop-place-preserved
loop-place-preserved c =
    let at = c.loop-place.place in
    let says : ℕ → List ℕ = line_strip c.args.plan.now c.args.signs.now c.args.disaster in
    c.in_ok-push_line_strip.ensures ∙ ap (λ t. t ++ says at) c.loop-place.invariant ∙ said-more says c.args.text.now 0 at at (omega arith)
