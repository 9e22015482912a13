use Rattle.std.proofs.Common.{ℕ, ◌++◌, List, ap, ◌∙◌, arith}
use Rattle.dr_rows.specs.Line.{use_line}
use Rattle.dr_rows.proofs.RangeLemmas.{said-more}
use Rattle.dr_rows.proofs.line.push_row.Goals as goal

pub loop-which-preserved : goal.loop-which-preserved
loop-which-preserved c =
    let at = c.loop-which.which in
    let says : ℕ → List ℕ = use_line c.args.plan.now c.args.row.now in
    c.in_ok-push_use_line.ensures ∙ ap (λ t. t ++ says at) c.loop-which.invariant ∙ said-more says c.args.text.now 0 at at (omega arith)
