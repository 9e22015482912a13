use Rattle.std.proofs.Common.{ap, ◌∙◌}
use Rattle.std.proofs.lemmas.Result.{IfOk-weaker}
use Rattle.dr_rows.specs.Findings.{finding_count}
use Rattle.dr_rows.proofs.compare.found_in.Goals as goal

pub returns : goal.returns
returns c =
    let swept = c.args.swept.now in
    IfOk-weaker c.finding_count.result _ _
    (λ n is. is ∙ ap (λ plan. finding_count plan c.calm.result.now c.rows.result.now) c.plan.ensures ∙ ap (λ calm. finding_count swept.plan calm c.rows.result.now) c.calm.ensures ∙ ap (finding_count swept.plan swept.calm) c.rows.ensures)
    c.finding_count.ensures
