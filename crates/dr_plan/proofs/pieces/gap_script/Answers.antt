use Rattle.std.proofs.Common.{ap, ◌∙◌}
use Rattle.std.proofs.lemmas.Result.{IfOk-weaker}
use Rattle.dr_plan.proofs.PieceLemmas.{gap-joined}
use Rattle.dr_plan.proofs.StepLemmas.{gap-steps}
use Rattle.dr_plan.proofs.pieces.gap_script.Goals as goal

pub returns-clause-lines : goal.returns-clause-lines
returns-clause-lines c =
    let a = c.args in
    let last = c.deref.ensures.value ∙ ap (λ plan. plan.recovery) c.plan.view_is in
    IfOk-weaker c.join.result _ _ (λ script e. (gap-joined a.plan.now a.servers.now a.place c.in_ok-pieces.pieces script c.deref.result.now c.requires.sweep c.requires.fit last c.in_ok-pieces.ensures e).reads) c.join.ensures

pub returns-clause-steps : goal.returns-clause-steps
returns-clause-steps c =
    let a = c.args in
    let last = c.deref.ensures.value ∙ ap (λ plan. plan.recovery) c.plan.view_is in
    IfOk-weaker c.join.result _ _
    (λ script e. gap-steps a.plan.now a.servers.now a.place script c.requires.fit (gap-joined a.plan.now a.servers.now a.place c.in_ok-pieces.pieces script c.deref.result.now c.requires.sweep c.requires.fit last c.in_ok-pieces.ensures e).reads)
    c.join.ensures
