use Rattle.std.proofs.Common.{ap, ◌∙◌}
use Rattle.std.proofs.lemmas.Result.{IfOk-weaker}
use Rattle.dr_plan.proofs.PieceLemmas.{cut-joined}
use Rattle.dr_plan.proofs.StepLemmas.{cut-steps}
use Rattle.dr_plan.proofs.pieces.cut_script.Goals as goal

pub returns-clause-lines : goal.returns-clause-lines
returns-clause-lines c =
    let a = c.args in
    let last = c.deref.ensures.value ∙ ap (λ plan. plan.recovery) c.plan.view_is in
    IfOk-weaker c.join.result _ _ (λ script e. (cut-joined a.plan.now a.servers.now a.place a.server a.torn a.writes.now c.in_ok-pieces.pieces script c.deref.result.now c.requires.sweep c.requires.fit last c.in_ok-pieces.ensures e).reads) c.join.ensures

pub returns-clause-steps : goal.returns-clause-steps
returns-clause-steps c =
    let a = c.args in
    let last = c.deref.ensures.value ∙ ap (λ plan. plan.recovery) c.plan.view_is in
    IfOk-weaker c.join.result _ _
    (λ script e. cut-steps a.plan.now a.servers.now a.place a.server a.torn a.writes.now script c.requires.fit (λ k. (c.type_inv.writes k).fits) (cut-joined a.plan.now a.servers.now a.place a.server a.torn a.writes.now c.in_ok-pieces.pieces script c.deref.result.now c.requires.sweep c.requires.fit last c.in_ok-pieces.ensures e).reads)
    c.join.ensures
