use Rattle.std.proofs.Common.{ap, sym, ◌∙◌, refl, None, Some}
use Rattle.std.proofs.lemmas.Bool.{not-true, not-false}
use Rattle.dr_model.specs.Plans as plans
use Rattle.dr_volume.specs.declared.head.Head.{Head}
use Rattle.dr_moves.specs.Here.{world_seen}
use Rattle.dr_gmirror.specs.Orders.{with_sessions}
use Rattle.dr_gmirror.proofs.RestoreLemmas.{settled-plain, settled-member}
use Rattle.dr_gmirror.proofs.restores.restore_refusal.Goals as goal

pub secondary_refusal-requires : goal.secondary_refusal-requires
secondary_refusal-requires g c = record { members = c.requires.members c.peek_head-head.result.session }

pub decide_over-requires-clause-members : goal.decide_over-requires-clause-members
decide_over-requires-clause-members g c = c.requires.members c.peek_head-head.result.session

pub returns-then-not-head-clause-refusal : goal.returns-then-not-head-clause-refusal
returns-then-not-head-clause-refusal g c r events =
    let k = (world_seen (g.P.Plant.state c.args.plant.now) c.args.config.now (with_sessions c.args.ss.now.sessions r) events).control in
    settled-plain k c.args.t.0 (k.volume c.args.t.0).fields.session (sym (ap (λ (f : Head). f.member) c.peek_head-head.ensures) ∙ not-true c.peek_head-head.result.member c.if-not-head.true)

pub returns-in-Some-clause-refusal : goal.returns-in-Some-clause-refusal
returns-in-Some-clause-refusal g c r events =
    let k = (world_seen (g.P.Plant.state c.args.plant.now) c.args.config.now (with_sessions c.args.ss.now.sessions r) events).control in
    let is = c.peek_head-head.ensures in
    ap (λ (f : Head). plans.settled_refusal c.args.t.0 f.session k) (sym is)
    ∙ settled-member k c.args.t.0 c.peek_head-head.result.session (Some c.in-Some.why) _ (sym (ap (λ (f : Head). f.member) is) ∙ not-false c.peek_head-head.result.member c.if-not-head.false)
    (sym (c.in-Some.ensures.refusal (with_sessions c.args.ss.now.sessions r) events)) refl

pub returns-clause-refusal : goal.returns-clause-refusal
returns-clause-refusal g c r events =
    let k = (world_seen (g.P.Plant.state c.args.plant.now) c.args.config.now (with_sessions c.args.ss.now.sessions r) events).control in
    let is = c.peek_head-head.ensures in
    ap (λ (f : Head). plans.settled_refusal c.args.t.0 f.session k) (sym is)
    ∙ settled-member k c.args.t.0 c.peek_head-head.result.session None c.forbidden_unless_nothing.result (sym (ap (λ (f : Head). f.member) is) ∙ not-false c.peek_head-head.result.member c.if-not-head.false)
    (sym (c.in_default.ensures.refusal (with_sessions c.args.ss.now.sessions r) events))
    (ap (λ d. plans.forbidden_unless (plans.leaves_all d) d) (sym (c.decide_over.ensures.decides (with_sessions c.args.ss.now.sessions r) events)) ∙ sym c.forbidden_unless_nothing.ensures.refusal)
