use Rattle.std.proofs.Common.{ap, refl, sym, subst, ◌∙◌, None, Some}
use Rattle.dr_model.specs.declared.said.Said.TheVariants.{Refused}
use Rattle.dr_model.specs.ReadStops.{Ends}
use Rattle.dr_model.specs.RecoveryPlans.{decided_in, group_of, recover_entries}
use Rattle.dr_model.specs.Sessions.{session_in, members_in}
use Rattle.dr_moves.specs.Here.{world_seen, armed_in}
use Rattle.dr_moves.proofs.TurnLemmas.{refused-by}
use Rattle.dr_gmirror.specs.Exchange.{PlanEnds}
use Rattle.dr_gmirror.specs.Orders.{with_sessions}
use Rattle.dr_recover.specs.Outcomes.{recover_behind}
use Rattle.dr_recover.proofs.EachLemmas.{all-ready}
use Rattle.dr_recover.proofs.PlanLemmas.{recovery-ends, moves-fail, all-done, plan-failed, plan-done, plan-behind, plan-off, says-failed, never}
use Rattle.dr_recover.proofs.KeepsLemmas.{alike-by, is-recovered}
use Rattle.dr_recover.proofs.recovery.recover.Goals as goal

pub returns-in-Some-clause-carried : goal.returns-in-Some-clause-carried
returns-in-Some-clause-carried g c r =
    let s0 = g.P.Plant.state c.args.plant.now in
    let q = with_sessions c.args.ss.now.sessions r in
    plan-off (armed_in s0) (world_seen s0 c.args.config.now q c.args.journal.now.events) c.args.s.0 (members_in (session_in c.args.ss.now.sessions c.args.s.0)) c.in-Some.why (c.in-Some.ensures.refusal q c.args.journal.now.events)

pub returns-in-Some-clause-refused : goal.returns-in-Some-clause-refused
returns-in-Some-clause-refused g c r why is = (c.in-Some.ensures.refusal (with_sessions c.args.ss.now.sessions r) c.args.journal.now.events ∙ is, refl, refl)

pub returns-in-Some-clause-ends : goal.returns-in-Some-clause-ends
returns-in-Some-clause-ends g c r none = never _ c.in-Some.why (sym none) (sym (c.in-Some.ensures.refusal (with_sessions c.args.ss.now.sessions r) c.args.journal.now.events))

pub carry_all-requires-clause-can : goal.carry_all-requires-clause-can
carry_all-requires-clause-can g c = record { members = c.requires.members; running = c.in_default.ensures.running; aside = c.requires.aside }

pub returns-in_err-carry_all-clause-ends : goal.returns-in_err-carry_all-clause-ends
returns-in_err-carry_all-clause-ends g c r none =
    let s0 = g.P.Plant.state c.args.plant.now in
    let t = c.args.config.now in
    let q = with_sessions c.args.ss.now.sessions r in
    let ms = members_in (session_in c.args.ss.now.sessions c.args.s.0) in
    let k = c.args.s.0 in
    let w = world_seen s0 t q c.args.journal.now.events in
    let u = world_seen (g.P.Plant.state c.carry_all.new.plant) t q c.carry_all.new.journal.events in
    let e = c.in_err-carry_all.field-0.0 in
    subst (λ o. Ends (armed_in s0) u o w (recover_entries k (decided_in k w.control) ms)) (sym (refused-by c.from_residual.result e c.from_residual.ensures.0 c.from_residual.ensures.1))
    (subst (λ d. Ends (armed_in s0) u (Some e) w (recover_entries k d ms)) (c.decide_over-decision.ensures.decides q c.args.journal.now.events)
    (moves-fail k c.decide_over-decision.result ms (armed_in s0) w u (Some e) (c.in_err-carry_all.ensures.fails q)))

pub returns-in_err-carry_all-clause-carried : goal.returns-in_err-carry_all-clause-carried
returns-in_err-carry_all-clause-carried g c r =
    let s0 = g.P.Plant.state c.args.plant.now in
    let t = c.args.config.now in
    let q = with_sessions c.args.ss.now.sessions r in
    let ms = members_in (session_in c.args.ss.now.sessions c.args.s.0) in
    let k = c.args.s.0 in
    let w = world_seen s0 t q c.args.journal.now.events in
    let d = c.decide_over-decision.result in
    let u = world_seen (g.P.Plant.state c.carry_all.new.plant) t q c.carry_all.new.journal.events in
    let e = c.in_err-carry_all.field-0.0 in
    subst (λ a. PlanEnds (armed_in s0) w (recover_behind w.control k ms) u a) (sym (says-failed c.from_residual.result e (refused-by c.from_residual.result e c.from_residual.ensures.0 c.from_residual.ensures.1)))
    (plan-behind k d ms (armed_in s0) w u (Refused e) (c.in_default.ensures.refusal q c.args.journal.now.events) (c.decide_over-decision.ensures.decides q c.args.journal.now.events)
    (plan-failed k d ms (armed_in s0) w u e (moves-fail k d ms (armed_in s0) w u (Some e) (c.in_err-carry_all.ensures.fails q))))

pub returns-in_err-carry_all-clause-refused : goal.returns-in_err-carry_all-clause-refused
returns-in_err-carry_all-clause-refused g c r why is = never _ why (c.in_default.ensures.refusal (with_sessions c.args.ss.now.sessions r) c.args.journal.now.events) is

pub decide_over-requires-clause-members : goal.decide_over-requires-clause-members
decide_over-requires-clause-members g c =
    all-ready (g.P.Plant.state c.args.plant.now) (g.P.Plant.state c.carry_all.new.plant) c.args.config.now (members_in (session_in c.args.ss.now.sessions c.args.s.0)) c.requires.members

pub returns-clause-carried : goal.returns-clause-carried
returns-clause-carried g c r =
    let s0 = g.P.Plant.state c.args.plant.now in
    let t = c.args.config.now in
    let q = with_sessions c.args.ss.now.sessions r in
    let ms = members_in (session_in c.args.ss.now.sessions c.args.s.0) in
    let k = c.args.s.0 in
    let w = world_seen s0 t q c.args.journal.now.events in
    let d = c.decide_over-decision.result in
    let u = world_seen (g.P.Plant.state c.carry_all.new.plant) t q c.end_recovery.new.journal.events in
    plan-behind k d ms (armed_in s0) w u _ (c.in_default.ensures.refusal q c.args.journal.now.events) (c.decide_over-decision.ensures.decides q c.args.journal.now.events)
    (plan-done k d ms (armed_in s0) w u c.group_of-group.result (c.group_of-group.ensures ∙ ap group_of (c.decide_over.ensures.decides q c.end_recovery.new.journal.events))
    (all-done k d ms (armed_in s0) w (world_seen (g.P.Plant.state c.carry_all.new.plant) t q c.carry_all.new.journal.events) u None (c.in_ok-carry_all.ensures.leads q)
    (recovery-ends (armed_in s0) (g.P.Plant.state c.carry_all.new.plant) t q c.carry_all.new.journal.events c.end_recovery.new.journal.events k c.group_of-group.result (c.group_of-group.ensures ∙ ap group_of (c.decide_over.ensures.decides q c.carry_all.new.journal.events)) c.end_recovery.ensures.events)))

pub returns-clause-refused : goal.returns-clause-refused
returns-clause-refused g c r why is = never _ why (c.in_default.ensures.refusal (with_sessions c.args.ss.now.sessions r) c.args.journal.now.events) is

pub returns-clause-ends : goal.returns-clause-ends
returns-clause-ends g c r none =
    let s0 = g.P.Plant.state c.args.plant.now in
    let t = c.args.config.now in
    let q = with_sessions c.args.ss.now.sessions r in
    let ms = members_in (session_in c.args.ss.now.sessions c.args.s.0) in
    let k = c.args.s.0 in
    let w = world_seen s0 t q c.args.journal.now.events in
    let d = c.decide_over-decision.result in
    let u = world_seen (g.P.Plant.state c.carry_all.new.plant) t q c.end_recovery.new.journal.events in
    subst (λ d. Ends (armed_in s0) u None w (recover_entries k d ms)) (c.decide_over-decision.ensures.decides q c.args.journal.now.events)
    (all-done k d ms (armed_in s0) w (world_seen (g.P.Plant.state c.carry_all.new.plant) t q c.carry_all.new.journal.events) u None (c.in_ok-carry_all.ensures.leads q)
    (recovery-ends (armed_in s0) (g.P.Plant.state c.carry_all.new.plant) t q c.carry_all.new.journal.events c.end_recovery.new.journal.events k c.group_of-group.result (c.group_of-group.ensures ∙ ap group_of (c.decide_over.ensures.decides q c.carry_all.new.journal.events)) c.end_recovery.ensures.events))

pub returns-clause-decision : goal.returns-clause-decision
returns-clause-decision g c r = c.decide_over-decision.ensures.decides (with_sessions c.args.ss.now.sessions r) c.args.journal.now.events

pub returns-clause-group : goal.returns-clause-group
returns-clause-group g c r = c.group_of-group.ensures ∙ ap group_of (c.decide_over.ensures.decides (with_sessions c.args.ss.now.sessions r) c.end_recovery.new.journal.events)

pub returns-in-Some-clause-keeps : goal.returns-in-Some-clause-keeps
returns-in-Some-clause-keeps g c r x found sound =
    let s0 = g.P.Plant.state c.args.plant.now in
    let t = c.args.config.now in
    let q = with_sessions c.args.ss.now.sessions r in
    alike-by (armed_in s0) (world_seen s0 t q c.args.journal.now.events) (world_seen s0 t q c.args.journal.now.events) c.args.s.0 x found sound _ (returns-in-Some-clause-carried g c r)

pub returns-in_err-carry_all-clause-keeps : goal.returns-in_err-carry_all-clause-keeps
returns-in_err-carry_all-clause-keeps g c r x found sound =
    let s0 = g.P.Plant.state c.args.plant.now in
    let t = c.args.config.now in
    let q = with_sessions c.args.ss.now.sessions r in
    alike-by (armed_in s0) (world_seen s0 t q c.args.journal.now.events) (world_seen (g.P.Plant.state c.carry_all.new.plant) t q c.carry_all.new.journal.events) c.args.s.0 x found sound _ (returns-in_err-carry_all-clause-carried g c r)

pub returns-clause-keeps : goal.returns-clause-keeps
returns-clause-keeps g c r x found sound =
    let s0 = g.P.Plant.state c.args.plant.now in
    let t = c.args.config.now in
    let q = with_sessions c.args.ss.now.sessions r in
    alike-by (armed_in s0) (world_seen s0 t q c.args.journal.now.events) (world_seen (g.P.Plant.state c.carry_all.new.plant) t q c.end_recovery.new.journal.events) c.args.s.0 x found sound _ (returns-clause-carried g c r)

pub returns-clause-recovers : goal.returns-clause-recovers
returns-clause-recovers g c r x found sound =
    let s0 = g.P.Plant.state c.args.plant.now in
    let t = c.args.config.now in
    let q = with_sessions c.args.ss.now.sessions r in
    let running = sym (c.in_default.ensures.refusal q c.args.journal.now.events) in
    is-recovered (armed_in s0) (world_seen s0 t q c.args.journal.now.events) (world_seen (g.P.Plant.state c.carry_all.new.plant) t q c.end_recovery.new.journal.events) c.args.s.0 x found sound
    running (returns-clause-ends g c r running) _ (returns-clause-group g c r) (returns-clause-decision g c r)
