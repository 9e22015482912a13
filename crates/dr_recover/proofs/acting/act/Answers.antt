use Rattle.std.proofs.Common.{ap, sym, None, Some, ◌==◌}
use Rattle.dr_ids.specs.declared.names.Member.{Member}
use Rattle.dr_volume.specs.declared.head.Head.{Head}
use Rattle.dr_model.specs.RecoveryPlans.{settle_on}
use Rattle.dr_model.specs.Sessions.{session_in, members_in}
use Rattle.dr_volume.specs.View.{volume_seen}
use Rattle.dr_moves.specs.Here.{world_seen, armed_in}
use Rattle.dr_moves.proofs.EntryLemmas.{only-stops, act-ends}
use Rattle.dr_moves.proofs.TurnLemmas.{ok-along, err-along}
use Rattle.dr_gmirror.specs.Orders.{with_sessions}
use Rattle.dr_recover.specs.Outcomes.{lets_by}
use Rattle.dr_recover.proofs.EachLemmas.{target-running}
use Rattle.dr_recover.proofs.LookLemmas.{found-at}
use Rattle.dr_recover.proofs.ActLemmas.{stands-so, act-none, act-by, act-refused, act-done}
use Rattle.dr_recover.proofs.acting.act.Goals as goal

pub returns-in_default-clause-carried : goal.returns-in_default-clause-carried
returns-in_default-clause-carried g c r =
    let s0 = g.P.Plant.state c.args.plant.now in
    let t = c.args.config.now in
    let q = with_sessions c.args.ss.now.sessions r in
    let w = world_seen s0 t q c.args.journal.now.events in
    act-none (armed_in s0) w (lets_by c.args.commit) c.args.source.0 c.relation_state.result (c.in_default.ensures.target q c.args.journal.now.events) (c.relation_state.ensures.refusal q c.args.journal.now.events)

pub returns-in_default-member_with-clause-carried : goal.returns-in_default-member_with-clause-carried
returns-in_default-member_with-clause-carried g c r =
    let s0 = g.P.Plant.state c.args.plant.now in
    let t = c.args.config.now in
    let q = with_sessions c.args.ss.now.sessions r in
    let w = world_seen s0 t q c.args.journal.now.events in
    let why = c.relation_state-in_default-member_with.result in
    act-by (armed_in s0) w (lets_by c.args.commit) c.args.source.0 c.in-Some.t.0 c.peek_head.result.session None w _ (c.in-Some.ensures.target q c.args.journal.now.events) (ap (λ (f : Head). f.session) c.peek_head.ensures) c.in_default-member_with.ensures
    (stands-so (armed_in s0) w (lets_by c.args.commit) c.args.source.0 why (c.relation_state-in_default-member_with.ensures.refusal q c.args.journal.now.events))

pub decide_over-decided-requires-clause-members : goal.decide_over-decided-requires-clause-members
decide_over-decided-requires-clause-members g c = c.requires.members c.peek_head.result.session

pub settle_refusal-requires-clause-members : goal.settle_refusal-requires-clause-members
settle_refusal-requires-clause-members g c = c.requires.members c.peek_head.result.session

pub returns-in-Some-settle_refusal-clause-carried : goal.returns-in-Some-settle_refusal-clause-carried
returns-in-Some-settle_refusal-clause-carried g c r =
    let s0 = g.P.Plant.state c.args.plant.now in
    let t = c.args.config.now in
    let q = with_sessions c.args.ss.now.sessions r in
    let w = world_seen s0 t q c.args.journal.now.events in
    act-by (armed_in s0) w (lets_by c.args.commit) c.args.source.0 c.in-Some.t.0 c.peek_head.result.session (Some c.in-Some-member_with.m) w _ (c.in-Some.ensures.target q c.args.journal.now.events) (ap (λ (f : Head). f.session) c.peek_head.ensures) c.in-Some-member_with.ensures
    (act-refused (armed_in s0) w (lets_by c.args.commit) c.args.source.0 c.peek_head.result.session c.in-Some-member_with.m c.decide_over-decided.result (c.decide_over-decided.ensures.decides q c.args.journal.now.events) c.in-Some-settle_refusal.why (c.in-Some-settle_refusal.ensures.refusal q c.args.journal.now.events))

pub settle_next-next-requires-clause-target : goal.settle_next-next-requires-clause-target
settle_next-next-requires-clause-target g c =
    let at = found-at (λ (m : Member). m.c.0 == c.in-Some.t.0) (members_in (session_in c.args.ss.now.sessions c.peek_head.result.session)) c.in-Some-member_with.m (sym c.in-Some-member_with.ensures) in
    (c.requires.members c.peek_head.result.session at.0 c.in-Some-member_with.m at.1).target

pub settle_next-next-requires-clause-running : goal.settle_next-next-requires-clause-running
settle_next-next-requires-clause-running g c =
    let ms = members_in (session_in c.args.ss.now.sessions c.peek_head.result.session) in
    let at = found-at (λ (m : Member). m.c.0 == c.in-Some.t.0) ms c.in-Some-member_with.m (sym c.in-Some-member_with.ensures) in
    target-running (g.P.Plant.state c.args.plant.now) c.args.config.now ms (c.requires.members c.peek_head.result.session) c.in_default-settle_refusal.ensures.running at.0 c.in-Some-member_with.m at.1

pub returns-clause-carried : goal.returns-clause-carried
returns-clause-carried g c r =
    let s0 = g.P.Plant.state c.args.plant.now in
    let t = c.args.config.now in
    let q = with_sessions c.args.ss.now.sessions r in
    let w = world_seen s0 t q c.args.journal.now.events in
    let u = world_seen (g.P.Plant.state c.turn_target.new.plant) t q c.turn_target.new.journal.events in
    let d = settle_on c.peek_head.result.session c.decide_over-decided.result c.in-Some-member_with.m in
    act-by (armed_in s0) w (lets_by c.args.commit) c.args.source.0 c.in-Some.t.0 c.peek_head.result.session (Some c.in-Some-member_with.m) u _ (c.in-Some.ensures.target q c.args.journal.now.events) (ap (λ (f : Head). f.session) c.peek_head.ensures) c.in-Some-member_with.ensures
    (act-done (armed_in s0) w (lets_by c.args.commit) c.args.source.0 c.peek_head.result.session c.in-Some-member_with.m c.decide_over-decided.result (c.decide_over-decided.ensures.decides q c.args.journal.now.events) u c.turn_target.result (c.in_default-settle_refusal.ensures.refusal q c.args.journal.now.events)
    (act-ends c.turn_target.result (armed_in s0) (λ r. world_seen s0 t r c.args.journal.now.events) (λ r. world_seen (g.P.Plant.state c.turn_target.new.plant) t r c.turn_target.new.journal.events) d
    (ok-along c.turn_target.result c.turn_target.ensures.advances (λ goes r. goes r d (c.settle_next-next.ensures.comes r c.args.journal.now.events)))
    (err-along c.turn_target.result c.turn_target.ensures.halts c.turn_target.ensures.halts (λ ends _ r. ends r d (c.settle_next-next.ensures.comes r c.args.journal.now.events))) q))

pub returns-clause-unchanged : goal.returns-clause-unchanged
returns-clause-unchanged g c calm =
    only-stops _ c.turn_target.result (volume_seen (g.P.Plant.state c.args.plant.now) c.args.config.now c.in-Some-member_with.m.c.0).server c.turn_target.ensures.refused calm
