use Rattle.std.proofs.Common.{◌≡◌, refl, length, ap, sym, subst, ◌∙◌, None, Some}
use Rattle.dr_ids.specs.declared.refusal.PhaseName.TheVariants as phase
use Rattle.dr_ids.specs.declared.refusal.Refusal.TheVariants.{OutOfOrder}
use Rattle.dr_master.specs.Seen.{order_of}
use Rattle.dr_model.specs.declared.said.Said.TheVariants.{Refused}
use Rattle.dr_model.specs.PlanParts.{Plan}
use Rattle.dr_model.specs.Sessions.{Mirror, session_in, members_in, mirror_in}
use Rattle.std.specs.Prelude.{Option}
use Rattle.dr_moves.specs.Here.{world_seen, armed_in}
use Rattle.dr_gmirror.specs.Orders.{with_sessions}
use Rattle.dr_gmirror.specs.Exchange.{PlanEnds, order_in, refusal_in, exchange_answer, exchange_rest, IsNear}
use Rattle.dr_gmirror.proofs.ExchangeLemmas.{refused-plan, look-none, look-some, plan-none, plan-refused, plan-order, leaves-by, ok-alone}
use Rattle.dr_gmirror.proofs.exchanging.exchange.Goals as goal
use Rattle.dr_logic.proofs.Options.{if-some}

pub returns-in_default-clause-carried : goal.returns-in_default-clause-carried
returns-in_default-clause-carried g c r =
    let s = g.P.Plant.state c.args.plant.now in
    let w = world_seen s c.args.config.now (with_sessions c.args.ss.now.sessions r) c.args.journal.now.events in
    let o = mirror_in (session_in c.args.ss.now.sessions c.args.s.0) in
    subst (λ (p : Plan). PlanEnds (armed_in s) w p w (Refused (OutOfOrder phase.None))) (sym (plan-none w.control c.args.s.0 c.args.server.0 c.args.reply (members_in (session_in c.args.ss.now.sessions c.args.s.0)) o (look-none o c.args.server.0 c.in_default.ensures)))
    (refused-plan (armed_in s) w (OutOfOrder phase.None))

pub returns-in-Some-exchange_refusal-clause-carried : goal.returns-in-Some-exchange_refusal-clause-carried
returns-in-Some-exchange_refusal-clause-carried g c r =
    let s = g.P.Plant.state c.args.plant.now in
    let w = world_seen s c.args.config.now (with_sessions c.args.ss.now.sessions r) c.args.journal.now.events in
    let o = mirror_in (session_in c.args.ss.now.sessions c.args.s.0) in
    let l = look-some c.in-Some.x o c.args.server.0 c.in-Some.ensures in
    let near = if-some (IsNear (length c.args.config.now.names)) o l.0 l.1 c.requires.near in
    subst (λ (p : Plan). PlanEnds (armed_in s) w p w (Refused c.in-Some-exchange_refusal.why)) (sym (plan-refused w.control c.args.s.0 c.args.server.0 c.args.reply (members_in (session_in c.args.ss.now.sessions c.args.s.0)) o l.0 c.in-Some-exchange_refusal.why l.1
    (c.in-Some-exchange_refusal.ensures.refusal (with_sessions c.args.ss.now.sessions r) c.args.journal.now.events l.0 l.2 near.in_phase)))
    (refused-plan (armed_in s) w c.in-Some-exchange_refusal.why)

pub returns-in_default-order_of-clause-carried : goal.returns-in_default-order_of-clause-carried
returns-in_default-order_of-clause-carried g c r =
    let s = g.P.Plant.state c.args.plant.now in
    let w = world_seen s c.args.config.now (with_sessions c.args.ss.now.sessions r) c.args.journal.now.events in
    let o = mirror_in (session_in c.args.ss.now.sessions c.args.s.0) in
    let l = look-some c.in-Some.x o c.args.server.0 c.in-Some.ensures in
    let near = if-some (IsNear (length c.args.config.now.names)) o l.0 l.1 c.requires.near in
    subst (λ (p : Plan). PlanEnds (armed_in s) w p w (Refused (OutOfOrder phase.None))) (sym (plan-order w.control c.args.s.0 c.args.server.0 c.args.reply (members_in (session_in c.args.ss.now.sessions c.args.s.0)) o l.0 None l.1
    (c.in_default-exchange_refusal.ensures.refusal (with_sessions c.args.ss.now.sessions r) c.args.journal.now.events l.0 l.2 near.in_phase) (c.in_default-order_of.ensures l.0 c.args.server.0 l.2)))
    (refused-plan (armed_in s) w (OutOfOrder phase.None))

pub exchange_order-requires-clause-may : goal.exchange_order-requires-clause-may
exchange_order-requires-clause-may g c =
    let o = mirror_in (session_in c.args.ss.now.sessions c.args.s.0) in
    let r = c.requires.may.0 in
    let l = look-some c.in-Some.x o c.args.server.0 c.in-Some.ensures in
    let near = if-some (IsNear (length c.args.config.now.names)) o l.0 l.1 c.requires.near in
    let k = (world_seen (g.P.Plant.state c.args.plant.now) c.args.config.now (with_sessions c.args.ss.now.sessions r) c.args.journal.now.events).control in (
      r,
      c.requires.may.1 (order_of c.in-Some-order_of.order)
          (ap (λ (o : Option Mirror). refusal_in k o c.args.server.0 (members_in (session_in c.args.ss.now.sessions c.args.s.0))) l.1
          ∙ sym (c.in_default-exchange_refusal.ensures.refusal (with_sessions c.args.ss.now.sessions r) c.args.journal.now.events l.0 l.2 near.in_phase))
          (ap (λ (o : Option Mirror). order_in o c.args.server.0) l.1 ∙ sym (c.in-Some-order_of.ensures l.0 c.args.server.0 l.2)),
    )

pub returns-clause-carried : goal.returns-clause-carried
returns-clause-carried g c r =
    let s = g.P.Plant.state c.args.plant.now in
    let w = world_seen s c.args.config.now (with_sessions c.args.ss.now.sessions r) c.args.journal.now.events in
    let u = world_seen (g.P.Plant.state c.exchange_order.new.plant) c.args.config.now (exchange_rest c.exchange_order.result c.args.s.0 c.args.server.0 c.exchange_order.new.ss.sessions r) c.exchange_order.new.journal.events in
    let o = mirror_in (session_in c.args.ss.now.sessions c.args.s.0) in
    let l = look-some c.in-Some.x o c.args.server.0 c.in-Some.ensures in
    let near = if-some (IsNear (length c.args.config.now.names)) o l.0 l.1 c.requires.near in
    subst (λ (p : Plan). PlanEnds (armed_in s) w p u (exchange_answer c.exchange_order.result c.args.s.0 u.control)) (sym (plan-order w.control c.args.s.0 c.args.server.0 c.args.reply (members_in (session_in c.args.ss.now.sessions c.args.s.0)) o l.0 (Some (order_of c.in-Some-order_of.order)) l.1
    (c.in_default-exchange_refusal.ensures.refusal (with_sessions c.args.ss.now.sessions r) c.args.journal.now.events l.0 l.2 near.in_phase) (c.in-Some-order_of.ensures l.0 c.args.server.0 l.2)))
    (c.exchange_order.ensures.carried r)

pub returns-in_default-clause-refused : goal.returns-in_default-clause-refused
returns-in_default-clause-refused g c r why is =
    let o = mirror_in (session_in c.args.ss.now.sessions c.args.s.0) in
    (sym (ap (λ (o : Option Mirror). refusal_in (world_seen (g.P.Plant.state c.args.plant.now) c.args.config.now (with_sessions c.args.ss.now.sessions r) c.args.journal.now.events).control o c.args.server.0 (members_in (session_in c.args.ss.now.sessions c.args.s.0))) (look-none o c.args.server.0 c.in_default.ensures)) ∙ is, refl, refl, refl)

pub returns-in-Some-exchange_refusal-clause-refused : goal.returns-in-Some-exchange_refusal-clause-refused
returns-in-Some-exchange_refusal-clause-refused g c r why is =
    let o = mirror_in (session_in c.args.ss.now.sessions c.args.s.0) in
    let l = look-some c.in-Some.x o c.args.server.0 c.in-Some.ensures in
    let near = if-some (IsNear (length c.args.config.now.names)) o l.0 l.1 c.requires.near in (
      c.in-Some-exchange_refusal.ensures.refusal (with_sessions c.args.ss.now.sessions r) c.args.journal.now.events l.0 l.2 near.in_phase
          ∙ sym (ap (λ (o : Option Mirror). refusal_in (world_seen (g.P.Plant.state c.args.plant.now) c.args.config.now (with_sessions c.args.ss.now.sessions r) c.args.journal.now.events).control o c.args.server.0 (members_in (session_in c.args.ss.now.sessions c.args.s.0))) l.1) ∙ is,
      refl,
      refl,
      refl,
    )

pub returns-in_default-order_of-clause-refused : goal.returns-in_default-order_of-clause-refused
returns-in_default-order_of-clause-refused g c r why is =
    let o = mirror_in (session_in c.args.ss.now.sessions c.args.s.0) in
    let l = look-some c.in-Some.x o c.args.server.0 c.in-Some.ensures in
    let near = if-some (IsNear (length c.args.config.now.names)) o l.0 l.1 c.requires.near in
    absurd (let no : None ≡ Some why = c.in_default-exchange_refusal.ensures.refusal (with_sessions c.args.ss.now.sessions r) c.args.journal.now.events l.0 l.2 near.in_phase
    ∙ sym (ap (λ (o : Option Mirror). refusal_in (world_seen (g.P.Plant.state c.args.plant.now) c.args.config.now (with_sessions c.args.ss.now.sessions r) c.args.journal.now.events).control o c.args.server.0 (members_in (session_in c.args.ss.now.sessions c.args.s.0))) l.1) ∙ is in cc)

pub returns-clause-refused : goal.returns-clause-refused
returns-clause-refused g c r why is =
    let o = mirror_in (session_in c.args.ss.now.sessions c.args.s.0) in
    let l = look-some c.in-Some.x o c.args.server.0 c.in-Some.ensures in
    let near = if-some (IsNear (length c.args.config.now.names)) o l.0 l.1 c.requires.near in
    absurd (let no : None ≡ Some why = c.in_default-exchange_refusal.ensures.refusal (with_sessions c.args.ss.now.sessions r) c.args.journal.now.events l.0 l.2 near.in_phase
    ∙ sym (ap (λ (o : Option Mirror). refusal_in (world_seen (g.P.Plant.state c.args.plant.now) c.args.config.now (with_sessions c.args.ss.now.sessions r) c.args.journal.now.events).control o c.args.server.0 (members_in (session_in c.args.ss.now.sessions c.args.s.0))) l.1) ∙ is in cc)

pub returns-clause-leaves : goal.returns-clause-leaves
returns-clause-leaves g c r x m sound listed here apart =
    let s = g.P.Plant.state c.args.plant.now in
    let w = world_seen s c.args.config.now (with_sessions c.args.ss.now.sessions r) c.args.journal.now.events in
    leaves-by (armed_in s) w _ c.args.s.0 c.args.server.0 c.args.reply _ x m sound listed here apart (returns-clause-carried g c r)

pub returns-clause-on : goal.returns-clause-on
returns-clause-on g c = ok-alone _ c.exchange_order.result c.exchange_order.ensures.kept.on
