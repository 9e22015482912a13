use Rattle.std.proofs.Common.{sym, subst, arith}
use Rattle.dr_ctl.specs.Kept.{flight_in}
use Rattle.dr_master.specs.Seen.{work_of, reply_of}
use Rattle.dr_model.specs.Messages.{Asks, heard}
use Rattle.dr_model.specs.MessagePlans.{order_done}
use Rattle.dr_model.specs.Sessions.{session_in, members_in}
use Rattle.dr_model.specs.SessionEntries.{members_on}
use Rattle.dr_steps.specs.Arrivals.{message_at}
use Rattle.dr_steps.specs.Here.{here, rest_of, Carries}
use Rattle.dr_steps.proofs.PostLemmas.{IsPosted, in-flight, order-low, order-begins, reply-posted, order-fails, order-replies, order-told}
use Rattle.dr_steps.proofs.ExchangeLemmas.{may-order, members-ready, few-members}
use Rattle.dr_steps.proofs.LandLemmas.{ready-after}
use Rattle.dr_steps.proofs.RelationLemmas.{relations-fit}
use Rattle.dr_steps.proofs.delivering.carry_order.Goals as goal

pub carry_out-requires-clause-fit : goal.carry_out-requires-clause-fit
carry_out-requires-clause-fit g c = relations-fit (g.P.Plant.state c.args.plant.now) c.args.config.now c.args.tables.now c.args.journal.now.events c.requires.sound

pub carry_out-requires-clause-members : goal.carry_out-requires-clause-members
carry_out-requires-clause-members g c = members-ready (g.P.Plant.state c.args.plant.now) c.args.config.now c.args.tables.now c.args.journal.now.events c.requires.sound c.args.x.now.session.0

pub carry_out-requires-clause-begins : goal.carry_out-requires-clause-begins
carry_out-requires-clause-begins g c =
    let x = c.args.x.now in let h = c.args.tables.now in
    let k = (here (g.P.Plant.state c.args.plant.now) c.args.config.now h c.args.journal.now.events).control in
    let m = message_at x (Asks c.requires.found.0) in
    may-order (work_of x.order.kind) h.sessions.sessions x.session.0 x.order.n (order-begins h.sessions.sessions x.session.0 x.order.n
    (order-low k m c.requires.sound.flights (in-flight (flight_in h.flight) x.number m c.requires.found.1)))

pub carry_out-requires-clause-few : goal.carry_out-requires-clause-few
carry_out-requires-clause-few g c report =
    few-members (g.P.Plant.state c.args.plant.now) c.args.config.now c.args.tables.now c.args.journal.now.events c.requires.sound c.args.x.now.session.0 c.requires.few

pub carry_out-requires-clause-room : goal.carry_out-requires-clause-room
carry_out-requires-clause-room g c =
    let few = few-members (g.P.Plant.state c.args.plant.now) c.args.config.now c.args.tables.now c.args.journal.now.events c.requires.sound c.args.x.now.session.0 c.requires.few in
    let room = c.requires.room in omega (arith, few, room)

pub returns-in-Ok-clause-step : goal.returns-in-Ok-clause-step
returns-in-Ok-clause-step g c =
    let s = g.P.Plant.state c.args.plant.now in let t = c.args.config.now in let h = c.args.tables.now in let ev = c.args.journal.now.events in
    let u = g.P.Plant.state c.carry_out.new.plant in let mid = c.carry_out.new.journal.events in let ys = c.carry_out.new.ss in
    let x = c.args.x.now in let m = message_at x (Asks 0) in
    let f = heard m.session m.server m.epoch m.order.work (flight_in h.flight) in
    let posted = reply-posted c.answer.result (message_at x (Asks c.requires.found.0)) x.number (reply_of c.in-Ok.reply) (flight_in h.flight) (flight_in c.hear.new.flight) (flight_in c.answer.new.self) c.hear.ensures.heard c.requires.space c.requires.found.1
    c.answer.ensures.refused c.answer.ensures.number c.answer.ensures.answered in
    let made : IsPosted c.answer.result m (reply_of c.in-Ok.reply) f (flight_in c.answer.new.self) = record { flight = posted.flight; says = posted.says } in
    subst (Carries (here s t h ev) (order_done m (members_on x.server.0 (members_in (session_in h.sessions.sessions x.session.0)))) (here u t (record h { sessions = ys; flight = c.answer.new.self }) mid)) (sym c.posted.ensures)
    (order-replies s u t h ev mid ys m (members_on x.server.0 (members_in (session_in h.sessions.sessions x.session.0))) c.requires.ready.reads c.answer.new.self (reply_of c.in-Ok.reply) c.answer.result (c.in-Ok.ensures.carried (rest_of h ev))
    (c.in-Ok.ensures.reply (rest_of (record h { sessions = ys }) mid) mid) made)

pub returns-in-Ok-clause-ready : goal.returns-in-Ok-clause-ready
returns-in-Ok-clause-ready g c =
    let s = g.P.Plant.state c.args.plant.now in let t = c.args.config.now in let h = c.args.tables.now in let ev = c.args.journal.now.events in
    let u = g.P.Plant.state c.carry_out.new.plant in let mid = c.carry_out.new.journal.events in let ys = c.carry_out.new.ss in
    let x = c.args.x.now in let m = message_at x (Asks 0) in
    ready-after t s u h mid c.requires.ready.reads c.in-Ok.ensures.rest c.in-Ok.ensures.unarmed
    (order-told s u t h ev mid ys m (members_on x.server.0 (members_in (session_in h.sessions.sessions x.session.0))) c.requires.ready.reads _ (c.in-Ok.ensures.carried (rest_of h ev)) c.requires.ready.told)

pub returns-in-Ok-clause-room : goal.returns-in-Ok-clause-room
returns-in-Ok-clause-room g c =
    let few = few-members (g.P.Plant.state c.args.plant.now) c.args.config.now c.args.tables.now c.args.journal.now.events c.requires.sound c.args.x.now.session.0 c.requires.few in
    let room = c.requires.room in let left = c.in-Ok.ensures.room in omega (arith, few, room, left)

pub returns-in-Err-clause-step : goal.returns-in-Err-clause-step
returns-in-Err-clause-step g c =
    let s = g.P.Plant.state c.args.plant.now in let t = c.args.config.now in let h = c.args.tables.now in let ev = c.args.journal.now.events in
    let u = g.P.Plant.state c.carry_out.new.plant in let mid = c.carry_out.new.journal.events in let ys = c.carry_out.new.ss in
    let x = c.args.x.now in let m = message_at x (Asks 0) in
    order-fails s u t h ev mid ys m (members_on x.server.0 (members_in (session_in h.sessions.sessions x.session.0))) c.requires.ready.reads c.in-Err.why (c.in-Err.ensures.carried (rest_of h ev))

pub returns-in-Err-clause-ready : goal.returns-in-Err-clause-ready
returns-in-Err-clause-ready g c =
    let s = g.P.Plant.state c.args.plant.now in let t = c.args.config.now in let h = c.args.tables.now in let ev = c.args.journal.now.events in
    let u = g.P.Plant.state c.carry_out.new.plant in let mid = c.carry_out.new.journal.events in let ys = c.carry_out.new.ss in
    let x = c.args.x.now in let m = message_at x (Asks 0) in
    ready-after t s u h mid c.requires.ready.reads c.in-Err.ensures.rest c.in-Err.ensures.unarmed
    (order-told s u t h ev mid ys m (members_on x.server.0 (members_in (session_in h.sessions.sessions x.session.0))) c.requires.ready.reads _ (c.in-Err.ensures.carried (rest_of h ev)) c.requires.ready.told)

pub returns-in-Err-clause-room : goal.returns-in-Err-clause-room
returns-in-Err-clause-room g c =
    let few = few-members (g.P.Plant.state c.args.plant.now) c.args.config.now c.args.tables.now c.args.journal.now.events c.requires.sound c.args.x.now.session.0 c.requires.few in
    let room = c.requires.room in let left = c.in-Err.ensures.room in omega (arith, few, room, left)
