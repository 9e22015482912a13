use Rattle.std.proofs.Common.{arith, ap, sym, subst, ◌∙◌, Some}
use Rattle.dr_model.specs.Sessions.{session_in, members_in}
use Rattle.dr_model.specs.Phases as phases
use Rattle.dr_model.specs.SessionEntries.{order_entries, members_on, reply_after}
use Rattle.dr_master.specs.Seen.{work_of, order_of, reply_of}
use Rattle.dr_moves.specs.Here.{world_seen, armed_in}
use Rattle.dr_moves.specs.Turns.{Leads, Fails}
use Rattle.dr_moves.proofs.EntryLemmas.{led, failed}
use Rattle.dr_gmirror.specs.Orders.{with_sessions}
use Rattle.dr_gmirror.proofs.BeginLemmas.{to_begin-one}
use Rattle.dr_gmirror.proofs.ExchangeLemmas.{leaves-delivered}
use Rattle.dr_gmirror.proofs.OrderLemmas.{report-only, reply-is}
use Rattle.dr_laws_sound.proofs.EntryLengths.{few-on}
use Rattle.dr_gmirror.proofs.orders.carry_out.Goals as goal

pub returns-in-Ok-clause-leads : goal.returns-in-Ok-clause-leads
returns-in-Ok-clause-leads g c r =
    let w = world_seen (g.P.Plant.state c.args.plant.now) c.args.config.now (with_sessions c.args.ss.now.sessions r) c.args.journal.now.events in
    let ms = members_on c.args.server.0 (members_in (session_in c.args.ss.now.sessions c.args.s.0)) in
    subst (λ work. Leads w (order_entries work c.args.s.0 c.args.order.n ms) w) (sym (report-only (work_of c.args.order.kind) c.if-is_report.ensures)) (c.in-Ok.ensures.leads c.args.order.n (with_sessions c.args.ss.now.sessions r) c.args.journal.now.events)

pub returns-in-Ok-clause-carried : goal.returns-in-Ok-clause-carried
returns-in-Ok-clause-carried g c r =
    let s = g.P.Plant.state c.args.plant.now in
    let w = world_seen s c.args.config.now (with_sessions c.args.ss.now.sessions r) c.args.journal.now.events in
    led (armed_in s) w w (order_entries (work_of c.args.order.kind) c.args.s.0 c.args.order.n (members_on c.args.server.0 (members_in (session_in c.args.ss.now.sessions c.args.s.0)))) (returns-in-Ok-clause-leads g c r)

pub returns-in-Ok-clause-leaves : goal.returns-in-Ok-clause-leaves
returns-in-Ok-clause-leaves g c r j x m sound delivers listed here apart =
    let s = g.P.Plant.state c.args.plant.now in
    let w = world_seen s c.args.config.now (with_sessions c.args.ss.now.sessions r) c.args.journal.now.events in
    leaves-delivered (armed_in s) w _ _ j c.args.s.0 c.args.server.0 (order_of c.args.order) (members_in (session_in c.args.ss.now.sessions c.args.s.0)) x m sound delivers listed here apart (returns-in-Ok-clause-carried g c r)

pub returns-in-Ok-clause-reply : goal.returns-in-Ok-clause-reply
returns-in-Ok-clause-reply g c r events =
    let k = (world_seen (g.P.Plant.state c.args.plant.now) c.args.config.now r events).control in
    let ms = members_on c.args.server.0 (members_in (session_in c.args.ss.now.sessions c.args.s.0)) in
    ap (λ xs. phases.Reported xs) (c.in-Ok.ensures.shown r events) ∙ ap (λ work. reply_after c.args.s.0 work ms k) (sym (report-only (work_of c.args.order.kind) c.if-is_report.ensures))

pub returns-in-Err-clause-fails : goal.returns-in-Err-clause-fails
returns-in-Err-clause-fails g c r =
    let s = g.P.Plant.state c.args.plant.now in
    let w = world_seen s c.args.config.now (with_sessions c.args.ss.now.sessions r) c.args.journal.now.events in
    let ms = members_on c.args.server.0 (members_in (session_in c.args.ss.now.sessions c.args.s.0)) in
    subst (λ work. Fails (armed_in s) w (order_entries work c.args.s.0 c.args.order.n ms) w (Some c.in-Err.why)) (sym (report-only (work_of c.args.order.kind) c.if-is_report.ensures)) (c.in-Err.ensures.fails c.args.order.n (with_sessions c.args.ss.now.sessions r) c.args.journal.now.events)

pub returns-in-Err-clause-carried : goal.returns-in-Err-clause-carried
returns-in-Err-clause-carried g c r =
    let s = g.P.Plant.state c.args.plant.now in
    let w = world_seen s c.args.config.now (with_sessions c.args.ss.now.sessions r) c.args.journal.now.events in
    failed (armed_in s) w w (Some c.in-Err.why) (order_entries (work_of c.args.order.kind) c.args.s.0 c.args.order.n (members_on c.args.server.0 (members_in (session_in c.args.ss.now.sessions c.args.s.0)))) (returns-in-Err-clause-fails g c r)

pub returns-in-Err-clause-leaves : goal.returns-in-Err-clause-leaves
returns-in-Err-clause-leaves g c r j x m sound delivers listed here apart =
    let s = g.P.Plant.state c.args.plant.now in
    let w = world_seen s c.args.config.now (with_sessions c.args.ss.now.sessions r) c.args.journal.now.events in
    leaves-delivered (armed_in s) w _ _ j c.args.s.0 c.args.server.0 (order_of c.args.order) (members_in (session_in c.args.ss.now.sessions c.args.s.0)) x m sound delivers listed here apart (returns-in-Err-clause-carried g c r)

pub returns-in-Ok-order_each-clause-leads : goal.returns-in-Ok-order_each-clause-leads
returns-in-Ok-order_each-clause-leads g c = c.in-Ok-order_each.ensures.leads

pub returns-in-Ok-order_each-clause-carried : goal.returns-in-Ok-order_each-clause-carried
returns-in-Ok-order_each-clause-carried g c r =
    let s = g.P.Plant.state c.args.plant.now in
    let w = world_seen s c.args.config.now (with_sessions c.args.ss.now.sessions r) c.args.journal.now.events in
    let u = world_seen (g.P.Plant.state c.order_each.new.plant) c.args.config.now (with_sessions c.order_each.new.ss.sessions r) c.order_each.new.journal.events in
    led (armed_in s) w u (order_entries (work_of c.args.order.kind) c.args.s.0 c.args.order.n (members_on c.args.server.0 (members_in (session_in c.args.ss.now.sessions c.args.s.0)))) (c.in-Ok-order_each.ensures.leads r)

pub returns-in-Ok-order_each-clause-leaves : goal.returns-in-Ok-order_each-clause-leaves
returns-in-Ok-order_each-clause-leaves g c r j x m sound delivers listed here apart =
    let s = g.P.Plant.state c.args.plant.now in
    let w = world_seen s c.args.config.now (with_sessions c.args.ss.now.sessions r) c.args.journal.now.events in
    leaves-delivered (armed_in s) w _ _ j c.args.s.0 c.args.server.0 (order_of c.args.order) (members_in (session_in c.args.ss.now.sessions c.args.s.0)) x m sound delivers listed here apart (returns-in-Ok-order_each-clause-carried g c r)

pub returns-in-Ok-order_each-clause-reply : goal.returns-in-Ok-order_each-clause-reply
returns-in-Ok-order_each-clause-reply g c =
    reply-is c.args.s.0 (work_of c.args.order.kind) (g.P.Plant.state c.order_each.new.plant) c.args.config.now (members_on c.args.server.0 (members_in (session_in c.args.ss.now.sessions c.args.s.0))) c.in-Ok-order_each.waits (reply_of c.reply_by.result) (sym c.if-is_report.ensures) c.in-Ok-order_each.ensures.waits c.reply_by.ensures.says

pub returns-in-Ok-order_each-clause-room : goal.returns-in-Ok-order_each-clause-room
returns-in-Ok-order_each-clause-room g c =
    let few = few-on c.args.server.0 (members_in (session_in c.args.ss.now.sessions c.args.s.0)) in
    let one = to_begin-one c.args.ss.now.sessions c.args.s.0 c.args.order.n in
    let room = c.in-Ok-order_each.ensures.kept.room in
    omega (arith, few, one, room)

pub returns-in-Err-order_each-clause-carried : goal.returns-in-Err-order_each-clause-carried
returns-in-Err-order_each-clause-carried g c r =
    let s = g.P.Plant.state c.args.plant.now in
    let w = world_seen s c.args.config.now (with_sessions c.args.ss.now.sessions r) c.args.journal.now.events in
    let u = world_seen (g.P.Plant.state c.order_each.new.plant) c.args.config.now (with_sessions c.order_each.new.ss.sessions r) c.order_each.new.journal.events in
    failed (armed_in s) w u (Some c.in-Err-order_each.why) (order_entries (work_of c.args.order.kind) c.args.s.0 c.args.order.n (members_on c.args.server.0 (members_in (session_in c.args.ss.now.sessions c.args.s.0)))) (c.in-Err-order_each.ensures.fails r)

pub returns-in-Err-order_each-clause-leaves : goal.returns-in-Err-order_each-clause-leaves
returns-in-Err-order_each-clause-leaves g c r j x m sound delivers listed here apart =
    let s = g.P.Plant.state c.args.plant.now in
    let w = world_seen s c.args.config.now (with_sessions c.args.ss.now.sessions r) c.args.journal.now.events in
    leaves-delivered (armed_in s) w _ _ j c.args.s.0 c.args.server.0 (order_of c.args.order) (members_in (session_in c.args.ss.now.sessions c.args.s.0)) x m sound delivers listed here apart (returns-in-Err-order_each-clause-carried g c r)

pub returns-in-Err-order_each-clause-room : goal.returns-in-Err-order_each-clause-room
returns-in-Err-order_each-clause-room g c =
    let few = few-on c.args.server.0 (members_in (session_in c.args.ss.now.sessions c.args.s.0)) in
    let one = to_begin-one c.args.ss.now.sessions c.args.s.0 c.args.order.n in
    let room = c.in-Err-order_each.ensures.kept.room in
    omega (arith, few, one, room)
