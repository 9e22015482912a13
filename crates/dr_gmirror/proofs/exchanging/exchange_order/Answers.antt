use Rattle.std.proofs.Common.{refl, ap, ◌∙◌, None, Some}
use Rattle.dr_master.specs.Seen.{reply_of, work_of}
use Rattle.dr_model.specs.Sessions.{session_in, members_in, mirror_in}
use Rattle.dr_model.specs.SessionEntries.{members_on, order_entries}
use Rattle.dr_moves.specs.Here.{world_seen, armed_in}
use Rattle.dr_gmirror.specs.Orders.{with_sessions}
use Rattle.dr_gmirror.specs.Exchange.{is_awaited}
use Rattle.dr_gmirror.proofs.ExchangeLemmas.{silent-ends, follow-nothing, last-world}
use Rattle.dr_gmirror.proofs.exchanging.exchange_order.Goals as goal

pub carry_out-requires-clause-begins : goal.carry_out-requires-clause-begins
carry_out-requires-clause-begins g c = c.requires.may.1.may

pub reply_if-requires-clause-awaited : goal.reply_if-requires-clause-awaited
reply_if-requires-clause-awaited g c on =
    let r = c.requires.may.0 in
    let v = world_seen (g.P.Plant.state c.carry_out.new.plant) c.args.config.now (with_sessions c.carry_out.new.ss.sessions r) c.carry_out.new.journal.events in
    ap (is_awaited (mirror_in (session_in c.carry_out.new.ss.sessions c.args.s.0)) c.args.server.0) (c.in-Ok.ensures.reply (with_sessions c.carry_out.new.ss.sessions r) c.carry_out.new.journal.events)
    ∙ c.requires.may.1.awaited v (c.in-Ok.ensures.leads r)

pub returns-in-Ok-clause-carried : goal.returns-in-Ok-clause-carried
returns-in-Ok-clause-carried g c r =
    let s = g.P.Plant.state c.args.plant.now in
    let u = g.P.Plant.state c.carry_out.new.plant in
    let t = c.args.config.now in
    let ms = members_on c.args.server.0 (members_in (session_in c.args.ss.now.sessions c.args.s.0)) in
    let v = world_seen u t (with_sessions c.carry_out.new.ss.sessions r) c.carry_out.new.journal.events in
    record {
      middle = v;
      refusal = None;
      ends = silent-ends (armed_in s) v (world_seen s t (with_sessions c.args.ss.now.sessions r) c.args.journal.now.events) None (order_entries (work_of c.args.order.kind) c.args.s.0 c.args.order.n ms) (c.in-Ok.ensures.carried r);
      world = last-world c.args.reply u t c.carry_out.new.ss.sessions c.reply_if.new.ss.sessions r c.carry_out.new.journal.events c.args.s.0 c.args.server.0 c.args.order.kind ms (reply_of c.in-Ok.y) c.reply_if.ensures
          (c.in-Ok.ensures.reply (with_sessions c.carry_out.new.ss.sessions r) c.carry_out.new.journal.events);
      answers = refl;
    }

pub returns-in-Err-clause-carried : goal.returns-in-Err-clause-carried
returns-in-Err-clause-carried g c r =
    let s = g.P.Plant.state c.args.plant.now in
    let u = g.P.Plant.state c.carry_out.new.plant in
    let t = c.args.config.now in
    let ms = members_on c.args.server.0 (members_in (session_in c.args.ss.now.sessions c.args.s.0)) in
    let v = world_seen u t (with_sessions c.carry_out.new.ss.sessions r) c.carry_out.new.journal.events in
    record {
      middle = v;
      refusal = Some c.in-Err.why;
      ends = silent-ends (armed_in s) v (world_seen s t (with_sessions c.args.ss.now.sessions r) c.args.journal.now.events) (Some c.in-Err.why) (order_entries (work_of c.args.order.kind) c.args.s.0 c.args.order.n ms) (c.in-Err.ensures.carried r);
      world = follow-nothing v c.in-Err.why;
      answers = refl;
    }
