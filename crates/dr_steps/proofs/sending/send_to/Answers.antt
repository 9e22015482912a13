use Rattle.std.proofs.Common.{ap, sym, ◌∙◌, ◌+◌}
use Rattle.dr_master.specs.Seen as master
use Rattle.dr_model.specs.Messages.{Flight, sent}
use Rattle.dr_model.specs.Sessions.{session_in, mirror_in, members_in}
use Rattle.dr_model.specs.SessionPlans.{is_idle}
use Rattle.dr_steps.specs.Here.{rest_of}
use Rattle.dr_steps.proofs.ExchangeLemmas.{master-near}
use Rattle.dr_steps.proofs.SendLemmas.{begun-ready, send-unasked, send-full, send-free, send-done}
use Rattle.dr_steps.proofs.sending.send_to.Goals as goal

pub asked_order-requires-clause-near : goal.asked_order-requires-clause-near
asked_order-requires-clause-near g c = master-near (g.P.Plant.state c.args.plant.now) c.args.config.now c.args.tables.now c.args.journal.now.events c.requires.sound c.args.s.0

pub returns-in-Err-clause-step : goal.returns-in-Err-clause-step
returns-in-Err-clause-step g c line =
    let s = g.P.Plant.state c.args.plant.now in let t = c.args.config.now in let h = c.args.tables.now in let ev = c.args.journal.now.events in let n = c.args.s.0 in
    let x = session_in h.sessions.sessions n in
    send-unasked s t h ev n c.args.server.0 (members_in x) line (mirror_in x) c.in-Err.why (c.in-Err.ensures.refused (rest_of h ev) ev)

pub returns-in-Some-clause-step : goal.returns-in-Some-clause-step
returns-in-Some-clause-step g c line =
    let s = g.P.Plant.state c.args.plant.now in let t = c.args.config.now in let h = c.args.tables.now in let ev = c.args.journal.now.events in let n = c.args.s.0 in
    let x = session_in h.sessions.sessions n in
    send-full s t h ev n c.args.server.0 (members_in x) line (mirror_in x) c.in-Some.why (sym (c.in-Ok.ensures.refused (rest_of h ev) ev)) c.in-Some.ensures.refusal

pub returns-in_default-reserve-clause-wanted : goal.returns-in_default-reserve-clause-wanted
returns-in_default-reserve-clause-wanted g c =
    let s = g.P.Plant.state c.args.plant.now in let t = c.args.config.now in let h = c.args.tables.now in let ev = c.args.journal.now.events in let n = c.args.s.0 in
    let x = session_in h.sessions.sessions n in
    send-free s t h ev n c.args.server.0 (members_in x) (mirror_in x) (master.order_of c.in-Ok.order) (sym (c.in-Ok.ensures.refused (rest_of h ev) ev)) (sym c.in_default.ensures.refusal) c.in-Ok.ensures.order

pub returns-clause-step : goal.returns-clause-step
returns-clause-step g c line =
    let s = g.P.Plant.state c.args.plant.now in let t = c.args.config.now in let h = c.args.tables.now in let ev = c.args.journal.now.events in let n = c.args.s.0 in
    let x = session_in h.sessions.sessions n in let o = master.order_of c.in-Ok.order in
    send-done s t h ev n c.args.server.0 (members_in x) (mirror_in x) o (sym (c.in-Ok.ensures.refused (rest_of h ev) ev)) (sym c.in_default.ensures.refusal) c.in-Ok.ensures.order
    line c.is_idle-begins.result c.begin_if.new.sessions c.send.new.self c.begin_if.new.journal.events c.in-Ok-send.m
    (c.is_idle-begins.ensures ∙ ap is_idle c.phase_in.ensures) c.begin_if.ensures.begun (c.in-Ok-send.ensures.sent ∙ ap (sent n c.args.server.0 o) c.reserve.ensures.same) c.begin_if.ensures.told
    (c.in-Ok-send.ensures.number ∙ ap (λ (f : Flight). f.made + 1) c.reserve.ensures.same)

pub returns-clause-ready : goal.returns-clause-ready
returns-clause-ready g c = begun-ready (g.P.Plant.state c.args.plant.now) c.args.config.now c.args.tables.now c.args.journal.now.events c.begin_if.new.journal.events c.is_idle-begins.result c.args.s.0 c.in-Ok.order.n c.begin_if.ensures.told c.requires.ready
