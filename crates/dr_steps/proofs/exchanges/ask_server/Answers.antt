use Rattle.std.proofs.Common.{ap, sym, subst, arith, ◌∙◌}
use Rattle.dr_model.specs.declared.said.Said.TheVariants.{Refused}
use Rattle.dr_model.specs.Sessions.{session_in, mirror_in, members_in}
use Rattle.dr_model.specs.SessionPlans.{asking, says_phase}
use Rattle.dr_model.specs.Messages.{Flight}
use Rattle.dr_master.specs.Seen.{work_of}
use Rattle.dr_ctl.specs.Kept.{flight_in}
use Rattle.dr_steps.specs.Here.{here, rest_of, Carries}
use Rattle.dr_steps.proofs.RelationLemmas.{relations-fit}
use Rattle.dr_steps.proofs.ExchangeLemmas.{heard-ends, heard-epochs, plan-exact, exchange-ready, members-ready, aside-fits, few-members, master-near, may-exchange}
use Rattle.dr_steps.proofs.exchanges.ask_server.Goals as goal

pub exchange-requires-clause-fit : goal.exchange-requires-clause-fit
exchange-requires-clause-fit g c = relations-fit (g.P.Plant.state c.args.plant.now) c.args.config.now c.args.tables.now c.args.journal.now.events c.requires.sound

pub exchange-requires-clause-members : goal.exchange-requires-clause-members
exchange-requires-clause-members g c = members-ready (g.P.Plant.state c.args.plant.now) c.args.config.now c.args.tables.now c.args.journal.now.events c.requires.sound c.args.s.0

pub exchange-requires-clause-aside : goal.exchange-requires-clause-aside
exchange-requires-clause-aside g c = aside-fits (g.P.Plant.state c.args.plant.now) c.args.config.now c.args.tables.now c.args.journal.now.events c.requires.sound c.args.s.0

pub exchange-requires-clause-few : goal.exchange-requires-clause-few
exchange-requires-clause-few g c = few-members (g.P.Plant.state c.args.plant.now) c.args.config.now c.args.tables.now c.args.journal.now.events c.requires.sound c.args.s.0 c.requires.few

pub exchange-requires-clause-near : goal.exchange-requires-clause-near
exchange-requires-clause-near g c = master-near (g.P.Plant.state c.args.plant.now) c.args.config.now c.args.tables.now c.args.journal.now.events c.requires.sound c.args.s.0

pub exchange-requires-clause-may : goal.exchange-requires-clause-may
exchange-requires-clause-may g c =
    let s = g.P.Plant.state c.args.plant.now in let t = c.args.config.now in let h = c.args.tables.now in let ev = c.args.journal.now.events in let n = c.args.s.0 in
    (rest_of h ev, λ o free order. may-exchange s t h ev c.requires.sound n c.requires.few c.tell_few.ensures c.args.server.0 o free order)

pub exchange-requires-clause-room : goal.exchange-requires-clause-room
exchange-requires-clause-room g c =
    let s = g.P.Plant.state c.args.plant.now in let t = c.args.config.now in let h = c.args.tables.now in let ev = c.args.journal.now.events in let n = c.args.s.0 in
    let few = few-members s t h ev c.requires.sound n c.requires.few in let room = c.requires.room in omega (arith, few, room)

pub returns-in-Ok-clause-step : goal.returns-in-Ok-clause-step
returns-in-Ok-clause-step g c =
    let s = g.P.Plant.state c.args.plant.now in let t = c.args.config.now in let h = c.args.tables.now in let ev = c.args.journal.now.events in let n = c.args.s.0 in
    let u = g.P.Plant.state c.exchange.new.plant in let h' = record h { sessions = c.exchange.new.ss; flight = c.hear.new.flight } in let mid = c.exchange.new.journal.events in
    subst (Carries (here s t h ev) (asking (here s t h ev).control n c.args.server.0 c.args.reply) (here u t h' mid)) (sym c.phase_of.ensures)
    (plan-exact s c.requires.ready.reads (here s t h ev) (here u t h' mid) _ (says_phase n (here u t h' mid).control)
    (heard-ends s u t h ev mid c.exchange.new.ss c.hear.new.flight c.args.server.0 c.epoch-epoch.result (work_of c.in-Ok.kind) _ n c.epoch-epoch.ensures c.hear.ensures.heard (c.in-Ok.ensures.carried (rest_of h ev))))

pub returns-in-Ok-clause-ready : goal.returns-in-Ok-clause-ready
returns-in-Ok-clause-ready g c =
    let s = g.P.Plant.state c.args.plant.now in let t = c.args.config.now in let h = c.args.tables.now in let ev = c.args.journal.now.events in let n = c.args.s.0 in
    let u = g.P.Plant.state c.exchange.new.plant in let h' = record h { sessions = c.exchange.new.ss; flight = c.hear.new.flight } in let mid = c.exchange.new.journal.events in
    exchange-ready s u t h h' ev mid n c.args.server.0 c.args.reply (mirror_in (session_in h.sessions.sessions n)) (members_in (session_in h.sessions.sessions n)) (says_phase n (here u t h' mid).control)
    (heard-ends s u t h ev mid c.exchange.new.ss c.hear.new.flight c.args.server.0 c.epoch-epoch.result (work_of c.in-Ok.kind) _ n c.epoch-epoch.ensures c.hear.ensures.heard (c.in-Ok.ensures.carried (rest_of h ev))) c.in-Ok.ensures.rest c.in-Ok.ensures.unarmed c.requires.ready

pub returns-in-Ok-clause-epochs : goal.returns-in-Ok-clause-epochs
returns-in-Ok-clause-epochs g c =
    ap (λ (f : Flight). f.epoch) c.hear.ensures.heard ∙ heard-epochs c.args.s.0 c.args.server.0 c.epoch-epoch.result (work_of c.in-Ok.kind) (flight_in c.args.tables.now.flight)

pub returns-in-Ok-clause-room : goal.returns-in-Ok-clause-room
returns-in-Ok-clause-room g c =
    let s = g.P.Plant.state c.args.plant.now in let t = c.args.config.now in let h = c.args.tables.now in let ev = c.args.journal.now.events in let n = c.args.s.0 in
    let few = few-members s t h ev c.requires.sound n c.requires.few in let room = c.requires.room in let left = c.in-Ok.ensures.room in omega (arith, few, room, left)

pub returns-in-Err-clause-step : goal.returns-in-Err-clause-step
returns-in-Err-clause-step g c =
    let s = g.P.Plant.state c.args.plant.now in let t = c.args.config.now in let h = c.args.tables.now in let ev = c.args.journal.now.events in let n = c.args.s.0 in
    let u = g.P.Plant.state c.exchange.new.plant in let h' = record h { sessions = c.exchange.new.ss } in let mid = c.exchange.new.journal.events in
    plan-exact s c.requires.ready.reads (here s t h ev) (here u t h' mid) _ (Refused c.in-Err.refusal) (c.in-Err.ensures.carried (rest_of h ev))

pub returns-in-Err-clause-ready : goal.returns-in-Err-clause-ready
returns-in-Err-clause-ready g c =
    let s = g.P.Plant.state c.args.plant.now in let t = c.args.config.now in let h = c.args.tables.now in let ev = c.args.journal.now.events in let n = c.args.s.0 in
    let u = g.P.Plant.state c.exchange.new.plant in let h' = record h { sessions = c.exchange.new.ss } in let mid = c.exchange.new.journal.events in
    exchange-ready s u t h h' ev mid n c.args.server.0 c.args.reply (mirror_in (session_in h.sessions.sessions n)) (members_in (session_in h.sessions.sessions n)) (Refused c.in-Err.refusal) (c.in-Err.ensures.carried (rest_of h ev)) c.in-Err.ensures.rest c.in-Err.ensures.unarmed c.requires.ready

pub returns-in-Err-clause-room : goal.returns-in-Err-clause-room
returns-in-Err-clause-room g c =
    let s = g.P.Plant.state c.args.plant.now in let t = c.args.config.now in let h = c.args.tables.now in let ev = c.args.journal.now.events in let n = c.args.s.0 in
    let few = few-members s t h ev c.requires.sound n c.requires.few in let room = c.requires.room in let left = c.in-Err.ensures.room in omega (arith, few, room, left)
