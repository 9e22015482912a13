use Rattle.std.proofs.Common.{ap, sym, ◌∙◌, arith}
use Rattle.dr_model.specs.declared.said.Said.TheVariants.{Refused}
use Rattle.dr_model.specs.Runs.{said}
use Rattle.dr_model.specs.Sessions.{session_in, members_in}
use Rattle.dr_recover.specs.Outcomes.{recover_behind}
use Rattle.dr_steps.specs.Here.{here, rest_of}
use Rattle.dr_steps.proofs.RelationLemmas.{relations-fit}
use Rattle.dr_steps.proofs.ExchangeLemmas.{some-defined, members-ready, aside-fits, few-members}
use Rattle.dr_steps.proofs.RecoveringLemmas.{plain-ready, plain-recovery, recover-nowhere, recover-goes}
use Rattle.dr_steps.proofs.recovering.recover_session.Goals as goal
use Rattle.dr_steps.proofs.SessionLemmas.{not-defined}

pub returns-then-not-is_defined-clause-step : goal.returns-then-not-is_defined-clause-step
returns-then-not-is_defined-clause-step g c line =
    let s = g.P.Plant.state c.args.plant.now in let t = c.args.config.now in let h = c.args.tables.now in let ev = c.args.journal.now.events in
    recover-nowhere s t h ev line c.args.s.0 (not-defined c.is_defined.result (session_in h.sessions.sessions c.args.s.0) c.if-not-is_defined.true c.is_defined.ensures)
    ∙ ap (λ r. said (here s t h ev) line (Refused r)) (sym c.unknown_session.ensures)

pub recover-requires-clause-fit : goal.recover-requires-clause-fit
recover-requires-clause-fit g c = relations-fit (g.P.Plant.state c.args.plant.now) c.args.config.now c.args.tables.now c.args.journal.now.events c.requires.sound

pub recover-requires-clause-members : goal.recover-requires-clause-members
recover-requires-clause-members g c = members-ready (g.P.Plant.state c.args.plant.now) c.args.config.now c.args.tables.now c.args.journal.now.events c.requires.sound c.args.s.0

pub recover-requires-clause-aside : goal.recover-requires-clause-aside
recover-requires-clause-aside g c = aside-fits (g.P.Plant.state c.args.plant.now) c.args.config.now c.args.tables.now c.args.journal.now.events c.requires.sound c.args.s.0

pub recover-requires-clause-few : goal.recover-requires-clause-few
recover-requires-clause-few g c = few-members (g.P.Plant.state c.args.plant.now) c.args.config.now c.args.tables.now c.args.journal.now.events c.requires.sound c.args.s.0 c.requires.few

pub recover-requires-clause-room : goal.recover-requires-clause-room
recover-requires-clause-room g c =
    let few = few-members (g.P.Plant.state c.args.plant.now) c.args.config.now c.args.tables.now c.args.journal.now.events c.requires.sound c.args.s.0 c.requires.few in let room = c.requires.room in omega (arith, few, room)

pub returns-in-Ok-clause-step : goal.returns-in-Ok-clause-step
returns-in-Ok-clause-step g c line =
    let s = g.P.Plant.state c.args.plant.now in let t = c.args.config.now in let h = c.args.tables.now in let ev = c.args.journal.now.events in
    let x = some-defined c.is_defined.result (session_in h.sessions.sessions c.args.s.0) c.if-not-is_defined.false c.is_defined.ensures in
    let u = g.P.Plant.state c.recover.new.plant in
    recover-goes s t h ev line c.args.s.0 x.0 x.1 u c.recover.new.journal.events _ c.requires.ready (c.in-Ok.ensures.carried (rest_of h ev))
    ∙ ap (said (here u t h c.recover.new.journal.events) line) (sym c.group_answer.ensures.says)

pub returns-in-Ok-clause-ready : goal.returns-in-Ok-clause-ready
returns-in-Ok-clause-ready g c =
    let s = g.P.Plant.state c.args.plant.now in let t = c.args.config.now in let h = c.args.tables.now in let ev = c.args.journal.now.events in
    plain-ready s (g.P.Plant.state c.recover.new.plant) t h ev c.recover.new.journal.events (recover_behind (here s t h ev).control c.args.s.0 (members_in (session_in h.sessions.sessions c.args.s.0))) _
    (plain-recovery (here s t h ev).control c.args.s.0 (members_in (session_in h.sessions.sessions c.args.s.0))) (c.in-Ok.ensures.carried (rest_of h ev)) c.in-Ok.ensures.rest c.in-Ok.ensures.unarmed c.requires.ready

pub returns-in-Ok-clause-room : goal.returns-in-Ok-clause-room
returns-in-Ok-clause-room g c =
    let few = few-members (g.P.Plant.state c.args.plant.now) c.args.config.now c.args.tables.now c.args.journal.now.events c.requires.sound c.args.s.0 c.requires.few in let room = c.requires.room in let left = c.in-Ok.ensures.room in omega (arith, few, room, left)

pub returns-in-Err-clause-step : goal.returns-in-Err-clause-step
returns-in-Err-clause-step g c line =
    let s = g.P.Plant.state c.args.plant.now in let t = c.args.config.now in let h = c.args.tables.now in let ev = c.args.journal.now.events in
    let x = some-defined c.is_defined.result (session_in h.sessions.sessions c.args.s.0) c.if-not-is_defined.false c.is_defined.ensures in
    recover-goes s t h ev line c.args.s.0 x.0 x.1 (g.P.Plant.state c.recover.new.plant) c.recover.new.journal.events (Refused c.in-Err.refusal) c.requires.ready (c.in-Err.ensures.carried (rest_of h ev))

pub returns-in-Err-clause-ready : goal.returns-in-Err-clause-ready
returns-in-Err-clause-ready g c =
    let s = g.P.Plant.state c.args.plant.now in let t = c.args.config.now in let h = c.args.tables.now in let ev = c.args.journal.now.events in
    plain-ready s (g.P.Plant.state c.recover.new.plant) t h ev c.recover.new.journal.events (recover_behind (here s t h ev).control c.args.s.0 (members_in (session_in h.sessions.sessions c.args.s.0))) (Refused c.in-Err.refusal)
    (plain-recovery (here s t h ev).control c.args.s.0 (members_in (session_in h.sessions.sessions c.args.s.0))) (c.in-Err.ensures.carried (rest_of h ev)) c.in-Err.ensures.rest c.in-Err.ensures.unarmed c.requires.ready

pub returns-in-Err-clause-room : goal.returns-in-Err-clause-room
returns-in-Err-clause-room g c =
    let few = few-members (g.P.Plant.state c.args.plant.now) c.args.config.now c.args.tables.now c.args.journal.now.events c.requires.sound c.args.s.0 c.requires.few in let room = c.requires.room in let left = c.in-Err.ensures.room in omega (arith, few, room, left)
