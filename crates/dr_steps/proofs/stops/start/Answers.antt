use Rattle.std.proofs.Common.{sym, ap, ◌∙◌, subst}
use Rattle.dr_logic.specs.Counts.{Counted}
use Rattle.dr_model.specs.declared.said.Said.{Said}
use Rattle.dr_model.specs.declared.said.Said.TheVariants.{Done, Refused}
use Rattle.dr_model.specs.declared.said.Addition.TheVariants.{Alone}
use Rattle.dr_model.specs.Plans.{start_on}
use Rattle.dr_model.specs.Runs.{said}
use Rattle.dr_moves.specs.Checks.{is_stop}
use Rattle.dr_moves.specs.Here.{armed_in}
use Rattle.dr_metro.specs.Here.{IsTold}
use Rattle.dr_admin.specs.Answering.{Comes}
use Rattle.dr_steps.specs.Here.{here, rest_of}
use Rattle.dr_steps.proofs.ComeLemmas.{plan-comes, told-comes}
use Rattle.dr_steps.proofs.LandLemmas.{ready-after}
use Rattle.dr_steps.proofs.StopLemmas.{unknown-server, known-server}
use Rattle.dr_steps.proofs.StartLemmas.{flown, started-already, told-start, told-acked}
use Rattle.dr_steps.proofs.FlashLemmas.{counted-refusal}
use Rattle.dr_steps.proofs.stops.start.Goals as goal

pub returns-in_default-clause-step : goal.returns-in_default-clause-step
returns-in_default-clause-step g c line =
    let s = g.P.Plant.state c.args.plant.now in let t = c.args.config.now in let h = c.args.tables.now in let ev = c.args.journal.now.events in
    unknown-server s t h ev line (start_on (here s t h ev).control) c.args.name.now c.bytes_of.result.now c.bytes_of.ensures (sym c.in_default.ensures.place)
    ∙ ap (λ r. said (here s t h ev) line (Refused r)) (sym c.unknown_server.ensures)

pub returns-then-is_on-clause-step : goal.returns-then-is_on-clause-step
returns-then-is_on-clause-step g c line =
    let s = g.P.Plant.state c.args.plant.now in let t = c.args.config.now in let h = c.args.tables.now in let ev = c.args.journal.now.events in
    known-server s t h ev line (start_on (here s t h ev).control) c.args.name.now c.bytes_of.result.now c.in-Some.server.0 (said (here s t h ev) line (Done Alone)) c.bytes_of.ensures (sym c.in-Some.ensures.place)
    (started-already s t h ev line c.in-Some.server.0 c.in-Some.ensures.defined.below (sym c.is_on.ensures ∙ c.if-is_on.true))

pub started-requires : goal.started-requires
started-requires g c = record { server = c.in-Some.ensures.defined.below; count = c.requires.counts.starts c.in-Some.server.0 }

pub returns-in-Ok-clause-step : goal.returns-in-Ok-clause-step
returns-in-Ok-clause-step g c line =
    let s = g.P.Plant.state c.args.plant.now in let t = c.args.config.now in let h = c.args.tables.now in let ev = c.args.journal.now.events in
    let k = (here s t h ev).control in
    let u = here (g.P.Plant.state c.start.new.plant) t (record h { host = c.start.new.h; flight = c.started.new.self }) c.start.new.journal.events in
    known-server s t h ev line (start_on k) c.args.name.now c.bytes_of.result.now c.in-Some.server.0 (said u line (Done c.added.result)) c.bytes_of.ensures (sym c.in-Some.ensures.place)
    (plan-comes s c.requires.ready.reads (here s t h ev) u (start_on k c.in-Some.server.0) (Done c.added.result)
    (subst (λ (a : Said). Comes (armed_in s) (here s t h ev) (start_on k c.in-Some.server.0) u a) (sym c.added.ensures) (flown s (g.P.Plant.state c.start.new.plant) t h ev c.start.new.journal.events c.start.new.h c.started.new.self c.in-Some.server.0 (start_on k c.in-Some.server.0) _ c.started.ensures.started (c.in-Ok.ensures.plan (rest_of h ev)))) line)

pub returns-in-Ok-clause-ready : goal.returns-in-Ok-clause-ready
returns-in-Ok-clause-ready g c =
    let s = g.P.Plant.state c.args.plant.now in let t = c.args.config.now in let h = c.args.tables.now in let ev = c.args.journal.now.events in
    let k = (here s t h ev).control in
    let v = g.P.Plant.state c.start.new.plant in let now = c.start.new.journal.events in
    ready-after t s v (record h { host = c.start.new.h; flight = c.started.new.self }) now c.requires.ready.reads c.in-Ok.ensures.rest c.in-Ok.ensures.unarmed
    (told-acked c.in-Ok.acked h.host c.start.new.h now c.in-Ok.ensures.host
    (told-comes s c.requires.ready.reads (here s t h ev) (here v t (record h { host = c.start.new.h; flight = c.started.new.self }) now) (start_on k c.in-Some.server.0) _ (flown s (g.P.Plant.state c.start.new.plant) t h ev c.start.new.journal.events c.start.new.h c.started.new.self c.in-Some.server.0 (start_on k c.in-Some.server.0) _ c.started.ensures.started (c.in-Ok.ensures.plan (rest_of h ev))) h
    (told-start h.host ev c.requires.ready.told k c.in-Some.server.0)))

pub returns-in-Err-clause-step : goal.returns-in-Err-clause-step
returns-in-Err-clause-step g c line =
    let s = g.P.Plant.state c.args.plant.now in let t = c.args.config.now in let h = c.args.tables.now in let ev = c.args.journal.now.events in
    let k = (here s t h ev).control in
    let u = here (g.P.Plant.state c.start.new.plant) t (record h { host = c.start.new.h; flight = c.started.new.self }) c.start.new.journal.events in
    known-server s t h ev line (start_on k) c.args.name.now c.bytes_of.result.now c.in-Some.server.0 (said u line (Refused c.in-Err.refusal)) c.bytes_of.ensures (sym c.in-Some.ensures.place)
    (plan-comes s c.requires.ready.reads (here s t h ev) u (start_on k c.in-Some.server.0) (Refused c.in-Err.refusal) (flown s (g.P.Plant.state c.start.new.plant) t h ev c.start.new.journal.events c.start.new.h c.started.new.self c.in-Some.server.0 (start_on k c.in-Some.server.0) _ c.started.ensures.started (c.in-Err.ensures.plan (rest_of h ev))) line)

pub returns-in-Err-clause-ready : goal.returns-in-Err-clause-ready
returns-in-Err-clause-ready g c =
    let s = g.P.Plant.state c.args.plant.now in let t = c.args.config.now in let h = c.args.tables.now in let ev = c.args.journal.now.events in
    let k = (here s t h ev).control in
    let v = g.P.Plant.state c.start.new.plant in let now = c.start.new.journal.events in
    ready-after t s v (record h { host = c.start.new.h; flight = c.started.new.self }) now c.requires.ready.reads c.in-Err.ensures.rest c.in-Err.ensures.unarmed
    (subst (λ x. IsTold x now) (sym c.in-Err.ensures.same)
    (told-comes s c.requires.ready.reads (here s t h ev) (here v t (record h { host = c.start.new.h; flight = c.started.new.self }) now) (start_on k c.in-Some.server.0) _ (flown s (g.P.Plant.state c.start.new.plant) t h ev c.start.new.journal.events c.start.new.h c.started.new.self c.in-Some.server.0 (start_on k c.in-Some.server.0) _ c.started.ensures.started (c.in-Err.ensures.plan (rest_of h ev))) h
    (told-start h.host ev c.requires.ready.told k c.in-Some.server.0)))

pub returns-in-Err-clause-faults : goal.returns-in-Err-clause-faults
returns-in-Err-clause-faults g c =
    let s = g.P.Plant.state c.args.plant.now in let u = g.P.Plant.state c.start.new.plant in
    counted-refusal c.in-Err.refusal s u (subst (λ b. Counted b s.faults u.faults) (sym (ap is_stop c.in-Err.ensures.stopped)) c.in-Err.ensures.faults)
