use Rattle.std.proofs.Common.{arith, sym, ap, ◌∙◌, Some}
use Rattle.dr_model.specs.declared.said.Said.TheVariants.{Done, Refused}
use Rattle.dr_model.specs.declared.said.Addition.TheVariants.{Alone}
use Rattle.dr_model.specs.Plans.{expire_on}
use Rattle.dr_model.specs.Runs.{said}
use Rattle.dr_moves.specs.Checks.{is_stop}
use Rattle.dr_steps.specs.Here.{here, rest_of}
use Rattle.dr_steps.proofs.ComeLemmas.{plan-comes, told-comes}
use Rattle.dr_steps.proofs.FlashLemmas.{counted-refusal}
use Rattle.dr_steps.proofs.LandLemmas.{ready-after}
use Rattle.dr_steps.proofs.RelationLemmas.{relations-fit}
use Rattle.dr_steps.proofs.StartLemmas.{told-expire, counted-top}
use Rattle.dr_steps.proofs.StopLemmas.{unknown-server, known-server}
use Rattle.dr_steps.proofs.expiry.expire.Goals as goal

pub returns-in_default-clause-step : goal.returns-in_default-clause-step
returns-in_default-clause-step g c line =
    let s = g.P.Plant.state c.args.plant.now in let t = c.args.config.now in let h = c.args.tables.now in let ev = c.args.journal.now.events in
    unknown-server s t h ev line (expire_on (here s t h ev).control) c.args.name.now c.bytes_of.result.now c.bytes_of.ensures (sym c.in_default.ensures.place)
    ∙ ap (λ r. said (here s t h ev) line (Refused r)) (sym c.unknown_server.ensures)

pub lift-requires-clause-fit : goal.lift-requires-clause-fit
lift-requires-clause-fit g c = relations-fit (g.P.Plant.state c.args.plant.now) c.args.config.now c.args.tables.now c.args.journal.now.events c.requires.sound

pub lift-requires-clause-room : goal.lift-requires-clause-room
lift-requires-clause-room g c = let few = c.in-Some.ensures.sound.few_volumes in let room = c.requires.room in omega (arith, few, room)

pub returns-in-Ok-clause-room : goal.returns-in-Ok-clause-room
returns-in-Ok-clause-room g c = let few = c.in-Some.ensures.sound.few_volumes in let room = c.requires.room in let left = c.in-Ok.ensures.room in omega (arith, few, room, left)

pub returns-in-Err-clause-room : goal.returns-in-Err-clause-room
returns-in-Err-clause-room g c = let few = c.in-Some.ensures.sound.few_volumes in let room = c.requires.room in let left = c.in-Err.ensures.room in omega (arith, few, room, left)

pub returns-in-Ok-clause-step : goal.returns-in-Ok-clause-step
returns-in-Ok-clause-step g c line =
    let s = g.P.Plant.state c.args.plant.now in let t = c.args.config.now in let h = c.args.tables.now in let ev = c.args.journal.now.events in
    let k = (here s t h ev).control in let u = here (g.P.Plant.state c.lift.new.plant) t h c.lift.new.journal.events in
    known-server s t h ev line (expire_on k) c.args.name.now c.bytes_of.result.now c.in-Some.server.0 (said u line (Done Alone)) c.bytes_of.ensures (sym c.in-Some.ensures.place)
    (plan-comes s c.requires.ready.reads (here s t h ev) u (expire_on k c.in-Some.server.0) (Done Alone) (c.in-Ok.ensures.plan (rest_of h ev)) line)

pub returns-in-Ok-clause-ready : goal.returns-in-Ok-clause-ready
returns-in-Ok-clause-ready g c =
    let s = g.P.Plant.state c.args.plant.now in let t = c.args.config.now in let h = c.args.tables.now in let ev = c.args.journal.now.events in
    let k = (here s t h ev).control in let v = g.P.Plant.state c.lift.new.plant in let now = c.lift.new.journal.events in
    ready-after t s v h now c.requires.ready.reads c.in-Ok.ensures.rest c.in-Ok.ensures.unarmed
    (told-comes s c.requires.ready.reads (here s t h ev) (here v t h now) (expire_on k c.in-Some.server.0) _ (c.in-Ok.ensures.plan (rest_of h ev)) h (told-expire h.host ev c.requires.ready.told k c.in-Some.server.0))

pub returns-in-Err-clause-step : goal.returns-in-Err-clause-step
returns-in-Err-clause-step g c line =
    let s = g.P.Plant.state c.args.plant.now in let t = c.args.config.now in let h = c.args.tables.now in let ev = c.args.journal.now.events in
    let k = (here s t h ev).control in let u = here (g.P.Plant.state c.lift.new.plant) t h c.lift.new.journal.events in
    known-server s t h ev line (expire_on k) c.args.name.now c.bytes_of.result.now c.in-Some.server.0 (said u line (Refused c.in-Err.refusal)) c.bytes_of.ensures (sym c.in-Some.ensures.place)
    (plan-comes s c.requires.ready.reads (here s t h ev) u (expire_on k c.in-Some.server.0) (Refused c.in-Err.refusal) (c.in-Err.ensures.plan (rest_of h ev)) line)

pub returns-in-Err-clause-ready : goal.returns-in-Err-clause-ready
returns-in-Err-clause-ready g c =
    let s = g.P.Plant.state c.args.plant.now in let t = c.args.config.now in let h = c.args.tables.now in let ev = c.args.journal.now.events in
    let k = (here s t h ev).control in let v = g.P.Plant.state c.lift.new.plant in let now = c.lift.new.journal.events in
    ready-after t s v h now c.requires.ready.reads c.in-Err.ensures.rest c.in-Err.ensures.unarmed
    (told-comes s c.requires.ready.reads (here s t h ev) (here v t h now) (expire_on k c.in-Some.server.0) _ (c.in-Err.ensures.plan (rest_of h ev)) h (told-expire h.host ev c.requires.ready.told k c.in-Some.server.0))

pub returns-in-Err-clause-faults : goal.returns-in-Err-clause-faults
returns-in-Err-clause-faults g c =
    let s = g.P.Plant.state c.args.plant.now in let u = g.P.Plant.state c.lift.new.plant in
    counted-refusal c.in-Err.refusal s u (counted-top (is_stop (Some c.in-Err.refusal)) s.faults u.faults c.in-Err.ensures.faults)
