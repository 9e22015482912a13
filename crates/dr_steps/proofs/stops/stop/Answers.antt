use Rattle.std.proofs.Common.{sym, ap, refl, ◌∙◌}
use Rattle.dr_model.specs.declared.event.Event.TheVariants.{Stopped}
use Rattle.dr_metro.proofs.ToldLemmas.{told-push}
use Rattle.dr_model.specs.declared.said.Said.TheVariants.{Done, Refused}
use Rattle.dr_model.specs.declared.said.Addition.TheVariants.{Alone}
use Rattle.dr_model.specs.Plans.{stop_on}
use Rattle.dr_model.specs.Runs.{said}
use Rattle.dr_steps.specs.Here.{here}
use Rattle.dr_steps.proofs.StopLemmas.{unknown-server, known-server, stopped-already, stopped-now, rest-off, reads-off}
use Rattle.dr_steps.proofs.stops.stop.Goals as goal

pub returns-in_default-clause-step : goal.returns-in_default-clause-step
returns-in_default-clause-step g c line =
    let s = g.P.Plant.state c.args.plant.now in let t = c.args.config.now in let h = c.args.tables.now in let ev = c.args.journal.now.events in
    unknown-server s t h ev line (stop_on (here s t h ev).control) c.args.name.now c.bytes_of.result.now c.bytes_of.ensures (sym c.in_default.ensures.place)
    ∙ ap (λ r. said (here s t h ev) line (Refused r)) (sym c.unknown_server.ensures)

pub returns-then-not-is_on-clause-step : goal.returns-then-not-is_on-clause-step
returns-then-not-is_on-clause-step g c line =
    let s = g.P.Plant.state c.args.plant.now in let t = c.args.config.now in let h = c.args.tables.now in let ev = c.args.journal.now.events in
    known-server s t h ev line (stop_on (here s t h ev).control) c.args.name.now c.bytes_of.result.now c.in-Some.server.0 (said (here s t h ev) line (Done Alone)) c.bytes_of.ensures (sym c.in-Some.ensures.place)
    (stopped-already s t h ev line c.in-Some.server.0 c.in-Some.ensures.defined.below (sym c.if-not-is_on.ensures))

pub returns-clause-step : goal.returns-clause-step
returns-clause-step g c line =
    let s = g.P.Plant.state c.args.plant.now in let t = c.args.config.now in let h = c.args.tables.now in let ev = c.args.journal.now.events in
    let u = g.P.Plant.state c.stop.new.self in let mid = c.push.new.self.events in
    known-server s t h ev line (stop_on (here s t h ev).control) c.args.name.now c.bytes_of.result.now c.in-Some.server.0 (said (here u t h mid) line (Done Alone)) c.bytes_of.ensures (sym c.in-Some.ensures.place)
    (stopped-now s t h ev line c.in-Some.server.0 u mid c.in-Some.ensures.defined.below (sym c.if-not-is_on.ensures) c.stop.ensures c.push.ensures.events)

pub returns-clause-ready : goal.returns-clause-ready
returns-clause-ready g c =
    let s = g.P.Plant.state c.args.plant.now in let u = g.P.Plant.state c.stop.new.self in
    record {
      rest = rest-off s u c.args.config.now c.in-Some.server.0 c.stop.ensures c.requires.ready.rest;
      reads = reads-off s u c.in-Some.server.0 c.stop.ensures c.requires.ready.reads;
      told = told-push c.args.tables.now.host c.args.journal.now.events c.push.new.self.events (Stopped c.in-Some.server.0 0) (λ x. refl) c.push.ensures.events c.requires.ready.told;
    }
