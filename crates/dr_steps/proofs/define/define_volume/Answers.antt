use Rattle.std.proofs.Common.{◌∙◌, sym, ap, Err}
use Rattle.dr_model.specs.declared.said.Said.TheVariants.{Refused}
use Rattle.dr_model.specs.Plans.{unless, volume_refusal, volume_done}
use Rattle.dr_model.specs.Runs.{said}
use Rattle.dr_steps.specs.Here.{here}
use Rattle.dr_steps.proofs.DefineLemmas.{volume-refused-here, volume-defined, ready-defined, on-refusal, device-faults}
use Rattle.dr_steps.proofs.StopLemmas.{unknown-server}
use Rattle.dr_config.specs.Rules.{refusal_of}
use Rattle.dr_model.specs.declared.said.Addition.{Addition}
use Rattle.dr_steps.proofs.WantLemmas.{on-no-memory, volume-wants}
use Rattle.dr_steps.proofs.define.define_volume.Goals as goal

pub returns-in_default-clause-step : goal.returns-in_default-clause-step
returns-in_default-clause-step g c line =
    let s = g.P.Plant.state c.args.plant.now in let t = c.args.config.now in let h = c.args.tables.now in let ev = c.args.journal.now.events in
    let k = (here s t h ev).control in
    unknown-server s t h ev line (λ x. unless (volume_refusal k c.args.volume.0 x c.args.tracks) (volume_done c.args.volume.0 x c.args.tracks)) c.args.name.now c.bytes_of.result.now c.bytes_of.ensures (sym c.in_default.ensures.place)
    ∙ ap (λ r. said (here s t h ev) line (Refused r)) (sym c.unknown_server.ensures)

pub returns-in-Err-clause-step : goal.returns-in-Err-clause-step
returns-in-Err-clause-step g c =
    let s = g.P.Plant.state c.args.plant.now in let t = c.args.config.now in let h = c.args.tables.now in let ev = c.args.journal.now.events in
    on-refusal c.in-Err.fault _ _ c.in-Err.ensures.refused (λ r is line.
    volume-refused-here s t h ev line c.args.volume.0 c.args.tracks c.args.name.now c.in-Some.ensures.sound (g.P.Plant.state c.add_volume.new.plant) c.add_volume.new.self c.capped-size.result c.bytes_of.result.now c.in-Some.server.0 r
    c.bytes_of.ensures (sym c.in-Some.ensures.place) c.capped-size.ensures is c.in-Err.ensures.same_plant c.in-Err.ensures.same)

pub returns-in-Ok-clause-step : goal.returns-in-Ok-clause-step
returns-in-Ok-clause-step g c line =
    volume-defined (g.P.Plant.state c.args.plant.now) c.args.config.now c.args.tables.now c.args.journal.now.events line c.args.volume.0 c.args.tracks c.args.name.now c.in-Some.ensures.sound
    c.push.new.self.events (g.P.Plant.state c.add_volume.new.plant) c.add_volume.new.self c.capped-size.result c.bytes_of.result.now c.in-Some.server.0
    c.requires.ready.rest.stands c.bytes_of.ensures (sym c.in-Some.ensures.place) c.capped-size.ensures c.in-Ok.ensures.refused c.in-Ok.ensures.device c.in-Ok.ensures.added c.push.ensures.events

pub returns-in-Ok-clause-ready : goal.returns-in-Ok-clause-ready
returns-in-Ok-clause-ready g c =
    ready-defined (g.P.Plant.state c.args.plant.now) c.args.config.now c.args.tables.now c.args.journal.now.events c.push.new.self.events c.args.volume.0 c.in-Some.server.0 c.capped-size.result
    (g.P.Plant.state c.add_volume.new.plant) c.add_volume.new.self c.requires.ready c.in-Ok.ensures.refused c.in-Ok.ensures.device c.in-Ok.ensures.added c.in-Ok.ensures.stands c.push.ensures.events

pub returns-in-Ok-clause-faults : goal.returns-in-Ok-clause-faults
returns-in-Ok-clause-faults g c = device-faults (g.P.Plant.state c.args.plant.now) (g.P.Plant.state c.add_volume.new.plant) _ _ c.in-Ok.ensures.device

pub returns-in-Err-clause-wanted : goal.returns-in-Err-clause-wanted
returns-in-Err-clause-wanted g c =
    on-no-memory Addition c.in-Err.fault _ (λ is.
    volume-wants (g.P.Plant.state c.args.plant.now) c.args.config.now c.args.tables.now c.args.journal.now.events c.args.volume.0 c.args.tracks c.in-Some.server.0 c.capped-size.result c.args.name.now c.bytes_of.result.now
    c.in-Some.ensures.sound c.bytes_of.ensures (sym c.in-Some.ensures.place) c.capped-size.ensures (ap (λ f. refusal_of {T = Unit {0}} (Err f)) (sym is) ∙ c.in-Err.ensures.refused))
