use Rattle.std.proofs.Common.{refl, arith, ◌∙◌}
use Rattle.std.specs.List.{flat_map}
use Rattle.std.proofs.lemmas.List.{length-map}
use Rattle.dr_config.specs.declared.entries.VolumeEntry.{VolumeEntry}
use Rattle.dr_model.specs.Listings.{member_lines, sessions_of}
use Rattle.dr_laws_sound.proofs.Listed.{session-lines}
use Rattle.dr_steps.specs.Here.{here, rest_of}
use Rattle.dr_steps.proofs.ListingLemmas.{list-refused, list-done, told-lines, members-few, seated}
use Rattle.dr_steps.proofs.listing.list_session.Goals as goal

pub returns-in-Some-clause-step : goal.returns-in-Some-clause-step
returns-in-Some-clause-step g c =
    let s = g.P.Plant.state c.args.plant.now in let t = c.args.config.now in let h = c.args.tables.now in let ev = c.args.journal.now.events in
    let k = (here s t h ev).control in
    let told = flat_map (member_lines k c.args.line c.args.l.0) (sessions_of k c.args.l.0) in
    c.in-Some.ensures.plan s h ev told c.args.line ∙ list-refused s t h ev c.args.line _ told c.in-Some.why refl

pub returns-clause-step : goal.returns-clause-step
returns-clause-step g c =
    let s = g.P.Plant.state c.args.plant.now in let t = c.args.config.now in let h = c.args.tables.now in let ev = c.args.journal.now.events in
    let k = (here s t h ev).control in
    let told = flat_map (member_lines k c.args.line c.args.l.0) (sessions_of k c.args.l.0) in
    c.in_default.ensures.plan s h ev told c.args.line ∙ list-done s t h ev c.args.line _ told c.sessions.new.journal.events refl (c.sessions.ensures.told (rest_of h ev) refl)

pub returns-clause-ready : goal.returns-clause-ready
returns-clause-ready g c = record {
  rest = c.requires.ready.rest;
  reads = c.requires.ready.reads;
  told =
      let s = g.P.Plant.state c.args.plant.now in let t = c.args.config.now in let h = c.args.tables.now in let ev = c.args.journal.now.events in
      let k = (here s t h ev).control in
      let told = flat_map (member_lines k c.args.line c.args.l.0) (sessions_of k c.args.l.0) in
      told-lines h ev c.sessions.new.journal.events told (c.sessions.ensures.told (rest_of h ev) refl) (session-lines k c.args.line c.args.l.0) c.requires.ready.told;
}

pub sessions-requires-clause-seated : goal.sessions-requires-clause-seated
sessions-requires-clause-seated g c = seated (g.P.Plant.state c.args.plant.now) c.args.config.now c.args.tables.now c.args.journal.now.events c.requires.sound

pub sessions-requires-clause-room : goal.sessions-requires-clause-room
sessions-requires-clause-room g c =
    let s = g.P.Plant.state c.args.plant.now in let t = c.args.config.now in let h = c.args.tables.now in let ev = c.args.journal.now.events in
    let few = members-few (here s t h ev).control c.requires.sound.groups in
    let size = length-map t.volumes (λ (e : VolumeEntry). e.id) in
    let volumes = c.requires.few in
    let room = c.requires.room in
    omega (arith, few, size, volumes, room)

pub returns-clause-room : goal.returns-clause-room
returns-clause-room g c =
    let s = g.P.Plant.state c.args.plant.now in let t = c.args.config.now in let h = c.args.tables.now in let ev = c.args.journal.now.events in
    let few = members-few (here s t h ev).control c.requires.sound.groups in
    let size = length-map t.volumes (λ (e : VolumeEntry). e.id) in
    let volumes = c.requires.few in
    let room = c.requires.room in
    let left = c.sessions.ensures.left in
    omega (arith, few, size, volumes, room, left)
