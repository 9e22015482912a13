use Rattle.std.proofs.Common.{refl, ◌∙◌}
use Rattle.std.specs.List.{flat_map}
use Rattle.dr_model.specs.Listings.{mirror_lines, sessions_of}
use Rattle.dr_model.specs.Sessions.{Session}
use Rattle.dr_laws_sound.proofs.Listed.{mirrors-lines}
use Rattle.dr_steps.specs.Here.{here}
use Rattle.dr_steps.proofs.ListingLemmas.{list-refused, list-done, told-lines}
use Rattle.dr_steps.proofs.listing.show_mirror.Goals as goal

pub returns-in-Some-clause-step : goal.returns-in-Some-clause-step
returns-in-Some-clause-step g c =
    let s = g.P.Plant.state c.args.plant.now in let t = c.args.config.now in let h = c.args.tables.now in let ev = c.args.journal.now.events in
    let k = (here s t h ev).control in
    let told = flat_map (λ (x : Session). mirror_lines c.args.line x.number x.mirror) (sessions_of k c.args.l.0) in
    c.in-Some.ensures.plan s h ev told c.args.line ∙ list-refused s t h ev c.args.line _ told c.in-Some.why refl

pub returns-clause-step : goal.returns-clause-step
returns-clause-step g c =
    let s = g.P.Plant.state c.args.plant.now in let t = c.args.config.now in let h = c.args.tables.now in let ev = c.args.journal.now.events in
    let k = (here s t h ev).control in
    let told = flat_map (λ (x : Session). mirror_lines c.args.line x.number x.mirror) (sessions_of k c.args.l.0) in
    c.in_default.ensures.plan s h ev told c.args.line ∙ list-done s t h ev c.args.line _ told c.mirrors.new.journal.events refl (c.mirrors.ensures.told k refl)

pub returns-clause-ready : goal.returns-clause-ready
returns-clause-ready g c = record {
  rest = c.requires.ready.rest;
  reads = c.requires.ready.reads;
  told =
      let s = g.P.Plant.state c.args.plant.now in let t = c.args.config.now in let h = c.args.tables.now in let ev = c.args.journal.now.events in
      let k = (here s t h ev).control in
      let told = flat_map (λ (x : Session). mirror_lines c.args.line x.number x.mirror) (sessions_of k c.args.l.0) in
      told-lines h ev c.mirrors.new.journal.events told (c.mirrors.ensures.told k refl) (mirrors-lines k c.args.line c.args.l.0) c.requires.ready.told;
}
