use Rattle.dr_model.specs.Listings.{listing_refusal, pair_lines}
use Rattle.dr_laws_sound.proofs.Listed.{pair-lines}
use Rattle.dr_model.specs.Entries.{fields_at}
use Rattle.dr_steps.specs.Here.{here}
use Rattle.dr_steps.proofs.ListingLemmas.{list-refused, list-done, told-lines}
use Rattle.dr_steps.proofs.listing.list_pairs.Goals as goal

pub returns-in-Some-clause-step : goal.returns-in-Some-clause-step
returns-in-Some-clause-step g c =
    let s = g.P.Plant.state c.args.plant.now in let t = c.args.config.now in let h = c.args.tables.now in let ev = c.args.journal.now.events in
    let k = (here s t h ev).control in
    list-refused s t h ev c.args.line (listing_refusal k c.args.dev.now c.args.v.0) (pair_lines c.args.line c.args.v.0 (fields_at k c.args.v.0)) c.in-Some.why (c.in-Some.ensures.refusal s h ev)

pub returns-clause-step : goal.returns-clause-step
returns-clause-step g c =
    let s = g.P.Plant.state c.args.plant.now in let t = c.args.config.now in let h = c.args.tables.now in let ev = c.args.journal.now.events in
    let k = (here s t h ev).control in
    list-done s t h ev c.args.line (listing_refusal k c.args.dev.now c.args.v.0) (pair_lines c.args.line c.args.v.0 (fields_at k c.args.v.0)) c.pairs.new.journal.events (c.in_default.ensures.refusal s h ev) c.pairs.ensures.told

pub returns-clause-ready : goal.returns-clause-ready
returns-clause-ready g c = record {
  rest = c.requires.ready.rest;
  reads = c.requires.ready.reads;
  told =
      let s = g.P.Plant.state c.args.plant.now in let t = c.args.config.now in let h = c.args.tables.now in let ev = c.args.journal.now.events in
      let k = (here s t h ev).control in
      told-lines h ev c.pairs.new.journal.events (pair_lines c.args.line c.args.v.0 (fields_at k c.args.v.0)) c.pairs.ensures.told (pair-lines c.args.line c.args.v.0 (fields_at k c.args.v.0)) c.requires.ready.told;
}
