use Rattle.std.proofs.Common.{◌≡◌, ◌+◌, true, ◌&&◌, length, arith, refl, ap, sym, subst, ◌∙◌}
use Rattle.std.specs.Prelude.{is_some}
use Rattle.std.proofs.lemmas.Bool.{and_parts}
use Rattle.dr_config.specs.Table.{place_of}
use Rattle.dr_model.specs.Layout.{Fields, is_part}
use Rattle.dr_model.specs.Pairs.{goes_over, is_metro, is_cascaded}
use Rattle.dr_model.specs.WriteEntries.{write_stretches}
use Rattle.dr_facts.proofs.Parts.{metro-part}
use Rattle.dr_volume.specs.Plain.{plain}
use Rattle.dr_volume.specs.View.{volume_seen}
use Rattle.dr_gcopy.specs.Sending.{MayPair}
use Rattle.dr_metro.proofs.WroteInLemmas.{in-as}
use Rattle.dr_steps.proofs.DrainLemmas.{may-pair}
use Rattle.dr_steps.proofs.steps.place_write.Goals as goal

pub is_fed-requires-clause-to : goal.is_fed-requires-clause-to
is_fed-requires-clause-to g c = λ goes.
    let t = c.args.config.now in
    let f = plain c.peek_fields-fields.result in
    subst (λ (x : Fields). is_part x.primary ≡ true → is_some (place_of t x.primary_partner) ≡ true) (sym c.peek_fields-fields.ensures.fields) (c.requires.partners.defined c.args.write.now.volume.0) (metro-part f.primary (and_parts (is_metro f.primary) _ goes).0)

pub cascade_write_by-requires-clause-metro : goal.cascade_write_by-requires-clause-metro
cascade_write_by-requires-clause-metro g c =
    let f = plain c.peek_fields-fields.result in
    (and_parts (is_metro f.primary) _ ((and_parts (goes_over f c.args.write.now.track) _ (sym c.is_fed.ensures ∙ c.if-is_fed.true)).0)).0

pub cascade_write_by-requires-clause-cascaded : goal.cascade_write_by-requires-clause-cascaded
cascade_write_by-requires-clause-cascaded g c =
    let f = plain c.peek_fields-fields.result in
    (and_parts (goes_over f c.args.write.now.track) _ (sym c.is_fed.ensures ∙ c.if-is_fed.true)).1

pub cascade_write_by-requires-clause-pair : goal.cascade_write_by-requires-clause-pair
cascade_write_by-requires-clause-pair g c =
    let s = g.P.Plant.state c.args.plant.now in
    let t = c.args.config.now in
    let f = plain c.peek_fields-fields.result in
    let v = c.args.write.now.volume.0 in
    let goes = (and_parts (goes_over f c.args.write.now.track) _ (sym c.is_fed.ensures ∙ c.if-is_fed.true)).0 in
    subst (λ (x : Fields). is_part x.primary ≡ true → MayPair s t v x.primary_partner) (sym c.peek_fields-fields.ensures.fields) (may-pair s t c.requires.partners v) (metro-part f.primary (and_parts (is_metro f.primary) _ goes).0)

pub cascade_write_by-requires-clause-next : goal.cascade_write_by-requires-clause-next
cascade_write_by-requires-clause-next g c =
    let s = g.P.Plant.state c.args.plant.now in
    let t = c.args.config.now in
    let f = plain c.peek_fields-fields.result in
    let cascaded = (and_parts (goes_over f c.args.write.now.track) _ (sym c.is_fed.ensures ∙ c.if-is_fed.true)).1 in
    may-pair s t c.requires.partners f.primary_partner (and_parts _ _ cascaded).0

pub sync_write_by-requires-clause-pair : goal.sync_write_by-requires-clause-pair
sync_write_by-requires-clause-pair g c =
    let s = g.P.Plant.state c.args.plant.now in
    let t = c.args.config.now in
    let v = c.args.write.now.volume.0 in
    subst (λ (x : Fields). is_part x.primary ≡ true → MayPair s t v x.primary_partner) (sym c.peek_fields-fields.ensures.fields) (may-pair s t c.requires.partners v)

pub sync_write_by-requires-clause-uncascaded : goal.sync_write_by-requires-clause-uncascaded
sync_write_by-requires-clause-uncascaded g c = λ goes.
    let u = volume_seen (g.P.Plant.state c.args.plant.now) c.args.config.now (plain c.peek_fields-fields.result).primary_partner in
    ap (λ b. b && is_cascaded u.fields) (sym goes) ∙ sym c.is_fed.ensures ∙ c.if-is_fed.false

pub returns-clause-wrote : goal.returns-clause-wrote
returns-clause-wrote g c =
    let n = length c.args.config.now.volumes in
    let w = c.args.write.now in
    in-as (g.P.Plant.state c.args.plant.now) (g.P.Plant.state c.sync_write_by.new.plant) c.args.config.now c.args.host.now c.sync_write_by.new.h c.args.journal.now c.sync_write_by.new.journal (λ k. write_stretches k w.w.0 w.volume.0 w.track) (λ k. write_stretches k w.w.0 w.volume.0 w.track) (n + (n + 6)) (n + (n + (n + 9))) c.sync_write_by.result c.sync_write_by.result (omega arith) (λ r. refl) refl c.sync_write_by.ensures.wrote
