use Rattle.std.proofs.Common.{sym, ap, refl, ◌∙◌, ◌≡◌, true, not, ◌||◌, Some, None}
use Rattle.std.proofs.lemmas.Bool.{and_parts}
use Rattle.std.specs.Prelude.{is_some}
use Rattle.dr_config.proofs.Lookups.{place-of-entry, none-mapped}
use Rattle.dr_config.specs.declared.entries.VolumeEntry.{VolumeEntry}
use Rattle.dr_config.specs.Table.{place_of}
use Rattle.dr_model.specs.Layout.{Fields}
use Rattle.dr_model.specs.Entries.{takes_back, pair_state}
use Rattle.dr_model.specs.Plans.{at_most, left_to_copy}
use Rattle.dr_model.specs.Refusals.{server_off}
use Rattle.dr_model.specs.Runs.{said}
use Rattle.dr_model.specs.declared.said.Said.TheVariants.{Done}
use Rattle.dr_model.specs.declared.said.Addition.TheVariants.{Counted}
use Rattle.dr_volume.specs.View.{volume_seen, on_seen}
use Rattle.dr_steps.specs.Here.{here, rest_of}
use Rattle.dr_steps.proofs.LocatedLemmas.{mapped_some, seen-entry}
use Rattle.dr_steps.proofs.BackgroundLemmas.{may_copy_by, left_by, gives, held, copy-nowhere, copy-off, copy-unfit, copy-held, copy-done, copy-failed}
use Rattle.dr_steps.proofs.RelationLemmas.{relations-fit}
use Rattle.dr_steps.proofs.background.copy.Goals as goal
use Rattle.dr_volume.proofs.WorldLaws.{on-seen}

pub returns-in_default-clause-step : goal.returns-in_default-clause-step
returns-in_default-clause-step g c =
    copy-nowhere (g.P.Plant.state c.args.plant.now) c.args.config.now c.args.tables.now c.args.journal.now.events c.args.t.0 c.args.most c.requires.ready.reads _ (none-mapped _ _ c.in_default.ensures.value) refl

pub returns-then-not-is_on-clause-step : goal.returns-then-not-is_on-clause-step
returns-then-not-is_on-clause-step g c =
    let s = g.P.Plant.state c.args.plant.now in let t = c.args.config.now in let h = c.args.tables.now in let ev = c.args.journal.now.events in
    let e = mapped_some (λ (e : VolumeEntry). e.server) _ _ c.in-Some.ensures.value in
    let owner : (volume_seen s t c.args.t.0).server ≡ c.in-Some.server.0 = (seen-entry s t c.args.t.0 e.0 e.1).0 ∙ e.2 in
    copy-off s t h ev c.args.t.0 c.args.most c.requires.ready.reads e.0 e.1 _ (ap (on_seen s) owner ∙ on-seen s c.in-Some.server.0 c.in-Some.ensures.defined.below ∙ sym c.if-not-is_on.ensures) (ap server_off (sym owner))

pub peek_fields-fields-requires-clause-defined : goal.peek_fields-fields-requires-clause-defined
peek_fields-fields-requires-clause-defined g c =
    let e = mapped_some (λ (e : VolumeEntry). e.server) _ _ c.in-Some.ensures.value in
    ap is_some (place-of-entry c.args.config.now c.args.t.0 e.0 e.1).1

pub relation_state-requires-clause-defined : goal.relation_state-requires-clause-defined
relation_state-requires-clause-defined g c =
    let e = mapped_some (λ (e : VolumeEntry). e.server) _ _ c.in-Some.ensures.value in
    ap is_some (place-of-entry c.args.config.now c.args.t.0 e.0 e.1).1

pub returns-then-not-may_copy-clause-step : goal.returns-then-not-may_copy-clause-step
returns-then-not-may_copy-clause-step g c =
    let s = g.P.Plant.state c.args.plant.now in let t = c.args.config.now in let h = c.args.tables.now in let ev = c.args.journal.now.events in
    let e = mapped_some (λ (e : VolumeEntry). e.server) _ _ c.in-Some.ensures.value in
    let owner : (volume_seen s t c.args.t.0).server ≡ c.in-Some.server.0 = (seen-entry s t c.args.t.0 e.0 e.1).0 ∙ e.2 in
    let runs : on_seen s (volume_seen s t c.args.t.0).server ≡ true = ap (on_seen s) owner ∙ on-seen s c.in-Some.server.0 c.in-Some.ensures.defined.below ∙ sym c.if-not-is_on.ensures in
    let may = ap may_copy_by (sym c.peek_fields-fields.ensures.fields) ∙ sym c.if-not-may_copy.ensures in
    copy-unfit s t h ev c.args.t.0 c.args.most c.requires.ready.reads e.0 e.1 runs c.relation_state.result may (c.relation_state.ensures.refusal (rest_of h ev) ev)

pub copy_tracks-requires-clause-running : goal.copy_tracks-requires-clause-running
copy_tracks-requires-clause-running g c =
    let s = g.P.Plant.state c.args.plant.now in let t = c.args.config.now in let h = c.args.tables.now in let ev = c.args.journal.now.events in
    let e = mapped_some (λ (e : VolumeEntry). e.server) _ _ c.in-Some.ensures.value in
    let owner : (volume_seen s t c.args.t.0).server ≡ c.in-Some.server.0 = (seen-entry s t c.args.t.0 e.0 e.1).0 ∙ e.2 in
    ap s.on owner ∙ sym c.if-not-is_on.ensures

pub returns-in-Ok-clause-step : goal.returns-in-Ok-clause-step
returns-in-Ok-clause-step g c line =
    let s = g.P.Plant.state c.args.plant.now in let t = c.args.config.now in let h = c.args.tables.now in let ev = c.args.journal.now.events in
    let e = mapped_some (λ (e : VolumeEntry). e.server) _ _ c.in-Some.ensures.value in
    let owner : (volume_seen s t c.args.t.0).server ≡ c.in-Some.server.0 = (seen-entry s t c.args.t.0 e.0 e.1).0 ∙ e.2 in
    let runs : on_seen s (volume_seen s t c.args.t.0).server ≡ true = ap (on_seen s) owner ∙ on-seen s c.in-Some.server.0 c.in-Some.ensures.defined.below ∙ sym c.if-not-is_on.ensures in
    let may = ap may_copy_by (sym c.peek_fields-fields.ensures.fields) ∙ sym c.if-not-may_copy.ensures in
    let may_give = ap (λ (f : Fields). not f.reversing || takes_back f.source (here s t h ev).control) (sym c.peek_fields-fields.ensures.fields) ∙ gives _ _ None (c.in_default-source_refusal.ensures.refusal h ev) refl in
    let left : c.left_to_copy.result ≡ left_to_copy (here s t h ev).control c.args.t.0 = c.left_to_copy.ensures.value ∙ (λ i. left_by (c.peek_fields-fields.ensures.fields i) (sym (c.tracks_of.ensures.seen s) i)) in
    let count = c.at_most-count.ensures.value ∙ ap (at_most c.args.most) left in
    let u = here (g.P.Plant.state c.copy_tracks.new.plant) t h c.copy_tracks.new.journal.events in
    copy-done s t h ev c.args.t.0 c.args.most c.requires.ready.reads e.0 e.1 runs (may, may_give) c.at_most-count.result count u c.in-Ok.ensures.carried line
    ∙ ap (λ n. said u line (Done (Counted n))) (sym c.from.ensures)

pub returns-in-Err-clause-step : goal.returns-in-Err-clause-step
returns-in-Err-clause-step g c =
    let s = g.P.Plant.state c.args.plant.now in let t = c.args.config.now in let h = c.args.tables.now in let ev = c.args.journal.now.events in
    let e = mapped_some (λ (e : VolumeEntry). e.server) _ _ c.in-Some.ensures.value in
    let owner : (volume_seen s t c.args.t.0).server ≡ c.in-Some.server.0 = (seen-entry s t c.args.t.0 e.0 e.1).0 ∙ e.2 in
    let runs : on_seen s (volume_seen s t c.args.t.0).server ≡ true = ap (on_seen s) owner ∙ on-seen s c.in-Some.server.0 c.in-Some.ensures.defined.below ∙ sym c.if-not-is_on.ensures in
    let may = ap may_copy_by (sym c.peek_fields-fields.ensures.fields) ∙ sym c.if-not-may_copy.ensures in
    let may_give = ap (λ (f : Fields). not f.reversing || takes_back f.source (here s t h ev).control) (sym c.peek_fields-fields.ensures.fields) ∙ gives _ _ None (c.in_default-source_refusal.ensures.refusal h ev) refl in
    let left : c.left_to_copy.result ≡ left_to_copy (here s t h ev).control c.args.t.0 = c.left_to_copy.ensures.value ∙ (λ i. left_by (c.peek_fields-fields.ensures.fields i) (sym (c.tracks_of.ensures.seen s) i)) in
    let count = c.at_most-count.ensures.value ∙ ap (at_most c.args.most) left in
    let u = here (g.P.Plant.state c.copy_tracks.new.plant) t h c.copy_tracks.new.journal.events in
    copy-failed s t h ev c.args.t.0 c.args.most c.requires.ready.reads e.0 e.1 runs (may, may_give) c.at_most-count.result count u c.in-Err.refusal c.in-Err.ensures.carried

pub source_refusal-requires-clause-source : goal.source_refusal-requires-clause-source
source_refusal-requires-clause-source g c =
    let s = g.P.Plant.state c.args.plant.now in let t = c.args.config.now in let h = c.args.tables.now in let ev = c.args.journal.now.events in
    let may = ap may_copy_by (sym c.peek_fields-fields.ensures.fields) ∙ sym c.if-not-may_copy.ensures in
    let related : (volume_seen s t c.args.t.0).fields.related ≡ true = (and_parts _ _ may).0 in
    ap (λ (f : Fields). is_some (place_of t f.source)) c.peek_fields-fields.ensures.fields ∙ ((relations-fit s t h ev c.requires.sound).source c.args.t.0 related).defined

pub returns-in-Some-source_refusal-clause-step : goal.returns-in-Some-source_refusal-clause-step
returns-in-Some-source_refusal-clause-step g c =
    let s = g.P.Plant.state c.args.plant.now in let t = c.args.config.now in let h = c.args.tables.now in let ev = c.args.journal.now.events in
    let e = mapped_some (λ (e : VolumeEntry). e.server) _ _ c.in-Some.ensures.value in
    let owner : (volume_seen s t c.args.t.0).server ≡ c.in-Some.server.0 = (seen-entry s t c.args.t.0 e.0 e.1).0 ∙ e.2 in
    let runs : on_seen s (volume_seen s t c.args.t.0).server ≡ true = ap (on_seen s) owner ∙ on-seen s c.in-Some.server.0 c.in-Some.ensures.defined.below ∙ sym c.if-not-is_on.ensures in
    let may = ap may_copy_by (sym c.peek_fields-fields.ensures.fields) ∙ sym c.if-not-may_copy.ensures in
    let holds = held _ _ c.in-Some-source_refusal.why (Some c.in-Some-source_refusal.why) (c.in-Some-source_refusal.ensures.refusal h ev) refl in
    copy-held s t h ev c.args.t.0 c.args.most c.requires.ready.reads e.0 e.1 runs c.in-Some-source_refusal.why may
    (ap (λ (f : Fields). not f.reversing || takes_back f.source (here s t h ev).control) (sym c.peek_fields-fields.ensures.fields) ∙ holds.0)
    (holds.1 ∙ ap (λ (f : Fields). pair_state (here s t h ev).control f.source) c.peek_fields-fields.ensures.fields)
