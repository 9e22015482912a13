use Rattle.std.proofs.Common.{ap, sym, refl, ◌∙◌, ◌≡◌, true}
use Rattle.std.specs.Prelude.{is_some}
use Rattle.dr_config.proofs.Lookups.{place-of-entry, none-mapped}
use Rattle.dr_config.specs.declared.entries.VolumeEntry.{VolumeEntry}
use Rattle.dr_model.specs.Refusals.{server_off}
use Rattle.dr_model.specs.Runs.{said}
use Rattle.dr_model.specs.declared.said.Said.TheVariants.{Done}
use Rattle.dr_model.specs.declared.said.Addition.TheVariants.{Counted}
use Rattle.dr_volume.proofs.WorldLaws.{on-seen}
use Rattle.dr_volume.specs.View.{volume_seen, on_seen}
use Rattle.dr_steps.specs.Here.{here, rest_of}
use Rattle.dr_steps.proofs.BackgroundLemmas.{destage-nowhere, destage-off, destage-done, destage-failed, led-ready, failed-ready}
use Rattle.dr_steps.proofs.LocatedLemmas.{mapped_some, seen-entry}
use Rattle.dr_steps.proofs.RelationLemmas.{relations-fit}
use Rattle.dr_steps.proofs.background.destage_volume.Goals as goal

pub returns-in_default-clause-step : goal.returns-in_default-clause-step
returns-in_default-clause-step g c =
    destage-nowhere (g.P.Plant.state c.args.plant.now) c.args.config.now c.args.tables.now c.args.journal.now.events c.args.v.0 c.requires.ready.reads _ (none-mapped _ _ c.in_default.ensures.value) refl

pub returns-then-not-is_on-clause-step : goal.returns-then-not-is_on-clause-step
returns-then-not-is_on-clause-step g c =
    let s = g.P.Plant.state c.args.plant.now in let t = c.args.config.now in let h = c.args.tables.now in let ev = c.args.journal.now.events in
    let e = mapped_some (λ (e : VolumeEntry). e.server) _ _ c.in-Some.ensures.value in
    let owner : (volume_seen s t c.args.v.0).server ≡ c.in-Some.server.0 = (seen-entry s t c.args.v.0 e.0 e.1).0 ∙ e.2 in
    destage-off s t h ev c.args.v.0 c.requires.ready.reads e.0 e.1 _ (ap (on_seen s) owner ∙ on-seen s c.in-Some.server.0 c.in-Some.ensures.defined.below ∙ sym c.if-not-is_on.ensures) (ap server_off (sym owner))

pub destage_told-requires-clause-at : goal.destage_told-requires-clause-at
destage_told-requires-clause-at g c = record {
  rest = c.requires.ready.rest;
  fit = relations-fit (g.P.Plant.state c.args.plant.now) c.args.config.now c.args.tables.now c.args.journal.now.events c.requires.sound;
}

pub destage_told-requires-clause-defined : goal.destage_told-requires-clause-defined
destage_told-requires-clause-defined g c =
    let e = mapped_some (λ (e : VolumeEntry). e.server) _ _ c.in-Some.ensures.value in
    ap is_some (place-of-entry c.args.config.now c.args.v.0 e.0 e.1).1

pub destage_told-requires-clause-running : goal.destage_told-requires-clause-running
destage_told-requires-clause-running g c =
    let s = g.P.Plant.state c.args.plant.now in let t = c.args.config.now in
    let e = mapped_some (λ (e : VolumeEntry). e.server) _ _ c.in-Some.ensures.value in
    let owner : (volume_seen s t c.args.v.0).server ≡ c.in-Some.server.0 = (seen-entry s t c.args.v.0 e.0 e.1).0 ∙ e.2 in
    ap s.on owner ∙ sym c.if-not-is_on.ensures

pub returns-in-Ok-clause-step : goal.returns-in-Ok-clause-step
returns-in-Ok-clause-step g c line =
    let s = g.P.Plant.state c.args.plant.now in let t = c.args.config.now in let h = c.args.tables.now in let ev = c.args.journal.now.events in
    let u = g.P.Plant.state c.destage_told.new.plant in let mid = c.destage_told.new.journal.events in
    let e = mapped_some (λ (e : VolumeEntry). e.server) _ _ c.in-Some.ensures.value in
    let owner : (volume_seen s t c.args.v.0).server ≡ c.in-Some.server.0 = (seen-entry s t c.args.v.0 e.0 e.1).0 ∙ e.2 in
    let runs : on_seen s (volume_seen s t c.args.v.0).server ≡ true = ap (on_seen s) owner ∙ on-seen s c.in-Some.server.0 c.in-Some.ensures.defined.below ∙ sym c.if-not-is_on.ensures in
    destage-done s t h ev c.args.v.0 c.requires.ready.reads e.0 e.1 runs u mid c.in-Ok.there c.in-Ok.ensures.answer (c.in-Ok.ensures.leads (rest_of h ev)) line
    ∙ ap (λ n. said (here u t h mid) line (Done (Counted n))) (sym c.from.ensures)

pub returns-in-Err-clause-step : goal.returns-in-Err-clause-step
returns-in-Err-clause-step g c =
    let s = g.P.Plant.state c.args.plant.now in let t = c.args.config.now in let h = c.args.tables.now in let ev = c.args.journal.now.events in
    let e = mapped_some (λ (e : VolumeEntry). e.server) _ _ c.in-Some.ensures.value in
    let owner : (volume_seen s t c.args.v.0).server ≡ c.in-Some.server.0 = (seen-entry s t c.args.v.0 e.0 e.1).0 ∙ e.2 in
    let runs : on_seen s (volume_seen s t c.args.v.0).server ≡ true = ap (on_seen s) owner ∙ on-seen s c.in-Some.server.0 c.in-Some.ensures.defined.below ∙ sym c.if-not-is_on.ensures in
    destage-failed s t h ev c.args.v.0 c.requires.ready.reads e.0 e.1 runs (g.P.Plant.state c.destage_told.new.plant) c.destage_told.new.journal.events c.in-Err.refusal (c.in-Err.ensures.fails (rest_of h ev))

pub returns-in-Ok-clause-ready : goal.returns-in-Ok-clause-ready
returns-in-Ok-clause-ready g c =
    let s = g.P.Plant.state c.args.plant.now in let t = c.args.config.now in let h = c.args.tables.now in let ev = c.args.journal.now.events in
    let e = mapped_some (λ (e : VolumeEntry). e.server) _ _ c.in-Some.ensures.value in
    let owner : (volume_seen s t c.args.v.0).server ≡ c.in-Some.server.0 = (seen-entry s t c.args.v.0 e.0 e.1).0 ∙ e.2 in
    let runs : on_seen s (volume_seen s t c.args.v.0).server ≡ true = ap (on_seen s) owner ∙ on-seen s c.in-Some.server.0 c.in-Some.ensures.defined.below ∙ sym c.if-not-is_on.ensures in
    led-ready s t h ev c.args.v.0 c.requires.ready.reads e.0 e.1 runs (g.P.Plant.state c.destage_told.new.plant) c.destage_told.new.journal.events (c.in-Ok.ensures.leads (rest_of h ev)) c.in-Ok.ensures.at.rest c.in-Ok.ensures.unarmed c.requires.ready.told

pub returns-in-Err-clause-ready : goal.returns-in-Err-clause-ready
returns-in-Err-clause-ready g c =
    let s = g.P.Plant.state c.args.plant.now in let t = c.args.config.now in let h = c.args.tables.now in let ev = c.args.journal.now.events in
    let e = mapped_some (λ (e : VolumeEntry). e.server) _ _ c.in-Some.ensures.value in
    let owner : (volume_seen s t c.args.v.0).server ≡ c.in-Some.server.0 = (seen-entry s t c.args.v.0 e.0 e.1).0 ∙ e.2 in
    let runs : on_seen s (volume_seen s t c.args.v.0).server ≡ true = ap (on_seen s) owner ∙ on-seen s c.in-Some.server.0 c.in-Some.ensures.defined.below ∙ sym c.if-not-is_on.ensures in
    failed-ready s t h ev c.args.v.0 c.requires.ready.reads e.0 e.1 runs (g.P.Plant.state c.destage_told.new.plant) c.destage_told.new.journal.events c.in-Err.refusal (c.in-Err.ensures.fails (rest_of h ev)) c.in-Err.ensures.at.rest c.in-Err.ensures.unarmed c.requires.ready.told
