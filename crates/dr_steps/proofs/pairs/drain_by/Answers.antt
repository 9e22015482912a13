use Rattle.std.proofs.Common.{◌≡◌, true, refl, sym, ap, ◌∙◌, subst, Some, None, ◌&&◌}
use Rattle.std.specs.Prelude.{is_some}
use Rattle.std.proofs.lemmas.Bool.{and_parts}
use Rattle.dr_config.proofs.Lookups.{place-of-entry, none-mapped}
use Rattle.dr_config.specs.declared.entries.VolumeEntry.{VolumeEntry}
use Rattle.dr_model.specs.Refusals.{server_off}
use Rattle.dr_model.specs.Plans.{drain_plan}
use Rattle.dr_model.specs.declared.said.Said.TheVariants.{Done}
use Rattle.dr_model.specs.declared.said.Addition.TheVariants.{Counted}
use Rattle.dr_model.specs.Layout.{is_part}
use Rattle.dr_model.specs.Pairs.{is_pending}
use Rattle.dr_volume.specs.declared.head.Head.{Head}
use Rattle.dr_volume.specs.View.{volume_seen, on_seen}
use Rattle.dr_steps.specs.Here.{here, rest_of, Carries}
use Rattle.dr_steps.proofs.LocatedLemmas.{mapped_some, seen-entry}
use Rattle.dr_steps.proofs.LandLemmas.{ready-after}
use Rattle.dr_steps.proofs.DrainLemmas.{drain-nowhere, drain-off, drain-unfit, drain-done, drain-failed, drain-told}
use Rattle.dr_steps.proofs.pairs.drain_by.Goals as goal
use Rattle.dr_volume.proofs.WorldLaws.{on-seen}

pub returns-in_default-clause-step : goal.returns-in_default-clause-step
returns-in_default-clause-step g c =
    drain-nowhere (g.P.Plant.state c.args.plant.now) c.args.config.now c.args.tables.now c.args.journal.now.events c.args.a.0 c.requires.ready.reads c.args.most _ (none-mapped _ _ c.in_default.ensures.value) refl

pub returns-then-not-is_on-clause-step : goal.returns-then-not-is_on-clause-step
returns-then-not-is_on-clause-step g c =
    let s = g.P.Plant.state c.args.plant.now in let t = c.args.config.now in let h = c.args.tables.now in let ev = c.args.journal.now.events in
    let e = mapped_some (λ (e : VolumeEntry). e.server) _ _ c.in-Some.ensures.value in
    let owner : (volume_seen s t c.args.a.0).server ≡ c.in-Some.server.0 = (seen-entry s t c.args.a.0 e.0 e.1).0 ∙ e.2 in
    drain-off s t h ev c.args.a.0 c.requires.ready.reads c.args.most e.0 e.1 _ (ap (on_seen s) owner ∙ on-seen s c.in-Some.server.0 c.in-Some.ensures.defined.below ∙ sym c.if-not-is_on.ensures) (ap server_off (sym owner))

pub pair_state-requires-clause-defined : goal.pair_state-requires-clause-defined
pair_state-requires-clause-defined g c =
    let e = mapped_some (λ (e : VolumeEntry). e.server) _ _ c.in-Some.ensures.value in
    ap is_some (place-of-entry c.args.config.now c.args.a.0 e.0 e.1).1

pub returns-then-not-is_copying-clause-step : goal.returns-then-not-is_copying-clause-step
returns-then-not-is_copying-clause-step g c =
    let s = g.P.Plant.state c.args.plant.now in let t = c.args.config.now in let h = c.args.tables.now in let ev = c.args.journal.now.events in
    let e = mapped_some (λ (e : VolumeEntry). e.server) _ _ c.in-Some.ensures.value in
    let owner : (volume_seen s t c.args.a.0).server ≡ c.in-Some.server.0 = (seen-entry s t c.args.a.0 e.0 e.1).0 ∙ e.2 in
    let runs : on_seen s (volume_seen s t c.args.a.0).server ≡ true = ap (on_seen s) owner ∙ on-seen s c.in-Some.server.0 c.in-Some.ensures.defined.below ∙ sym c.if-not-is_on.ensures in
    let may = ap (λ (h : Head). is_part h.primary && is_pending h.primary_state) (sym c.requires.head) ∙ sym c.if-not-is_copying.ensures in
    drain-unfit s t h ev c.args.a.0 c.requires.ready.reads c.args.most e.0 e.1 runs c.pair_state.result may (c.pair_state.ensures.refusal (rest_of h ev) ev)

pub drain_over-requires-clause-from : goal.drain_over-requires-clause-from
drain_over-requires-clause-from g c =
    let e = mapped_some (λ (e : VolumeEntry). e.server) _ _ c.in-Some.ensures.value in
    ap is_some (place-of-entry c.args.config.now c.args.a.0 e.0 e.1).1

pub drain_over-requires-clause-running : goal.drain_over-requires-clause-running
drain_over-requires-clause-running g c =
    let s = g.P.Plant.state c.args.plant.now in let t = c.args.config.now in
    let e = mapped_some (λ (e : VolumeEntry). e.server) _ _ c.in-Some.ensures.value in
    let owner : (volume_seen s t c.args.a.0).server ≡ c.in-Some.server.0 = (seen-entry s t c.args.a.0 e.0 e.1).0 ∙ e.2 in
    ap s.on owner ∙ sym c.if-not-is_on.ensures

pub drain_over-requires-clause-primary : goal.drain_over-requires-clause-primary
drain_over-requires-clause-primary g c =
    let may = ap (λ (h : Head). is_part h.primary && is_pending h.primary_state) (sym c.requires.head) ∙ sym c.if-not-is_copying.ensures in
    (and_parts _ _ may).0

pub returns-in-Ok-clause-step : goal.returns-in-Ok-clause-step
returns-in-Ok-clause-step g c =
    let s = g.P.Plant.state c.args.plant.now in let t = c.args.config.now in let h = c.args.tables.now in let ev = c.args.journal.now.events in
    let e = mapped_some (λ (e : VolumeEntry). e.server) _ _ c.in-Some.ensures.value in
    let owner : (volume_seen s t c.args.a.0).server ≡ c.in-Some.server.0 = (seen-entry s t c.args.a.0 e.0 e.1).0 ∙ e.2 in
    let runs : on_seen s (volume_seen s t c.args.a.0).server ≡ true = ap (on_seen s) owner ∙ on-seen s c.in-Some.server.0 c.in-Some.ensures.defined.below ∙ sym c.if-not-is_on.ensures in
    let may = ap (λ (h : Head). is_part h.primary && is_pending h.primary_state) (sym c.requires.head) ∙ sym c.if-not-is_copying.ensures in
    let u = here (g.P.Plant.state c.drain_over.new.plant) t h c.drain_over.new.journal.events in
    let count = sym c.in-Ok.ensures.count ∙ sym c.from.ensures in
    subst (λ n. Carries (here s t h ev) (drain_plan (here s t h ev).control c.args.a.0 c.args.most) u (Done (Counted n))) count
    (drain-done s t h ev c.args.a.0 c.requires.ready.reads c.args.most e.0 e.1 runs may u c.in-Ok.ensures.carried)

pub returns-in-Ok-clause-ready : goal.returns-in-Ok-clause-ready
returns-in-Ok-clause-ready g c =
    let s = g.P.Plant.state c.args.plant.now in let t = c.args.config.now in let h = c.args.tables.now in let ev = c.args.journal.now.events in
    let u = here (g.P.Plant.state c.drain_over.new.plant) t h c.drain_over.new.journal.events in
    ready-after t s (g.P.Plant.state c.drain_over.new.plant) h c.drain_over.new.journal.events c.requires.ready.reads c.in-Ok.ensures.rest c.in-Ok.ensures.unarmed (drain-told s t h ev c.args.a.0 c.requires.ready.reads c.args.most u None c.in-Ok.ensures.carried c.requires.ready.told)

pub returns-in-Err-clause-step : goal.returns-in-Err-clause-step
returns-in-Err-clause-step g c =
    let s = g.P.Plant.state c.args.plant.now in let t = c.args.config.now in let h = c.args.tables.now in let ev = c.args.journal.now.events in
    let e = mapped_some (λ (e : VolumeEntry). e.server) _ _ c.in-Some.ensures.value in
    let owner : (volume_seen s t c.args.a.0).server ≡ c.in-Some.server.0 = (seen-entry s t c.args.a.0 e.0 e.1).0 ∙ e.2 in
    let runs : on_seen s (volume_seen s t c.args.a.0).server ≡ true = ap (on_seen s) owner ∙ on-seen s c.in-Some.server.0 c.in-Some.ensures.defined.below ∙ sym c.if-not-is_on.ensures in
    let may = ap (λ (h : Head). is_part h.primary && is_pending h.primary_state) (sym c.requires.head) ∙ sym c.if-not-is_copying.ensures in
    drain-failed s t h ev c.args.a.0 c.requires.ready.reads c.args.most e.0 e.1 runs may (here (g.P.Plant.state c.drain_over.new.plant) t h c.drain_over.new.journal.events) c.in-Err.refusal c.in-Err.ensures.carried

pub returns-in-Err-clause-ready : goal.returns-in-Err-clause-ready
returns-in-Err-clause-ready g c =
    let s = g.P.Plant.state c.args.plant.now in let t = c.args.config.now in let h = c.args.tables.now in let ev = c.args.journal.now.events in
    let u = here (g.P.Plant.state c.drain_over.new.plant) t h c.drain_over.new.journal.events in
    ready-after t s (g.P.Plant.state c.drain_over.new.plant) h c.drain_over.new.journal.events c.requires.ready.reads c.in-Err.ensures.rest c.in-Err.ensures.unarmed (drain-told s t h ev c.args.a.0 c.requires.ready.reads c.args.most u (Some c.in-Err.refusal) c.in-Err.ensures.carried c.requires.ready.told)
