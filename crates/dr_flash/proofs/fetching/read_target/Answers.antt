use Rattle.std.proofs.Common.{ℕ, ◌≡◌, ap, sym, subst, ◌∙◌, true}
use Rattle.std.specs.Prelude.{is_some}
use Rattle.std.proofs.lemmas.Bool.{and_parts}
use Rattle.dr_plant.specs.State.{PlantState, after_read, can_read}
use Rattle.dr_plant.proofs.StateLemmas.{read_done}
use Rattle.dr_config.specs.Table.{ConfigTable, StandsFor, place_of}
use Rattle.dr_model.specs.Views.{shows_source}
use Rattle.dr_volume.specs.View.{volume_seen, device_of}
use Rattle.dr_moves.specs.Fit.{RelationsFit, SourceFits}
use Rattle.dr_flash.proofs.FetchLemmas.{can-alike}
use Rattle.dr_flash.proofs.fetching.read_target.Goals as goal

-- the source that shows a track can be read if its target can
source-alike : (s x : PlantState) (t : ConfigTable) (v k u : ℕ) → x ≡ s → StandsFor t s → is_some (place_of t v) ≡ true → RelationsFit s t → (shows_source (volume_seen x t v).fields k ≡ true) × (u ≡ (volume_seen x t v).fields.source) → can_read s (device_of t u) ≡ can_read s (device_of t v)
source-alike s x t v k u same stands defined fit shown =
    let here = subst (λ y. (shows_source (volume_seen y t v).fields k ≡ true) × (u ≡ (volume_seen y t v).fields.source)) same shown in
    let related : (volume_seen s t v).fields.related ≡ true = (and_parts _ _ here.0).0 in
    can-alike s t v u stands defined (subst (λ z. SourceFits (is_some (place_of t z)) (volume_seen s t v) (volume_seen s t z)) (sym here.1) (fit.source v related))

pub returns-in-Some-clause-state : goal.returns-in-Some-clause-state
returns-in-Some-clause-state g c =
    let s = g.P.Plant.state c.args.plant.now in
    let t = c.args.config.now in
    let v = c.args.v.0 in
    let u = c.in-Some.source.0 in
    let same = c.in_ok-open_gate.ensures.same in
    let can : can_read s (device_of t v) ≡ true = sym c.in_ok-open_gate.ensures.done in
    let both = source-alike s _ t v c.args.t u same c.requires.stands c.requires.defined c.requires.fit c.in-Some.ensures.source in
    c.read_track.ensures.state ∙ ap (λ (x : PlantState). after_read x (device_of t u)) same ∙ read_done s (device_of t u) (both ∙ can) ∙ sym (read_done s (device_of t v) can)

pub returns-in-Some-clause-done : goal.returns-in-Some-clause-done
returns-in-Some-clause-done g c =
    let s = g.P.Plant.state c.args.plant.now in
    let t = c.args.config.now in
    let u = c.in-Some.source.0 in
    let same = c.in_ok-open_gate.ensures.same in
    c.read_track.ensures.done
    ∙ ap (λ (x : PlantState). can_read x (device_of t u)) same
    ∙ source-alike s _ t c.args.v.0 c.args.t u same c.requires.stands c.requires.defined c.requires.fit c.in-Some.ensures.source
