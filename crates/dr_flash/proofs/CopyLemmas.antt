-- What the targets of a source keep, from one volume of the configuration to the next.
use Rattle.std.proofs.Common.{ℕ, ◌≡◌, ◌≤◌, ◌<◌, ◌+◌, suc, zero, arith, inl, inr, nat_eq, true, false, not, List, [], ◌∷◌, drop, length, map, slice_get, refl, sym, ◌∙◌, ap, subst, Option, Some, None}
use Rattle.std.specs.Prelude.{option_map, unwrap_or, is_some, ◌&&◌}
use Rattle.std.proofs.Math.Numerals.{suc-eq-add-one}
use Rattle.std.proofs.lemmas.List.{drop_all}
use Rattle.dr_plant.specs.State.{PlantState}
use Rattle.dr_config.specs.Table.{ConfigTable, place_of, IsSoundConfig}
use Rattle.dr_config.specs.declared.entries.VolumeEntry.{VolumeEntry}
use Rattle.dr_model.specs.Carry.{Entry}
use Rattle.dr_model.specs.Entries.{keep_on, copies_from}
use Rattle.dr_volume.specs.View.{ids_of, volume_seen}
use Rattle.dr_volume.proofs.HeadLaws.{entry-there}
use Rattle.dr_flash.specs.Heads.{id_at}
use Rattle.dr_flash.specs.Views.{kept_for}
use Rattle.dr_moves.proofs.FitLemmas.{target-no_source}
use Rattle.dr_moves.specs.Fit.{RelationsFit}
use Rattle.dr_ids.specs.declared.names.VolumeId.{VolumeId}
use Rattle.std.proofs.lemmas.Bool.Decides.{eqb_tells}

-- those from a place on
abbrev pub keeps_from : ConfigTable → ℕ → ℕ → ℕ → List Entry
keeps_from t v k place = map (keep_on v k) (ids_of (drop place t.volumes))

drop-at : (es : List VolumeEntry) (i v : ℕ) → Some v ≡ option_map (λ (e : VolumeEntry). e.id) (slice_get es i) → ids_of (drop i es) ≡ v ∷ ids_of (drop (suc i) es)
drop-at [] i v h = cc
drop-at (e ∷ es) zero v h = let same : v ≡ e.id = cc in ap (λ x. x ∷ ids_of es) (sym same)
drop-at (e ∷ es) (suc i) v h = drop-at es i v h

pub ids-next : (t : ConfigTable) (place u : ℕ) → Some u ≡ option_map (λ (e : VolumeEntry). e.id) (slice_get t.volumes place) → ids_of (drop place t.volumes) ≡ u ∷ ids_of (drop (place + 1) t.volumes)
ids-next t place u at = drop-at t.volumes place u at ∙ ap (λ n. u ∷ ids_of (drop n t.volumes)) (suc-eq-add-one place)

pub keeps-next : (t : ConfigTable) (v k place u : ℕ) → Some u ≡ option_map (λ (e : VolumeEntry). e.id) (slice_get t.volumes place) → keeps_from t v k place ≡ keep_on v k u ∷ keeps_from t v k (place + 1)
keeps-next t v k place u at = ap (map (keep_on v k)) (ids-next t place u at)

pub keeps-none : (t : ConfigTable) (v k place : ℕ) → length t.volumes ≤ place → keeps_from t v k place ≡ []
keeps-none t v k place all = ap (λ es. map (keep_on v k) (ids_of es)) (drop_all place t.volumes all)

at-some : (es : List VolumeEntry) (i : ℕ) → i < length es → is_some (slice_get es i) ≡ true
at-some [] i h = absurd (omega (arith, h))
at-some (e ∷ es) zero h = refl
at-some (e ∷ es) (suc i) h = at-some es i (omega (arith, h))

mapped-some : {A B C : Type 0} (f : A → C) (g : B → C) (o : Option A) (x : Option B) → option_map f o ≡ option_map g x → is_some x ≡ true → is_some o ≡ true
mapped-some f g None (Some b) e is = absurd cc
mapped-some f g None None e is = is
mapped-some f g (Some a) x e is = refl

-- a place below the count has a volume
pub volume-there : (t : ConfigTable) (i : ℕ) (o : Option VolumeId) → option_map (λ (v : VolumeId). v.0) o ≡ option_map (λ (e : VolumeEntry). e.id) (slice_get t.volumes i) → i < length t.volumes → is_some o ≡ true
volume-there t i o is low = mapped-some (λ (v : VolumeId). v.0) (λ (e : VolumeEntry). e.id) o (slice_get t.volumes i) is (at-some t.volumes i low)

-- no volume is its own target
pub no-own : (s : PlantState) (t : ConfigTable) (v : ℕ) → RelationsFit s t → copies_from v (volume_seen s t v).fields ≡ false
no-own s t v fit =
    let f = (volume_seen s t v).fields in
    elim f.related as (λ b. f.related ≡ b → (b && nat_eq f.source v) ≡ false) [
      | false ↦ λ is. refl
      | true ↦ λ is. elim (eqb_tells f.source v) as (λ _. nat_eq f.source v ≡ false) [
        | inl p ↦ absurd (target-no_source s t v v fit is is p.1)
        | inr p ↦ p.0
      ]
    ] refl

pub kept-no_own : (s : PlantState) (t : ConfigTable) (v : ℕ) → RelationsFit s t → kept_for v (volume_seen s t v).fields ≡ false
kept-no_own s t v fit = ap (λ b. b && not (volume_seen s t v).fields.reversing) (no-own s t v fit)

-- the volume at a place below the count
pub id-there : (t : ConfigTable) (i : ℕ) → i < length t.volumes → Some (id_at t i) ≡ option_map (λ (e : VolumeEntry). e.id) (slice_get t.volumes i)
id-there t i low =
    let e = entry-there t i low in
    subst (λ o. Some (unwrap_or (option_map (λ (e : VolumeEntry). e.id) o) 0) ≡ option_map (λ (e : VolumeEntry). e.id) o) (sym e.1) refl

pub place-there : (t : ConfigTable) (i : ℕ) → IsSoundConfig t → i < length t.volumes → place_of t (id_at t i) ≡ Some i
place-there t i sound low =
    let e = entry-there t i low in
    subst (λ o. place_of t (unwrap_or (option_map (λ (e : VolumeEntry). e.id) o) 0) ≡ Some i) (sym e.1) (sound.volume i e.0 e.1).own
