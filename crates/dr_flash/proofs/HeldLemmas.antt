-- What the targets of a volume hold before a track of it changes, and what volumes show when it has changed.
use Rattle.std.proofs.Common.{ℕ, ◌≡◌, ◌≢◌, ◌⊎◌, inl, inr, ◌<◌, ◌≤◌, ◌+◌, arith, true, false, None, Some, slice_get, length, refl, sym, ◌∙◌, ap, subst}
use Rattle.std.specs.Prelude.{option_map}
use Rattle.std.specs.FinSet.{contains}
use Rattle.std.proofs.lemmas.Bool.{cases_eq, and_parts}
use Rattle.std.proofs.lemmas.Option.{slice_get_within}
use Rattle.dr_plant.specs.State.{PlantState}
use Rattle.dr_config.specs.Table.{ConfigTable, place_of}
use Rattle.dr_config.specs.declared.entries.VolumeEntry.{VolumeEntry}
use Rattle.dr_config.proofs.Lookups.{entry-at-place}
use Rattle.dr_model.specs.Control.{Volume}
use Rattle.dr_volume.specs.Update.{IsAsBefore, OthersStay}
use Rattle.dr_volume.specs.View.{volume_seen, volume_at}
use Rattle.dr_flash.specs.Views.{kept_for, HoldsTrack, KeepsTrack}
use Rattle.dr_moves.proofs.KeptLemmas.{before-then}

-- the volumes of the places so far hold it
abbrev pub HeldBelow : PlantState → PlantState → ConfigTable → ℕ → ℕ → ℕ → Type 0
HeldBelow s u t v k n = (d : ℕ) → d < n → (e : VolumeEntry) → slice_get t.volumes d ≡ Some e → KeepsTrack s u t v k e.id

-- each volume is as it was, or holds it
abbrev pub SameOrHeld : PlantState → PlantState → ConfigTable → ℕ → Type 0
SameOrHeld s u t k = (q : ℕ) → IsAsBefore s u t q ⊎ HoldsTrack u t k q

-- from s to m, and then u was looked at
module _ (s m n : PlantState) (t : ConfigTable) (v k u : ℕ) (stay : OthersStay m n t u) (held : KeepsTrack m n t v k u) (apart : (q : ℕ) → kept_for v (volume_seen m t q).fields ≡ false → IsAsBefore m n t q) where
  still : (q : ℕ) → IsAsBefore m n t q → HoldsTrack m t k q → HoldsTrack n t k q
  still q same h = subst (λ (x : Volume). x.fields.related ≡ true → contains x.fields.own k ≡ true) (sym same.volume) h

  -- u itself
  here : IsAsBefore m n t u ⊎ HoldsTrack n t k u
  here = elim (kept_for v (volume_seen m t u).fields) as (λ b. kept_for v (volume_seen m t u).fields ≡ b → IsAsBefore m n t u ⊎ HoldsTrack n t k u) [
    | true ↦ λ is. inr (held is)
    | false ↦ λ is. inl (apart u is)
  ] refl

  each : (q : ℕ) → IsAsBefore m n t q ⊎ HoldsTrack n t k q
  each q = elim (cases_eq q u) as (λ _. IsAsBefore m n t q ⊎ HoldsTrack n t k q) [
    | inr ne ↦ inl (stay q ne)
    | inl is ↦ subst (λ z. IsAsBefore m n t z ⊎ HoldsTrack n t k z) (sym is) here
  ]

  joined : (q : ℕ) → IsAsBefore s m t q ⊎ HoldsTrack m t k q → IsAsBefore m n t q ⊎ HoldsTrack n t k q → IsAsBefore s n t q ⊎ HoldsTrack n t k q
  joined q a (inr h) = inr h
  joined q (inl x) (inl y) = inl (before-then s m n t q x y)
  joined q (inr h) (inl y) = inr (still q y h)

  pub same-or-held : SameOrHeld s m t k → SameOrHeld s n t k
  same-or-held before q = joined q (before q) (each q)

  own-kept : IsAsBefore s m t u ⊎ HoldsTrack m t k u → IsAsBefore m n t u ⊎ HoldsTrack n t k u → KeepsTrack s n t v k u
  own-kept a (inr h) is = h
  own-kept (inr h) (inl y) is = still u y h
  own-kept (inl x) (inl y) is = held (ap (λ (z : Volume). kept_for v z.fields) x.volume ∙ is)

  kept-on : (q : ℕ) → SameOrHeld s m t k → (q ≢ u → KeepsTrack s m t v k q) → KeepsTrack s n t v k q
  kept-on q before earlier = elim (cases_eq q u) as (λ _. KeepsTrack s n t v k q) [
    | inl is ↦ subst (λ z. KeepsTrack s n t v k z) (sym is) (own-kept (before u) here)
    | inr ne ↦ λ is. still q (stay q ne) (earlier ne is)
  ]

  pub held-below : (place : ℕ) → Some u ≡ option_map (λ (e : VolumeEntry). e.id) (slice_get t.volumes place) → SameOrHeld s m t k → HeldBelow s m t v k place → HeldBelow s n t v k (place + 1)
  held-below place at before below d low e is = kept-on e.id before (λ ne. elim (cases_eq d place) as (λ _. KeepsTrack s m t v k e.id) [
    | inl p ↦ absurd (ne (let x : Some u ≡ Some e.id = at ∙ ap (λ z. option_map (λ (e : VolumeEntry). e.id) (slice_get t.volumes z)) (sym p) ∙ ap (option_map (λ (e : VolumeEntry). e.id)) is in cc))
    | inr p ↦ below d (omega (arith, low, p)) e is
  ])

-- all places were looked at
pub held-all : (s u : PlantState) (t : ConfigTable) (v k n : ℕ) → length t.volumes ≤ n → HeldBelow s u t v k n → (q : ℕ) → KeepsTrack s u t v k q
held-all s u t v k n all below q is =
    elim (place_of t q) as (λ o. place_of t q ≡ o → HoldsTrack u t k q) [
      | None ↦ λ at. absurd (let e : false ≡ true = sym (ap (λ o. (volume_at s t o).fields.related) at) ∙ (and_parts _ _ ((and_parts _ _ is).0)).0 in cc)
      | Some d ↦ λ at.
          let x = entry-at-place t q d at in
          let low = slice_get_within t.volumes d x.0 x.1 in
          subst (λ z. KeepsTrack s u t v k z) x.3 (below d (omega (arith, low, all)) x.0 x.1) is
    ] refl
