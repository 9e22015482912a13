-- What a target shows after it was flashed, and after its flash was committed or reverted.
use Rattle.std.proofs.Common.{ℕ, List, ◌≡◌, ◌≢◌, Bool, true, false, not, ◌&&◌, refl, sym, ◌∙◌, ap, Option, None, Some}
use Rattle.std.specs.Prelude.{if◌then◌else◌, slice_get}
use Rattle.std.specs.FinSet.{contains, difference}
use Rattle.std.proofs.lemmas.Bool.{and_parts}
use Rattle.dr_logic.specs.Bytes.{zeros}
use Rattle.dr_bits.specs.Tracks.{Tracks}
use Rattle.dr_plant.specs.State.{PlantState}
use Rattle.dr_config.specs.Table.{ConfigTable, place_of}
use Rattle.dr_config.specs.declared.entries.VolumeEntry.{VolumeEntry}
use Rattle.dr_model.specs.Layout.{Fields, Blocks, fields_of}
use Rattle.dr_model.specs.Control.{Volume}
use Rattle.dr_model.specs.Entries.{copies_from}
use Rattle.dr_model.specs.SessionEntries.{may_flash}
use Rattle.dr_model.specs.Relations.{flashed, committed, reverted}
use Rattle.dr_model.specs.Views.{shows_source}
use Rattle.dr_volume.specs.Update.{IsMoved, OthersStay}
use Rattle.dr_volume.specs.View.{volume_on, volume_at, volume_seen, track_seen}
use Rattle.dr_moves.specs.Fit.{RelationsFit}
use Rattle.dr_flash.specs.Views.{view_seen}
use Rattle.dr_incr.specs.Copies.{HoldsUnchanged}
use Rattle.dr_incr.proofs.TargetLemmas.{TargetOf, target-of}
use Rattle.dr_moves.specs.Aside.{KeepsAside}
use Rattle.dr_revert.specs.Views.{previous_seen, set_back}
use Rattle.dr_facts.proofs.Tracks.{from_difference}

-- what a target with that source reads as, where it holds these tracks
abbrev track_with : PlantState → ConfigTable → ℕ → Bool → ℕ → Tracks → ℕ → List ℕ
track_with s c t related source own k = if related && not (contains own k) then track_seen s c source k else track_seen s c t k

-- a target is none of its own, nor is its source a target
pub source-apart : (s : PlantState) (c : ConfigTable) (t : ℕ) → RelationsFit s c → (volume_seen s c t).fields.related ≡ true → (volume_seen s c t).fields.source ≢ t
source-apart s c t fit related is =
    let e : true ≡ false = sym related ∙ ap (λ z. (volume_seen s c z).fields.related) (sym is) ∙ (fit.source t related).plain in cc

module _ (s u : PlantState) (c : ConfigTable) (t : ℕ) (g : Fields) (is : IsMoved s u c t g None) (others : OthersStay s u c t) (fit : RelationsFit s c) (related : (volume_seen s c t).fields.related ≡ true) where
  abbrev f : Fields
  f = (volume_seen s c t).fields

  -- the tracks that it holds and that aren't blank are as they were, and so are its source's
  track-kept : (own : Tracks) (k : ℕ) → (contains own k ≡ true → contains g.blank k ≡ false) → track_with u c t f.related f.source own k ≡ track_with s c t f.related f.source own k
  track-kept own k apart = elim (contains own k) as (λ b. contains own k ≡ b → (if f.related && not b then track_seen u c f.source k else track_seen u c t k) ≡ (if f.related && not b then track_seen s c f.source k else track_seen s c t k)) [
    | false ↦ λ shared.
        ap (λ b. if b && true then track_seen u c f.source k else track_seen u c t k) related
        ∙ ap (λ (z : ℕ → List ℕ). z k) (others f.source (source-apart s c t fit related)).tracks
        ∙ sym (ap (λ b. if b && true then track_seen s c f.source k else track_seen s c t k) related)
    | true ↦ λ own.
        ap (λ b. if b && false then track_seen u c f.source k else track_seen u c t k) related
        ∙ ap (λ (z : ℕ → List ℕ). z k) is.tracks
        ∙ ap (λ b. if b then zeros else track_seen s c t k) (apart own)
        ∙ sym (ap (λ b. if b && false then track_seen s c f.source k else track_seen s c t k) related)
  ] refl

module _ (s u : PlantState) (c : ConfigTable) (t : ℕ) (fit : RelationsFit s c) (related : (volume_seen s c t).fields.related ≡ true) (others : OthersStay s u c t) where
  abbrev old : Fields
  old = (volume_seen s c t).fields

  -- a flash keeps aside what the target showed
  pub flash-keeps : (k n : ℕ) → IsMoved s u c t (flashed k n (volume_seen s c t).fields) None → (q : ℕ) → previous_seen u c t q ≡ view_seen s c t q
  flash-keeps k n is q =
      ap (λ (x : Volume). if shows_source (set_back x.fields) q then track_seen u c x.fields.source q else track_seen u c t q) is.volume
      ∙ track-kept s u c t (flashed k n old) is others fit related old.own q (fit.apart t q)

  -- and shows the source, where what it holds unchanged is the same
  pub flash-shows : (v k n : ℕ) → IsMoved s u c t (flashed k n (volume_seen s c t).fields) None → may_flash v (volume_seen s c t).fields ≡ true → HoldsUnchanged s c t → (q : ℕ) → view_seen u c t q ≡ track_seen u c v q
  flash-shows v k n is may holds q =
      ap (λ (x : Volume). if shows_source x.fields q then track_seen u c x.fields.source q else track_seen u c t q) is.volume
      ∙ track-kept s u c t (flashed k n old) is others fit related own q (λ h. fit.apart t q (held h).0)
      ∙ (elim (contains own q) as (λ b. contains own q ≡ b → (if old.related && not b then track_seen s c old.source q else track_seen s c t q) ≡ track_seen s c old.source q) [
        | false ↦ λ shared. ap (λ b. if b && true then track_seen s c old.source q else track_seen s c t q) related
        | true ↦ λ h.
            ap (λ b. if b && false then track_seen s c old.source q else track_seen s c t q) related
            ∙ holds related recorded forward q (held h).0 (held h).1 (held h).2
      ] refl)
      ∙ sym (ap (λ (z : ℕ → List ℕ). z q) (others old.source (source-apart s c t fit related)).tracks)
      ∙ ap (λ z. track_seen u c z q) to.source
    where
      own : Tracks
      own = difference (difference old.own old.source_changes) old.target_changes

      to : TargetOf s c v t
      to = target-of s c v t fit (and_parts (copies_from v old) _ may).0

      recorded : old.recorded ≡ true
      recorded = (and_parts old.recorded _ (and_parts (copies_from v old) _ may).1).0

      not-true : (b : Bool) → not b ≡ true → b ≡ false
      not-true true h = absurd cc
      not-true false h = refl

      forward : old.reversing ≡ false
      forward = not-true old.reversing (and_parts (not old.reversing) _ (and_parts old.inhibited _ (and_parts old.recorded _ (and_parts (copies_from v old) _ may).1).1).1).0

      held : contains own q ≡ true → (contains old.own q ≡ true) × (contains old.source_changes q ≡ false) × (contains old.target_changes q ≡ false)
      held h =
          let x = from_difference (difference old.own old.source_changes) old.target_changes q h in
          let y = from_difference old.own old.source_changes q x.0 in
          (y.0, y.1, x.1)

  -- a commit changes nothing of what it shows
  pub commit-keeps : (n : ℕ) → IsMoved s u c t (committed n (volume_seen s c t).fields) None → (q : ℕ) → view_seen u c t q ≡ view_seen s c t q
  commit-keeps n is q =
      ap (λ (x : Volume). if shows_source x.fields q then track_seen u c x.fields.source q else track_seen u c t q) is.volume
      ∙ track-kept s u c t (committed n old) is others fit related old.own q (fit.apart t q)

  -- a revert shows again what was kept aside
  pub revert-shows : (n : ℕ) → KeepsAside (volume_seen s c t).fields → (volume_seen s c t).fields.revertible ≡ true → IsMoved s u c t (reverted n (volume_seen s c t).fields) None → (q : ℕ) → view_seen u c t q ≡ previous_seen s c t q
  revert-shows n keeps may is q =
      ap (λ (x : Volume). if shows_source x.fields q then track_seen u c x.fields.source q else track_seen u c t q) is.volume
      ∙ track-kept s u c t (reverted n old) is others fit related old.previous_own q (keeps may q)

-- a volume that is seen to be revertible is a target
revertible-on : (blocks : Blocks) (e : Option VolumeEntry) → (volume_on blocks e).fields.revertible ≡ true → (volume_on blocks e).fields.related ≡ true
unfolding fields_of
revertible-on blocks None is = absurd cc
revertible-on blocks (Some e) is = (and_parts _ _ is).0

revertible-at : (s : PlantState) (c : ConfigTable) (d : Option ℕ) → (volume_at s c d).fields.revertible ≡ true → (volume_at s c d).fields.related ≡ true
revertible-at s c None is = absurd cc
revertible-at s c (Some d) is = revertible-on (s.block d) (slice_get c.volumes d) is

pub revertible-seen : (s : PlantState) (c : ConfigTable) (t : ℕ) → (volume_seen s c t).fields.revertible ≡ true → (volume_seen s c t).fields.related ≡ true
revertible-seen s c t is = revertible-at s c (place_of c t) is

-- where nothing happened, all is shown as it was
pub same-view : (s u : PlantState) (c : ConfigTable) (t : ℕ) → u ≡ s → (q : ℕ) → view_seen u c t q ≡ view_seen s c t q
same-view s u c t is q = ap (λ (x : PlantState). view_seen x c t q) is
