-- The laws of what a move saves, by what is looked at before it.
use Rattle.std.proofs.Common.{ℕ, ◌≡◌, ◌<◌, ◌+◌, Bool, true, false, List, map, refl, sym, ◌∙◌, ap, subst, arith, Option, None, Some}
use Rattle.std.specs.Prelude.{is_none, IfSome, unwrap_or}
use Rattle.std.specs.List.{list_all, range_with_len}
use Rattle.std.proofs.lemmas.List.Folds.{list_all_at}
use Rattle.dr_ids.specs.Sizes.{side_block, blocks_of}
use Rattle.dr_plant.specs.State.{PlantState}
use Rattle.dr_record.specs.Slots.{slot_of}
use Rattle.dr_config.specs.Table.{ConfigTable, StandsFor}
use Rattle.dr_model.specs.Control.{Volume}
use Rattle.dr_model.specs.Layout as layout
use Rattle.dr_model.specs.Layout.{Blocks, Entries, chosen, slot_begin, entry_at, entry_in, entry_taken, entries_of}
use Rattle.dr_model.specs.Lawful.{HasEntries}
use Rattle.dr_volume.specs.View.{volume_seen, track_seen}
use Rattle.dr_volume.specs.Volume.{LiesOn}
use Rattle.dr_volume.specs.Update.{side_for, saving, saving_seen}
use Rattle.dr_volume.proofs.VolumeLaws.{entry, volume-placed, device-stands}
use Rattle.dr_volume.proofs.EntryLaws.{entry-within, get_or_default}
use Rattle.dr_volume.proofs.TakenLaws.{taken-some}
use Rattle.dr_volume.proofs.TrackLaws.{looked}

-- entries of which none is used take none into use
pub free-taken : (old next : Entries) → list_all (λ e. is_none e) next ≡ true → entry_taken old next ≡ None
free-taken old next free = elim (entry_taken old next) as (λ o. entry_taken old next ≡ o → o ≡ None) [
  | None ↦ λ is. refl
  | Some k ↦ λ is.
      let x = (taken-some old next k is).1 in
      absurd (let never : true ≡ false = sym free ∙ list_all_at (λ e. is_none e) next k (Some x.0) (entry-within next k x.0 x.1) (ap (λ e. is_none e) (get_or_default next k x.0 x.1)) in cc)
] refl

-- if none is taken into use, nothing is saved
pub saves-nothing : (n : ℕ) (old next : Entries) (bytes : ℕ → List ℕ) → entry_taken old next ≡ None → None ≡ saving n old next bytes
saves-nothing n old next bytes none = sym (ap (λ o. side_for n next bytes o) none)

-- else the track that it names
pub saves-track : (n : ℕ) (old next : Entries) (bytes : ℕ → List ℕ) (k t : ℕ) → entry_taken old next ≡ Some k → entry_at next k ≡ Some t → Some (side_block n k, bytes t) ≡ saving n old next bytes
saves-track n old next bytes k t is names =
    sym (ap (λ o. side_for n next bytes o) is ∙ ap (λ (o : Option ℕ). Some (side_block n k, bytes (unwrap_or o 0))) names)

module _ (s : PlantState) (t : ConfigTable) (v d n : ℕ) (lies : LiesOn t v d n) where
  pub tracks-there : (volume_seen s t v).tracks ≡ n
  tracks-there = let e = entry t v d n lies in ap (λ (w : Volume). w.tracks) (volume-placed s t v d e.0 lies.place e.1) ∙ e.2

  said : (es : Entries) → es ≡ entries_of n (map (entry_in (chosen (s.block d) 4)) (range_with_len 0 8)) → es ≡ (layout.fields n (s.block d)).entries
  unfolding layout.fields_of
  said es is = is

  -- the entries that were looked at are the volume's
  pub entries-looked : (begin : ℕ) (slot : Bool) (block : List ℕ) (es : Entries) → begin ≡ slot_begin slot → slot_of s d ≡ slot → block ≡ s.block d (begin + 4)
      → es ≡ entries_of n (map (entry_in block) (range_with_len 0 8)) → es ≡ (volume_seen s t v).fields.entries
  entries-looked begin slot block es begins chosen_is block_is is =
      let e = entry t v d n lies in
      said es (is ∙ ap (λ x. entries_of n (map (entry_in x) (range_with_len 0 8))) (block_is ∙ looked s s d 4 begin slot refl begins (sym chosen_is)))
      ∙ sym (ap (λ (w : Volume). w.fields.entries) (volume-placed s t v d e.0 lies.place e.1) ∙ ap (λ m. (layout.fields m (s.block d)).entries) e.2)

  -- so what is saved is written within the device
  pub side-fits : (next : Entries) → StandsFor t s → HasEntries n next → IfSome (saving_seen s t v next) (λ x. x.0 < s.size d)
  side-fits next stands law =
      let e = entry t v d n lies in
      let size : s.size d ≡ blocks_of n = (device-stands s t v d e.0 lies.place e.1 stands).1 ∙ ap blocks_of e.2 in
      subst (λ m. IfSome (saving m (volume_seen s t v).fields.entries next (track_seen s t v)) (λ x. x.0 < s.size d)) (sym tracks-there)
      (by-entry (entry_taken (volume_seen s t v).fields.entries next) refl size)
    where
      by-entry : (o : Option ℕ) → entry_taken (volume_seen s t v).fields.entries next ≡ o → s.size d ≡ blocks_of n → IfSome (side_for n next (track_seen s t v) o) (λ x. x.0 < s.size d)
      by-entry None is size = tt
      by-entry (Some k) is size =
          let x = (taken-some (volume_seen s t v).fields.entries next k is).1 in
          let low = entry-within next k x.0 x.1 in
          let eight = law.eight in
          omega (arith, size, low, eight)
