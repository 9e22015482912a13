-- After a resynchronization a target shows its source's tracks.
use Rattle.std.proofs.Common.{ℕ, List, ◌≡◌, true, false, not, ◌&&◌, refl, sym, ◌∙◌, ap, None, Option}
use Rattle.std.specs.Prelude.{if◌then◌else◌}
use Rattle.std.specs.FinSet.{contains, difference}
use Rattle.dr_logic.specs.Bytes.{zeros}
use Rattle.dr_plant.specs.State.{PlantState}
use Rattle.dr_config.specs.Table.{ConfigTable}
use Rattle.dr_model.specs.Layout.{Fields}
use Rattle.dr_model.specs.Control.{Volume}
use Rattle.dr_model.specs.Moves.{Carried, moved, tracks_after, saved_after}
use Rattle.dr_model.specs.Relations.{resynced}
use Rattle.dr_model.specs.Views.{shows_source}
use Rattle.dr_model.specs.declared.event.Event.{Event}
use Rattle.dr_volume.specs.View.{Rest, volume_seen, track_seen}
use Rattle.dr_model.specs.Laws.{Structure, Blank, Recorded}
use Rattle.dr_model.specs.Table.{table}
use Rattle.dr_incr.specs.Steps.{HasFitSets}
use Rattle.dr_volume.specs.Update.{IsAsBefore, IsMoved, OthersStay}
use Rattle.dr_moves.specs.Fit.{RelationsFit}
use Rattle.dr_moves.specs.Here.{world_seen}
use Rattle.dr_flash.specs.Views.{view_seen}
use Rattle.dr_incr.specs.Copies.{HoldsUnchanged, BlankAreZeros}
use Rattle.dr_incr.proofs.TargetLemmas.{TargetOf}
use Rattle.dr_flash.proofs.StructureLaws.{related-source}
use Rattle.dr_facts.proofs.Tracks.{from_difference}

pub copy-shown : (s u : PlantState) (c : ConfigTable) (v t : ℕ) (sequence : Option ℕ) → RelationsFit s c → TargetOf s c v t → IsMoved s u c t (resynced sequence (volume_seen s c t).fields) None → OthersStay s u c t
    → ((k : ℕ) → contains (volume_seen s c t).fields.own k ≡ true → contains (volume_seen s c t).fields.source_changes k ≡ false → contains (volume_seen s c t).fields.target_changes k ≡ false → track_seen s c t k ≡ track_seen s c (volume_seen s c t).fields.source k)
    → (k : ℕ) → view_seen u c t k ≡ track_seen u c v k
copy-shown s u c v t sequence fit to is others holds k =
    ap (λ (x : Volume). if shows_source x.fields k then track_seen u c x.fields.source k else track_seen u c t k) is.volume
    ∙ (elim (contains g.own k) as (λ b. contains g.own k ≡ b → (if f.related && not b then track_seen u c f.source k else track_seen u c t k) ≡ track_seen u c v k) [
      | false ↦ λ shared. ap (λ b. if b && true then track_seen u c f.source k else track_seen u c t k) to.related ∙ ap (λ n. track_seen u c n k) to.source
      | true ↦ λ own. ap (λ b. if b && false then track_seen u c f.source k else track_seen u c t k) to.related ∙ held own
    ] refl)
  where
    f : Fields
    f = (volume_seen s c t).fields

    g : Fields
    g = resynced sequence f

    held : contains g.own k ≡ true → track_seen u c t k ≡ track_seen u c v k
    held own =
        let x = from_difference (difference f.own f.source_changes) f.target_changes k own in
        let y = from_difference f.own f.source_changes k x.0 in
        ap (λ (z : ℕ → List ℕ). z k) is.tracks
        ∙ ap (λ b. if b then zeros else track_seen s c t k) (fit.apart t k y.0)
        ∙ holds k y.0 y.1 x.1
        ∙ ap (λ n. track_seen s c n k) to.source
        ∙ sym (ap (λ (z : ℕ → List ℕ). z k) (others v (λ same. to.apart (sym same))).tracks)

-- the machine's laws say so of each volume
pub holds-by_laws : (s : PlantState) (c : ConfigTable) (r : Rest) (events : List Event) → Recorded (table (world_seen s c r events)) → (t : ℕ) → HoldsUnchanged s c t
holds-by_laws s c r events law t related recorded forward k own noted rewritten =
    law t (volume_seen s c t).fields.source (related-source (volume_seen s c t).fields related) recorded forward k own noted rewritten

pub blank-by_laws : (s : PlantState) (c : ConfigTable) (r : Rest) (events : List Event) → Blank (table (world_seen s c r events)) → (v : ℕ) → BlankAreZeros s c v
blank-by_laws s c r events law v = law v

pub sets-by_laws : (s : PlantState) (c : ConfigTable) (r : Rest) (events : List Event) → Structure (table (world_seen s c r events)) → (t : ℕ) → HasFitSets (volume_seen s c t).fields
sets-by_laws s c r events law t = law.sets t

-- a volume that stayed, and then moved
pub moved-after : (s v u : PlantState) (c : ConfigTable) (t : ℕ) (f : Volume → Fields) (m : Carried) → IsAsBefore s v c t → IsMoved v u c t (f (volume_seen v c t)) m → IsMoved s u c t (f (volume_seen s c t)) m
moved-after s v u c t f m same is = record {
  volume = is.volume ∙ (λ i. moved (same.volume i) (f (same.volume i)) m);
  tracks = is.tracks ∙ (λ i. tracks_after (f (same.volume i)) m (same.tracks i));
  saved = is.saved ∙ (λ i. saved_after (same.volume i).fields.entries (f (same.volume i)).entries (same.tracks i) (same.saved i));
}
