-- What a restore brings back.
use Rattle.std.proofs.Common.{ℕ, List, ◌≡◌, ◌≢◌, Bool, true, false, not, ◌&&◌, nat_eq, nat_lt, inl, inr, refl, sym, ◌∙◌, ap, None, Some}
use Rattle.std.specs.Prelude.{if◌then◌else◌}
use Rattle.std.specs.List.{range_with_len}
use Rattle.std.specs.FinSet.{contains, remove, union}
use Rattle.std.proofs.lemmas.Bool.Decides.{eqb_tells}
use Rattle.std.proofs.lemmas.Bool.{or_parts}
use Rattle.dr_logic.specs.Bytes.{zeros}
use Rattle.dr_bits.specs.Tracks.{Tracks}
use Rattle.dr_bits.proofs.Laws.{contains-remove_tracks, contains-union_tracks}
use Rattle.dr_plant.specs.State.{PlantState}
use Rattle.dr_config.specs.Table.{ConfigTable, place_of}
use Rattle.dr_model.specs.Control.{Volume}
use Rattle.dr_model.specs.Layout.{Fields}
use Rattle.dr_model.specs.Moves.{tracks_after}
use Rattle.dr_model.specs.Relations.{in_order, lowest, is_bare, turned, given_up, restored, withdrawn_if}
use Rattle.dr_model.specs.Views.{shows_source}
use Rattle.dr_volume.specs.Update.{IsMoved, OthersStay}
use Rattle.dr_volume.specs.View.{volume_seen, track_seen}
use Rattle.dr_moves.specs.Fit.{RelationsFit}
use Rattle.dr_flash.proofs.CheckLemmas.{differ-test}
use Rattle.dr_moves.proofs.SetLaws.{contains-rest}
use Rattle.dr_flash.proofs.ViewLemmas.{view-source, view-own}
use Rattle.dr_flash.specs.Views.{view_seen}
use Rattle.dr_model.specs.Pairs.{altered}
use Rattle.dr_incr.specs.Copies.{HoldsUnchanged, BlankAreZeros, Restores}
use Rattle.dr_incr.specs.Steps.{HasFitSets}
use Rattle.dr_incr.proofs.RestoreLemmas.{union-held}
use Rattle.dr_incr.proofs.TargetLemmas.{TargetOf}
use Rattle.dr_model.proofs.LawfulLemmas.{removed}
use Rattle.dr_flash.proofs.ShowLemmas.{past-at}
use Rattle.dr_logic.proofs.Lists.{first-held}
use Rattle.dr_facts.proofs.Tracks.{bare-has}

lowest-held : (n k : ℕ) (own : Tracks) → lowest n own ≡ Some k → contains own k ≡ true
unfolding in_order
lowest-held n k own h = first-held (contains own) k (range_with_len 0 n) h

-- a volume that stores a track keeps the others
pub stored-other : (x u : PlantState) (c : ConfigTable) (v k : ℕ) (bytes : List ℕ) → IsMoved x u c v (altered (volume_seen x c v).fields k) (Some (k, bytes)) → BlankAreZeros x c v
    → (q : ℕ) → q ≢ k → track_seen u c v q ≡ track_seen x c v q
stored-other x u c v k bytes is blank q ne =
    ap (λ (z : ℕ → List ℕ). z q) is.tracks
    ∙ ap (λ b. if b then bytes else if contains (remove (volume_seen x c v).fields.blank k) q then zeros else track_seen x c v q) (differ-test q k ne)
    ∙ elim (contains (remove (volume_seen x c v).fields.blank k) q) as (λ b. contains (remove (volume_seen x c v).fields.blank k) q ≡ b → (if b then zeros else track_seen x c v q) ≡ track_seen x c v q) [
      | false ↦ λ plain. refl
      | true ↦ λ held. sym (blank q (removed (volume_seen x c v).fields.blank k q held))
    ] refl

module _ (x y : PlantState) (c : ConfigTable) (s t : ℕ) (to : TargetOf x c s t) where
  abbrev f : Fields
  f = (volume_seen x c t).fields

  abbrev n : ℕ
  n = (volume_seen x c t).tracks

  held-shown : (k : ℕ) → contains f.own k ≡ true → view_seen x c t k ≡ track_seen x c t k
  held-shown k held = view-own x c t k (λ i. to.related i && not (held i))

  shared-shown : (k : ℕ) → contains f.own k ≡ false → view_seen x c t k ≡ track_seen x c s k
  shared-shown k missing = view-source x c t k (volume_seen x c t) refl to.related missing ∙ ap (λ z. track_seen x c z k) to.source

  -- the target holds these tracks from then on, or its relationship ends
  restores-by : (g : Fields) → g.related ≡ true → g.source ≡ s → IsMoved x y c t (restored n g) None
      → ((k : ℕ) → contains g.own k ≡ false → track_seen y c s k ≡ view_seen x c t k)
      → ((k : ℕ) → contains g.own k ≡ true → (if contains g.blank k then zeros else track_seen x c t k) ≡ view_seen x c t k)
      → Restores x y c s t
  restores-by g related source is shared held =
      let by = pick (is_bare g.own) refl in
      (λ on k. moves k ∙ by.0 (sym (ap (λ (z : Volume). z.fields.related) is.volume) ∙ on) k, λ over k. let z = by.1 (sym (ap (λ (z : Volume). z.fields.related) is.volume) ∙ over) k in (z.0, moves k ∙ z.1))
    where
      after : Bool → ℕ → List ℕ
      after b k = if shows_source (withdrawn_if b n g) k then track_seen y c (withdrawn_if b n g).source k else tracks_after (withdrawn_if b n g) None (track_seen x c t) k

      moves : (k : ℕ) → view_seen y c t k ≡ after (is_bare g.own) k
      moves k i = if shows_source (is.volume i).fields k then track_seen y c (is.volume i).fields.source k else is.tracks i k

      past : (k : ℕ) (low : Bool) → nat_lt k n ≡ low → (if low && true then zeros else track_seen x c t k) ≡ zeros
      past k true low = refl
      past k false high = past-at x c (place_of c t) k high

      shows : (k : ℕ) (o : Bool) → contains g.own k ≡ o → after false k ≡ view_seen x c t k
      shows k true own = (λ i. if related i && not (own i) then track_seen y c g.source k else tracks_after g None (track_seen x c t) k) ∙ held k own
      shows k false own = (λ i. if related i && not (own i) then track_seen y c (source i) k else tracks_after g None (track_seen x c t) k) ∙ shared k own

      pick : (b : Bool) → is_bare g.own ≡ b → ((withdrawn_if b n g).related ≡ true → (k : ℕ) → after b k ≡ view_seen x c t k) × ((withdrawn_if b n g).related ≡ false → (k : ℕ) → (track_seen y c s k ≡ view_seen x c t k) × (after b k ≡ zeros))
      pick true bare = (
        λ on. absurd cc,
        λ over k.
            let none = bare-has g.own k bare in
            (shared k none, ap (λ b. if b then zeros else track_seen x c t k) (contains-rest n g.own k) ∙ ap (λ b. if nat_lt k n && not b then zeros else track_seen x c t k) none ∙ past k (nat_lt k n) refl),
      )
      pick false some = (λ on k. shows k (contains g.own k) refl, λ over. absurd (let e : true ≡ false = sym related ∙ over in cc))

  module _ (fit : RelationsFit x c) where
    kept-shown : (k : ℕ) → contains f.own k ≡ true → (if contains f.blank k then zeros else track_seen x c t k) ≡ view_seen x c t k
    kept-shown k held = ap (λ b. if b then zeros else track_seen x c t k) (fit.apart t k held) ∙ sym (held-shown k held)

    -- track k came back
    pub back-restores : (k : ℕ) → lowest n f.own ≡ Some k → IsMoved x y c t (restored n (given_up f k)) None → track_seen y c s k ≡ track_seen x c t k → ((q : ℕ) → q ≢ k → track_seen y c s q ≡ track_seen x c s q)
        → Restores x y c s t
    back-restores k lowest is back kept = restores-by (given_up f k) to.related to.source is shared (λ q held. kept-shown q (removed f.own k q held))
      where
        other : (q : ℕ) → nat_eq q k ≡ false → contains (remove f.own k) q ≡ false → contains f.own q ≡ false
        other q apart missing = sym (contains-remove_tracks f.own k q ∙ ap (λ b. not b && contains f.own q) apart) ∙ missing

        shared : (q : ℕ) → contains (remove f.own k) q ≡ false → track_seen y c s q ≡ view_seen x c t q
        shared q missing = elim (eqb_tells q k) as (λ _. track_seen y c s q ≡ view_seen x c t q) [
          | inl p ↦ ap (track_seen y c s) p.1 ∙ back ∙ sym (held-shown k (lowest-held n k f.own lowest)) ∙ ap (view_seen x c t) (sym p.1)
          | inr p ↦ kept q p.1 ∙ sym (shared-shown q (other q p.0 missing))
        ]

    -- it begins
    pub turn-restores : HasFitSets f → f.revertible ≡ false → OthersStay x y c t → f.recorded ≡ true → f.reversing ≡ false → HoldsUnchanged x c t → IsMoved x y c t (restored n (turned f)) None → Restores x y c s t
    turn-restores sets settled others recorded forward holds is = restores-by (turned f) to.related to.source is shared (λ q held. kept-shown q (union-held f.source_changes f.target_changes f.own (sets.noted_held settled) (sets.rewritten_held settled) q held))
      where
        stays : (q : ℕ) → track_seen y c s q ≡ track_seen x c s q
        stays q = ap (λ (z : ℕ → List ℕ). z q) (others s (λ same. to.apart (sym same))).tracks

        equal : (q : ℕ) (o : Bool) → contains f.own q ≡ o → (contains f.source_changes q ≡ false) × (contains f.target_changes q ≡ false) → track_seen x c s q ≡ view_seen x c t q
        equal q false missing same = sym (shared-shown q missing)
        equal q true held same = ap (λ z. track_seen x c z q) (sym to.source) ∙ sym (holds to.related recorded forward q held same.0 same.1) ∙ sym (held-shown q held)

        shared : (q : ℕ) → contains (union f.source_changes f.target_changes) q ≡ false → track_seen y c s q ≡ view_seen x c t q
        shared q missing = stays q ∙ equal q (contains f.own q) refl (or_parts (contains f.source_changes q) (contains f.target_changes q) (sym (contains-union_tracks f.source_changes f.target_changes q) ∙ missing))
