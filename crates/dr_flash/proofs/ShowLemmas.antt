-- What volumes show from one state to the next, where one volume moved.
use Rattle.std.proofs.Common.{ℕ, ◌≡◌, ◌≢◌, ◌⊎◌, inl, inr, slice_get, nat_lt, nat_eq, Bool, true, false, not, ◌&&◌, ◌||◌, cond, List, Option, None, Some, refl, sym, ◌∙◌, ap, subst}
use Rattle.std.specs.Prelude.{IfSome, if◌then◌else◌}
use Rattle.std.specs.FinSet.{contains, insert, remove, contains-empty}
use Rattle.std.specs.Ordering.{nat_cmp}
use Rattle.std.proofs.lemmas.Bool.{cases_eq, and_parts}
use Rattle.dr_logic.specs.Bytes.{zeros}
use Rattle.dr_bits.specs.Tracks.{Tracks}
use Rattle.dr_bits.proofs.Laws.{contains-insert_tracks, contains-remove_tracks}
use Rattle.dr_plant.specs.State.{PlantState}
use Rattle.dr_config.specs.Table.{ConfigTable, place_of}
use Rattle.dr_config.specs.declared.entries.VolumeEntry.{VolumeEntry}
use Rattle.dr_model.specs.Control.{Volume}
use Rattle.dr_model.specs.Layout.{Blocks, Fields, physical}
use Rattle.dr_model.specs.Moves.{Carried, tracks_after}
use Rattle.dr_model.specs.Relations.{Choices, rest, is_whole, parted_if, closed, made, withdrawn_if}
use Rattle.dr_model.specs.Views.{view, shows_source}
use Rattle.dr_volume.specs.Update.{IsAsBefore, IsMoved, OthersStay}
use Rattle.dr_volume.specs.View.{volume_seen, track_seen, volume_at, track_at, volume_on, track_on}
use Rattle.dr_moves.specs.Fit.{RelationsFit}
use Rattle.dr_flash.specs.Views.{view_seen, AllShow, OthersShow, HoldsTrack}
use Rattle.dr_flash.proofs.CheckLemmas.{same-test, differ-test}
use Rattle.dr_moves.proofs.FitLemmas.{target-no_source}
use Rattle.dr_moves.proofs.SetLaws.{contains-rest, whole-some}
use Rattle.dr_flash.proofs.ViewLemmas.{view-source, view-own}

-- past its last track a volume reads zeros
pub past-on : (blocks : Blocks) (o : Option VolumeEntry) (k : ℕ) → nat_lt k (volume_on blocks o).tracks ≡ false → track_on blocks o k ≡ zeros
past-on blocks None k h = refl
past-on blocks (Some e) k h = ap (λ b. if b then physical e.tracks blocks k else zeros) h

pub past-at : (s : PlantState) (t : ConfigTable) (o : Option ℕ) (k : ℕ) → nat_lt k (volume_at s t o).tracks ≡ false → track_at s t o k ≡ zeros
past-at s t None k h = refl
past-at s t (Some d) k h = past-on (s.block d) (slice_get t.volumes d) k h

past : (s : PlantState) (t : ConfigTable) (v k : ℕ) → nat_lt k (volume_seen s t v).tracks ≡ false → track_seen s t v k ≡ zeros
past s t v k h = past-at s t (place_of t v) k h

-- where nothing changed
pub show-same : (s u : PlantState) (c : ConfigTable) → ((q : ℕ) → IsAsBefore s u c q) → AllShow s u c
show-same s u c same q k i = view (λ z. ((same z).volume i).fields) (λ z. (same z).tracks i) q k

module _ (s u : PlantState) (c : ConfigTable) (v : ℕ) (others : OthersStay s u c v) where
  -- another volume, where v has the tracks that it shows of v
  pub show-other : (q k : ℕ) → q ≢ v → (shows_source (volume_seen s c q).fields k ≡ true → (volume_seen s c q).fields.source ≡ v → track_seen u c v k ≡ track_seen s c v k)
      → view_seen u c q k ≡ view_seen s c q k
  show-other q k ne stays =
      (λ i. cond (shows_source ((others q ne).volume i).fields k) (track_seen u c ((others q ne).volume i).fields.source k) ((others q ne).tracks i k))
      ∙ elim (shows_source f k) as (λ b. shows_source f k ≡ b → cond b (track_seen u c f.source k) (track_seen s c q k) ≡ cond b (track_seen s c f.source k) (track_seen s c q k)) [
        | false ↦ λ own. refl
        | true ↦ λ shown. elim (cases_eq f.source v) as (λ _. track_seen u c f.source k ≡ track_seen s c f.source k) [
          | inl is ↦ ap (λ z. track_seen u c z k) is ∙ stays shown is ∙ ap (λ z. track_seen s c z k) (sym is)
          | inr apart ↦ ap (λ (z : ℕ → List ℕ). z k) (others f.source apart).tracks
        ]
      ] refl
    where
      f : Fields
      f = (volume_seen s c q).fields

  -- no volume copies from v
  pub show-lone : ((q : ℕ) → (volume_seen s c q).fields.related ≡ true → (volume_seen s c q).fields.source ≢ v) → OthersShow s u c v
  show-lone lone q k ne = show-other q k ne (λ shown is. absurd (lone q ((and_parts _ _ shown).0) is))

  -- v is a target
  pub show-target : RelationsFit s c → (volume_seen s c v).fields.related ≡ true → OthersShow s u c v
  show-target fit related = show-lone (λ q there. target-no_source s c v q fit related there)

-- where v is as it was, or moved
pub show-either : (s u : PlantState) (c : ConfigTable) (v : ℕ) (f : Fields) (m : Carried) → OthersStay s u c v → IsAsBefore s u c v ⊎ IsMoved s u c v f m → (IsMoved s u c v f m → AllShow s u c) → AllShow s u c
show-either s u c v f m others (inr is) shows = shows is
show-either s u c v f m others (inl same) shows = show-same s u c (λ q. elim (cases_eq q v) as (λ _. IsAsBefore s u c q) [ inl is ↦ subst (λ z. IsAsBefore s u c z) (sym is) same | inr ne ↦ others q ne ])

-- what a volume shows that moved
pub moved-view : (s u : PlantState) (c : ConfigTable) (v : ℕ) (f : Fields) (m : Carried) → IsMoved s u c v f m → (k : ℕ) → view_seen u c v k ≡ cond (shows_source f k) (track_seen u c f.source k) (tracks_after f m (track_seen s c v) k)
moved-view s u c v f m is k i = cond (shows_source (is.volume i).fields k) (track_seen u c (is.volume i).fields.source k) (is.tracks i k)

-- a volume that became a target shows what its source shows
pub made-shows : (s u : PlantState) (c : ConfigTable) (v from : ℕ) (o : Choices) → OthersStay s u c v → (volume_seen s c from).fields.related ≡ false → from ≢ v → IsMoved s u c v (made from o (volume_seen s c v).fields) None
    → (k : ℕ) → view_seen u c v k ≡ view_seen s c from k
made-shows s u c v from o others plain ne is k =
    moved-view s u c v _ None is k
    ∙ ap (λ b. cond (not b) (track_seen u c from k) (tracks_after (made from o (volume_seen s c v).fields) None (track_seen s c v) k)) (contains-empty nat_cmp k)
    ∙ ap (λ (z : ℕ → List ℕ). z k) (others from ne).tracks
    ∙ sym (view-own s c from k (ap (λ b. b && not (contains (volume_seen s c from).fields.own k)) plain))

-- a target that is one no more shows what it held, and zeros
pub withdrawn-shows : (s u : PlantState) (c : ConfigTable) (v : ℕ) → IsMoved s u c v (withdrawn_if true (volume_seen s c v).tracks (volume_seen s c v).fields) None
    → (k : ℕ) → view_seen u c v k ≡ (if contains (volume_seen s c v).fields.own k then track_seen s c v k else zeros)
withdrawn-shows s u c v is k =
    moved-view s u c v _ None is k
    ∙ ap (λ b. if b then zeros else track_seen s c v k) (contains-rest (volume_seen s c v).tracks (volume_seen s c v).fields.own k)
    ∙ pick (nat_lt k (volume_seen s c v).tracks) (contains (volume_seen s c v).fields.own k) refl
  where
    pick : (low own : Bool) → nat_lt k (volume_seen s c v).tracks ≡ low → (if low && not own then zeros else track_seen s c v k) ≡ (if own then track_seen s c v k else zeros)
    pick true true is = refl
    pick true false is = refl
    pick false true is = refl
    pick false false is = past s c v k is

whole-past : (n k : ℕ) (own : Tracks) → is_whole n own ≡ true → contains own k ≡ false → nat_lt k n ≡ false
whole-past n k own whole missing = elim (nat_lt k n) as (λ b. nat_lt k n ≡ b → b ≡ false) [
  | false ↦ λ past. refl
  | true ↦ λ low. absurd (let e : true ≡ false = sym whole ∙ whole-some n k own (contains-rest n own k ∙ (λ i. low i && not (missing i))) in cc)
] refl

-- a target takes a track, and may end
module _ (s u : PlantState) (c : ConfigTable) (v : ℕ) (fit : RelationsFit s c) (related : (volume_seen s c v).fields.related ≡ true) (others : OthersStay s u c v) where
  abbrev x : Volume
  x = volume_seen s c v

  abbrev from : ℕ
  from = x.fields.source

  source-apart : from ≢ v
  source-apart = target-no_source s c v v fit related related

  shared-view : (k : ℕ) → contains x.fields.own k ≡ false → view_seen s c v k ≡ track_seen s c from k
  shared-view k missing = view-source s c v k x refl related missing

  held-view : (k : ℕ) → contains x.fields.own k ≡ true → view_seen s c v k ≡ track_seen s c v k
  held-view k held = view-own s c v k (λ i. related i && not (held i))

  source-stays : (k : ℕ) → track_seen u c from k ≡ track_seen s c from k
  source-stays k = ap (λ (z : ℕ → List ℕ). z k) (others from source-apart).tracks

  module _ (f : Fields) (is_related : f.related ≡ x.fields.related) (is_source : f.source ≡ x.fields.source) where
    module _ (t : ℕ) (own : f.own ≡ insert x.fields.own t) (blank : f.blank ≡ remove x.fields.blank t) (bytes : List ℕ) (is : IsMoved s u c v (closed x.tracks f) (Some (t, bytes))) where
      abbrev after : Bool → ℕ → List ℕ
      after b k = cond (shows_source (parted_if b f) k) (track_seen u c (parted_if b f).source k) (tracks_after (parted_if b f) (Some (t, bytes)) (track_seen s c v) k)

      ends : Bool
      ends = is_whole x.tracks f.own && not f.persistent

      pub taken-track : view_seen u c v t ≡ bytes
      taken-track = moved-view s u c v _ _ is t ∙ pick (is_whole x.tracks f.own && not f.persistent)
        where
          stored : tracks_after f (Some (t, bytes)) (track_seen s c v) t ≡ bytes
          stored = ap (λ b. if b then bytes else if contains f.blank t then zeros else track_seen s c v t) (same-test t t refl)

          held : contains f.own t ≡ true
          held = ap (λ o. contains o t) own ∙ contains-insert_tracks x.fields.own t t ∙ ap (λ b. b || contains x.fields.own t) (same-test t t refl)

          pick : (b : Bool) → after b t ≡ bytes
          pick true = stored
          pick false = (λ i. cond ((is_related ∙ related) i && not (held i)) (track_seen u c f.source t) (tracks_after f (Some (t, bytes)) (track_seen s c v) t)) ∙ stored

      pub taken-held : HoldsTrack u c t v
      taken-held = subst (λ (y : Volume). y.fields.related ≡ true → contains y.fields.own t ≡ true) (sym is.volume) (pick (is_whole x.tracks f.own && not f.persistent))
        where
          pick : (b : Bool) → (parted_if b f).related ≡ true → contains (parted_if b f).own t ≡ true
          pick true r = absurd cc
          pick false r = ap (λ o. contains o t) own ∙ contains-insert_tracks x.fields.own t t ∙ ap (λ b. b || contains x.fields.own t) (same-test t t refl)

      pub taken-other : (k : ℕ) → k ≢ t → view_seen u c v k ≡ view_seen s c v k
      taken-other k ne = moved-view s u c v _ _ is k ∙ pick (contains x.fields.own k) refl (is_whole x.tracks f.own && not f.persistent) refl
        where
          apart : nat_eq k t ≡ false
          apart = differ-test k t ne

          own-as : contains f.own k ≡ contains x.fields.own k
          own-as = ap (λ o. contains o k) own ∙ contains-insert_tracks x.fields.own t k ∙ ap (λ b. b || contains x.fields.own k) apart

          blank-as : contains f.blank k ≡ contains x.fields.blank k
          blank-as = ap (λ o. contains o k) blank ∙ contains-remove_tracks x.fields.blank t k ∙ ap (λ b. not b && contains x.fields.blank k) apart

          left : tracks_after f (Some (t, bytes)) (track_seen s c v) k ≡ cond (contains x.fields.blank k) zeros (track_seen s c v k)
          left = λ i. cond (apart i) bytes (cond (blank-as i) zeros (track_seen s c v k))

          none : (b : Bool) → track_seen s c v k ≡ zeros → cond b zeros (track_seen s c v k) ≡ zeros
          none true e = refl
          none false e = e

          pick : (o : Bool) → contains x.fields.own k ≡ o → (b : Bool) → (is_whole x.tracks f.own && not f.persistent) ≡ b → after b k ≡ view_seen s c v k
          pick true held true whole = left ∙ ap (λ b. cond b zeros (track_seen s c v k)) (fit.apart v k held) ∙ sym (held-view k held)
          pick true held false some =
              (λ i. cond ((is_related ∙ related) i && not ((own-as ∙ held) i)) (track_seen u c f.source k) (tracks_after f (Some (t, bytes)) (track_seen s c v) k))
              ∙ left ∙ ap (λ b. cond b zeros (track_seen s c v k)) (fit.apart v k held) ∙ sym (held-view k held)
          pick false missing false some =
              (λ i. cond ((is_related ∙ related) i && not ((own-as ∙ missing) i)) (track_seen u c (is_source i) k) (tracks_after f (Some (t, bytes)) (track_seen s c v) k))
              ∙ source-stays k ∙ sym (shared-view k missing)
          pick false missing true whole =
              let high = whole-past x.tracks k f.own ((and_parts _ _ whole).0) (own-as ∙ missing) in
              left ∙ none (contains x.fields.blank k) (past s c v k high)
              ∙ sym (past s c from k (ap (nat_lt k) (sym (fit.source v related).same_tracks) ∙ high)) ∙ sym (shared-view k missing)

      -- the bytes are its source's
      pub taken-shows : contains x.fields.own t ≡ false → bytes ≡ track_seen s c from t → AllShow s u c
      taken-shows missing are q k = elim (cases_eq q v) as (λ _. view_seen u c q k ≡ view_seen s c q k) [
        | inr ne ↦ show-target s u c v others fit related q k ne
        | inl is_v ↦ ap (λ z. view_seen u c z k) is_v ∙ own-shows (cases_eq k t) ∙ ap (λ z. view_seen s c z k) (sym is_v)
      ]
        where
          own-shows : (k ≡ t) ⊎ (k ≢ t) → view_seen u c v k ≡ view_seen s c v k
          own-shows (inr ne) = taken-other k ne
          own-shows (inl e) = ap (view_seen u c v) e ∙ taken-track ∙ are ∙ sym (shared-view t missing) ∙ ap (view_seen s c v) (sym e)

    -- it notes a change
    module _ (own : f.own ≡ x.fields.own) (blank : f.blank ≡ x.fields.blank) (is : IsMoved s u c v f None) where
      noted-own : (k : ℕ) → view_seen u c v k ≡ view_seen s c v k
      noted-own k = moved-view s u c v _ _ is k
          ∙ (λ i. cond ((is_related ∙ related) i && not (contains (own i) k)) (track_seen u c (is_source i) k) (cond (contains (blank i) k) zeros (track_seen s c v k)))
          ∙ pick (contains x.fields.own k) refl
        where
          pick : (o : Bool) → contains x.fields.own k ≡ o → cond (true && not o) (track_seen u c from k) (cond (contains x.fields.blank k) zeros (track_seen s c v k)) ≡ view_seen s c v k
          pick true held = ap (λ b. cond b zeros (track_seen s c v k)) (fit.apart v k held) ∙ sym (held-view k held)
          pick false missing = source-stays k ∙ sym (shared-view k missing)

      pub noted-shows : AllShow s u c
      noted-shows q k = elim (cases_eq q v) as (λ _. view_seen u c q k ≡ view_seen s c q k) [
        | inr ne ↦ show-target s u c v others fit related q k ne
        | inl is_v ↦ ap (λ z. view_seen u c z k) is_v ∙ noted-own k ∙ ap (λ z. view_seen s c z k) (sym is_v)
      ]

-- a track of those that a target doesn't hold
pub rest-missing : (n : ℕ) (own left : Tracks) (o : Option ℕ) → left ≡ rest n own → IfSome o (λ t. contains left t ≡ true) → IfSome o (λ t. contains own t ≡ false)
rest-missing n own left None is h = h
rest-missing n own left (Some t) is h = second (nat_lt t n) (contains own t) (sym (contains-rest n own t) ∙ ap (λ z. contains z t) (sym is) ∙ h)
  where
    second : (a b : Bool) → (a && not b) ≡ true → b ≡ false
    second true true e = absurd cc
    second true false e = refl
    second false b e = absurd cc
