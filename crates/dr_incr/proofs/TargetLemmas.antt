-- The targets of a source, from one volume of the configuration to the next, and what a target shares with its source.
use Rattle.std.proofs.Common.{ℕ, zero, suc, arith, ◌≡◌, ◌≢◌, ◌≤◌, ◌<◌, ◌+◌, Bool, true, false, not, ◌&&◌, ◌||◌, List, [], ◌∷◌, cond, drop, length, refl, sym, ◌∙◌, ap, subst, nat_eq, inl, inr, Some, option_map, slice_get, None}
use Rattle.std.specs.Prelude.{filter, is_some}
use Rattle.std.specs.List.{list_any, range_with_len}
use Rattle.std.proofs.lemmas.List.{drop_all}
use Rattle.std.proofs.lemmas.Bool.Decides.{eqb_tells, Decides-eqb}
use Rattle.std.specs.FinSet.{contains}
use Rattle.std.proofs.lemmas.Bool.{and_parts}
use Rattle.dr_bits.specs.Tracks.{Tracks}
use Rattle.dr_model.specs.Control.{Volume}
use Rattle.dr_model.specs.Relations.{in_order, lowest, is_bare, given_up, restored, withdrawn_if}
use Rattle.dr_model.specs.Moves.{moved}
use Rattle.dr_volume.specs.Update.{IsAsBefore}
use Rattle.dr_plant.specs.State.{PlantState}
use Rattle.dr_config.specs.Table.{ConfigTable, place_of}
use Rattle.dr_config.specs.declared.entries.VolumeEntry.{VolumeEntry}
use Rattle.dr_model.specs.Layout.{Fields}
use Rattle.dr_model.specs.Lawful.{IsLawful, NoRelation}
use Rattle.dr_model.specs.Carry.{Entry}
use Rattle.dr_model.specs.Entries.{copies_from, keep_on, for_lowest}
use Rattle.dr_volume.specs.View.{volume_seen, ids_of}
use Rattle.dr_moves.specs.Fit.{SourceFits, RelationsFit}
use Rattle.dr_flash.proofs.CopyLemmas.{ids-next}
use Rattle.dr_incr.specs.Steps.{keeps_of, IsRestoredOnto}
use Rattle.dr_facts.proofs.Tracks.{empty-lowest}

-- whether one of those from a place on passes both tests
abbrev pub any_from : (ℕ → Bool) → (ℕ → Bool) → ConfigTable → ℕ → Bool
any_from f h t place = list_any f (filter h (ids_of (drop place t.volumes)))

first-or : (f h : ℕ → Bool) (u : ℕ) (us : List ℕ) → list_any f (filter h (u ∷ us)) ≡ ((h u && f u) || list_any f (filter h us))
first-or f h u us = pick (h u)
  where
    pick : (b : Bool) → list_any f (cond b (u ∷ filter h us) (filter h us)) ≡ ((b && f u) || list_any f (filter h us))
    pick true = refl
    pick false = refl

pub any-next : (f h : ℕ → Bool) (t : ConfigTable) (place u : ℕ) → Some u ≡ option_map (λ (e : VolumeEntry). e.id) (slice_get t.volumes place) → any_from f h t place ≡ ((h u && f u) || any_from f h t (place + 1))
any-next f h t place u at = ap (λ us. list_any f (filter h us)) (ids-next t place u at) ∙ first-or f h u (ids_of (drop (place + 1) t.volumes))

pub any-none : (f h : ℕ → Bool) (t : ConfigTable) (place : ℕ) → length t.volumes ≤ place → any_from f h t place ≡ false
any-none f h t place all = ap (λ es. list_any f (filter h (ids_of es))) (drop_all place t.volumes all)

-- the entries of the volumes from a place on
abbrev pub keeps_left : ConfigTable → ℕ → ℕ → ℕ → List Entry
keeps_left t s v place = keeps_of (ids_of (drop place t.volumes)) s v

same-number : (a b : ℕ) → nat_eq a b ≡ true → a ≡ b
same-number a b h = elim (eqb_tells a b) as (λ _. a ≡ b) [ inl p ↦ p.1 | inr p ↦ absurd (let e : true ≡ false = sym h ∙ p.0 in cc) ]

-- t is a target of v, which it fits
pub record TargetOf (s : PlantState) (c : ConfigTable) (v t : ℕ) : Type 0 where
  pub related : (volume_seen s c t).fields.related ≡ true
  pub source : (volume_seen s c t).fields.source ≡ v
  pub defined : is_some (place_of c v) ≡ true
  pub plain : (volume_seen s c v).fields.related ≡ false
  pub server : (volume_seen s c t).server ≡ (volume_seen s c v).server
  pub tracks : (volume_seen s c t).tracks ≡ (volume_seen s c v).tracks
  pub apart : t ≢ v

pub target-of : (s : PlantState) (c : ConfigTable) (v t : ℕ) → RelationsFit s c → copies_from v (volume_seen s c t).fields ≡ true → TargetOf s c v t
target-of s c v t fit copies =
    let x = and_parts (volume_seen s c t).fields.related _ copies in
    let is = same-number (volume_seen s c t).fields.source v x.1 in
    let y = subst (λ z. SourceFits (is_some (place_of c z)) (volume_seen s c t) (volume_seen s c z)) is (fit.source t x.0) in
    record {
      related = x.0;
      source = is;
      defined = y.defined;
      plain = y.plain;
      server = y.same_server;
      tracks = y.same_tracks;
      apart = λ same. let e : true ≡ false = sym x.0 ∙ ap (λ z. (volume_seen s c z).fields.related) same ∙ y.plain in cc;
    }

-- only a target is restored
pub restored-related : (n : ℕ) (f : Fields) → IsLawful n f → f.reversing ≡ true → f.related ≡ true
restored-related n f law reversing =
    elim f.related as (λ b. f.related ≡ b → b ≡ true) [
      | true ↦ λ is. refl
      | false ↦ λ is. absurd (let x : NoRelation f = law.relation is in let none : f.reversing ≡ false = x.12 in let e : true ≡ false = sym reversing ∙ none in cc)
    ] refl

pub not-kept : (a b : Bool) → b ≡ true → (a && not b) ≡ false
not-kept a b h = ap (λ z. a && not z) h ∙ never a
  where
    never : (a : Bool) → (a && false) ≡ false
    never true = refl
    never false = refl

pub keeps_left-next : (t : ConfigTable) (s v place u : ℕ) → Some u ≡ option_map (λ (e : VolumeEntry). e.id) (slice_get t.volumes place) → keeps_left t s v place ≡ for_lowest v (λ k. keep_on s k u) ∷ keeps_left t s v (place + 1)
keeps_left-next t s v place u at = ap (λ us. keeps_of us s v) (ids-next t place u at)

pub keeps_left-none : (t : ConfigTable) (s v place : ℕ) → length t.volumes ≤ place → keeps_left t s v place ≡ []
keeps_left-none t s v place all = ap (λ es. keeps_of (ids_of es) s v) (drop_all place t.volumes all)

-- the lowest track of a set that is below n is below n
first-below : (f : ℕ → Bool) (n a k : ℕ) → slice_get (filter f (range_with_len a n)) 0 ≡ Some k → k < a + n
first-below f zero a k h = absurd cc
first-below f (suc n) a k h = pick (f a) (first-below f n (a + 1) k) h
  where
    pick : (b : Bool) → (slice_get (filter f (range_with_len (a + 1) n)) 0 ≡ Some k → k < a + 1 + n) → slice_get (cond b (a ∷ filter f (range_with_len (a + 1) n)) (filter f (range_with_len (a + 1) n))) 0 ≡ Some k → k < a + suc n
    pick true more h = let e : a ≡ k = cc in omega (arith, e)
    pick false more h = let low = more h in omega (arith, low)

pub lowest-below : (n k : ℕ) (own : Tracks) → lowest n own ≡ Some k → k < n
unfolding in_order
lowest-below n k own h = let low = first-below (contains own) n 0 k h in omega (arith, low)

-- what copies from v isn't what doesn't
pub other-target : (s : PlantState) (c : ConfigTable) (v t q : ℕ) → copies_from v (volume_seen s c t).fields ≡ true → copies_from v (volume_seen s c q).fields ≡ false → q ≢ t
other-target s c v t q copies other is = let e : true ≡ false = sym copies ∙ ap (λ z. copies_from v (volume_seen s c z).fields) (sym is) ∙ other in cc

pub same-lowest : (s u : PlantState) (c : ConfigTable) (t k : ℕ) → IsAsBefore s u c t → lowest (volume_seen s c t).tracks (volume_seen s c t).fields.own ≡ Some k → lowest (volume_seen u c t).tracks (volume_seen u c t).fields.own ≡ Some k
same-lowest s u c t k same held = ap (λ (x : Volume). lowest x.tracks x.fields.own) same.volume ∙ held

-- what holds a track is a target
pub holder-related : (m n k : ℕ) (f g : Fields) → f ≡ g → IsLawful m f → lowest n f.own ≡ Some k → g.related ≡ true
holder-related m n k f g same law held =
    elim g.related as (λ b. g.related ≡ b → b ≡ true) [
      | true ↦ λ is. refl
      | false ↦ λ is. absurd (let x : NoRelation f = law.relation (ap (λ (f : Fields). f.related) same ∙ is) in let e : None ≡ Some k = sym (ap (lowest n) x.5 ∙ empty-lowest n) ∙ held in cc)
    ] refl

-- a target that has given a track up is restored on, unless its relationship ended
pub goes-on : (x y : Volume) (k : ℕ) (f : Fields) → f ≡ restored x.tracks (given_up x.fields k) → y ≡ moved x f None → (s : ℕ) → IsRestoredOnto s x.fields → IsRestoredOnto s y.fields
goes-on x y k f is moves s h = subst (IsRestoredOnto s) (sym (ap (λ (z : Volume). z.fields) moves ∙ is)) (by (is_bare (given_up x.fields k).own))
  where
    by : (e : Bool) → IsRestoredOnto s (withdrawn_if e x.tracks (given_up x.fields k))
    by true related = absurd (cc)
    by false related = h related

-- a target copies from its source
pub copies-source : (n : ℕ) (f : Fields) → f.related ≡ true → n ≡ f.source → copies_from n f ≡ true
copies-source n f related is = (λ i. related i && (Decides-eqb f.source n).1 (sym is) i)
