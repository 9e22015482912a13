-- Two volumes that are compared: both are there, and the first track that differs.
use Rattle.std.proofs.Common.{ℕ, zero, suc, ◌≡◌, ◌≢◌, ◌≤◌, ◌<◌, ◌+◌, Bool, true, false, not, cond, List, ◌∷◌, arith, inl, inr, refl, sym, ◌∙◌, ap, subst, Option, Some, None}
use Rattle.std.specs.Prelude.{is_some}
use Rattle.std.specs.List.{find, range_with_len}
use Rattle.std.specs.Str.{bytes_eq}
use Rattle.std.proofs.lemmas.Bool.Decides.{eqb_tells}
use Rattle.std.proofs.lemmas.Slice.Eq.{bytes_eq-Decides}
use Rattle.dr_ids.specs.declared.refusal.Refusal.{Refusal}
use Rattle.dr_ids.specs.declared.refusal.Refusal.TheVariants.{NotIdentical}
use Rattle.dr_ids.specs.declared.refusal.Kind.TheVariants.{Volume as OfVolume}
use Rattle.dr_plant.specs.State.{PlantState}
use Rattle.dr_config.specs.Table.{ConfigTable, place_of}
use Rattle.dr_model.specs.declared.event.Event.{Event}
use Rattle.dr_model.specs.Control.{World}
use Rattle.dr_model.specs.Carry.{Entry, check}
use Rattle.dr_model.specs.PairEntries.{first_differing}
use Rattle.dr_model.specs.PlanParts.{is_defined}
use Rattle.dr_model.specs.ReadStops.{Ends}
use Rattle.dr_model.specs.Refusals.{unknown}
use Rattle.dr_volume.specs.View.{Rest}
use Rattle.dr_volume.proofs.WorldLaws.{any_id}
use Rattle.dr_facts.proofs.Ends.{ends-passed}
use Rattle.dr_moves.specs.Here.{world_seen}
use Rattle.dr_moves.proofs.PlaceLaws.{entry-found}
use Rattle.dr_failover.specs.Outcomes.{DifferFirst}

module _ (s : PlantState) (t : ConfigTable) (r : Rest) (events : List Event) where
  abbrev w : World
  w = world_seen s t r events

  defined-here : (v : ℕ) → is_some (place_of t v) ≡ true → is_defined v w.control ≡ true
  defined-here v defined = any_id t.volumes v ∙ ap is_some (entry-found t v defined).1

  -- both are there
  pub both-there : (v q : ℕ) → is_some (place_of t v) ≡ true → is_some (place_of t q) ≡ true → (armed : ℕ → Bool) (u : World) (o : Option Refusal) (ds : List Entry) → Ends armed u o w ds → Ends armed u o w (check (is_defined v) (unknown OfVolume) ∷ check (is_defined q) (unknown OfVolume) ∷ ds)
  both-there v q first second armed u o ds more =
      ends-passed armed u o w (is_defined v) (unknown OfVolume) _ (defined-here v first)
      (ends-passed armed u o w (is_defined q) (unknown OfVolume) _ (defined-here q second) more)

-- two refusals name one track
pub same-track : (t k : ℕ) → ◌≡◌ {A = Option Refusal} (Some (NotIdentical t)) (Some (NotIdentical k)) → Some k ≡ Some t
same-track t k is = cc

-- the first of the n numbers from a on that passes, or that none does
abbrev IsFirst : (ℕ → Bool) → ℕ → ℕ → Option ℕ → Type 0
IsFirst f a n None = (q : ℕ) → a ≤ q → q < a + n → f q ≡ false
IsFirst f a n (Some t) = (t < a + n) × (f t ≡ true) × ((q : ℕ) → a ≤ q → q < t → f q ≡ false)

is-first : (f : ℕ → Bool) (n a : ℕ) → IsFirst f a n (find f (range_with_len a n))
is-first f zero a = λ q lo hi. absurd (omega (arith, lo, hi))
is-first f (suc n) a = by (f a) refl (find f (range_with_len (a + 1) n)) (is-first f n (a + 1))
  where
    behind : (t : ℕ) → f a ≡ false → ((q : ℕ) → a + 1 ≤ q → q < t → f q ≡ false) → (q : ℕ) → a ≤ q → q < t → f q ≡ false
    behind t here more q lo hi = elim (eqb_tells q a) as (λ _. f q ≡ false) [
      | inl is ↦ ap f is.1 ∙ here
      | inr ne ↦ more q (let no : q ≢ a = ne.1 in omega arith) hi
    ]

    by : (b : Bool) → f a ≡ b → (o : Option ℕ) → IsFirst f (a + 1) n o → IsFirst f a (suc n) (cond b (Some a) o)
    by true is o more = (omega arith, is, λ q lo hi. absurd (omega arith))
    by false is None more = λ q lo hi. behind (a + suc n) is (λ q lo hi. more q lo (omega arith)) q lo hi
    by false is (Some t) more = (let low = more.0 in omega arith, more.1, behind t is more.2)

module _ (contents : ℕ → ℕ → List ℕ) (n v u : ℕ) where
  abbrev other : ℕ → Bool
  other t = not (bytes_eq (contents v t) (contents u t))

  same-at : (t : ℕ) → other t ≡ false → contents v t ≡ contents u t
  same-at t is = (bytes_eq-Decides (contents v t) (contents u t)).0 (by (bytes_eq (contents v t) (contents u t)) is)
    where
      by : (b : Bool) → not b ≡ false → b ≡ true
      by true e = refl
      by false e = absurd (let f : true ≡ false = e in cc)

  -- none differs
  pub none-differs : None ≡ first_differing contents n v u → (t : ℕ) → t < n → contents v t ≡ contents u t
  none-differs none t low =
      let first = subst (λ o. IsFirst other 0 n o) (sym none) (is-first other n 0) in
      same-at t (first t (omega arith) (omega (arith, low)))

  -- or this is the first
  pub differs-first : (t : ℕ) → Some t ≡ first_differing contents n v u → DifferFirst (contents v) (contents u) n t
  differs-first t some =
      let first = subst (λ o. IsFirst other 0 n o) (sym some) (is-first other n 0) in
      record {
        low = let low = first.0 in omega (arith, low);
        other = λ same. absurd (let is : not (bytes_eq (contents v t) (contents u t)) ≡ false = ap not ((bytes_eq-Decides (contents v t) (contents u t)).1 same) in let e : true ≡ false = sym first.1 ∙ is in cc);
        before = λ k below. same-at k (first.2 k (omega arith) below);
      }
