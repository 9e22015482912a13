-- The tracks of a volume as sets: all of them, those that a target doesn't hold, and the lowest.
use Rattle.std.proofs.Common.{ℕ, zero, suc, ◌≡◌, ◌<◌, ◌≤◌, ◌+◌, Bool, true, false, not, ◌&&◌, ◌||◌, ◌∷◌, arith, sym, ◌∙◌, ap, refl, nat_eq, nat_lt, nat_le, cond, inl, inr, Option, None, Some, slice_get}
use Rattle.std.specs.Prelude.{filter, is_some, MatchOption}
use Rattle.std.specs.List.{range_with_len, list_any}
use Rattle.std.specs.Cmp.{nat_cmp_total}
use Rattle.std.specs.FinSet.{contains, is_subset, difference, contains-from_list_nat, is_subset-contains, contains-is_subset}
use Rattle.std.proofs.lemmas.Bool.Decides.{nat_tests, eqb_tells}
use Rattle.dr_bits.specs.Tracks.{Tracks, first, NoneFrom, IsLowestFrom}
use Rattle.dr_bits.proofs.Laws.{same_tracks, contains-first}
use Rattle.dr_model.specs.Relations.{all_tracks, is_whole, rest, in_order, lowest}
use Rattle.dr_logic.proofs.Sets.{in_difference}

in_range : (a n q : ℕ) → list_any (λ y. nat_eq y q) (range_with_len a n) ≡ (nat_le a q && nat_lt q (a + n))
in_range a zero q = grind (arith, nat_tests)
in_range a (suc n) q = let e = in_range (a + 1) n q in ap (λ b. nat_eq a q || b) e ∙ more a n q
  where
    more : (a n q : ℕ) → (nat_eq a q || (nat_le (a + 1) q && nat_lt q (a + 1 + n))) ≡ (nat_le a q && nat_lt q (a + suc n))
    more a n q = grind (arith, nat_tests)

pub contains-all : (n q : ℕ) → contains (all_tracks n) q ≡ nat_lt q n
unfolding all_tracks
contains-all n q = contains-from_list_nat (range_with_len 0 n) q ∙ in_range 0 n q ∙ low
  where
    low : (nat_le 0 q && nat_lt q (0 + n)) ≡ nat_lt q n
    low = grind (arith, nat_tests)

pub all-first : (n : ℕ) → n ≤ 256 → first n ≡ all_tracks n
all-first n few = same_tracks _ _ (λ q. contains-first n q few ∙ sym (contains-all n q))

pub rest-is : (n : ℕ) (own : Tracks) → n ≤ 256 → difference (first n) own ≡ rest n own
unfolding rest
rest-is n own few = ap (λ s. difference s own) (all-first n few)

pub contains-rest : (n : ℕ) (own : Tracks) (q : ℕ) → contains (rest n own) q ≡ (nat_lt q n && not (contains own q))
unfolding rest
contains-rest n own q = in_difference (all_tracks n) own q ∙ ap (λ b. b && not (contains own q)) (contains-all n q)

-- a target holds all tracks exactly where no other is left
pub whole-none : (n : ℕ) (own : Tracks) → NoneFrom (rest n own) 0 → is_whole n own ≡ true
unfolding is_whole
whole-none n own none = contains-is_subset nat_cmp_total (all_tracks n) own (λ q h.
    let a = contains-rest n own q in
    let b = none q (omega arith) in
    let d = contains-all n q in
    grind (arith, a, b, d, h))

pub whole-some : (n k : ℕ) (own : Tracks) → contains (rest n own) k ≡ true → is_whole n own ≡ false
unfolding is_whole
whole-some n k own member =
    elim (is_subset (all_tracks n) own) as (λ b. is_subset (all_tracks n) own ≡ b → b ≡ false) [
      | true ↦ λ whole.
          let a = contains-rest n own k in
          let d = contains-all n k in
          absurd (kept (nat_lt k n) (contains own k) (sym a ∙ member) (λ low. is_subset-contains nat_cmp_total (all_tracks n) own whole k (d ∙ low)))
      | false ↦ λ not_whole. refl
    ] refl
  where
    kept : (low held : Bool) → (low && not held) ≡ true → (low ≡ true → held ≡ true) → ⊥
    kept true true h all = cc
    kept true false h all = let e = all refl in cc
    kept false true h all = cc
    kept false false h all = cc

-- the first track of a stretch that passes
first-in : (f : ℕ → Bool) (n a k : ℕ) → a ≤ k → k < a + n → f k ≡ true → ((j : ℕ) → a ≤ j → j < k → f j ≡ false) → slice_get (filter f (range_with_len a n)) 0 ≡ Some k
first-in f zero a k from to member low = absurd (omega arith)
first-in f (suc n) a k from to member low =
    elim (eqb_tells a k) as (λ _. slice_get (cond (f a) (a ∷ filter f (range_with_len (a + 1) n)) (filter f (range_with_len (a + 1) n))) 0 ≡ Some k) [
      | inl p ↦ ap (λ b. slice_get (cond b (a ∷ filter f (range_with_len (a + 1) n)) (filter f (range_with_len (a + 1) n))) 0) (ap f p.1 ∙ member) ∙ ap (λ x. Some x) p.1
      | inr p ↦
          let later : a < k = (let ne = p.1 in omega arith) in
          ap (λ b. slice_get (cond b (a ∷ filter f (range_with_len (a + 1) n)) (filter f (range_with_len (a + 1) n))) 0) (low a (omega arith) later)
          ∙ first-in f n (a + 1) k (omega arith) (omega arith) member (λ j x y. low j (omega arith) y)
    ]

none-in : (f : ℕ → Bool) (n a : ℕ) → ((j : ℕ) → a ≤ j → j < a + n → f j ≡ false) → slice_get (filter f (range_with_len a n)) 0 ≡ None
none-in f zero a none = refl
none-in f (suc n) a none =
    ap (λ b. slice_get (cond b (a ∷ filter f (range_with_len (a + 1) n)) (filter f (range_with_len (a + 1) n))) 0) (none a (omega arith) (omega arith))
    ∙ none-in f n (a + 1) (λ j x y. none j (omega arith) (omega arith))

pub lowest-some : (n k : ℕ) (s : Tracks) → k < n → IsLowestFrom s 0 k → Some k ≡ lowest n s
unfolding in_order
lowest-some n k s low is = sym (first-in (contains s) n 0 k (omega arith) (omega arith) is.member (λ j a b. is.lowest j a b))

pub lowest-past : (n k : ℕ) (s : Tracks) → n ≤ k → IsLowestFrom s 0 k → None ≡ lowest n s
unfolding in_order
lowest-past n k s past is = sym (none-in (contains s) n 0 (λ j a b. is.lowest j a (omega arith)))

pub lowest-none : (n : ℕ) (s : Tracks) → NoneFrom s 0 → None ≡ lowest n s
unfolding in_order
lowest-none n s none = sym (none-in (contains s) n 0 (λ j a b. none j a))

pub whole-by : (n : ℕ) (own : Tracks) (o : Option ℕ) (b : Bool) → not b ≡ is_some o → MatchOption o (NoneFrom (rest n own) 0) (λ k. IsLowestFrom (rest n own) 0 k) → b ≡ is_whole n own
whole-by n own None true e none = sym (whole-none n own none)
whole-by n own (Some k) false e is = sym (whole-some n k own is.member)
whole-by n own None false e none = absurd cc
whole-by n own (Some k) true e is = absurd cc
