-- The laws of sets of tracks: which tracks an operation's set has, and when two sets are one.
use Rattle.std.proofs.Common.{ℕ, zero, suc, ◌≡◌, ◌<◌, ◌≤◌, ◌+◌, ◌-◌, Bool, true, false, not, ◌||◌, ◌&&◌, [], ◌∷◌, ◌++◌, arith, rules, sym, ◌∙◌, ap, refl, nat_eq, nat_lt, cond, inl, inr, None, Some}
use Rattle.std.specs.Ordering.{nat_cmp}
use Rattle.std.specs.Cmp.{nat_cmp_total, unsigned_tied}
use Rattle.std.specs.FinSet.{contains, empty, insert, remove, union, difference, intersection, same_set, nat_cmp-IsAntisymmetric, contains-empty, contains-insert, contains-remove, contains-union, contains-difference, contains-intersection, from_list_push, members}
use Rattle.std.specs.FinSet as fin
use Rattle.std.proofs.lemmas.List.{append-nil}
use Rattle.std.proofs.lemmas.Bool.Decides.{nat_tests, leb_tells, eqb_tells}
use Rattle.std.specs.Prelude.{filter}
use Rattle.std.specs.List.{range_with_len}
use Rattle.std.proofs.lemmas.List.Elements.{filter-append}
use Rattle.dr_bits.specs.Tracks.{Tracks, passing, of_test, NoneFrom, IsInRange, IsLowestFrom, lowest_in, lowest_from, first}
use Rattle.dr_bits.specs.Membership.{contains-of_test, contains-of_test_past}
use Rattle.dr_logic.proofs.Sets.{in_difference}

-- two sets with the same members are one
pub same_tracks : (a b : Tracks) → ((t : ℕ) → contains a t ≡ contains b t) → a ≡ b
same_tracks a b same = same_set nat_cmp_total nat_cmp-IsAntisymmetric a b same

-- and below 256 is enough where both are in range
pub same_in_range : (a b : Tracks) → IsInRange a → IsInRange b → ((t : ℕ) → t < 256 → contains a t ≡ contains b t) → a ≡ b
same_in_range a b in_a in_b same = same_tracks a b (λ t.
    elim (leb_tells 256 t) as (λ _. contains a t ≡ contains b t) [
      | inl p ↦ in_a t p.1 ∙ sym (in_b t p.1)
      | inr p ↦ same t p.1
    ])

pub contains-insert_tracks : (s : Tracks) (t q : ℕ) → contains (insert s t) q ≡ (nat_eq q t || contains s q)
contains-insert_tracks s t q = contains-insert nat_cmp_total s t q ∙ ap (λ b. b || contains s q) (unsigned_tied q t)

pub contains-remove_tracks : (s : Tracks) (t q : ℕ) → contains (remove s t) q ≡ (not (nat_eq q t) && contains s q)
contains-remove_tracks s t q = contains-remove nat_cmp_total s t q ∙ ap (λ b. not b && contains s q) (unsigned_tied q t)

pub contains-union_tracks : (a b : Tracks) (q : ℕ) → contains (union a b) q ≡ (contains a q || contains b q)
contains-union_tracks a b q = contains-union nat_cmp_total a b q

pub contains-keep_tracks : (a b : Tracks) (q : ℕ) → contains (intersection a b) q ≡ (contains a q && contains b q)
contains-keep_tracks a b q = contains-intersection nat_cmp_total a b q

pub contains-first : (n q : ℕ) → n ≤ 256 → contains (first n) q ≡ nat_lt q n
contains-first n q within = let e = contains-of_test (λ t. nat_lt t n) q in grind (arith, nat_tests, e)

-- each operation's set is in range
pub in_range-of_test : (f : ℕ → Bool) → IsInRange (of_test f)
in_range-of_test f t high = contains-of_test_past f t high

pub in_range-empty : IsInRange empty
in_range-empty t high = contains-empty nat_cmp t

pub in_range-insert : (s : Tracks) (t : ℕ) → t < 256 → IsInRange s → IsInRange (insert s t)
in_range-insert s t low in_s q high = let e = contains-insert_tracks s t q in let g = in_s q high in grind (arith, nat_tests, e, g)

pub in_range-remove : (s : Tracks) (t : ℕ) → IsInRange s → IsInRange (remove s t)
in_range-remove s t in_s q high = let e = contains-remove_tracks s t q in let g = in_s q high in grind (arith, nat_tests, e, g)

pub in_range-union : (a b : Tracks) → IsInRange a → IsInRange b → IsInRange (union a b)
in_range-union a b in_a in_b q high = contains-union_tracks a b q ∙ (λ i. in_a q high i || in_b q high i)

pub in_range-minus : (a b : Tracks) → IsInRange a → IsInRange (difference a b)
in_range-minus a b in_a q high = in_difference a b q ∙ ap (λ x. x && not (contains b q)) (in_a q high)

pub in_range-keep : (a b : Tracks) → IsInRange a → IsInRange (intersection a b)
in_range-keep a b in_a q high = contains-keep_tracks a b q ∙ ap (λ x. x && contains b q) (in_a q high)

pub remove_past : (s : Tracks) (t : ℕ) → IsInRange s → 256 ≤ t → s ≡ remove s t
remove_past s t in_s high = same_in_range s _ in_s (in_range-remove s t in_s)
    (λ k low. let i = contains-remove_tracks s t k in grind (arith, nat_tests, i))

-- at most one member is the lowest
pub lowest_unique : (s : Tracks) (t a b : ℕ) → IsLowestFrom s t a → IsLowestFrom s t b → a ≡ b
lowest_unique s t a b low_a low_b =
    elim (eqb_tells a b) as (λ _. a ≡ b) [
      | inl p ↦ p.1
      | inr p ↦ elim (leb_tells a b) as (λ _. a ≡ b) [
        | inl q ↦ let clash = low_b.lowest a low_a.from (let ne = p.1 in let le = q.1 in omega arith) in cc (clash, low_a.member)
        | inr q ↦ let clash = low_a.lowest b low_b.from (let lt = q.1 in omega arith) in cc (clash, low_b.member)
      ]
    ]

lowest_in-some : (f : ℕ → Bool) (n t k : ℕ) → t ≤ k → k < t + n → f k ≡ true → ((j : ℕ) → t ≤ j → j < k → f j ≡ false) → lowest_in f t n ≡ Some k
unfolding lowest_in
lowest_in-some f zero t k from to member lowest = absurd (omega arith)
lowest_in-some f (suc n) t k from to member lowest =
    elim (eqb_tells t k) as (λ _. cond (f t) (Some t) (lowest_in f (t + 1) n) ≡ Some k) [
      | inl p ↦ ap (λ b. cond b (Some t) (lowest_in f (t + 1) n)) (ap f p.1 ∙ member) ∙ ap (λ x. Some x) p.1
      | inr p ↦
          let later : t < k = (let ne = p.1 in omega arith) in
          ap (λ b. cond b (Some t) (lowest_in f (t + 1) n)) (lowest t (omega arith) later)
          ∙ lowest_in-some f n (t + 1) k (omega arith) (omega arith) member (λ j a b. lowest j (omega arith) b)
    ]

lowest_in-none : (f : ℕ → Bool) (n t : ℕ) → ((j : ℕ) → t ≤ j → f j ≡ false) → lowest_in f t n ≡ None
unfolding lowest_in
lowest_in-none f zero t none = refl
lowest_in-none f (suc n) t none = ap (λ b. cond b (Some t) (lowest_in f (t + 1) n)) (none t (omega arith)) ∙ lowest_in-none f n (t + 1) (λ j from. none j (omega arith))

-- the lowest member is what `lowest_from` says, and it says none where there is none
pub lowest_from-some : (s : Tracks) (t k : ℕ) → IsLowestFrom s t k → lowest_from s t ≡ Some k
unfolding lowest_from
lowest_from-some s t k low = let r = low.in_range in let f = low.from in lowest_in-some (contains s) (256 - t) t k low.from (omega arith) low.member low.lowest

pub lowest_from-none : (s : Tracks) (t : ℕ) → NoneFrom s t → lowest_from s t ≡ None
unfolding lowest_from
lowest_from-none s t none = lowest_in-none (contains s) (256 - t) t none

or_not : (a b : Bool) → ((a || b) && not b) ≡ (a && not b)
or_not true true = refl
or_not true false = refl
or_not false true = refl
or_not false false = refl

-- what was added and is taken out again leaves the rest
pub minus-union : (a b : Tracks) → difference (union a b) b ≡ difference a b
minus-union a b = same_tracks _ _ (λ t.
    in_difference (union a b) b t
    ∙ ap (λ x. x && not (contains b t)) (contains-union_tracks a b t)
    ∙ or_not (contains a t) (contains b t)
    ∙ sym (in_difference a b t))

put_back : (a b : Bool) → (b ≡ true → a ≡ true) → ((a && not b) || b) ≡ a
put_back true true within = refl
put_back true false within = refl
put_back false true within = sym (within refl)
put_back false false within = refl

-- what was taken out, being members, and is added again gives the set
pub union-minus : (s part : Tracks) → ((t : ℕ) → contains part t ≡ true → contains s t ≡ true) → union (difference s part) part ≡ s
union-minus s part within = same_tracks _ _ (λ t.
    contains-union_tracks (difference s part) part t
    ∙ ap (λ x. x || contains part t) (in_difference s part t)
    ∙ put_back (contains s t) (contains part t) (within t))

-- a set with nothing from 0 on is empty
pub none_is_empty : (s : Tracks) → NoneFrom s 0 → s ≡ empty
none_is_empty s none = same_tracks s empty (λ t. none t (omega arith) ∙ sym (contains-empty nat_cmp t))

range_push : (a n j : ℕ) → a + n ≡ j → range_with_len a (suc n) ≡ range_with_len a n ++ j ∷ []
range_push a zero j e = ap (λ k. k ∷ []) (let same : a ≡ j = omega arith in same)
range_push a (suc n) j e = ap (λ xs. a ∷ xs) (range_push (a + 1) n j (omega arith))

-- the tracks below n that pass, as a list, are the same set
pub from_list-passing : (f : ℕ → Bool) (n : ℕ) → fin.from_list {R = nat_cmp} (filter f (range_with_len 0 n)) ≡ passing f n
unfolding passing
from_list-passing f zero = refl
from_list-passing f (suc n) =
    ap (λ xs. fin.from_list {R = nat_cmp} (filter f xs)) (range_push 0 n n (omega arith))
    ∙ ap (λ xs. fin.from_list {R = nat_cmp} xs) (filter-append f (range_with_len 0 n) (n ∷ []))
    ∙ elim (f n) as (λ b. fin.from_list {R = nat_cmp} (filter f (range_with_len 0 n) ++ cond b (n ∷ []) []) ≡ cond b (insert (passing f n) n) (passing f n)) [
      | true ↦ from_list_push nat_cmp_total nat_cmp-IsAntisymmetric (filter f (range_with_len 0 n)) n ∙ ap (λ s. insert s n) (from_list-passing f n)
      | false ↦ ap (λ xs. fin.from_list {R = nat_cmp} xs) (append-nil (filter f (range_with_len 0 n))) ∙ from_list-passing f n
    ]
