-- Facts on lists that the library lacks.
use Rattle.std.proofs.Common.{ℕ, ◌≡◌, ◌-◌, List, take, drop, length, arith, [], ◌∷◌, refl, ap, ◌∙◌, Bool, false, cond, true, suc, ◌≤◌, ◌+◌, sym, ◌<◌, Some, None, slice_get, slice_index, zero, filter, not, nat_lt}
use Rattle.std.proofs.lemmas.Grind.{common_steps}
use Rattle.std.proofs.lemmas.List.{take_all}
use Rattle.std.proofs.lemmas.List.Sums.{position_or_len_is}
use Rattle.std.proofs.lemmas.Bool.Decides.{nat_tests}
use Rattle.std.proofs.lemmas.Bool.{false_from_ne_true}
use Rattle.std.specs.List.{position, position_or_len, slice_split, onto_first, range_with_len}
use Rattle.std.specs.Str.{bytes_eq}
use Rattle.std.proofs.lemmas.Slice.Eq.{bytes_eq-Decides}
use Rattle.std.proofs.lemmas.List.Splits.{slice_split-cons_no}

-- a slice to the end
pub to_the_end : (xs : List ℕ) (n : ℕ) → take (length xs - n) (drop n xs) ≡ drop n xs
to_the_end xs n = (take_all (length xs - n) (drop n xs) (grind (arith, common_steps)))

pub filter-none : (p : ℕ → Bool) (xs : List ℕ) → ((t : ℕ) → p t ≡ false) → filter p xs ≡ []
filter-none p [] h = refl
filter-none p (x ∷ xs) h = ap (λ b. cond b (x ∷ filter p xs) (filter p xs)) (h x) ∙ filter-none p xs h

pub cons-parts : {X : Type 0} {x y : X} {xs ys : List X} → x ∷ xs ≡ y ∷ ys → (x ≡ y) × (xs ≡ ys)
cons-parts h = (cc, cc)

pub same_bytes : (a b : List ℕ) → bytes_eq a b ≡ true → a ≡ b
same_bytes a b e = let d = bytes_eq-Decides a b in d.0 e

pub uncut : (p : ℕ → Bool) (xs : List ℕ) → length xs ≤ position_or_len p xs → slice_split p xs ≡ xs ∷ []
uncut p [] h = refl
uncut p (x ∷ xs) h =
    elim (p x) as (λ b. p x ≡ b → suc (length xs) ≤ cond (not b) (1 + position_or_len p xs) 0 → slice_split p (x ∷ xs) ≡ (x ∷ xs) ∷ []) [
      | true ↦ λ e le. absurd (omega arith)
      | false ↦ λ e le. slice_split-cons_no p x xs e ∙ ap (onto_first x) (uncut p xs (omega arith))
    ] refl h

-- the lowest track of a set is one of them
pub first-held : (f : ℕ → Bool) (k : ℕ) (xs : List ℕ) → slice_get (filter f xs) 0 ≡ Some k → f k ≡ true
first-held f k [] h = absurd cc
first-held f k (x ∷ xs) h = by (f x) refl (first-held f k xs) h
  where
    by : (b : Bool) → f x ≡ b → (slice_get (filter f xs) 0 ≡ Some k → f k ≡ true) → slice_get (cond b (x ∷ filter f xs) (filter f xs)) 0 ≡ Some k → f k ≡ true
    by true is on h = let same : x ≡ k = cc in ap f (sym same) ∙ is
    by false is on h = on h

pub few-in : (f : ℕ → Bool) (n a : ℕ) → length (filter f (range_with_len a n)) ≤ n
few-in f zero a = omega arith
few-in f (suc n) a = one (f a) (filter f (range_with_len (a + 1) n)) (few-in f n (a + 1))
  where
    one : (b : Bool) (xs : List ℕ) → length xs ≤ n → length (cond b (a ∷ xs) xs) ≤ suc n
    one true xs h = omega (arith, h)
    one false xs h = omega (arith, h)

-- what passes a test is no longer
pub filter-shorter : {X : Type 0} (f : X → Bool) (xs : List X) → length (filter f xs) ≤ length xs
filter-shorter f [] = omega arith
filter-shorter f (x ∷ xs) = let le : length (cond (f x) (x ∷ filter f xs) (filter f xs)) ≤ length xs + 1 = by (f x) (filter-shorter f xs) in omega arith
  where
    by : (b : Bool) → length (filter f xs) ≤ length xs → length (cond b (x ∷ filter f xs) (filter f xs)) ≤ length xs + 1
    by true le = omega arith
    by false le = omega arith

-- where a test first passes is its position, and it has none where no element passes
pub position-first : (p : ℕ → Bool) (xs : List ℕ) (k : ℕ) → k < length xs → ((j : ℕ) → j < k → p (slice_index xs j) ≡ true → ⊥) → p (slice_index xs k) ≡ true → Some k ≡ position p xs
position-first p xs k within before passes =
    let at : position_or_len p xs ≡ k = position_or_len_is p xs k 0 (omega arith) (λ j lt. false_from_ne_true _ (before j lt)) (λ lt. passes) in
    let there : true ≡ nat_lt (position_or_len p xs) (length xs) = grind (arith, nat_tests, at, within) in
    ap Some (sym at) ∙ ap (λ b. cond b (Some (position_or_len p xs)) None) there

pub position-none : (p : ℕ → Bool) (xs : List ℕ) → ((j : ℕ) → j < length xs → p (slice_index xs j) ≡ true → ⊥) → None ≡ position p xs
position-none p xs none =
    let all : position_or_len p xs ≡ length xs = position_or_len_is p xs (length xs) 0 (omega arith) (λ j lt. false_from_ne_true _ (none j lt)) (λ lt. absurd (omega arith)) in
    let past : false ≡ nat_lt (position_or_len p xs) (length xs) = grind (arith, nat_tests, all) in
    ap (λ b. cond b (Some (position_or_len p xs)) None) past
