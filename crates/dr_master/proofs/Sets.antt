-- Sets of servers as bits of a number.
use Rattle.std.proofs.Common.{◌≡◌, ◌≢◌, ℕ, zero, suc, ◌+◌, ◌*◌, ◌%◌, ◌^◌, ◌<◌, ◌≤◌, Bool, true, false, not, ◌&&◌, ◌||◌, cond, inl, inr, List, [], ◌∷◌, filter, slice_get, Some, refl, sym, ◌∙◌, ap, arith, ◌==◌, bit_and, bit_or, w8}
use Rattle.std.specs.Int.{bit_at, bit_not, trailing_zeros}
use Rattle.std.specs.List.{range_with_len}
use Rattle.std.proofs.lemmas.Nat.Bits.{bit_at_set_same, bit_at_set_other, bit_at_clear_same, bit_at_clear_other, bit_at-trailing_zeros, same_from_bits_below, bit_at-lt, bit_at-zero}
use Rattle.std.proofs.lemmas.Bool.Decides.{nat_tests, eqb_tells}
use Rattle.std.proofs.Math.Bool.{and-false, and-true}
use Rattle.dr_model.specs.Phases.{servers_where, is_among, without}
use Rattle.dr_master.specs.Seen.{servers_in}

pub servers_in-none : servers_in 0 ≡ []
unfolding servers_where
servers_in-none = refl

any-in : (p : ℕ → Bool) (s x : ℕ) (xs : List ℕ) → p x ≡ true → is_among s (filter p xs) ≡ (is_among s xs && p s) → (x == s || is_among s (filter p xs)) ≡ ((x == s || is_among s xs) && p s)
any-in p s x xs passes rest =
    elim (eqb_tells x s) as (λ _. (x == s || is_among s (filter p xs)) ≡ ((x == s || is_among s xs) && p s)) [
      | inl h ↦ ap (λ b. b || is_among s (filter p xs)) h.0 ∙ (sym passes ∙ (ap p h.1 ∙ sym (ap (λ b. (b || is_among s xs) && p s) h.0)))
      | inr h ↦ ap (λ b. b || is_among s (filter p xs)) h.0 ∙ (rest ∙ sym (ap (λ b. (b || is_among s xs) && p s) h.0))
    ]

any-out : (p : ℕ → Bool) (s x : ℕ) (xs : List ℕ) → p x ≡ false → is_among s (filter p xs) ≡ (is_among s xs && p s) → is_among s (filter p xs) ≡ ((x == s || is_among s xs) && p s)
any-out p s x xs fails rest =
    elim (eqb_tells x s) as (λ _. is_among s (filter p xs) ≡ ((x == s || is_among s xs) && p s)) [
      | inl h ↦ let out : p s ≡ false = sym (ap p h.1) ∙ fails in rest ∙ (ap (λ b. is_among s xs && b) out ∙ (and-false (is_among s xs) ∙ (sym out ∙ sym (ap (λ b. (b || is_among s xs) && p s) h.0))))
      | inr h ↦ rest ∙ sym (ap (λ b. (b || is_among s xs) && p s) h.0)
    ]

any-filter : (p : ℕ → Bool) (s : ℕ) (xs : List ℕ) → is_among s (filter p xs) ≡ (is_among s xs && p s)
any-filter p s [] = refl
any-filter p s (x ∷ xs) =
    elim (p x) as (λ b. p x ≡ b → is_among s (cond b (x ∷ filter p xs) (filter p xs)) ≡ ((x == s || is_among s xs) && p s)) [
      | true ↦ λ passes. any-in p s x xs passes (any-filter p s xs)
      | false ↦ λ fails. any-out p s x xs fails (any-filter p s xs)
    ] refl

filter-filter : (p q : ℕ → Bool) (xs : List ℕ) → filter q (filter p xs) ≡ filter (λ k. p k && q k) xs
filter-filter p q [] = refl
filter-filter p q (x ∷ xs) =
    elim (p x) as (λ b. filter q (cond b (x ∷ filter p xs) (filter p xs)) ≡ cond (b && q x) (x ∷ filter (λ k. p k && q k) xs) (filter (λ k. p k && q k) xs)) [
      | true ↦ ap (λ ys. cond (q x) (x ∷ ys) ys) (filter-filter p q xs)
      | false ↦ filter-filter p q xs
    ]

filter-range : (p q : ℕ → Bool) (a n : ℕ) → ((k : ℕ) → k < a + n → p k ≡ q k) → filter p (range_with_len a n) ≡ filter q (range_with_len a n)
filter-range p q a zero same = refl
filter-range p q a (suc n) same = λ i. cond (same a (omega arith) i) (a ∷ filter-range p q (a + 1) n (λ k low. same k (omega arith)) i) (filter-range p q (a + 1) n (λ k low. same k (omega arith)) i)

among-eight : (s : ℕ) → s < 8 → is_among s (range_with_len 0 8) ≡ true
among-eight zero low = refl
among-eight (suc zero) low = refl
among-eight (suc (suc zero)) low = refl
among-eight (suc (suc (suc zero))) low = refl
among-eight (suc (suc (suc (suc zero)))) low = refl
among-eight (suc (suc (suc (suc (suc zero))))) low = refl
among-eight (suc (suc (suc (suc (suc (suc zero)))))) low = refl
among-eight (suc (suc (suc (suc (suc (suc (suc zero))))))) low = refl
among-eight (suc (suc (suc (suc (suc (suc (suc (suc s)))))))) low = absurd (omega arith)

-- two tests that agree on the eight servers give the same ones
pub servers_where-same : (p q : ℕ → Bool) → ((k : ℕ) → k < 8 → p k ≡ q k) → servers_where p ≡ servers_where q
unfolding servers_where
servers_where-same p q same = filter-range p q 0 8 (λ k low. same k (omega arith))

-- a server is among those that pass exactly where it passes
pub is_among-servers_where : (p : ℕ → Bool) (s : ℕ) → s < 8 → is_among s (servers_where p) ≡ p s
unfolding servers_where
is_among-servers_where p s low = any-filter p s (range_with_len 0 8) ∙ ap (λ b. b && p s) (among-eight s low)

pub without-servers_where : (p : ℕ → Bool) (s : ℕ) → without s (servers_where p) ≡ servers_where (λ k. p k && not (k == s))
unfolding servers_where
without-servers_where p s = filter-filter p (λ k. not (k == s)) (range_with_len 0 8)

cleared : (n s k : ℕ) → s < 8 → k < 8 → (bit_at (bit_and n (bit_not w8 (1 * 2 ^ s % 2 ^ 8))) k == 1) ≡ ((bit_at n k == 1) && not (k == s))
cleared n s k low below =
    elim (eqb_tells k s) as (λ _. (bit_at (bit_and n (bit_not w8 (1 * 2 ^ s % 2 ^ 8))) k == 1) ≡ ((bit_at n k == 1) && not (k == s))) [
      | inl h ↦ ap (λ i. bit_at (bit_and n (bit_not w8 (1 * 2 ^ s % 2 ^ 8))) i == 1) h.1 ∙ (ap (λ b. b == 1) (bit_at_clear_same w8 n s low) ∙ sym (ap (λ b. (bit_at n k == 1) && not b) h.0 ∙ and-false (bit_at n k == 1)))
      | inr h ↦ ap (λ b. b == 1) (bit_at_clear_other w8 n s low k below h.1) ∙ sym (ap (λ b. (bit_at n k == 1) && not b) h.0 ∙ and-true (bit_at n k == 1))
    ]

pub servers_in-cleared : (n s : ℕ) → s < 8 → servers_in (bit_and n (bit_not w8 (1 * 2 ^ s % 2 ^ 8))) ≡ without s (servers_in n)
servers_in-cleared n s low =
    servers_where-same _ _ (λ k below. cleared n s k low below) ∙ sym (without-servers_where (λ k. bit_at n k == 1) s)

set_bit : (n s k : ℕ) → s < 8 → k < 8 → (bit_at (bit_or n (1 * 2 ^ s % 2 ^ 8)) k == 1) ≡ (k == s || is_among k (servers_in n))
set_bit n s k low below =
    elim (eqb_tells k s) as (λ _. (bit_at (bit_or n (1 * 2 ^ s % 2 ^ 8)) k == 1) ≡ (k == s || is_among k (servers_in n))) [
      | inl h ↦ ap (λ i. bit_at (bit_or n (1 * 2 ^ s % 2 ^ 8)) i == 1) h.1 ∙ (ap (λ b. b == 1) (bit_at_set_same w8 n s low) ∙ sym (ap (λ b. b || is_among k (servers_in n)) h.0))
      | inr h ↦ ap (λ b. b == 1) (bit_at_set_other w8 n s low k h.1) ∙ (sym (is_among-servers_where (λ i. bit_at n i == 1) k below) ∙ sym (ap (λ b. b || is_among k (servers_in n)) h.0))
    ]

pub servers_in-set : (n s : ℕ) → s < 8 → servers_in (bit_or n (1 * 2 ^ s % 2 ^ 8)) ≡ servers_where (λ k. k == s || is_among k (servers_in n))
servers_in-set n s low = servers_where-same _ _ (λ k below. set_bit n s k low below)

no_bit : (n k : ℕ) → servers_in n ≡ [] → k < 8 → bit_at n k ≡ 0
no_bit n k none low =
    let out : false ≡ (bit_at n k == 1) = ap (is_among k) (sym none) ∙ is_among-servers_where (λ k. bit_at n k == 1) k low in
    let two : bit_at n k < 2 = bit_at-lt n k in
    grind (arith, nat_tests)

-- no server is in it only where it is 0
pub zero-servers_in : (n : ℕ) → n < 256 → servers_in n ≡ [] → n ≡ 0
zero-servers_in n low none = same_from_bits_below 8 n 0 (omega arith) (omega arith) (λ k below. no_bit n k none below ∙ sym (bit_at-zero k))

-- the first number that passes, of those from a on
first-passing : (p : ℕ → Bool) (t a n : ℕ) → a ≤ t → t < a + n → p t ≡ true → ((k : ℕ) → k < t → p k ≡ false) → slice_get (filter p (range_with_len a n)) 0 ≡ Some t
first-passing p t a zero from below passes fails = absurd (omega arith)
first-passing p t a (suc n) from below passes fails =
    let after = filter p (range_with_len (a + 1) n) in
    elim (eqb_tells a t) as (λ _. slice_get (cond (p a) (a ∷ after) after) 0 ≡ Some t) [
      | inl h ↦ ap (λ b. slice_get (cond b (a ∷ after) after) 0) (ap p h.1 ∙ passes) ∙ ap Some h.1
      | inr h ↦ ap (λ b. slice_get (cond b (a ∷ after) after) 0) (fails a (omega arith)) ∙ first-passing p t (a + 1) n (omega arith) (omega arith) passes fails
    ]

positive : (n : ℕ) → servers_in n ≢ [] → 0 < n
positive zero some = absurd (some servers_in-none)
positive (suc n) some = omega arith

-- the lowest bit is the first server
pub first-servers_in : (n : ℕ) → n < 256 → servers_in n ≢ [] → (slice_get (servers_in n) 0 ≡ Some (trailing_zeros w8 n)) × (trailing_zeros w8 n < 8)
unfolding servers_where
first-servers_in n low some =
    let lowest = bit_at-trailing_zeros w8 n (positive n some) (omega arith) in (
      first-passing (λ k. bit_at n k == 1) (trailing_zeros w8 n) 0 8 (omega arith) lowest.0 (ap (λ b. b == 1) lowest.1) (λ k below. ap (λ b. b == 1) (lowest.2 k below)),
      lowest.0,
    )
