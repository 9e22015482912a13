-- The laws of the set of the bits that words have set: its members, and when two sets are one.
use Rattle.std.proofs.Common.{ℕ, zero, suc, ◌≡◌, ◌<◌, ◌≤◌, ◌+◌, ◌*◌, ◌/◌, ◌%◌, Bool, true, false, ◌||◌, ◌&&◌, List, length, arith, ◌∙◌, ap, refl, nat_eq, nat_lt, nat_le, cond, inl, inr, filter, ◌∷◌}
use Rattle.std.specs.Ordering.{nat_cmp}
use Rattle.std.specs.Cmp.{nat_cmp_total, unsigned_tied}
use Rattle.std.specs.FinSet.{contains, from_list, same_set, nat_cmp-IsAntisymmetric, contains-empty, contains-insert, len-empty, len-insert}
use Rattle.std.specs.FinSet as set
use Rattle.std.specs.List.{range_with_len}
use Rattle.std.specs.Int.{bit_at}
use Rattle.std.proofs.lemmas.Bool.Decides.{nat_tests, leb_tells}
use Rattle.std.proofs.lemmas.List.{get_or_past}
use Rattle.std.proofs.lemmas.Nat.Bits.{bit_at-zero}
use Rattle.dr_lanes.specs.Words.{Bits, is_set, bits_of}

-- the numbers from a on, n of them, that pass the test
abbrev pub passing : (ℕ → Bool) → ℕ → ℕ → Bits
passing f a n = from_list (filter f (range_with_len a n))

pub same_bits : (s t : Bits) → ((k : ℕ) → contains s k ≡ contains t k) → s ≡ t
same_bits s t same = same_set nat_cmp_total nat_cmp-IsAntisymmetric s t same

none_within : (a q : ℕ) (b : Bool) → false ≡ (nat_le a q && nat_lt q (a + 0) && b)
none_within a q b = grind (arith, nat_tests)

first_in : (a n q : ℕ) (f : ℕ → Bool) → f a ≡ true → (nat_eq q a || (nat_le (a + 1) q && nat_lt q (a + 1 + n) && f q)) ≡ (nat_le a q && nat_lt q (a + suc n) && f q)
first_in a n q f passes = grind (arith, nat_tests)

first_out : (a n q : ℕ) (f : ℕ → Bool) → f a ≡ false → (nat_le (a + 1) q && nat_lt q (a + 1 + n) && f q) ≡ (nat_le a q && nat_lt q (a + suc n) && f q)
first_out a n q f fails = grind (arith, nat_tests)

pub contains-passing : (f : ℕ → Bool) (a n q : ℕ) → contains (passing f a n) q ≡ (nat_le a q && nat_lt q (a + n) && f q)
contains-passing f a zero q = contains-empty nat_cmp q ∙ none_within a q (f q)
contains-passing f a (suc n) q =
    elim (f a) as (λ b. f a ≡ b → contains (from_list {R = nat_cmp} (cond b (a ∷ filter f (range_with_len (a + 1) n)) (filter f (range_with_len (a + 1) n)))) q ≡ (nat_le a q && nat_lt q (a + suc n) && f q)) [
      | true ↦ λ passes.
          contains-insert nat_cmp_total (passing f (a + 1) n) a q
          ∙ (λ i. unsigned_tied q a i || contains-passing f (a + 1) n q i)
          ∙ first_in a n q f passes
      | false ↦ λ fails. contains-passing f (a + 1) n q ∙ first_out a n q f fails
    ] refl

-- no bit past the last word is set
pub past_is_clear : (words : List ℕ) (k : ℕ) → 64 * length words ≤ k → is_set words k ≡ false
past_is_clear words k past =
    ap (λ w. nat_eq (bit_at w (k % 64)) 1) (get_or_past words (k / 64) 0 (omega arith))
    ∙ ap (λ b. nat_eq b 1) (bit_at-zero (k % 64))

below_or_clear : (n k : ℕ) (b : Bool) → (n ≤ k → b ≡ false) → (nat_le 0 k && nat_lt k (0 + n) && b) ≡ b
below_or_clear n k b clear = elim (leb_tells n k) as (λ _. (nat_le 0 k && nat_lt k (0 + n) && b) ≡ b) [
  | inl p ↦ let is = clear p.1 in grind (arith, nat_tests)
  | inr p ↦ let low : k < n = p.1 in grind (arith, nat_tests)
]

-- bit k is a member where it is set
pub contains-bits_of : (words : List ℕ) (k : ℕ) → contains (bits_of words) k ≡ is_set words k
unfolding bits_of
contains-bits_of words k =
    contains-passing (is_set words) 0 (64 * length words) k
    ∙ below_or_clear (64 * length words) k (is_set words k) (past_is_clear words k)

-- how many of the numbers from a on, n of them, pass the test
unfoldable pub how_many : (ℕ → Bool) → ℕ → ℕ → ℕ
how_many f a zero = 0
how_many f a (suc n) = cond (f a) 1 0 + how_many f (a + 1) n

not_yet : (f : ℕ → Bool) (a n : ℕ) → contains (passing f (a + 1) n) a ≡ false
not_yet f a n = contains-passing f (a + 1) n a ∙ (let is : (nat_le (a + 1) a && nat_lt a (a + 1 + n) && f a) ≡ false = grind (arith, nat_tests) in is)

pub len-passing : (f : ℕ → Bool) (a n : ℕ) → set.len (passing f a n) ≡ how_many f a n
unfolding how_many
len-passing f a zero = len-empty nat_cmp
len-passing f a (suc n) =
    elim (f a) as (λ b. set.len (from_list {R = nat_cmp} (cond b (a ∷ filter f (range_with_len (a + 1) n)) (filter f (range_with_len (a + 1) n)))) ≡ cond b 1 0 + how_many f (a + 1) n) [
      | true ↦
          len-insert nat_cmp_total (passing f (a + 1) n) a
          ∙ ap (λ b. cond b (set.len (passing f (a + 1) n)) (set.len (passing f (a + 1) n) + 1)) (not_yet f a n)
          ∙ (let is = len-passing f (a + 1) n in omega arith)
      | false ↦ len-passing f (a + 1) n ∙ omega arith
    ]

pub len-bits_of : (words : List ℕ) → set.len (bits_of words) ≡ how_many (is_set words) 0 (64 * length words)
unfolding bits_of
len-bits_of words = len-passing (is_set words) 0 (64 * length words)

at_most : (f : ℕ → Bool) (a n : ℕ) → how_many f a n ≤ n
unfolding how_many
at_most f a zero = omega arith
at_most f a (suc n) = elim (f a) as (λ b. cond b 1 0 + how_many f (a + 1) n ≤ suc n) [
  | true ↦ let rest = at_most f (a + 1) n in omega arith
  | false ↦ let rest = at_most f (a + 1) n in omega arith
]

-- no more bits are set than the words have
pub len-bits_of_le : (words : List ℕ) → set.len (bits_of words) ≤ 64 * length words
len-bits_of_le words = let few = at_most (is_set words) 0 (64 * length words) in let is = len-bits_of words in omega arith
