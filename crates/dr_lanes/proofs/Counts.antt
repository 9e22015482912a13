-- The laws of counting the bits that are set, word by word.
use Rattle.std.proofs.Common.{ℕ, zero, suc, ◌≡◌, ◌<◌, ◌+◌, ◌*◌, ◌/◌, ◌%◌, ◌^◌, Bool, List, get_or, arith, sym, ◌∙◌, ap, refl, nat_eq, cond, zero-add, add_assoc, add_comm}
use Rattle.std.specs.Int.{bit_at}
use Rattle.std.specs.Int.RustNames.{count_ones}
use Rattle.std.proofs.lemmas.Nat.{ones_cat}
use Rattle.std.proofs.lemmas.Nat.Bits.{bit_at-suc, bit_at_lowest, bit_at-lt}
use Rattle.std.proofs.lemmas.Bool.Decides.{nat_tests}
use Rattle.std.proofs.Math.Nat.{pow-succ'}
use Rattle.dr_lanes.specs.Words.{is_set}
use Rattle.dr_lanes.proofs.Members.{how_many}

-- bit i of one word
abbrev pub bit : ℕ → ℕ → Bool
bit w i = nat_eq (bit_at w i) 1

pub how_many-more : (f : ℕ → Bool) (a m n : ℕ) → how_many f a (m + n) ≡ how_many f a m + how_many f (a + m) n
unfolding how_many
how_many-more f a zero n =
    let here : a ≡ a + 0 = omega arith in
    let all : 0 + n ≡ n = omega arith in
    (λ i. how_many f (here i) (all i)) ∙ sym (zero-add (how_many f (a + 0) n))
how_many-more f a (suc m) n =
    let all : suc m + n ≡ suc (m + n) = omega arith in
    let here : a + 1 + m ≡ a + suc m = omega arith in
    ap (how_many f a) all
    ∙ ap (λ k. cond (f a) 1 0 + k) (how_many-more f (a + 1) m n ∙ ap (λ b. how_many f (a + 1) m + how_many f b n) here)
    ∙ sym (add_assoc (cond (f a) 1 0) (how_many f (a + 1) m) (how_many f (a + suc m) n))

pub how_many-same : (f g : ℕ → Bool) (a b n : ℕ) → ((i : ℕ) → i < n → f (a + i) ≡ g (b + i)) → how_many f a n ≡ how_many g b n
unfolding how_many
how_many-same f g a b zero same = refl
how_many-same f g a b (suc n) same =
    let first : f a ≡ g b = ap f (omega arith) ∙ same 0 (omega arith) ∙ ap g (omega arith) in
    (λ i. cond (first i) 1 0 + how_many-same f g (a + 1) (b + 1) n (λ k low. ap f (omega arith) ∙ same (suc k) (omega arith) ∙ ap g (omega arith)) i)

ones_of_digit : (b : ℕ) → b < 2 → count_ones b ≡ b
unfolding count_ones
ones_of_digit zero low = refl
ones_of_digit (suc b) low = let one : suc b ≡ 1 = omega arith in ap count_ones one ∙ sym one

ones_half : (w : ℕ) → count_ones w ≡ w % 2 + count_ones (w / 2)
ones_half w =
    let parts : w ≡ w / 2 * 2 ^ 1 + w % 2 = omega arith in
    ap count_ones parts ∙ ones_cat 1 (w / 2) (w % 2) (omega arith) ∙ add_comm (count_ones (w / 2)) (count_ones (w % 2)) ∙ ap (λ b. b + count_ones (w / 2)) (ones_of_digit (w % 2) (omega arith))

bit_is_digit : (b : ℕ) → b < 2 → cond (nat_eq b 1) 1 0 ≡ b
bit_is_digit b low = grind (arith, nat_tests)

-- a word of n bits
pub ones_of_bits : (n w : ℕ) → w < 2 ^ n → how_many (bit w) 0 n ≡ count_ones w
unfolding how_many count_ones
ones_of_bits zero w low = let none : 0 ≡ w = omega arith in ap count_ones none
ones_of_bits (suc n) w low =
    (λ i. bit_is_digit (bit_at w 0) (bit_at-lt w 0) i + how_many-same (bit w) (bit (w / 2)) (0 + 1) 0 n (λ k _. ap (λ b. nat_eq b 1) (ap (bit_at w) (omega arith) ∙ bit_at-suc w k ∙ ap (bit_at (w / 2)) (omega arith))) i)
    ∙ (λ i. bit_at_lowest w i + ones_of_bits n (w / 2) (omega (arith, pow-succ' 2 n)) i)
    ∙ sym (ones_half w)

-- the bits of word number `at`
pub ones_of_word : (words : List ℕ) (at : ℕ) → get_or words at 0 < 2 ^ 64 → how_many (is_set words) (64 * at) 64 ≡ count_ones (get_or words at 0)
ones_of_word words at low =
    how_many-same (is_set words) (bit (get_or words at 0)) (64 * at) 0 64 (λ i few.
    let word : (64 * at + i) / 64 ≡ at = omega arith in
    let place : (64 * at + i) % 64 ≡ 0 + i = omega arith in
    (λ j. nat_eq (bit_at (get_or words (word j) 0) (place j)) 1))
    ∙ ones_of_bits 64 (get_or words at 0) low

-- one word more
pub counted-one : (words : List ℕ) (at n : ℕ) → get_or words at 0 < 2 ^ 64 → n ≡ how_many (is_set words) 0 (64 * at) → n + count_ones (get_or words at 0) ≡ how_many (is_set words) 0 (64 * (at + 1))
counted-one words at n low so_far =
    let more : 64 * at + 64 ≡ 64 * (at + 1) = omega arith in
    let here : 64 * at ≡ 0 + 64 * at = omega arith in
    (λ i. so_far i + sym (ones_of_word words at low) i)
    ∙ ap (λ a. how_many (is_set words) 0 (64 * at) + how_many (is_set words) a 64) here
    ∙ sym (how_many-more (is_set words) 0 (64 * at) 64)
    ∙ ap (how_many (is_set words) 0) more

pub counted-none : (words : List ℕ) → 0 ≡ how_many (is_set words) 0 0
unfolding how_many
counted-none words = refl

-- four words more
pub counted-four : (words : List ℕ) (at n : ℕ) → ((k : ℕ) → get_or words k 0 < 2 ^ 64) → n ≡ how_many (is_set words) 0 (64 * at) → n + (count_ones (get_or words at 0) + count_ones (get_or words (at + 1) 0) + count_ones (get_or words (at + 2) 0) + count_ones (get_or words (at + 3) 0)) ≡ how_many (is_set words) 0 (64 * (at + 4))
counted-four words at n low so_far =
    let one = counted-one words at n (low at) so_far in
    let two = counted-one words (at + 1) _ (low (at + 1)) one in
    let two_on : at + 1 + 1 ≡ at + 2 = omega arith in
    let three = counted-one words (at + 2) _ (low (at + 2)) (two ∙ ap (λ k. how_many (is_set words) 0 (64 * k)) two_on) in
    let three_on : at + 2 + 1 ≡ at + 3 = omega arith in
    let four = counted-one words (at + 3) _ (low (at + 3)) (three ∙ ap (λ k. how_many (is_set words) 0 (64 * k)) three_on) in
    let four_on : at + 3 + 1 ≡ at + 4 = omega arith in
    omega arith ∙ four ∙ ap (λ k. how_many (is_set words) 0 (64 * k)) four_on
