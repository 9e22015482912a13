-- The number whose bits are a test's answers, and the words of a set that words stand for.
use Rattle.std.proofs.Common.{ℕ, zero, suc, ◌≡◌, ◌<◌, ◌+◌, ◌*◌, ◌/◌, ◌%◌, ◌^◌, Bool, true, false, List, get_or, arith, sym, ◌∙◌, ap, refl, nat_eq, cond}
use Rattle.std.specs.Int.{bit_at}
use Rattle.std.specs.FinSet.{contains}
use Rattle.std.proofs.Math.Nat.{pow-succ', div-div-eq-div-mul}
use Rattle.std.proofs.lemmas.Bool.Decides.{nat_tests}
use Rattle.std.proofs.lemmas.List.FromFn.{fill_by_all}
use Rattle.std.proofs.lemmas.Nat.Bits.{bit_at-lt, same_from_bits_below}
use Rattle.dr_lanes.specs.Words.{bits_of}
use Rattle.dr_lanes.proofs.Members.{contains-bits_of}
use Rattle.dr_lanes.proofs.Lowest.{is_set-at}
use Rattle.dr_bits.specs.Tracks.{number_of, words_of, AreFourWords}

-- a truth value as a digit
pub bit_below_two : (b : Bool) → cond b 1 0 < 2
bit_below_two true = omega arith
bit_below_two false = omega arith

-- and back
bit_told : (b : Bool) → nat_eq (cond b 1 0) 1 ≡ b
bit_told true = refl
bit_told false = refl

-- the lowest bit of a number
lowest_bit : (b m : ℕ) → b < 2 → ((b + 2 * m) / 2 ^ 0) % 2 ≡ b
lowest_bit b m low = omega arith

-- the bits above it are those of half the number
later_bits : (b m r : ℕ) → b < 2 → (b + 2 * m) / 2 ^ suc r ≡ m / 2 ^ r
later_bits b m r low =
    ap (λ p. (b + 2 * m) / p) (pow-succ' 2 r)
    ∙ sym (div-div-eq-div-mul (b + 2 * m) 2 (2 ^ r))
    ∙ ap (λ q. q / 2 ^ r) (let e : (b + 2 * m) / 2 ≡ m = omega arith in e)

-- each bit of the number is the answer that it stands for
pub number_of-bit : (f : ℕ → Bool) (t n r : ℕ) → r < n → nat_eq ((number_of f t n / 2 ^ r) % 2) 1 ≡ f (t + r)
unfolding number_of
number_of-bit f t zero r within = absurd (omega arith)
number_of-bit f t (suc n) zero within =
    ap (λ b. nat_eq b 1) (lowest_bit (cond (f t) 1 0) (number_of f (t + 1) n) (bit_below_two (f t)))
    ∙ bit_told (f t) ∙ ap f (let e : t ≡ t + 0 = omega arith in e)
number_of-bit f t (suc n) (suc r) within =
    ap (λ q. nat_eq (q % 2) 1) (later_bits (cond (f t) 1 0) (number_of f (t + 1) n) r (bit_below_two (f t)))
    ∙ number_of-bit f (t + 1) n r (omega arith) ∙ ap f (let e : (t + 1) + r ≡ t + suc r = omega arith in e)

-- n answers give a number of n bits
pub number_of_below : (f : ℕ → Bool) (t n : ℕ) → number_of f t n < 2 ^ n
unfolding number_of
number_of_below f t zero = omega arith
number_of_below f t (suc n) = omega (arith, number_of_below f (t + 1) n, pow-succ' 2 n, bit_below_two (f t))

-- two digits with the same test are one
same_digit : (a b : ℕ) → a < 2 → b < 2 → nat_eq a 1 ≡ nat_eq b 1 → a ≡ b
same_digit a b low_a low_b same = grind (arith, nat_tests)

-- a number of n bits is the one that its bits tell
pub number_of_is : (f : ℕ → Bool) (t n w : ℕ) → w < 2 ^ n → ((i : ℕ) → i < n → nat_eq (bit_at w i) 1 ≡ f (t + i)) → w ≡ number_of f t n
number_of_is f t n w low same =
    same_from_bits_below n w (number_of f t n) low (number_of_below f t n)
    (λ i within. same_digit _ _ (bit_at-lt w i) (bit_at-lt (number_of f t n) i) (same i within ∙ sym (number_of-bit f t n i within)))

-- the words come back from the set that they stand for
pub words_of-bits_of : (words : List ℕ) → AreFourWords words → words_of (bits_of words) ≡ words
unfolding words_of
words_of-bits_of words are = sym (fill_by_all (λ k. number_of (contains (bits_of words)) (64 * k) 64) words 4 0 are.four
    (λ k low. number_of_is (contains (bits_of words)) (64 * k) 64 (get_or words k 0) (are.fit k)
    (λ i within. sym (contains-bits_of words (64 * k + i) ∙ is_set-at words k i within))))
