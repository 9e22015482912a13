-- The laws of the four words that stand for a set: what setting and clearing a bit comes to, and the words as 32 bytes.
use Rattle.std.proofs.Common.{ℕ, zero, suc, ◌≡◌, ◌≢◌, ◌<◌, ◌≤◌, ◌+◌, ◌-◌, ◌*◌, ◌/◌, ◌%◌, ◌^◌, Bool, true, false, not, ◌||◌, ◌&&◌, List, [], ◌∷◌, length, get_or, replicate, set, arith, sym, ◌∙◌, ap, refl, nat_eq, nat_lt, inl, inr, w64, bit_or, bit_and, min, get_or-set_same, get_or-set_other, length-set, subst}
use Rattle.std.specs.Int.{bit_at, bit_not}
use Rattle.std.specs.FinSet.{contains, empty, insert, remove, intersection, contains-empty}
use Rattle.std.specs.Ordering.{nat_cmp}
use Rattle.std.specs.Simd.Lanes.{zip2, Each1, number_l, digits_l, chunk}
use Rattle.std.proofs.lemmas.List.{get_or-replicate, set_past}
use Rattle.std.proofs.lemmas.Nat.{pow-add, shr-shr}
use Rattle.std.proofs.Math.Nat.{pow-succ', mul_comm}
use Rattle.std.proofs.lemmas.Bool.Decides.{nat_tests, leb_tells, eqb_tells}
use Rattle.std.proofs.lemmas.Nat.Bits.{bit_at-lt, bit_at-zero, bit_at_and, bit_at_set_same, bit_at_set_other, bit_at_clear_same, bit_at_clear_other, bit_at_cat_low, bit_at_cat_high}
use Rattle.std.proofs.lemmas.Simd.{length-zip2, get_or-zip2, get_or-chunk, get_or_wider, get_or_narrower, Each1-chunk, Each1-from_get_or}
use Rattle.dr_lanes.specs.Words.{is_set, bits_of, IsNextFrom}
use Rattle.dr_lanes.proofs.Members.{contains-bits_of, past_is_clear}
use Rattle.dr_bits.specs.Tracks.{Tracks, of_test, first, IsInRange, IsLowestFrom, AreFourWords, number_of, bytes_of, of_bytes, bit_in}
use Rattle.dr_bits.specs.Numbers.{number_of_is}
use Rattle.dr_bits.specs.Membership.{contains-of_test_below}
use Rattle.dr_bits.proofs.Laws.{same_in_range, in_range-of_test, in_range-empty, in_range-insert, in_range-remove, in_range-keep, contains-insert_tracks, contains-remove_tracks, contains-keep_tracks}
use Rattle.dr_bits.proofs.Bytes.{bytes_of_is}

pub in_range-bits_of : (words : List ℕ) → length words ≡ 4 → IsInRange (bits_of words)
in_range-bits_of words four k high = contains-bits_of words k ∙ past_is_clear words k (omega arith)

-- words that tell the members of a set in range are that set's
pub bits_of_is : (words : List ℕ) (s : Tracks) → length words ≡ 4 → ((k : ℕ) → k < 256 → is_set words k ≡ contains s k) → IsInRange s → bits_of words ≡ s
bits_of_is words s four same in_s = same_in_range (bits_of words) s (in_range-bits_of words four) in_s (λ k low. contains-bits_of words k ∙ same k low)

pub bits_of_tested : (words : List ℕ) (f : ℕ → Bool) → length words ≡ 4 → ((k : ℕ) → k < 256 → is_set words k ≡ f k) → bits_of words ≡ of_test f
bits_of_tested words f four same = bits_of_is words (of_test f) four (λ k low. same k low ∙ sym (contains-of_test_below f k low)) (in_range-of_test f)

pub no_words : bits_of (replicate 4 0) ≡ empty
no_words = bits_of_is (replicate 4 0) empty refl
    (λ k low. ap (λ w. nat_eq (bit_at w (k % 64)) 1) (get_or-replicate 4 (k / 64) 0 0 (omega arith)) ∙ ap (λ b. nat_eq b 1) (bit_at-zero (k % 64)) ∙ sym (contains-empty nat_cmp k))
    in_range-empty

-- one word of the list is another: which bits that leaves alone, and which it decides
other_word : (words : List ℕ) (at w k : ℕ) → k / 64 ≢ at → is_set (set words at w) k ≡ is_set words k
other_word words at w k other = ap (λ v. nat_eq (bit_at v (k % 64)) 1) (get_or-set_other words at (k / 64) w 0 other)

this_word : (words : List ℕ) (at w k : ℕ) → k / 64 ≡ at → at < length words → is_set (set words at w) k ≡ nat_eq (bit_at w (k % 64)) 1
this_word words at w k here within =
    ap (λ i. nat_eq (bit_at (get_or (set words at w) i 0) (k % 64)) 1) here
    ∙ ap (λ v. nat_eq (bit_at v (k % 64)) 1) (get_or-set_same words at w 0 within)

abbrev with_bit : List ℕ → ℕ → List ℕ
with_bit words t = set words (t / 64) (bit_or (get_or words (t / 64) 0) (1 * 2 ^ (t % 64) % 2 ^ 64))

set_bit_same : (words : List ℕ) (t : ℕ) → t / 64 < length words → is_set (with_bit words t) t ≡ true
set_bit_same words t within =
    this_word words (t / 64) (bit_or (get_or words (t / 64) 0) (1 * 2 ^ (t % 64) % 2 ^ 64)) t refl within
    ∙ ap (λ b. nat_eq b 1) (bit_at_set_same w64 (get_or words (t / 64) 0) (t % 64) (omega arith))

set_bit_other : (words : List ℕ) (t k : ℕ) → t / 64 < length words → k ≢ t → is_set (with_bit words t) k ≡ is_set words k
set_bit_other words t k within other =
    elim (eqb_tells (k / 64) (t / 64)) as (λ _. is_set (with_bit words t) k ≡ is_set words k) [
      | inl p ↦
          let here : k / 64 ≡ t / 64 = p.1 in
          this_word words (t / 64) (bit_or (get_or words (t / 64) 0) (1 * 2 ^ (t % 64) % 2 ^ 64)) k here within
          ∙ ap (λ b. nat_eq b 1) (bit_at_set_other w64 (get_or words (t / 64) 0) (t % 64) (omega arith) (k % 64) (let place : k % 64 ≢ t % 64 = omega arith in place))
          ∙ ap (λ i. nat_eq (bit_at (get_or words i 0) (k % 64)) 1) (sym here)
      | inr p ↦ other_word words (t / 64) (bit_or (get_or words (t / 64) 0) (1 * 2 ^ (t % 64) % 2 ^ 64)) k p.1
    ]

set_bit : (words : List ℕ) (t k : ℕ) → t / 64 < length words → is_set (with_bit words t) k ≡ (nat_eq k t || is_set words k)
set_bit words t k within = elim (eqb_tells k t) as (λ _. is_set (with_bit words t) k ≡ (nat_eq k t || is_set words k)) [
  | inl p ↦ ap (is_set (with_bit words t)) p.1 ∙ set_bit_same words t within ∙ sym (ap (λ b. b || is_set words k) p.0)
  | inr p ↦ set_bit_other words t k within p.1 ∙ sym (ap (λ b. b || is_set words k) p.0)
]

pub insert_bit : (words : List ℕ) (t : ℕ) → length words ≡ 4 → t < 256 → bits_of (with_bit words t) ≡ insert (bits_of words) t
insert_bit words t four low = bits_of_is (with_bit words t) (insert (bits_of words) t)
    (length-set words (t / 64) (bit_or (get_or words (t / 64) 0) (1 * 2 ^ (t % 64) % 2 ^ 64)) ∙ four)
    (λ k _. set_bit words t k (omega arith) ∙ sym (contains-insert_tracks (bits_of words) t k ∙ ap (λ b. nat_eq k t || b) (contains-bits_of words k)))
    (in_range-insert (bits_of words) t low (in_range-bits_of words four))

abbrev without_bit : List ℕ → ℕ → List ℕ
without_bit words t = set words (t / 64) (bit_and (get_or words (t / 64) 0) (bit_not w64 (1 * 2 ^ (t % 64) % 2 ^ 64)))

clear_bit_same : (words : List ℕ) (t : ℕ) → t / 64 < length words → is_set (without_bit words t) t ≡ false
clear_bit_same words t within =
    this_word words (t / 64) (bit_and (get_or words (t / 64) 0) (bit_not w64 (1 * 2 ^ (t % 64) % 2 ^ 64))) t refl within
    ∙ ap (λ b. nat_eq b 1) (bit_at_clear_same w64 (get_or words (t / 64) 0) (t % 64) (omega arith))

clear_bit_other : (words : List ℕ) (t k : ℕ) → t / 64 < length words → k ≢ t → is_set (without_bit words t) k ≡ is_set words k
clear_bit_other words t k within other =
    elim (eqb_tells (k / 64) (t / 64)) as (λ _. is_set (without_bit words t) k ≡ is_set words k) [
      | inl p ↦
          let here : k / 64 ≡ t / 64 = p.1 in
          this_word words (t / 64) (bit_and (get_or words (t / 64) 0) (bit_not w64 (1 * 2 ^ (t % 64) % 2 ^ 64))) k here within
          ∙ ap (λ b. nat_eq b 1) (bit_at_clear_other w64 (get_or words (t / 64) 0) (t % 64) (omega arith) (k % 64) (omega arith) (let place : k % 64 ≢ t % 64 = omega arith in place))
          ∙ ap (λ i. nat_eq (bit_at (get_or words i 0) (k % 64)) 1) (sym here)
      | inr p ↦ other_word words (t / 64) (bit_and (get_or words (t / 64) 0) (bit_not w64 (1 * 2 ^ (t % 64) % 2 ^ 64))) k p.1
    ]

clear_bit : (words : List ℕ) (t k : ℕ) → t / 64 < length words → is_set (without_bit words t) k ≡ (not (nat_eq k t) && is_set words k)
clear_bit words t k within = elim (eqb_tells k t) as (λ _. is_set (without_bit words t) k ≡ (not (nat_eq k t) && is_set words k)) [
  | inl p ↦ ap (is_set (without_bit words t)) p.1 ∙ clear_bit_same words t within ∙ sym (ap (λ b. not b && is_set words k) p.0)
  | inr p ↦ clear_bit_other words t k within p.1 ∙ sym (ap (λ b. not b && is_set words k) p.0)
]

pub remove_bit : (words : List ℕ) (t : ℕ) → length words ≡ 4 → t < 256 → bits_of (without_bit words t) ≡ remove (bits_of words) t
remove_bit words t four low = bits_of_is (without_bit words t) (remove (bits_of words) t)
    (length-set words (t / 64) (bit_and (get_or words (t / 64) 0) (bit_not w64 (1 * 2 ^ (t % 64) % 2 ^ 64))) ∙ four)
    (λ k _. clear_bit words t k (omega arith) ∙ sym (contains-remove_tracks (bits_of words) t k ∙ ap (λ b. not (nat_eq k t) && b) (contains-bits_of words k)))
    (in_range-remove (bits_of words) t (in_range-bits_of words four))

pub and_bit : (x y : ℕ) → x < 2 → y < 2 → nat_eq (min x y) 1 ≡ (nat_eq x 1 && nat_eq y 1)
and_bit x y a b = grind (arith, nat_tests)

pub keep_bits : (a b : List ℕ) → length a ≡ 4 → length b ≡ 4 → bits_of (zip2 bit_and a b) ≡ intersection (bits_of a) (bits_of b)
keep_bits a b four_a four_b = bits_of_is (zip2 bit_and a b) (intersection (bits_of a) (bits_of b)) (length-zip2 bit_and a b (four_a ∙ sym four_b) ∙ four_a)
    (λ k low.
    ap (λ w. nat_eq (bit_at w (k % 64)) 1) (get_or-zip2 bit_and a b (k / 64) 0 0 0 (omega arith) (omega arith))
    ∙ ap (λ n. nat_eq n 1) (bit_at_and (get_or a (k / 64) 0) (get_or b (k / 64) 0) (k % 64))
    ∙ and_bit _ _ (bit_at-lt (get_or a (k / 64) 0) (k % 64)) (bit_at-lt (get_or b (k / 64) 0) (k % 64))
    ∙ sym (contains-keep_tracks (bits_of a) (bits_of b) k ∙ (λ i. contains-bits_of a k i && contains-bits_of b k i)))
    (in_range-keep (bits_of a) (bits_of b) (in_range-bits_of a four_a))

-- the bits of bytes that follow one another, the lowest byte first
bit_of_bytes : (ys : List ℕ) (i : ℕ) → Each1 (λ x. x < 256) ys → bit_at (number_l 256 ys) i ≡ bit_at (get_or ys (i / 8) 0) (i % 8)
bit_of_bytes [] i small = bit_at-zero i ∙ sym (bit_at-zero (i % 8))
bit_of_bytes (y ∷ ys) i small =
    let parts : y + 256 * number_l 256 ys ≡ number_l 256 ys * 2 ^ 8 + y = omega arith in
    elim (leb_tells 8 i) as (λ _. bit_at (y + 256 * number_l 256 ys) i ≡ bit_at (get_or (y ∷ ys) (i / 8) 0) (i % 8)) [
      | inl p ↦
          let past : 8 ≤ i = p.1 in
          let word : suc ((i - 8) / 8) ≡ i / 8 = omega arith in
          let place : (i - 8) % 8 ≡ i % 8 = omega arith in
          ap (λ n. bit_at n i) parts
          ∙ bit_at_cat_high (number_l 256 ys) 8 y i small.0 past
          ∙ bit_of_bytes ys (i - 8) small.1
          ∙ (λ j. bit_at (get_or (y ∷ ys) (word j) 0) (place j))
      | inr p ↦
          let low : i < 8 = p.1 in
          let word : 0 ≡ i / 8 = omega arith in
          let place : i ≡ i % 8 = omega arith in
          ap (λ n. bit_at n i) parts
          ∙ bit_at_cat_low (number_l 256 ys) 8 y i low
          ∙ (λ j. bit_at (get_or (y ∷ ys) (word j) 0) (place j))
    ]

-- 32 bytes, as four words
pub words_of_bytes : (bytes : List ℕ) → length bytes ≡ 32 → Each1 (λ x. x < 256) bytes → bits_of (digits_l (2 ^ 64) 4 (number_l 256 bytes)) ≡ of_bytes bytes
words_of_bytes bytes long small = bits_of_tested (digits_l (2 ^ 64) 4 (number_l 256 bytes)) (bit_in bytes) refl
    (λ k low.
    let at : ℕ = k / 64 in
    let i : ℕ = k % 64 in
    let place : 8 * at + i / 8 ≡ k / 8 = omega arith in
    let digit : i % 8 ≡ k % 8 = omega arith in
    ap (λ w. nat_eq (bit_at w (k % 64)) 1) (get_or_wider 256 8 (2 ^ 64) 4 bytes (k / 64) refl small (omega arith))
    ∙ ap (λ b. nat_eq b 1) (bit_of_bytes (chunk (8 * (k / 64)) 8 bytes) (k % 64) (Each1-chunk (λ x. x < 256) (8 * (k / 64)) 8 bytes small))
    ∙ ap (λ v. nat_eq (bit_at v (k % 64 % 8)) 1) (get_or-chunk (8 * (k / 64)) 8 bytes (k % 64 / 8) 0 (omega arith))
    ∙ (λ j. nat_eq (bit_at (get_or bytes (place j) 0) (digit j)) 1))

pow_of_bytes : (i : ℕ) → 256 ^ i ≡ 2 ^ (8 * i)
pow_of_bytes zero = refl
pow_of_bytes (suc i) =
    let more : 8 * suc i ≡ 8 * i + 8 = omega arith in
    pow-succ' 256 i ∙ ap (λ p. 256 * p) (pow_of_bytes i) ∙ mul_comm 256 (2 ^ (8 * i)) ∙ sym (pow-add 2 (8 * i) 8) ∙ ap (λ n. 2 ^ n) (sym more)

low_bits_of : (x r : ℕ) → r < 8 → bit_at (x % 256) r ≡ bit_at x r
low_bits_of x r low =
    let parts : x / 256 * 2 ^ 8 + x % 256 ≡ x = omega arith in
    sym (bit_at_cat_low (x / 256) 8 (x % 256) r low) ∙ ap (λ n. bit_at n r) parts

-- bit r of byte i of a word
byte_bit : (w i r : ℕ) → r < 8 → bit_at (w / 256 ^ i % 256) r ≡ bit_at w (8 * i + r)
byte_bit w i r low =
    low_bits_of (w / 256 ^ i) r low
    ∙ ap (λ p. bit_at (w / p) r) (pow_of_bytes i)
    ∙ ap (λ n. n % 2) (shr-shr w (8 * i) r)

-- byte k of the words' bytes
byte_of_words : (words : List ℕ) → AreFourWords words → (k : ℕ) → k < 32 → get_or words (k / 8) 0 / 256 ^ (k % 8) % 256 ≡ number_of (contains (bits_of words)) (8 * k) 8
byte_of_words words are k low =
    let w : ℕ = get_or words (k / 8) 0 in
    number_of_is (contains (bits_of words)) (8 * k) 8 (get_or words (k / 8) 0 / 256 ^ (k % 8) % 256) (omega arith)
    (λ r few.
    let word : k / 8 ≡ (8 * k + r) / 64 = omega arith in
    let place : 8 * (k % 8) + r ≡ (8 * k + r) % 64 = omega arith in
    ap (λ b. nat_eq b 1) (byte_bit (get_or words (k / 8) 0) (k % 8) r few)
    ∙ (λ j. nat_eq (bit_at (get_or words (word j) 0) (place j)) 1)
    ∙ sym (contains-bits_of words (8 * k + r)))

-- the four words as 32 bytes are the bytes of the set that they stand for
pub bytes_of_words : (words : List ℕ) → AreFourWords words → digits_l 256 32 (number_l (2 ^ 64) words) ≡ bytes_of (bits_of words)
bytes_of_words words are = bytes_of_is (bits_of words) (digits_l 256 32 (number_l (2 ^ 64) words)) refl
    (λ k low.
    let place : k ≡ 8 * (k / 8) + k % 8 = omega arith in
    ap (λ j. get_or (digits_l 256 32 (number_l (2 ^ 64) words)) j 0) place
    ∙ get_or_narrower (2 ^ 64) 8 256 32 words (k / 8) (k % 8) refl (Each1-from_get_or (λ x. x < 2 ^ 64) words 0 (λ j _. are.fit j)) (omega arith) (omega arith)
    ∙ byte_of_words words are k low)

-- where a number below 2 ^ 64 was written over one of four words, they are four words
pub are_set : (words : List ℕ) (at w : ℕ) → w < 2 ^ 64 → AreFourWords words → AreFourWords (set words at w)
are_set words at w low are = record {
  four = length-set words at w ∙ are.four;
  fit = λ k. elim (leb_tells (length words) at) as (λ _. get_or (set words at w) k 0 < 2 ^ 64) [
    | inl p ↦ subst (λ (xs : List ℕ). get_or xs k 0 < 2 ^ 64) (sym (set_past words at w p.1)) (are.fit k)
    | inr p ↦ elim (eqb_tells k at) as (λ _. get_or (set words at w) k 0 < 2 ^ 64) [
      | inl q ↦ let is : get_or (set words at w) k 0 ≡ w = ap (λ j. get_or (set words at w) j 0) q.1 ∙ get_or-set_same words at w 0 p.1 in omega arith
      | inr q ↦ let is = get_or-set_other words at k w 0 q.1 in let fit = are.fit k in omega arith
    ]
  ];
}

below_in_word : (n k : ℕ) → nat_lt (k % 64) (n - 64 * (k / 64)) ≡ nat_lt k n
below_in_word n k = grind (arith, nat_tests)

-- the words of the tracks below n
pub first_words : (words : List ℕ) (n : ℕ) → length words ≡ 4 → ((k i : ℕ) → k < 4 → i < 64 → nat_eq (bit_at (get_or words k 0) i) 1 ≡ nat_lt i (n - 64 * k)) → bits_of words ≡ first n
first_words words n four each = bits_of_tested words (λ t. nat_lt t n) four (λ k low. each (k / 64) (k % 64) (omega arith) (omega arith) ∙ below_in_word n k)

member_below : (words : List ℕ) (k : ℕ) → length words ≡ 4 → contains (bits_of words) k ≡ true → k < 256
member_below words k four member = elim (leb_tells 256 k) as (λ _. k < 256) [
  | inl p ↦ let none = in_range-bits_of words four k p.1 in cc
  | inr p ↦ p.1
]

-- the next bit that is set is the lowest member
pub next_is_lowest : (words : List ℕ) (t k : ℕ) → length words ≡ 4 → IsNextFrom (bits_of words) t k → IsLowestFrom (bits_of words) t k
next_is_lowest words t k four next = record {
  from = next.not_below;
  in_range = member_below words k four next.member;
  member = next.member;
  lowest = next.none_between;
}
