-- The laws of the lowest bit that is set, from a place on.
use Rattle.std.proofs.Common.{ℕ, ◌≡◌, ◌<◌, ◌≤◌, ◌+◌, ◌-◌, ◌*◌, ◌/◌, ◌%◌, ◌^◌, true, false, List, length, get_or, arith, sym, ◌∙◌, ap, nat_eq, inl, inr, w64, bit_or}
use Rattle.std.specs.Int.{bit_at, trailing_zeros}
use Rattle.std.proofs.lemmas.Nat.{shr-shr, shr_le, le_or_l, le_or_r}
use Rattle.std.proofs.lemmas.Nat.Bits.{bit_at-trailing_zeros, bit_at-zero, bit_at_above}
use Rattle.std.proofs.lemmas.Bool.Decides.{nat_tests, leb_tells, eqb_tells}
use Rattle.std.proofs.lemmas.Bool.{cases_lt as ltb_cases, eq-eqb}
use Rattle.dr_lanes.specs.Words.{is_set, bits_of, HasNoneFrom, IsNextFrom}
use Rattle.dr_lanes.proofs.Members.{contains-bits_of, past_is_clear}
use Rattle.dr_lanes.proofs.Counts.{bit}

-- the lowest bit of the word from place s on stands z places further
pub record IsLowest (w s z : ℕ) : Type 0 where
  pub within : s + z < 64
  pub set : bit w (s + z) ≡ true
  pub clear : (i : ℕ) → s ≤ i → i < s + z → bit w i ≡ false

bit_of_shifted : (w s i : ℕ) → bit_at (w / 2 ^ s) i ≡ bit_at w (s + i)
bit_of_shifted w s i = ap (λ n. n % 2) (shr-shr w s i)

zero_is_clear : (b : ℕ) → b ≡ 0 → nat_eq b 1 ≡ false
zero_is_clear b e = grind (arith, nat_tests)

in_word : (w i : ℕ) → w < 2 ^ 64 → bit_at w i ≡ 1 → i < 64
in_word w i low one = elim (leb_tells 64 i) as (λ _. i < 64) [
  | inl p ↦ let none : bit_at w i ≡ 0 = bit_at_above w 64 i low p.1 in absurd (omega arith)
  | inr p ↦ p.1
]

pub lowest_of : (w s : ℕ) → w < 2 ^ 64 → 0 < w / 2 ^ s → IsLowest w s (trailing_zeros w64 (w / 2 ^ s))
lowest_of w s low some =
    let rest : w / 2 ^ s < 2 ^ 64 = omega (arith, shr_le w s) in
    let is = bit_at-trailing_zeros w64 (w / 2 ^ s) some rest in
    let z : ℕ = trailing_zeros w64 (w / 2 ^ s) in
    let one : bit_at w (s + z) ≡ 1 = sym (bit_of_shifted w s z) ∙ is.1 in
    record {
      within = in_word w (s + z) low one;
      set = (eq-eqb _ 1 one);
      clear = λ i from to.
          let place : s + (i - s) ≡ i = omega arith in
          zero_is_clear _ (ap (bit_at w) (sym place) ∙ sym (bit_of_shifted w s (i - s)) ∙ is.2 (i - s) (omega arith));
    }

-- bit i of word number `at`
pub is_set-at : (words : List ℕ) (at i : ℕ) → i < 64 → is_set words (64 * at + i) ≡ bit (get_or words at 0) i
is_set-at words at i few =
    let word : (64 * at + i) / 64 ≡ at = omega arith in
    let place : (64 * at + i) % 64 ≡ i = omega arith in
    (λ j. nat_eq (bit_at (get_or words (word j) 0) (place j)) 1)

-- a word that is 0 has no bit set
pub clear-word : (words : List ℕ) (j : ℕ) → get_or words (j / 64) 0 ≡ 0 → is_set words j ≡ false
clear-word words j none = zero_is_clear _ (ap (λ w. bit_at w (j % 64)) none ∙ bit_at-zero (j % 64))

-- nor has the part of a word from place s on, where that is 0
pub clear-part : (words : List ℕ) (at s j : ℕ) → get_or words at 0 / 2 ^ s ≡ 0 → 64 * at + s ≤ j → j < 64 * (at + 1) → is_set words j ≡ false
clear-part words at s j none from to =
    let place : 64 * at + (s + (j - (64 * at + s))) ≡ j = omega arith in
    ap (is_set words) (sym place)
    ∙ is_set-at words at (s + (j - (64 * at + s))) (omega arith)
    ∙ zero_is_clear _ (sym (bit_of_shifted (get_or words at 0) s (j - (64 * at + s))) ∙ ap (λ w. bit_at w (j - (64 * at + s))) none ∙ bit_at-zero (j - (64 * at + s)))

-- the lowest bit of a word, where none before the word is set
pub next-in_word : (words : List ℕ) (from at s z : ℕ) → from ≤ 64 * at + s → ((j : ℕ) → from ≤ j → j < 64 * at + s → is_set words j ≡ false) → IsLowest (get_or words at 0) s z → IsNextFrom (bits_of words) from (64 * at + s + z)
next-in_word words from at s z before clear low =
    let within = low.within in
    let place : 64 * at + s + z ≡ 64 * at + (s + z) = omega arith in
    record {
      not_below = omega arith;
      member = contains-bits_of words (64 * at + s + z) ∙ ap (is_set words) place ∙ is_set-at words at (s + z) within ∙ low.set;
      none_between = λ j above below. contains-bits_of words j ∙ (
          elim (leb_tells (64 * at + s) j) as (λ _. is_set words j ≡ false) [
            | inl p ↦
                let reach : 64 * at + s ≤ j = p.1 in
                let here : 64 * at + (j - 64 * at) ≡ j = omega arith in
                ap (is_set words) (sym here) ∙ is_set-at words at (j - 64 * at) (omega arith) ∙ low.clear (j - 64 * at) (omega arith) (omega arith)
            | inr p ↦ clear j above p.1
          ]);
    }

-- no bit from `from` up to word number `at` is set: the rest of the first word is 0, and so is each word after it
pub clear-up_to : (words : List ℕ) (from first s at : ℕ) → from ≡ 64 * first + s → s < 64 → get_or words first 0 / 2 ^ s ≡ 0 → ((k : ℕ) → first + 1 ≤ k → k < at → get_or words k 0 ≡ 0) → (j : ℕ) → from ≤ j → j < 64 * at → is_set words j ≡ false
clear-up_to words from first s at is few part zeros j above below =
    elim (leb_tells (64 * (first + 1)) j) as (λ _. is_set words j ≡ false) [
      | inl p ↦ let past : 64 * (first + 1) ≤ j = p.1 in clear-word words j (zeros (j / 64) (omega arith) (omega arith))
      | inr p ↦ clear-part words first s j part (omega arith) p.1
    ]

-- and none at all, where no word is left
pub none_is_left : (words : List ℕ) (from at : ℕ) → length words ≤ at → ((j : ℕ) → from ≤ j → j < 64 * at → is_set words j ≡ false) → HasNoneFrom (bits_of words) from
none_is_left words from at over clear j above =
    contains-bits_of words j ∙ (elim (leb_tells (64 * at) j) as (λ _. is_set words j ≡ false) [
      | inl p ↦ let past : 64 * at ≤ j = p.1 in past_is_clear words j (omega arith)
      | inr p ↦ clear j above p.1
    ])

-- where four words come to 0 together, each is 0
pub all_zero : (w x y z : ℕ) → bit_or (bit_or (bit_or (bit_or 0 w) x) y) z ≡ 0 → (w ≡ 0) × (x ≡ 0) × (y ≡ 0) × (z ≡ 0)
all_zero w x y z none =
    let a = le_or_r 0 w in
    let b = le_or_l (bit_or 0 w) x in
    let c = le_or_r (bit_or 0 w) x in
    let d = le_or_l (bit_or (bit_or 0 w) x) y in
    let e = le_or_r (bit_or (bit_or 0 w) x) y in
    let f = le_or_l (bit_or (bit_or (bit_or 0 w) x) y) z in
    let g = le_or_r (bit_or (bit_or (bit_or 0 w) x) y) z in
    (omega arith, omega arith, omega arith, omega arith)

-- four words further
pub zeros-four : (words : List ℕ) (from at : ℕ) → at + 4 ≤ length words → (get_or words at 0 ≡ 0) × (get_or words (at + 1) 0 ≡ 0) × (get_or words (at + 2) 0 ≡ 0) × (get_or words (at + 3) 0 ≡ 0) → ((k : ℕ) → from ≤ k → k < at → get_or words k 0 ≡ 0) → (k : ℕ) → from ≤ k → k < at + 4 → get_or words k 0 ≡ 0
zeros-four words from at long four zeros k above below =
    let here = λ (j : ℕ) (e : j ≡ k) (none : get_or words j 0 ≡ 0). ap (λ i. get_or words i 0) (sym e) ∙ none in
    elim (ltb_cases k at) as (λ _. get_or words k 0 ≡ 0) [
      | inl p ↦ zeros k above p
      | inr p ↦ elim (eqb_tells at k) as (λ _. get_or words k 0 ≡ 0) [
        | inl q ↦ here at q.1 four.0
        | inr q ↦ elim (eqb_tells (at + 1) k) as (λ _. get_or words k 0 ≡ 0) [
          | inl r ↦ here (at + 1) r.1 four.1
          | inr r ↦ elim (eqb_tells (at + 2) k) as (λ _. get_or words k 0 ≡ 0) [
            | inl t ↦ here (at + 2) t.1 four.2
            | inr t ↦ here (at + 3) (let a = q.1 in let b = r.1 in let d = t.1 in omega arith) four.3
          ]
        ]
      ]
    ]
