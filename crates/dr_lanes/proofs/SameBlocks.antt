-- The laws of comparing blocks: of one vector of 64 bytes, of the bits of one word, and of a list of words.
use Rattle.std.proofs.Common.{ℕ, ◌≡◌, ◌≢◌, ◌↔◌, ◌<◌, ◌≤◌, ◌+◌, ◌-◌, ◌*◌, ◌/◌, ◌%◌, ◌^◌, Bool, true, false, cond, List, length, get_or, map, arith, sym, ◌∙◌, ap, refl, subst, nat_eq, eqb, inl, inr, w8, w64, IsTrue, bit_or, min, set, get_or-set_same, get_or-set_other}
use Rattle.std.specs.Int.{bit_at}
use Rattle.std.specs.FinSet.{contains}
use Rattle.std.specs.Simd.Lanes.{zip2, mask_l, top}
use Rattle.std.proofs.lemmas.Bool.{eq-eqb, eqb-true}
use Rattle.std.proofs.lemmas.Bool.Decides.{leb_tells, eqb_tells}
use Rattle.std.proofs.lemmas.Grind.{same_number_lists}
use Rattle.std.proofs.lemmas.Simd.{tops_compared, length-zip2, mask_l-lt, mask_l-mod, bit_mask_l, get_or-zip2}
use Rattle.std.proofs.lemmas.Nat.{pow_pos}
use Rattle.std.proofs.lemmas.Nat.Bits.{bit_at_ones, same_from_bits_below, bit_at_set_same, bit_at_set_other}
use Rattle.dr_lanes.specs.Words.{is_set, bits_of}
use Rattle.dr_lanes.specs.Blocks.{IsSameBlock}
use Rattle.dr_lanes.proofs.Members.{contains-bits_of, past_is_clear}
use Rattle.dr_lanes.proofs.Lowest.{is_set-at}

truth : (b : Bool) → ◌≡◌ {A = ℕ} (cond b 1 0) 1 → b ≡ true
truth true e = refl
truth false e = cc

all_set : (ms : List Bool) (n : ℕ) → length ms ≡ n → mask_l ms ≡ 2 ^ n - 1 → (i : ℕ) → i < n → get_or ms i false ≡ true
all_set ms n long full i low =
    truth (get_or ms i false) (sym (bit_mask_l ms i) ∙ ap (λ m. bit_at m i) full ∙ bit_at_ones n i low)

full_mask : (ms : List Bool) (n : ℕ) → length ms ≡ n → ((i : ℕ) → i < n → get_or ms i false ≡ true) → mask_l ms ≡ 2 ^ n - 1
full_mask ms n long each =
    same_from_bits_below n (mask_l ms) (2 ^ n - 1) (subst (λ (k : ℕ). mask_l ms < 2 ^ k) long (mask_l-lt ms)) (omega (arith, pow_pos n))
    (λ i low. bit_mask_l ms i ∙ ap (λ b. cond b 1 0) (each i low) ∙ sym (bit_at_ones n i low))

-- the mask of 64 compares is full exactly where the two lists are the same
pub same_bytes : (a b : List ℕ) → length a ≡ 64 → length b ≡ 64 → IsTrue (eqb (mask_l (map (top 7) (zip2 (λ x y. cond (eqb x y) 255 0) a b)) % 2 ^ 64) (2 ^ 64 - 1)) ↔ (a ≡ b)
same_bytes a b long_a long_b =
    let long : length (zip2 eqb a b) ≡ 64 = length-zip2 eqb a b (long_a ∙ sym long_b) ∙ long_a in
    let is : mask_l (map (top 7) (zip2 (λ x y. cond (eqb x y) 255 0) a b)) % 2 ^ 64 ≡ mask_l (zip2 eqb a b) =
    ap (λ ms. mask_l ms % 2 ^ 64) (tops_compared w8 eqb a b) ∙ mask_l-mod (zip2 eqb a b) 64 (omega arith)
    in
    let lane = λ (i : ℕ) (low : i < 64). get_or-zip2 eqb a b i 0 0 false (omega arith) (omega arith) in (
      λ full. same_number_lists a b (long_a ∙ sym long_b) (λ i low.
          eqb-true _ _ (sym (lane i (omega arith)) ∙ all_set (zip2 eqb a b) 64 long (sym is ∙ eqb-true _ _ full) i (omega arith))),
      λ same. eq-eqb _ _ (is ∙ full_mask (zip2 eqb a b) 64 long (λ i low. lane i low ∙ eq-eqb _ _ (ap (λ xs. get_or xs i 0) same))),
    )

abbrev pub IsMarked : List (List ℕ) → List (List ℕ) → ℕ → ℕ → ℕ → Type 0
IsMarked a b at word k = (j : ℕ) → (bit_at word j ≡ 1) ↔ ((j < k) × IsSameBlock a b (at + j))

-- one block more, which is the same in both
pub marked-same : (a b : List (List ℕ)) (at word k : ℕ) → k < 64 → IsSameBlock a b (at + k) → IsMarked a b at word k → IsMarked a b at (bit_or word (1 * 2 ^ k % 2 ^ 64)) (k + 1)
marked-same a b at word k few same so_far j = elim (eqb_tells j k) as (λ _. (bit_at (bit_or word (1 * 2 ^ k % 2 ^ 64)) j ≡ 1) ↔ ((j < k + 1) × IsSameBlock a b (at + j))) [
  | inl p ↦
      let here : k ≡ j = sym p.1 in (
        λ _. (omega arith, subst (λ (i : ℕ). IsSameBlock a b (at + i)) here same),
        λ _. ap (bit_at (bit_or word (1 * 2 ^ k % 2 ^ 64))) (sym here) ∙ bit_at_set_same w64 word k few,
      )
  | inr p ↦
      let other : j ≢ k = p.1 in
      let is = bit_at_set_other w64 word k few j other in (
        λ one. let m = (so_far j).0 (sym is ∙ one) in let low = m.0 in (omega arith, m.1),
        λ m. is ∙ (so_far j).1 (let low = m.0 in omega arith, m.1),
      )
]

-- and one that isn't
pub marked-other : (a b : List (List ℕ)) (at word k : ℕ) → (IsSameBlock a b (at + k) → ⊥) → IsMarked a b at word k → IsMarked a b at word (k + 1)
marked-other a b at word k differ so_far j = (
  λ one. let m = (so_far j).0 one in let low = m.0 in (omega arith, m.1),
  λ m. elim (eqb_tells j k) as (λ _. bit_at word j ≡ 1) [
    | inl p ↦ absurd (differ (subst (λ (i : ℕ). IsSameBlock a b (at + i)) p.1 m.1))
    | inr p ↦ (so_far j).1 (let low = m.0 in let other : j ≢ k = p.1 in omega arith, m.1)
  ],
)

-- a bit that is set stands in one of the words
set_is_below : (words : List ℕ) (k : ℕ) → is_set words k ≡ true → k < 64 * length words
set_is_below words k member = elim (leb_tells (64 * length words) k) as (λ _. k < 64 * length words) [
  | inl p ↦ let none = past_is_clear words k p.1 in cc
  | inr p ↦ p.1
]

-- one word more of the mask
pub mask-more : (a b : List (List ℕ)) (mask : List ℕ) (i w at blocks : ℕ) → i < length mask → at ≡ min (64 * i) (length a) → blocks ≡ min 64 (length a - at) → IsMarked a b at w blocks → ((k : ℕ) → k < 64 * i → (is_set mask k ≡ true) ↔ IsSameBlock a b k) → (k : ℕ) → k < 64 * (i + 1) → (is_set (set mask i w) k ≡ true) ↔ IsSameBlock a b k
mask-more a b mask i w at blocks within reached some marked so_far k low = elim (leb_tells (64 * i) k) as (λ _. (is_set (set mask i w) k ≡ true) ↔ IsSameBlock a b k) [
  | inl p ↦
      let from : 64 * i ≤ k = p.1 in
      let place : 64 * i + (k - 64 * i) ≡ k = omega arith in
      let r : ℕ = k - 64 * i in
      let is : is_set (set mask i w) k ≡ nat_eq (bit_at w (k - 64 * i)) 1 =
      ap (is_set (set mask i w)) (sym place) ∙ is_set-at (set mask i w) i (k - 64 * i) (omega arith) ∙ ap (λ v. nat_eq (bit_at v (k - 64 * i)) 1) (get_or-set_same mask i w 0 within)
      in (
        λ yes_set.
            let m = (marked (k - 64 * i)).0 ((eqb-true _ 1 (sym is ∙ yes_set))) in
            let few = m.0 in
            let here : at + (k - 64 * i) ≡ k = omega arith in
            subst (λ (j : ℕ). IsSameBlock a b j) here m.1,
        λ same.
            let stands = same.in_a in
            let here : k ≡ at + (k - 64 * i) = omega arith in
            is ∙ eq-eqb _ _ ((marked (k - 64 * i)).1 (omega arith, subst (λ (j : ℕ). IsSameBlock a b j) here same)),
      )
  | inr p ↦
      let before : k < 64 * i = p.1 in
      let is : is_set (set mask i w) k ≡ is_set mask k = ap (λ v. nat_eq (bit_at v (k % 64)) 1) (get_or-set_other mask i (k / 64) w 0 (let other : k / 64 ≢ i = omega arith in other)) in (
        λ yes_set. (so_far k before).0 (sym is ∙ yes_set),
        λ same. is ∙ (so_far k before).1 same,
      )
]

-- past the mask's words stands no block
pub mask-all : (a b : List (List ℕ)) (mask : List ℕ) (i : ℕ) → length a ≤ 64 * length mask → length mask ≤ i → ((k : ℕ) → k < 64 * i → (is_set mask k ≡ true) ↔ IsSameBlock a b k) → (k : ℕ) → (contains (bits_of mask) k ≡ true) ↔ IsSameBlock a b k
mask-all a b mask i room over so_far k = (
  λ member. (so_far k (let low = set_is_below mask k (sym (contains-bits_of mask k) ∙ member) in omega arith)).0 (sym (contains-bits_of mask k) ∙ member),
  λ same. contains-bits_of mask k ∙ (so_far k (let stands = same.in_a in omega arith)).1 same,
)
