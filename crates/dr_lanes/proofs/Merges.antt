-- The laws of words that are changed word by word by those of a second list, four at a time and then one at a time.
use Rattle.std.proofs.Common.{ℕ, ◌≡◌, ◌<◌, ◌≤◌, ◌+◌, ◌-◌, ◌^◌, ◌/◌, ◌%◌, ◌||◌, ◌&&◌, not, List, length, get_or, set, arith, sym, ◌∙◌, ap, refl, nat_eq, inl, inr, bit_or, bit_and, min, max, w64, length-set, map, [], ◌∷◌, get_or-set_same, get_or-set_other, ◌≢◌}
use Rattle.std.specs.FinSet.{contains-union, contains-difference}
use Rattle.std.specs.FinSet as fin
use Rattle.std.specs.Cmp.{nat_cmp_total}
use Rattle.std.specs.Int.{bit_at, bit_not}
use Rattle.std.specs.Simd.Lanes.{zip2, put_chunk}
use Rattle.std.proofs.lemmas.Bool.Decides.{nat_tests, leb_tells, eqb_tells}
use Rattle.std.proofs.lemmas.List.{get_or_past}
use Rattle.std.proofs.lemmas.Simd.{length-put_chunk, length-chunk, length-zip2, get_or-put_chunk_below, get_or-put_chunk_at, get_or-put_chunk_above, get_or-zip2, get_or-chunk}
use Rattle.std.proofs.lemmas.Nat.Bits.{bit_at_or, bit_at_and, bit_at_not, bit_at-lt}
use Rattle.dr_lanes.specs.Words.{bits_of}
use Rattle.dr_lanes.proofs.Vectors.{four}
use Rattle.dr_lanes.proofs.Members.{same_bits, contains-bits_of}

-- the words below `at` are changed, and those from there on are as they were
pub record Merged (f : ℕ → ℕ → ℕ) (start b now : List ℕ) (at : ℕ) : Type 0 where
  pub sized : length now ≡ length start
  pub done : (k : ℕ) → k < at → get_or now k 0 ≡ f (get_or start k 0) (get_or b k 0)
  pub left : (k : ℕ) → at ≤ k → get_or now k 0 ≡ get_or start k 0

pub merged-none : (f : ℕ → ℕ → ℕ) (start b : List ℕ) → Merged f start b start 0
merged-none f start b = record { sized = refl; done = λ k low. absurd (omega arith); left = λ k from. refl }

pub merged-one : (f : ℕ → ℕ → ℕ) (start b now : List ℕ) (at : ℕ) → at < length now → Merged f start b now at → Merged f start b (set now at (f (get_or now at 0) (get_or b at 0))) (at + 1)
merged-one f start b now at within m = record {
  sized = length-set now at (f (get_or now at 0) (get_or b at 0)) ∙ m.sized;
  done = λ k low. elim (eqb_tells k at) as (λ _. get_or (set now at (f (get_or now at 0) (get_or b at 0))) k 0 ≡ f (get_or start k 0) (get_or b k 0)) [
    | inl p ↦
        ap (λ j. get_or (set now at (f (get_or now at 0) (get_or b at 0))) j 0) p.1
        ∙ get_or-set_same now at (f (get_or now at 0) (get_or b at 0)) 0 within
        ∙ ap (λ x. f x (get_or b at 0)) (m.left at (omega arith))
        ∙ ap (λ j. f (get_or start j 0) (get_or b j 0)) (sym p.1)
    | inr p ↦
        get_or-set_other now at k (f (get_or now at 0) (get_or b at 0)) 0 p.1
        ∙ m.done k (let ne : k ≢ at = p.1 in omega arith)
  ];
  left = λ k from. get_or-set_other now at k (f (get_or now at 0) (get_or b at 0)) 0 (let ne : k ≢ at = omega arith in ne) ∙ m.left k (omega arith);
}

pub merged-four : (f : ℕ → ℕ → ℕ) (start b now : List ℕ) (at : ℕ) → at + 4 ≤ length now → at + 4 ≤ length b → Merged f start b now at → Merged f start b (put_chunk at now (zip2 f (four at now) (four at b))) (at + 4)
merged-four f start b now at fits_now fits_b m =
    let x = four at now in
    let y = four at b in
    let long_x : length x ≡ 4 = length-chunk at 4 now fits_now in
    let long_y : length y ≡ 4 = length-chunk at 4 b fits_b in
    let long : length (zip2 f x y) ≡ 4 = length-zip2 f x y (long_x ∙ sym long_y) ∙ long_x in
    record {
      sized = length-put_chunk at now (zip2 f x y) ∙ m.sized;
      done = λ k low. elim (leb_tells at k) as (λ _. get_or (put_chunk at now (zip2 f x y)) k 0 ≡ f (get_or start k 0) (get_or b k 0)) [
        | inl p ↦
            let from : at ≤ k = p.1 in
            let is : at + (k - at) ≡ k = omega arith in
            ap (λ j. get_or (put_chunk at now (zip2 f x y)) j 0) (sym is)
            ∙ get_or-put_chunk_at at now (zip2 f x y) (k - at) 0 (omega arith) (omega arith)
            ∙ get_or-zip2 f x y (k - at) 0 0 0 (omega arith) (omega arith)
            ∙ (λ i. f (get_or-chunk at 4 now (k - at) 0 (omega arith) i) (get_or-chunk at 4 b (k - at) 0 (omega arith) i))
            ∙ ap (λ j. f (get_or now j 0) (get_or b j 0)) is
            ∙ ap (λ w. f w (get_or b k 0)) (m.left k from)
        | inr p ↦ get_or-put_chunk_below at now (zip2 f x y) k 0 p.1 ∙ m.done k p.1
      ];
      left = λ k from. get_or-put_chunk_above at now (zip2 f x y) k 0 (omega arith) ∙ m.left k (omega arith);
    }

-- the second vector may have been changed lane by lane before
pub zip2_of_map : {X Y Z V : Type 0} (f : X → Y → Z) (g : V → Y) (xs : List X) (vs : List V) → zip2 f xs (map g vs) ≡ zip2 (λ x v. f x (g v)) xs vs
zip2_of_map f g [] vs = refl
zip2_of_map f g (x ∷ xs) [] = refl
zip2_of_map f g (x ∷ xs) (v ∷ vs) = ap (λ l. f x (g v) ∷ l) (zip2_of_map f g xs vs)

-- once all words are done, each is what f makes of the two, also past the end
pub merged-all : (f : ℕ → ℕ → ℕ) (start b now : List ℕ) (at : ℕ) → f 0 0 ≡ 0 → length start ≡ length b → length now ≤ at → Merged f start b now at → (k : ℕ) → get_or now k 0 ≡ f (get_or start k 0) (get_or b k 0)
merged-all f start b now at zeros alike all m k = elim (leb_tells (length now) k) as (λ _. get_or now k 0 ≡ f (get_or start k 0) (get_or b k 0)) [
  | inl p ↦
      let sized = m.sized in
      let past : length now ≤ k = p.1 in
      get_or_past now k 0 past ∙ sym zeros
      ∙ (λ i. f (sym (get_or_past start k 0 (omega arith)) i) (sym (get_or_past b k 0 (omega arith)) i))
  | inr p ↦ let low : k < length now = p.1 in m.done k (omega arith)
]

or_bit : (x y : ℕ) → x < 2 → y < 2 → nat_eq (max x y) 1 ≡ (nat_eq x 1 || nat_eq y 1)
or_bit x y a b = grind (arith, nat_tests)

and_not_bit : (x y : ℕ) → x < 2 → y < 2 → nat_eq (min x (1 - y)) 1 ≡ (nat_eq x 1 && not (nat_eq y 1))
and_not_bit x y a b = grind (arith, nat_tests)

pub or_is_union : (a b new : List ℕ) → ((k : ℕ) → get_or new k 0 ≡ bit_or (get_or a k 0) (get_or b k 0)) → bits_of new ≡ fin.union (bits_of a) (bits_of b)
or_is_union a b new each = same_bits _ _ (λ k.
    contains-bits_of new k
    ∙ ap (λ w. nat_eq (bit_at w (k % 64)) 1) (each (k / 64))
    ∙ ap (λ n. nat_eq n 1) (bit_at_or (get_or a (k / 64) 0) (get_or b (k / 64) 0) (k % 64))
    ∙ or_bit _ _ (bit_at-lt (get_or a (k / 64) 0) (k % 64)) (bit_at-lt (get_or b (k / 64) 0) (k % 64))
    ∙ sym (contains-union nat_cmp_total (bits_of a) (bits_of b) k ∙ (λ i. contains-bits_of a k i || contains-bits_of b k i)))

pub and_not_is_difference : (a b new : List ℕ) → ((k : ℕ) → get_or b k 0 < 2 ^ 64) → ((k : ℕ) → get_or new k 0 ≡ bit_and (get_or a k 0) (bit_not w64 (get_or b k 0))) → bits_of new ≡ fin.difference (bits_of a) (bits_of b)
and_not_is_difference a b new words each = same_bits _ _ (λ k.
    contains-bits_of new k
    ∙ ap (λ w. nat_eq (bit_at w (k % 64)) 1) (each (k / 64))
    ∙ ap (λ n. nat_eq n 1) (
    bit_at_and (get_or a (k / 64) 0) (bit_not w64 (get_or b (k / 64) 0)) (k % 64)
    ∙ ap (λ n. min (bit_at (get_or a (k / 64) 0) (k % 64)) n) (bit_at_not w64 (get_or b (k / 64) 0) (k % 64) (words (k / 64)) (omega arith)))
    ∙ and_not_bit _ _ (bit_at-lt (get_or a (k / 64) 0) (k % 64)) (bit_at-lt (get_or b (k / 64) 0) (k % 64))
    ∙ sym (contains-difference nat_cmp_total (bits_of a) (bits_of b) k ∙ (λ i. contains-bits_of a k i && not (contains-bits_of b k i))))
