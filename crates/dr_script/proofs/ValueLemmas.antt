-- Names, bytes and numbers that words spell.
use Rattle.std.proofs.Common.{ℕ, zero, suc, ◌≡◌, ◌<◌, ◌≤◌, ◌+◌, ◌-◌, ◌*◌, List, [], ◌∷◌, ◌++◌, take, drop, set, map, length, replicate, refl, ap, ◌∙◌, sym, arith, append_assoc, Bool, true, false, ◌&&◌, cond, get_or, drop-cons, Option, Some, None}
use Rattle.std.proofs.lemmas.Grind.{common_steps}
use Rattle.std.specs.Prelude.{slice_index}
use Rattle.std.proofs.Math.Bool.{and_assoc}
use Rattle.std.proofs.Math.Numerals.{suc-eq-add-one}
use Rattle.std.proofs.lemmas.Bool.Decides.{nat_tests}
use Rattle.std.proofs.lemmas.List.{append-nil, take_more_set, drop-drop, drop-replicate, drop-set-lt}
use Rattle.std.proofs.lemmas.List.FromFn.{map-range_with_len_more}
use Rattle.std.specs.List.{range_with_len, list_all}
use Rattle.std.specs.Char.{is_digit}
use Rattle.dr_ids.specs.Spelling.{all_digits}
use Rattle.dr_logic.specs.Bytes.{zeros}
use Rattle.dr_model.specs.LineWords.{byte_at, digit_or_zero, spelled_bytes}
use Rattle.dr_script.specs.Pieces.{empty_name}

pub length-zeros : length zeros ≡ 64
unfolding zeros
length-zeros = refl

pub zeros_are : zeros ≡ replicate 64 0
unfolding zeros
zeros_are = refl

-- a word and zeros behind it
pub padded_name : (word front : List ℕ) → front ≡ word → front ++ drop (length word) empty_name ≡ word ++ replicate (24 - length word) 0
unfolding empty_name
padded_name word front e = ap (λ f. f ++ drop {A = ℕ} (length word) (replicate 24 0)) e ∙ ap (λ z. word ++ z) (drop-replicate (length word) 24 0)

-- one byte more
pub byte_more : (word bytes : List ℕ) (k byte : ℕ) → k < length bytes → byte ≡ byte_at word k → take k bytes ≡ map (byte_at word) (range_with_len 0 k)
    → take (k + 1) (set bytes k byte) ≡ map (byte_at word) (range_with_len 0 (k + 1))
byte_more word bytes k byte lt is front =
    take_more_set bytes k byte lt ∙ ap (λ f. f ++ byte ∷ []) front ∙ ap (λ b. map (byte_at word) (range_with_len 0 k) ++ b ∷ []) is
    ∙ sym (map-range_with_len_more (byte_at word) 0 k k (omega arith))

past_end : (xs : List ℕ) (i : ℕ) → length xs ≤ i → slice_index xs i ≡ 0
past_end xs i le = grind (arith, common_steps, nat_tests, le)

-- where a word has ended, it spells zeros
pub byte_past : (word : List ℕ) (k : ℕ) → length word ≤ 2 * k → byte_at word k ≡ 0
byte_past word k le = (λ j. digit_or_zero (past_end word (2 * k) le j) * 16 + digit_or_zero (past_end word (2 * k + 1) (omega arith) j))

ends_in_zeros : (f : ℕ → ℕ) (n k : ℕ) → ((i : ℕ) → k ≤ i → i < k + n → f i ≡ 0) → map f (range_with_len 0 k) ++ replicate n 0 ≡ map f (range_with_len 0 (k + n))
ends_in_zeros f zero k past = append-nil (map f (range_with_len 0 k)) ∙ ap (λ m. map f (range_with_len 0 m)) (let e : k ≡ k + 0 = omega arith in e)
ends_in_zeros f (suc n) k past =
    ap (λ x. map f (range_with_len 0 k) ++ x ∷ replicate n 0) (sym (past k (omega arith) (omega arith)))
    ∙ sym (append_assoc (map f (range_with_len 0 k)) (f k ∷ []) (replicate n 0))
    ∙ ap (λ front. front ++ replicate n 0) (sym (map-range_with_len_more f 0 k k (omega arith)))
    ∙ ends_in_zeros f n (k + 1) (λ i le lt. past i (omega (arith, le)) (omega (arith, lt)))
    ∙ ap (λ m. map f (range_with_len 0 m)) (let e : k + 1 + n ≡ k + suc n = omega arith in e)

-- zeros stand behind what was spelled so far
pub zeros_left : (bytes : List ℕ) (k byte : ℕ) → k < 64 → drop k bytes ≡ replicate (64 - k) 0 → drop (k + 1) (set bytes k byte) ≡ replicate (64 - (k + 1)) 0
zeros_left bytes k byte lt back =
    drop-set-lt (k + 1) bytes k byte (omega (arith, lt))
    ∙ sym (drop-drop 1 k bytes)
    ∙ ap (λ xs. drop 1 xs) back
    ∙ drop-replicate 1 (64 - k) 0
    ∙ ap (λ n. replicate n 0) (let e : 64 - k - 1 ≡ 64 - (k + 1) = omega arith in e)

-- the block is whole where the word has ended
pub whole_block : (word bytes : List ℕ) (k : ℕ) → k ≤ 64 → ((i : ℕ) → k ≤ i → i < 64 → length word ≤ 2 * i) → take k bytes ≡ map (byte_at word) (range_with_len 0 k) → drop k bytes ≡ replicate (64 - k) 0
    → bytes ≡ spelled_bytes word
unfolding spelled_bytes
whole_block word bytes k le ended front back =
    sym (let t : take k bytes ++ drop k bytes ≡ bytes = grind (arith, common_steps) in t)
    ∙ (λ j. front j ++ back j)
    ∙ ends_in_zeros (byte_at word) (64 - k) k (λ i from lt. byte_past word i (ended i from (omega (arith, lt, le))))
    ∙ ap (λ n. map (byte_at word) (range_with_len 0 n)) (let e : k + (64 - k) ≡ 64 = omega (arith, le) in e)

-- two digits at the front of what is left of a word
two_digits : (word : List ℕ) (k : ℕ) → 2 * k + 1 < length word
    → all_digits 16 (drop (2 * k) word) ≡ (is_digit (get_or word (2 * k) 0) 16 && (is_digit (get_or word (2 * k + 1) 0) 16 && all_digits 16 (drop (2 * (k + 1)) word)))
unfolding all_digits
two_digits word k low =
    let digits = list_all (λ digit. is_digit digit 16) in
    let first = is_digit (get_or word (2 * k) 0) 16 in
    let second = is_digit (get_or word (2 * k + 1) 0) 16 in
    ap digits (drop-cons word (2 * k) 0 (omega arith))
    ∙ ap (λ n. first && digits (drop n word)) (suc-eq-add-one (2 * k))
    ∙ ap (λ xs. first && digits xs) (drop-cons word (2 * k + 1) 0 low)
    ∙ ap (λ n. first && (second && digits (drop n word))) (let e : suc (2 * k + 1) ≡ 2 * (k + 1) = omega arith in e)

-- what is left is digits as before, after a pair of them
pub pair_read : (word : List ℕ) (k : ℕ) → 2 * k + 1 < length word → (is_digit (get_or word (2 * k) 0) 16 && is_digit (get_or word (2 * k + 1) 0) 16) ≡ true
    → all_digits 16 (drop (2 * k) word) ≡ all_digits 16 word → all_digits 16 (drop (2 * (k + 1)) word) ≡ all_digits 16 word
pair_read word k low e so_far = sym (two_digits word k low ∙ sym (and_assoc (is_digit (get_or word (2 * k) 0) 16) (is_digit (get_or word (2 * k + 1) 0) 16) (all_digits 16 (drop (2 * (k + 1)) word))) ∙ ap (λ both. both && all_digits 16 (drop (2 * (k + 1)) word)) e) ∙ so_far

-- a pair that has another byte
pub pair_odd : (word : List ℕ) (k : ℕ) → 2 * k + 1 < length word → (is_digit (get_or word (2 * k) 0) 16 && is_digit (get_or word (2 * k + 1) 0) 16) ≡ false
    → all_digits 16 (drop (2 * k) word) ≡ all_digits 16 word → all_digits 16 word ≡ false
pair_odd word k low e so_far = sym so_far ∙ two_digits word k low ∙ sym (and_assoc (is_digit (get_or word (2 * k) 0) 16) (is_digit (get_or word (2 * k + 1) 0) 16) (all_digits 16 (drop (2 * (k + 1)) word))) ∙ ap (λ both. both && all_digits 16 (drop (2 * (k + 1)) word)) e

-- nothing is left
pub pairs_read : (word : List ℕ) (k : ℕ) → length word ≤ 2 * k → all_digits 16 (drop (2 * k) word) ≡ all_digits 16 word → all_digits 16 word ≡ true
unfolding all_digits
pairs_read word k past so_far = sym so_far ∙ ap (list_all (λ digit. is_digit digit 16)) (let d : drop (2 * k) word ≡ [] = grind (arith, common_steps) in d)

pub none_chosen : (b : Bool) (x : ℕ) → ◌≡◌ {A = Option ℕ} None (cond b (Some x) None) → b ≡ false
none_chosen true x e = cc
none_chosen false x e = refl
