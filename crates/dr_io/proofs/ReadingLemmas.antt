-- A line that is read piece by piece.
use Rattle.std.proofs.Common.{ℕ, suc, ◌≡◌, ◌≤◌, ◌⊎◌, leb, ◌<◌, ◌+◌, ◌-◌, List, ◌∷◌, ◌++◌, length, take, drop, get_or, ap, ◌∙◌, sym, refl, arith, min, Bool, true, false, not, cond, nat_lt, eqb, Some, None, inl, inr, length-append, get_or-take, take-append-drop, slice_index}
use Rattle.std.proofs.lemmas.List.{drop-take, take-append-le, take_all, length-take-le}
use Rattle.std.specs.Prelude.{◌==◌}
use Rattle.std.specs.List.{position, position_or_len}
use Rattle.std.specs.Str.Lines.{strip_carriage_return}
use Rattle.std.proofs.lemmas.Bool.Decides.{nat_tests, leb_tells}
use Rattle.std.proofs.lemmas.Grind.{common_steps}
use Rattle.std.proofs.lemmas.List.Folds.{prefix_len-append}
use Rattle.std.proofs.lemmas.List.Sums.{prefix_len-le-length, position_or_len_is}
use Rattle.std.proofs.lemmas.List.Quantifiers.{position-Some}
use Rattle.std.proofs.Math.Seq.{take-append-add}
use Rattle.dr_io.specs.Lines.{is_line_end, IsOpen, most_told}
use Rattle.dr_io.specs.Reading.{most_kept, told_of}
use Rattle.dr_logic.proofs.Choices.{not_chosen}

dropped_twice : (bytes : List ℕ) (start n : ℕ) → drop (start + n) bytes ≡ drop n (drop start bytes)
dropped_twice bytes start n = grind (arith, common_steps)

-- what is left of a piece once n bytes more were dropped
pub dropped : (bytes : List ℕ) (start end n : ℕ) → n ≤ end - start → take (end - (start + n)) (drop (start + n) bytes) ≡ drop n (take (end - start) (drop start bytes))
dropped bytes start end n within =
    let size : end - start ≡ n + (end - (start + n)) = omega (arith, within) in
    ap (λ rest. take (end - (start + n)) rest) (dropped_twice bytes start n)
    ∙ sym (drop-take n (end - (start + n)) (drop start bytes))
    ∙ ap (λ m. drop n (take m (drop start bytes))) (sym size)

pub cut_twice : (bytes : List ℕ) (n m : ℕ) → take (min n m) bytes ≡ take m (take n bytes)
cut_twice bytes n m = grind (arith, common_steps)

pub front_of_front : (bytes : List ℕ) (n m : ℕ) → m ≤ n → take m (take n bytes) ≡ take m bytes
front_of_front bytes n m within = grind (arith, common_steps)

at_most : (bytes : List ℕ) (n : ℕ) → take (min (length bytes) n) bytes ≡ take n bytes
at_most bytes n = grind (arith, common_steps)

-- what is kept of a line where a piece more is kept as far as there is room
pub kept_more : (old piece : List ℕ) (most : ℕ) → length old ≤ most → old ++ take (min (length piece) (most - length old)) piece ≡ take most (old ++ piece)
kept_more old piece most fits =
    let size : length old + (most - length old) ≡ most = omega (arith, fits) in
    ap (λ more. old ++ more) (at_most piece (most - length old))
    ∙ sym (take-append-add old piece (most - length old))
    ∙ ap (λ n. take n (old ++ piece)) size

-- what is kept of a front and more is what is kept of both
pub kept_both : (front more : List ℕ) (most : ℕ) → take most (take most front ++ more) ≡ take most (front ++ more)
kept_both front more most = grind (arith, common_steps)

drop_at : (xs : List ℕ) (n : ℕ) → n < length xs → drop n xs ≡ get_or xs n 0 ∷ drop (n + 1) xs
drop_at xs n within = grind (arith, common_steps)

-- where no line ends, none is found within the length
open_length : (xs : List ℕ) → IsOpen xs → position_or_len is_line_end xs ≡ length xs
open_length xs open_xs =
    let past = not_chosen (nat_lt (position_or_len is_line_end xs) (length xs)) (position_or_len is_line_end xs) open_xs in
    let most = prefix_len-le-length (λ b. not (is_line_end b)) xs in
    let least : length xs ≤ position_or_len is_line_end xs = grind (arith, nat_tests, past) in
    omega (arith, most, least)

length_open : (xs : List ℕ) → position_or_len is_line_end xs ≡ length xs → IsOpen xs
length_open xs e =
    let past : nat_lt (position_or_len is_line_end xs) (length xs) ≡ false = grind (arith, nat_tests, e) in
    ap (λ b. cond b (Some (position_or_len is_line_end xs)) None) past

-- two pieces in which no line ends
pub open_both : (xs ys : List ℕ) → IsOpen xs → IsOpen ys → IsOpen (xs ++ ys)
open_both xs ys open_xs open_ys =
    let first = open_length xs open_xs in
    let same : eqb (position_or_len is_line_end xs) (length xs) ≡ true = grind (arith, nat_tests, first) in
    let second = open_length ys open_ys in
    length_open (xs ++ ys)
    (prefix_len-append (λ b. not (is_line_end b)) xs ys
    ∙ ap (λ b. cond b (length xs + position_or_len is_line_end ys) (position_or_len is_line_end xs)) same
    ∙ ap (λ n. length xs + n) second ∙ sym (length-append xs ys))

-- what stands before the first line end
pub open_before : (xs : List ℕ) (n : ℕ) → position is_line_end xs ≡ Some n → IsOpen (take n xs)
open_before xs n found =
    let facts = position-Some is_line_end xs n 0 found in
    let within = facts.0 in
    let size : length (take n xs) ≡ n = grind (arith, common_steps, within) in
    length_open (take n xs)
    (position_or_len_is is_line_end (take n xs) n 0 (omega (arith, size))
    (λ k below. ap is_line_end (get_or-take n xs k 0 below) ∙ facts.2 k below)
    (λ more. absurd (omega (arith, size, more)))
    ∙ sym size)

-- the first line, its end and what follows
pub split_line : (xs : List ℕ) (n : ℕ) → position is_line_end xs ≡ Some n → xs ≡ take n xs ++ 10 ∷ drop (n + 1) xs
split_line xs n found =
    let facts = position-Some is_line_end xs n 0 found in
    let passes = facts.1 in
    let byte : get_or xs n 0 ≡ 10 = grind (arith, nat_tests, passes) in
    let within = facts.0 in
    sym (take-append-drop n xs) ∙ ap (λ rest. take n xs ++ rest) (drop_at xs n within ∙ ap (λ b. b ∷ drop (n + 1) xs) byte)

shorter : (bytes : List ℕ) (n m : ℕ) → length bytes ≤ m → length (take n bytes) ≤ m
shorter bytes n m short = grind (arith, common_steps)

same_leb : (n : ℕ) → leb n n ≡ true
same_leb n = grind (arith, nat_tests)

-- of a line that is longer than m, a last byte less is the same front
stripped_long : (line : List ℕ) (m : ℕ) → m < length line → (b : Bool) → take m (cond b (take (length line - 1) line) line) ≡ take m line
stripped_long line m long true = front_of_front line (length line - 1) m (omega (arith, long))
stripped_long line m long false = refl

stripped_short : (line : List ℕ) (m : ℕ) → length line ≤ m → (b : Bool) → cond b (take (length line - 1) line) line ≡ take m (cond b (take (length line - 1) line) line)
stripped_short line m short true = sym ((take_all m (take (length line - 1) line) (shorter line (length line - 1) m short)))
stripped_short line m short false = sym ((take_all m line short))

-- what is told of the kept front is what is told of the line
told_by : (line : List ℕ) (m : ℕ) → ((leb (suc m) (length line) ≡ true) × (suc m ≤ length line)) ⊎ ((leb (suc m) (length line) ≡ false) × (length line < suc m))
    → cond (leb (suc m) (length (take (suc m) line))) (take m (take (suc m) line)) (strip_carriage_return (take (suc m) line)) ≡ take m (strip_carriage_return line)
told_by line m (inl at) =
    let size = (length-take-le (suc m) line at.1) in
    ap (λ n. cond (leb (suc m) n) (take m (take (suc m) line)) (strip_carriage_return (take (suc m) line))) size
    ∙ ap (λ b. cond b (take m (take (suc m) line)) (strip_carriage_return (take (suc m) line))) (same_leb (suc m))
    ∙ front_of_front line (suc m) m (omega arith)
    ∙ sym (stripped_long line m at.1 (slice_index line (length line - 1) == 13))
told_by line m (inr at) =
    ap (λ l. cond (leb (suc m) (length l)) (take m l) (strip_carriage_return l)) ((take_all (suc m) line (omega (arith, at.1))))
    ∙ ap (λ b. cond b (take m line) (strip_carriage_return line)) at.0
    ∙ stripped_short line m (omega (arith, at.1)) (slice_index line (length line - 1) == 13)

pub told_line : (line : List ℕ) → told_of (take most_kept line) ≡ take most_told (strip_carriage_return line)
told_line line = told_by line 1025 (leb_tells 1026 (length line))

pub take_within : (bytes : List ℕ) (m n : ℕ) → n ≤ length (take m bytes) → n ≤ m
take_within bytes m n within = grind (arith, common_steps, within)

-- what is kept once a piece was copied behind what was kept
pub kept_at : (bytes piece copied : List ℕ) (len n most : ℕ) → length bytes ≡ most → len ≤ most → n ≡ min (length piece) (most - len)
    → take (len + length (take n piece)) copied ≡ take len bytes ++ take n piece → take (len + n) copied ≡ take most (take len bytes ++ piece)
kept_at bytes piece copied len n most size within count same =
    let first : length (take len bytes) ≡ len = (length-take-le len bytes (omega (arith, size, within))) in
    let few : n ≤ length piece = grind (arith, count) in
    let more : length (take n piece) ≡ n = (length-take-le n piece few) in
    ap (λ k. take (len + k) copied) (sym more) ∙ same
    ∙ ap (λ k. take len bytes ++ take k piece) (count ∙ ap (λ l. min (length piece) (most - l)) (sym first))
    ∙ kept_more (take len bytes) piece most (omega (arith, first, within))

-- the front of a buffer whose front was filled
pub filled : (into rest : List ℕ) (n : ℕ) → n ≤ length into → take (n - 0) (drop 0 (into ++ rest)) ≡ take n into
filled into rest n within =
    let same : n - 0 ≡ n = omega arith in
    ap (λ k. take k (into ++ rest)) same ∙ take-append-le n into rest within

pub room_length : (bytes : List ℕ) (room : ℕ) → length bytes ≡ 4096 → 0 < room → room ≤ 4096 → 0 < length (take room bytes)
room_length bytes room size some fits = let same = (length-take-le room bytes (omega (arith, size, fits))) in omega (arith, same, some)
