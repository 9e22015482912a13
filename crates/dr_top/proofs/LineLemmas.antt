-- How bytes are cut into lines.
use Rattle.std.proofs.Common.{ℕ, suc, ◌≡◌, ◌≤◌, ◌+◌, List, [], ◌∷◌, ◌++◌, map, length, refl, ap, ◌∙◌, sym, arith, true, false, cond, not, Bool, inl, inr, nat_lt}
use Rattle.std.specs.Prelude.{◌==◌}
use Rattle.std.proofs.lemmas.Bool.Decides.{nat_tests}
use Rattle.std.proofs.lemmas.List.{append-nil}
use Rattle.std.proofs.lemmas.List.Splits.{slice_split-cons_no}
use Rattle.std.specs.List.{position_or_len, slice_split, onto_first}
use Rattle.std.specs.Str.Lines.{lines, lines_of_parts, strip_carriage_return}
use Rattle.dr_io.specs.Lines.{is_line_end, IsOpen}
use Rattle.dr_top.specs.Cut.{IsClosed}
use Rattle.dr_logic.proofs.Choices.{not_chosen}

-- bytes none of which ends a line are one part
one-part : (xs : List ℕ) → length xs ≤ position_or_len is_line_end xs → slice_split is_line_end xs ≡ xs ∷ []
one-part [] h = refl
one-part (x ∷ xs) h =
    elim (is_line_end x) as (λ b. is_line_end x ≡ b → suc (length xs) ≤ cond (not b) (1 + position_or_len is_line_end xs) 0 → slice_split is_line_end (x ∷ xs) ≡ (x ∷ xs) ∷ []) [
      | true ↦ λ e le. absurd (omega arith)
      | false ↦ λ e le. slice_split-cons_no is_line_end x xs e ∙ ap (onto_first x) (one-part xs (omega arith))
    ] refl h

past-end : (xs : List ℕ) → IsOpen xs → length xs ≤ position_or_len is_line_end xs
past-end xs h = let past = not_chosen (nat_lt (position_or_len is_line_end xs) (length xs)) (position_or_len is_line_end xs) h in grind (arith, nat_tests, past)

pub open-part : (xs : List ℕ) → IsOpen xs → slice_split is_line_end xs ≡ xs ∷ []
open-part xs h = one-part xs (past-end xs h)

-- the parts of bytes that end a line, and of what follows
record Parts (front : List ℕ) : Type 0 where
  first : List ℕ
  more : List (List ℕ)
  split : (rest : List ℕ) → slice_split is_line_end (front ++ 10 ∷ rest) ≡ (first ∷ more) ++ slice_split is_line_end rest

parts-by : (x : ℕ) (xs : List ℕ) (b : Bool) → is_line_end x ≡ b → Parts xs → Parts (x ∷ xs)
parts-by x xs true e p = record {
  first = [];
  more = p.first ∷ p.more;
  split = λ rest. ap (λ b. cond b ([] ∷ slice_split is_line_end (xs ++ 10 ∷ rest)) (onto_first x (slice_split is_line_end (xs ++ 10 ∷ rest)))) e ∙ ap (λ ps. [] ∷ ps) (p.split rest);
}
parts-by x xs false e p = record {
  first = x ∷ p.first;
  more = p.more;
  split = λ rest. slice_split-cons_no is_line_end x (xs ++ 10 ∷ rest) e ∙ ap (onto_first x) (p.split rest);
}

parts-of : (front : List ℕ) → Parts front
parts-of [] = record { first = []; more = []; split = λ rest. refl }
parts-of (x ∷ xs) = parts-by x xs (is_line_end x) refl (parts-of xs)

-- each part before a line's end is a line
lines-then : (x : List ℕ) (xs : List (List ℕ)) (ps : List (List ℕ)) → 1 ≤ length ps → lines_of_parts ((x ∷ xs) ++ ps) ≡ map strip_carriage_return (x ∷ xs) ++ lines_of_parts ps
lines-then x [] [] some = absurd (omega arith)
lines-then x [] (p ∷ ps) some = refl
lines-then x (y ∷ xs) ps some = ap (λ ls. strip_carriage_return x ∷ ls) (lines-then y xs ps some)

some_part : (xs : List ℕ) → 1 ≤ length (slice_split is_line_end xs)
some_part [] = omega arith
some_part (x ∷ xs) =
    elim (is_line_end x) as (λ b. is_line_end x ≡ b → 1 ≤ length (slice_split is_line_end (x ∷ xs))) [
      | true ↦ λ e. let is = ap (λ b. length (cond b ([] ∷ slice_split is_line_end xs) (onto_first x (slice_split is_line_end xs)))) e in omega (arith, is)
      | false ↦ λ e. let is = ap (λ (ps : List (List ℕ)). length ps) (slice_split-cons_no is_line_end x xs e) in let on = onto_some x (slice_split is_line_end xs) in omega (arith, is, on)
    ] refl
  where
    onto_some : (x : ℕ) (ps : List (List ℕ)) → 1 ≤ length (onto_first x ps)
    onto_some x [] = omega arith
    onto_some x (p ∷ ps) = omega arith

ended-lines : (front rest : List ℕ) → lines (front ++ 10 ∷ rest) ≡ map strip_carriage_return ((parts-of front).first ∷ (parts-of front).more) ++ lines rest
ended-lines front rest =
    let p = parts-of front in
    ap lines_of_parts (p.split rest) ∙ lines-then p.first p.more (slice_split is_line_end rest) (some_part rest)

ended-alone : (front : List ℕ) → lines (front ++ 10 ∷ []) ≡ map strip_carriage_return ((parts-of front).first ∷ (parts-of front).more)
ended-alone front = ended-lines front [] ∙ append-nil _

pub append_end : (front rest : List ℕ) → (front ++ 10 ∷ []) ++ rest ≡ front ++ 10 ∷ rest
append_end [] rest = refl
append_end (x ∷ xs) rest = ap (λ ys. x ∷ ys) (append_end xs rest)

-- the lines of whole lines, and of what follows
pub lines-closed : (a b : List ℕ) → IsClosed a → lines (a ++ b) ≡ lines a ++ lines b
lines-closed a b (inl none) = ap (λ a. lines (a ++ b)) none ∙ ap (λ a. lines a ++ lines b) (sym none)
lines-closed a b (inr ended) =
    let front = ended.0 in
    ap (λ a. lines (a ++ b)) ended.1 ∙ ap lines (append_end front b) ∙ ended-lines front b ∙ ap (λ ls. ls ++ lines b) (sym (ended-alone front)) ∙ ap (λ a. lines a ++ lines b) (sym ended.1)

end-part : (xs : List ℕ) → length xs ≤ position_or_len is_line_end xs → slice_split is_line_end (xs ++ 10 ∷ []) ≡ xs ∷ [] ∷ []
end-part [] h = refl
end-part (x ∷ xs) h =
    elim (is_line_end x) as (λ b. is_line_end x ≡ b → suc (length xs) ≤ cond (not b) (1 + position_or_len is_line_end xs) 0 → slice_split is_line_end ((x ∷ xs) ++ 10 ∷ []) ≡ (x ∷ xs) ∷ [] ∷ []) [
      | true ↦ λ e le. absurd (omega arith)
      | false ↦ λ e le. slice_split-cons_no is_line_end x (xs ++ 10 ∷ []) e ∙ ap (onto_first x) (end-part xs (omega arith))
    ] refl h

-- one line with its end
pub lines-one : (front : List ℕ) → IsOpen front → lines (front ++ 10 ∷ []) ≡ strip_carriage_return front ∷ []
lines-one front no_end = ap lines_of_parts (end-part front (past-end front no_end))

-- a last line without one
pub lines-last : (text : List ℕ) → IsOpen text → 1 ≤ length text → lines text ≡ text ∷ []
lines-last text no_end some = ap lines_of_parts (open-part text no_end) ∙ filled text some
  where
    filled : (text : List ℕ) → 1 ≤ length text → lines_of_parts (text ∷ []) ≡ text ∷ []
    filled [] some = absurd (omega arith)
    filled (b ∷ bs) some = let filled : (length (b ∷ bs) == 0) ≡ false = grind (arith, nat_tests) in ap (λ e. cond e [] ((b ∷ bs) ∷ [])) filled
