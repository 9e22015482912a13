-- The lines of a text have no line feeds, and lines that are written with their ends are the lines of their text.
use Rattle.std.proofs.Common.{ℕ, zero, suc, ◌≡◌, ◌+◌, ◌-◌, List, [], ◌∷◌, ◌++◌, length, map, take, refl, ap, sym, ◌∙◌, subst, arith, append_assoc, Bool, true, false, not, ◌⊎◌, inl, inr, cond, nat_eq, Some}
use Rattle.std.specs.Prelude.{◌==◌, All, slice_index}
use Rattle.std.specs.List.{onto_first, slice_split}
use Rattle.std.specs.Str.Lines.{lines, lines_of_parts, strip_carriage_return}
use Rattle.std.proofs.lemmas.Bool.{and_parts, and_from, cases_Bool, not-true}
use Rattle.std.proofs.lemmas.Bool.Decides.{nat_tests}
use Rattle.std.proofs.lemmas.Grind.{common_steps}
use Rattle.std.proofs.lemmas.List.{append-nil}
use Rattle.std.proofs.lemmas.List.Concat.{flat_map-cons}
use Rattle.std.proofs.lemmas.List.Elements.{All-nil, All-cons, All-drop}
use Rattle.std.proofs.lemmas.List.Splits.{slice_split_at, length-slice_split}
use Rattle.dr_plan.specs.declared.marks.Mark.TheVariants.{Lose}
use Rattle.dr_plan.specs.Parts.{IsSweep, IsPlan, IsRead, use_mark, bound_marks}
use Rattle.dr_plan.specs.Points.{text_of, with_end}
use Rattle.dr_plan.specs.Sweep.{Sweep, Tried, is_unbroken}
use Rattle.dr_plan.proofs.ApartLemmas.{apart-whole}
use Rattle.dr_io.proofs.LineLemmas.{before-parts}
use Rattle.dr_plan.proofs.FitLemmas.{loses-fit}
use Rattle.dr_plan.proofs.PrintLemmas.{unbroken-append}

-- the front of a line
front_whole : (n : ℕ) (line : List ℕ) → is_unbroken line ≡ true → is_unbroken (take n line) ≡ true
front_whole zero line e = refl
front_whole (suc n) [] e = refl
front_whole (suc n) (b ∷ bs) e = let p = and_parts (not (nat_eq b 10)) (is_unbroken bs) e in and_from (not (nat_eq b 10)) (is_unbroken (take n bs)) p.0 (front_whole n bs p.1)

stripped_whole : (line : List ℕ) → is_unbroken line ≡ true → is_unbroken (strip_carriage_return line) ≡ true
stripped_whole line e = by (slice_index line (length line - 1) == 13)
  where
    by : (b : Bool) → is_unbroken (cond b (take (length line - 1) line) line) ≡ true
    by true = front_whole (length line - 1) line e
    by false = e

-- the parts between line feeds
parts_whole : (text : List ℕ) → All (λ l. is_unbroken l ≡ true) (slice_split (λ b. b == 10) text)
parts_whole [] = All-cons (λ l. is_unbroken l ≡ true) [] [] refl (All-nil (λ l. is_unbroken l ≡ true))
parts_whole (x ∷ xs) = by (cases_Bool (x == 10)) (slice_split (λ b. b == 10) xs) (parts_whole xs)
  where
    onto : (parts : List (List ℕ)) → (x == 10) ≡ false → All (λ l. is_unbroken l ≡ true) parts → All (λ l. is_unbroken l ≡ true) (onto_first x parts)
    onto [] e all = All-cons (λ l. is_unbroken l ≡ true) (x ∷ []) [] (and_from (not (nat_eq x 10)) true (ap not e) refl) (All-nil (λ l. is_unbroken l ≡ true))
    onto (p ∷ ps) e all =
        All-cons (λ l. is_unbroken l ≡ true) (x ∷ p) ps (and_from (not (nat_eq x 10)) (is_unbroken p) (ap not e) (all 0 p (omega arith))) (All-drop (λ l. is_unbroken l ≡ true) 1 (p ∷ ps) all)

    by : ((x == 10) ≡ true) ⊎ ((x == 10) ≡ false) → (parts : List (List ℕ)) → All (λ l. is_unbroken l ≡ true) parts → All (λ l. is_unbroken l ≡ true) (cond (x == 10) ([] ∷ parts) (onto_first x parts))
    by (inl e) parts all = subst (λ b. All (λ l. is_unbroken l ≡ true) (cond b ([] ∷ parts) (onto_first x parts))) (sym e) (All-cons (λ l. is_unbroken l ≡ true) [] parts refl all)
    by (inr e) parts all = subst (λ b. All (λ l. is_unbroken l ≡ true) (cond b ([] ∷ parts) (onto_first x parts))) (sym e) (onto parts e all)

lines_whole : (parts : List (List ℕ)) → All (λ l. is_unbroken l ≡ true) parts → All (λ l. is_unbroken l ≡ true) (lines_of_parts parts)
lines_whole [] all = all
lines_whole (x ∷ []) all = by (length x == 0)
  where
    by : (b : Bool) → All (λ l. is_unbroken l ≡ true) (cond b [] (x ∷ []))
    by true = All-nil (λ l. is_unbroken l ≡ true)
    by false = all
lines_whole (x ∷ y ∷ more) all =
    All-cons (λ l. is_unbroken l ≡ true) (strip_carriage_return x) (lines_of_parts (y ∷ more)) (stripped_whole x (all 0 x (omega arith))) (lines_whole (y ∷ more) (All-drop (λ l. is_unbroken l ≡ true) 1 (x ∷ y ∷ more) all))

text_whole : (text : List ℕ) → All (λ l. is_unbroken l ≡ true) (lines text)
text_whole text = lines_whole (slice_split (λ b. b == 10) text) (parts_whole text)

-- two parts of a list
first_all : (P : List ℕ → Type 0) (xs ys : List (List ℕ)) → All P (xs ++ ys) → All P xs
first_all P [] ys all = All-nil P
first_all P (x ∷ xs) ys all = All-cons P x xs (all 0 x (omega arith)) (first_all P xs ys (All-drop P 1 (x ∷ xs ++ ys) all))

second_all : (P : List ℕ → Type 0) (xs ys : List (List ℕ)) → All P (xs ++ ys) → All P ys
second_all P [] ys all = all
second_all P (x ∷ xs) ys all = second_all P xs ys (All-drop P 1 (x ∷ xs ++ ys) all)

pub plan-sweep : (text : List ℕ) (plan : Sweep) → IsPlan (lines text) plan → IsSweep plan
plan-sweep text plan p =
    let all = subst (All (λ l. is_unbroken l ≡ true)) p.cut (text_whole text) in
    let front = first_all (λ l. is_unbroken l ≡ true) (plan.setup ++ p.begin ∷ p.between) (p.end ∷ plan.recovery) all in
    let back = second_all (λ l. is_unbroken l ≡ true) (plan.setup ++ p.begin ∷ p.between) (p.end ∷ plan.recovery) all in
    let middle = second_all (λ l. is_unbroken l ≡ true) plan.setup (p.begin ∷ p.between) front in
    let read = All-drop IsRead 1 (p.begin ∷ p.between) (second_all IsRead plan.setup (p.begin ∷ p.between) (first_all IsRead (plan.setup ++ p.begin ∷ p.between) (p.end ∷ plan.recovery) (subst (All IsRead) p.cut p.read))) in
    let t = p.tries in
    let s = p.setup in
    record {
      some_lost = s.some_lost;
      few_lost = s.few_lost;
      few_servers = s.few_servers;
      once = s.once;
      fit = loses-fit plan.setup plan.loses (map use_mark s.used ++ bound_marks plan.bound) (s.marks ∙ ap (map Some) (append_assoc (map Lose plan.loses) (map use_mark s.used) (bound_marks plan.bound)));
      few_used = s.few_used;
      setup = first_all (λ l. is_unbroken l ≡ true) plan.setup (p.begin ∷ p.between) front;
      tried = subst (All (λ (t : Tried). is_unbroken t.text ≡ true)) (sym t.apart) (apart-whole (length plan.setup + 2) p.between read (All-drop (λ l. is_unbroken l ≡ true) 1 (p.begin ∷ p.between) middle));
      one = t.one;
      recovery = All-drop (λ l. is_unbroken l ≡ true) 1 (p.end ∷ plan.recovery) back;
    }

-- a line that is written with its end
no_feeds : (line : List ℕ) → is_unbroken line ≡ true → All (λ b. (b == 10) ≡ false) line
no_feeds [] e = All-nil (λ b. (b == 10) ≡ false)
no_feeds (b ∷ bs) e = let p = and_parts (not (nat_eq b 10)) (is_unbroken bs) e in All-cons (λ x. (x == 10) ≡ false) b bs (not-true (nat_eq b 10) p.0) (no_feeds bs p.1)

cut_line : (line rest : List ℕ) → is_unbroken line ≡ true → lines (line ++ 10 ∷ rest) ≡ strip_carriage_return line ∷ lines rest
cut_line line rest e =
    let more = length-slice_split (λ (b : ℕ). b == 10) rest in
    ap lines_of_parts (slice_split_at (λ b. b == 10) line 10 rest (no_feeds line e) refl) ∙ before-parts line (slice_split (λ b. b == 10) rest) (omega (arith, more))

-- a carriage return after a line is dropped
returned : (line : List ℕ) → strip_carriage_return (line ++ 13 ∷ []) ≡ line
returned line =
    let last : slice_index (line ++ 13 ∷ []) (length (line ++ 13 ∷ []) - 1) ≡ 13 = grind (arith, common_steps) in
    let is : (slice_index (line ++ 13 ∷ []) (length (line ++ 13 ∷ []) - 1) == 13) ≡ true = grind (arith, nat_tests, last) in
    ap (λ b. cond b (take (length (line ++ 13 ∷ []) - 1) (line ++ 13 ∷ [])) (line ++ 13 ∷ [])) is
    ∙ (let front : take (length (line ++ 13 ∷ []) - 1) (line ++ 13 ∷ []) ≡ line = grind (arith, common_steps) in front)

line_ended : (line rest : List ℕ) → is_unbroken line ≡ true → lines (with_end line ++ rest) ≡ line ∷ lines rest
line_ended line rest e = by (cases_Bool (slice_index line (length line - 1) == 13))
  where
    by : ((slice_index line (length line - 1) == 13) ≡ true) ⊎ ((slice_index line (length line - 1) == 13) ≡ false) → lines (with_end line ++ rest) ≡ line ∷ lines rest
    by (inl is) =
        ap (λ b. lines (cond b (line ++ 13 ∷ 10 ∷ []) (line ++ 10 ∷ []) ++ rest)) is
        ∙ ap lines (append_assoc line (13 ∷ 10 ∷ []) rest ∙ sym (append_assoc line (13 ∷ []) (10 ∷ rest)))
        ∙ cut_line (line ++ 13 ∷ []) rest (unbroken-append line (13 ∷ []) e refl)
        ∙ ap (λ l. l ∷ lines rest) (returned line)
    by (inr is) =
        ap (λ b. lines (cond b (line ++ 13 ∷ 10 ∷ []) (line ++ 10 ∷ []) ++ rest)) is
        ∙ ap lines (append_assoc line (10 ∷ []) rest)
        ∙ cut_line line rest e
        ∙ ap (λ b. cond b (take (length line - 1) line) line ∷ lines rest) is

pub line-text : (line : List ℕ) → is_unbroken line ≡ true → lines (with_end line) ≡ line ∷ []
line-text line e = ap lines (sym (append-nil (with_end line))) ∙ line_ended line [] e

pub lines-text : (ls : List (List ℕ)) → All (λ l. is_unbroken l ≡ true) ls → lines (text_of ls) ≡ ls
lines-text [] all = refl
lines-text (line ∷ rest) all =
    ap lines (flat_map-cons with_end line rest)
    ∙ line_ended line (text_of rest) (all 0 line (omega arith))
    ∙ ap (λ ls. line ∷ ls) (lines-text rest (All-drop (λ l. is_unbroken l ≡ true) 1 (line ∷ rest) all))
