-- How much a text is, and whether that is within limits.
use Rattle.std.proofs.Common.{ℕ, suc, ◌≡◌, ◌≤◌, ◌<◌, ◌+◌, ◌-◌, List, [], ◌∷◌, ◌++◌, length, ap, ◌∙◌, sym, refl, arith, Bool, true, false, not, cond, Some, inl, inr, get_or, append-nil, length-append}
use Rattle.std.specs.Prelude.{◌==◌, slice_get}
use Rattle.std.proofs.lemmas.Bool.Decides.{nat_tests, leb_tells}
use Rattle.std.proofs.lemmas.Option.{slice_get-get_or}
use Rattle.std.proofs.lemmas.List.Sums.{sum_by-append, count_by-le-length}
use Rattle.std.proofs.lemmas.List.Splits.{length-slice_split, slice_split-cons_yes, slice_split-cons_no}
use Rattle.std.specs.List.{count_by, slice_split, onto_first}
use Rattle.std.specs.Str.Lines.{lines, lines_of_parts}
use Rattle.dr_io.specs.Lines.{is_line_end}
use Rattle.dr_io.specs.Pieces.{opened, more, amount_of, lines_of, exceeds, IsWithin, IsPast}
use Rattle.dr_io.specs.declared.limits.Limits.{Limits}
use Rattle.dr_io.specs.declared.amount.Amount.{Amount}
use Rattle.dr_io.proofs.ReadingSteps.{positive}

last_behind : (x y : ℕ) (ys : List ℕ) → slice_get (x ∷ y ∷ ys) (length (x ∷ y ∷ ys) - 1) ≡ slice_get (y ∷ ys) (length (y ∷ ys) - 1)
last_behind x y ys =
    let all : length (x ∷ y ∷ ys) - 1 ≡ suc (length ys) = omega arith in
    let rest : length (y ∷ ys) - 1 ≡ length ys = omega arith in
    ap (slice_get (x ∷ y ∷ ys)) all ∙ sym (ap (slice_get (y ∷ ys)) rest)

-- the last byte of two texts, the second of which isn't empty
last_both : (a : List ℕ) (b : ℕ) (bs : List ℕ) → slice_get (a ++ b ∷ bs) (length (a ++ b ∷ bs) - 1) ≡ slice_get (b ∷ bs) (length (b ∷ bs) - 1)
last_both [] b bs = refl
last_both (x ∷ []) b bs = last_behind x b bs
last_both (x ∷ y ∷ ys) b bs = last_behind x y (ys ++ b ∷ bs) ∙ last_both (y ∷ ys) b bs

some_last : (b : ℕ) (bs : List ℕ) → slice_get (b ∷ bs) (length (b ∷ bs) - 1) ≡ Some (get_or (b ∷ bs) (length (b ∷ bs) - 1) 0)
some_last b bs = slice_get-get_or (b ∷ bs) (length (b ∷ bs) - 1) 0 (omega arith)

opened_both : (a b : List ℕ) (before : Bool) → opened (slice_get b (length b - 1)) (opened (slice_get a (length a - 1)) before) ≡ opened (slice_get (a ++ b) (length (a ++ b) - 1)) before
opened_both a [] before = ap (λ text. opened (slice_get text (length text - 1)) before) (sym (append-nil a))
opened_both a (b ∷ bs) before =
    ap (λ o. opened o (opened (slice_get a (length a - 1)) before)) (some_last b bs)
    ∙ sym (ap (λ o. opened o before) (last_both a b bs ∙ some_last b bs))

count_both : (a b : List ℕ) → (0 + count_by is_line_end a) + count_by is_line_end b ≡ 0 + count_by is_line_end (a ++ b)
count_both a b = let both = sum_by-append (λ x. cond (is_line_end x) 1 0) a b in omega (arith, both)

size_both : (a b : List ℕ) → (0 + length a) + length b ≡ 0 + length (a ++ b)
size_both a b = let both = length-append a b in omega (arith, both)

-- how much a text is with a piece more
pub more_both : (a b : List ℕ) → more (amount_of a) b ≡ amount_of (a ++ b)
more_both a b = λ i. record { bytes = size_both a b i; ended = count_both a b i; begun = opened_both a b false i }

-- how many lines parts are
abbrev line_count : List (List ℕ) → ℕ
line_count parts = length (lines_of_parts parts)

line_more : (x : List ℕ) (ps : List (List ℕ)) (n : ℕ) → length ps ≡ n + 1 → line_count (x ∷ ps) ≡ 1 + line_count ps
line_more x [] n some = absurd (omega arith)
line_more x (p ∷ ps) n some = omega arith

filled : (b : ℕ) (x : List ℕ) → line_count ((b ∷ x) ∷ []) ≡ 1
filled b x = let some : (length (b ∷ x) == 0) ≡ false = grind (arith, nat_tests) in ap (λ e. length (cond e [] ((b ∷ x) ∷ []))) some

same_front : (b c : ℕ) (x y : List ℕ) (ps : List (List ℕ)) → line_count ((b ∷ x) ∷ ps) ≡ line_count ((c ∷ y) ∷ ps)
same_front b c x y [] = filled b x ∙ sym (filled c y)
same_front b c x y (p ∷ ps) = refl

-- a byte more that ends no line, before the parts that begin with a line's end
front_before_end : (x : ℕ) (ps : List (List ℕ)) (n : ℕ) → length ps ≡ n + 1 → line_count (onto_first x ([] ∷ ps)) ≡ line_count ([] ∷ ps)
front_before_end x [] n some = absurd (omega arith)
front_before_end x (p ∷ ps) n some = refl

front_before : (x y : ℕ) (ps : List (List ℕ)) (n : ℕ) → length ps ≡ n + 1 → line_count (onto_first x (onto_first y ps)) ≡ line_count (onto_first y ps)
front_before x y [] n some = absurd (omega arith)
front_before x y (p ∷ ps) n some = same_front x y (y ∷ p) p ps

-- a byte more that ends no line, before a text that isn't empty, is no line more
same_lines : (x y : ℕ) (ys : List ℕ) → line_count (onto_first x (slice_split is_line_end (y ∷ ys))) ≡ line_count (slice_split is_line_end (y ∷ ys))
same_lines x y ys =
    elim (is_line_end y) as (λ b. is_line_end y ≡ b → line_count (onto_first x (slice_split is_line_end (y ∷ ys))) ≡ line_count (slice_split is_line_end (y ∷ ys))) [
      | true ↦ λ e.
          let cut = slice_split-cons_yes is_line_end y ys e in
          ap (λ ps. line_count (onto_first x ps)) cut ∙ front_before_end x (slice_split is_line_end ys) _ (length-slice_split is_line_end ys) ∙ sym (ap line_count cut)
      | false ↦ λ e.
          let cut = slice_split-cons_no is_line_end y ys e in
          ap (λ ps. line_count (onto_first x ps)) cut ∙ front_before x y (slice_split is_line_end ys) _ (length-slice_split is_line_end ys) ∙ sym (ap line_count cut)
    ] refl

count_first : (x : ℕ) (xs : List ℕ) (b : Bool) → is_line_end x ≡ b → count_by is_line_end (x ∷ xs) ≡ cond b 1 0 + count_by is_line_end xs
count_first x xs b e =
    let first = ap (λ b. cond {A = ℕ} b 1 0) e in
    let both = sum_by-append (λ x. cond (is_line_end x) 1 0) (x ∷ []) xs in
    omega (arith, both, first)

-- one where a line is begun behind the text, else none
abbrev begun_of : List ℕ → ℕ
begun_of text = cond (opened (slice_get text (length text - 1)) false) 1 0

-- a line's end before a text begins no line
begun_behind : (x : ℕ) (xs : List ℕ) → is_line_end x ≡ true → begun_of (x ∷ xs) ≡ begun_of xs
begun_behind x [] e = ap (λ b. cond {A = ℕ} (not b) 1 0) e
begun_behind x (y ∷ ys) e = ap (λ o. cond {A = ℕ} (opened o false) 1 0) (last_behind x y ys)

by_lines : (text : List ℕ) → count_by is_line_end text + begun_of text ≡ line_count (slice_split is_line_end text)
by_lines [] = omega arith
by_lines (x ∷ []) =
    elim (is_line_end x) as (λ b. is_line_end x ≡ b → count_by is_line_end (x ∷ []) + begun_of (x ∷ []) ≡ line_count (slice_split is_line_end (x ∷ []))) [
      | true ↦ λ e.
          let count = count_first x [] true e in
          let begun = begun_behind x [] e in
          let cut = ap line_count (slice_split-cons_yes is_line_end x [] e) in
          omega (arith, count, begun, cut)
      | false ↦ λ e.
          let count = count_first x [] false e in
          let begun : begun_of (x ∷ []) ≡ 1 = ap (λ b. cond {A = ℕ} (not b) 1 0) e in
          let cut = ap line_count (slice_split-cons_no is_line_end x [] e) ∙ filled x [] in
          omega (arith, count, begun, cut)
    ] refl
by_lines (x ∷ y ∷ ys) =
    let rest = by_lines (y ∷ ys) in
    elim (is_line_end x) as (λ b. is_line_end x ≡ b → count_by is_line_end (x ∷ y ∷ ys) + begun_of (x ∷ y ∷ ys) ≡ line_count (slice_split is_line_end (x ∷ y ∷ ys))) [
      | true ↦ λ e.
          let count = count_first x (y ∷ ys) true e in
          let begun = begun_behind x (y ∷ ys) e in
          let cut = ap line_count (slice_split-cons_yes is_line_end x (y ∷ ys) e) ∙ line_more [] (slice_split is_line_end (y ∷ ys)) _ (length-slice_split is_line_end (y ∷ ys)) in
          omega (arith, count, begun, cut, rest)
      | false ↦ λ e.
          let count = count_first x (y ∷ ys) false e in
          let begun : begun_of (x ∷ y ∷ ys) ≡ begun_of (y ∷ ys) = ap (λ o. cond {A = ℕ} (opened o false) 1 0) (last_behind x y ys) in
          let cut = ap line_count (slice_split-cons_no is_line_end x (y ∷ ys) e) ∙ same_lines x y ys in
          omega (arith, count, begun, cut, rest)
    ] refl

-- the lines of a text, by how much it is
pub lines_counted : (text : List ℕ) → lines_of (amount_of text) ≡ length (lines text)
lines_counted text =
    let same = by_lines text in
    let begun : cond {A = ℕ} (amount_of text).begun 1 0 ≡ begun_of text = refl in
    omega (arith, same, begun)

-- a text has no more lines than bytes, but for one
pub few-lines : (text : List ℕ) → length (lines text) ≤ length text + 1
few-lines text =
    let same = lines_counted text in
    let ends = count_by-le-length is_line_end text in
    let one = at_most_one (amount_of text).begun in
    omega (arith, same, ends, one)
  where
    at_most_one : (begun : Bool) → cond {A = ℕ} begun 1 0 ≤ 1
    at_most_one true = omega arith
    at_most_one false = omega arith

-- a text that doesn't exceed the limits is within them
pub is_within : (limits : Limits) (amount : Amount) (text : List ℕ) → amount ≡ amount_of text → exceeds limits amount ≡ false → IsWithin limits text
is_within limits amount text is fits =
    let here = ap (exceeds limits) (sym is) ∙ fits in
    let count = lines_counted text in
    let bytes : length text ≤ limits.bytes = grind (arith, nat_tests, here) in
    let lines : lines_of (amount_of text) ≤ limits.lines = grind (arith, nat_tests, here) in
    record { bytes = bytes; lines = omega (arith, lines, count) }

-- a text that exceeds them has passed one
pub is_past : (limits : Limits) (amount : Amount) (text : List ℕ) → amount ≡ amount_of text → exceeds limits amount ≡ true → IsPast limits text
is_past limits amount text is exceeded =
    let here = ap (exceeds limits) (sym is) ∙ exceeded in
    let count = lines_counted text in
    elim (leb_tells (suc limits.bytes) (length text)) [
      | inl at ↦ inl at.1
      | inr at ↦ inr (let lines : limits.lines < lines_of (amount_of text) = grind (arith, nat_tests, here, at) in omega (arith, lines, count))
    ]

-- how much was taken, once a piece more was counted
pub added : (before after : Amount) (text piece bytes : List ℕ) → before ≡ amount_of text → bytes ≡ piece → after ≡ more before bytes → after ≡ amount_of (text ++ piece)
added before after text piece bytes is same adds =
    adds ∙ ap (more before) same ∙ ap (λ amount. more amount piece) is ∙ more_both text piece

pub some_more : (n size : ℕ) → size ≡ n → (n ≡ 0 → ⊥) → 0 < size
some_more n size same some = positive size (λ none. some (sym same ∙ none))

-- a piece for which there was room passes the limit by one byte at most
pub one_past_at_most : (before : Amount) (text piece : List ℕ) (most room n : ℕ) → before ≡ amount_of text → length piece ≡ n → n ≤ room → before.bytes + room ≤ most + 1 → length (text ++ piece) ≤ most + 1
one_past_at_most before text piece most room n is same fits within =
    let taken : before.bytes ≡ length text = ap (λ (amount : Amount). amount.bytes) is ∙ none_more (length text) in
    let both = length-append text piece in
    omega (arith, taken, same, fits, within, both)
  where
    none_more : (n : ℕ) → 0 + n ≡ n
    none_more n = omega arith
