-- The first line of a text.
use Rattle.std.proofs.Common.{ℕ, ◌≡◌, ◌<◌, ◌≤◌, ◌+◌, List, [], ◌∷◌, length, take, drop, refl, ap, ◌∙◌, arith, cond, false, Some, None, nat_lt}
use Rattle.std.specs.Prelude.{◌==◌}
use Rattle.std.specs.List.{position, position_or_len, slice_split}
use Rattle.std.specs.Str.Lines.{lines, lines_of_parts, strip_carriage_return}
use Rattle.std.proofs.lemmas.Bool.Decides.{nat_tests}
use Rattle.std.proofs.lemmas.List.Splits.{length-slice_split, slice_split_first}
use Rattle.dr_logic.proofs.Choices.{not_chosen, chosen}
use Rattle.dr_logic.proofs.Lists.{uncut}

-- a part before another is a line
pub before-parts : (x : List ℕ) (ps : List (List ℕ)) → 1 ≤ length ps → lines_of_parts (x ∷ ps) ≡ strip_carriage_return x ∷ lines_of_parts ps
before-parts x [] some = absurd (omega arith)
before-parts x (p ∷ ps) some = refl

pub line-ended : (text : List ℕ) (end : ℕ) → position (λ b. b == 10) text ≡ Some end → lines text ≡ strip_carriage_return (take end text) ∷ lines (drop (end + 1) text)
line-ended text end h =
    let p = λ (b : ℕ). b == 10 in
    let at = chosen (nat_lt (position_or_len p text) (length text)) (position_or_len p text) end h in
    let within = at.0 in
    let cut = slice_split_first p text 0 (grind (arith, nat_tests, within)) ∙ ap (λ n. take n text ∷ slice_split p (drop (n + 1) text)) at.1 in
    let more = length-slice_split p (drop (end + 1) text) in
    ap lines_of_parts cut ∙ before-parts (take end text) (slice_split p (drop (end + 1) text)) (omega (arith, more))

one-part : (text : List ℕ) → 0 < length text → lines_of_parts (text ∷ []) ≡ text ∷ []
one-part [] some = absurd (omega arith)
one-part (b ∷ bs) some = let filled : (length (b ∷ bs) == 0) ≡ false = grind (arith, nat_tests) in ap (λ e. cond e [] ((b ∷ bs) ∷ [])) filled

pub line-unended : (text : List ℕ) → position (λ b. b == 10) text ≡ None → 0 < length text → lines text ≡ text ∷ []
line-unended text h some =
    let p = λ (b : ℕ). b == 10 in
    let past = not_chosen (nat_lt (position_or_len p text) (length text)) (position_or_len p text) h in
    ap lines_of_parts (uncut p text (grind (arith, nat_tests, past))) ∙ one-part text some
