-- Words that are written with single spaces read as these words.
use Rattle.std.proofs.Common.{ℕ, suc, ◌≡◌, ◌≤◌, ◌+◌, List, [], ◌∷◌, ◌++◌, length, refl, ap, ◌∙◌, sym, arith, Bool, true, false, ◌&&◌, cond, Option, Some, None, append_assoc, nat_lt}
use Rattle.std.specs.Prelude.{Result, Ok, Err, All}
use Rattle.std.specs.List.{list_all, slice_split}
use Rattle.std.proofs.lemmas.Bool.Decides.{nat_tests}
use Rattle.std.proofs.lemmas.Grind.{common_steps}
use Rattle.std.proofs.lemmas.List.Splits.{slice_split_at, slice_split_none}
use Rattle.std.proofs.lemmas.List.Elements.{All-cons, All-nil}
use Rattle.std.proofs.lemmas.Bool.{not-true, and_parts, and_from}
use Rattle.dr_model.specs.declared.step.Step.{Step}
use Rattle.dr_model.specs.declared.grammar.Command.{Command}
use Rattle.dr_model.specs.LineWords.{is_gap, words_from, words_behind, ◌>>=◌}
use Rattle.dr_model.specs.LineTable.{commands}
use Rattle.dr_model.specs.LineText.{spaced}
use Rattle.dr_model.specs.Grammar.{Reading, read_on, read_words, may_end, steps_of, start_of, command_named, begins_comment, line_of, words_read, command_read}
use Rattle.dr_script.specs.Pieces.{is_ink}

pub spaced-append : (a b : List (List ℕ)) → spaced (a ++ b) ≡ spaced a ++ spaced b
spaced-append [] b = refl
spaced-append (w ∷ ws) b = ap (λ xs. 32 ∷ w ++ xs) (spaced-append ws b) ∙ ap (λ xs. 32 ∷ xs) (sym (append_assoc w (spaced ws) (spaced b)))

-- a word that has bytes, none of them a gap
abbrev pub is_inked : List ℕ → Bool
is_inked [] = false
is_inked (b ∷ bs) = is_ink b && list_all is_ink bs

abbrev pub all_inked : List (List ℕ) → Bool
all_inked [] = true
all_inked (w ∷ ws) = is_inked w && all_inked ws

pub inked-append : (a b : List (List ℕ)) → all_inked a ≡ true → all_inked b ≡ true → all_inked (a ++ b) ≡ true
inked-append [] b e f = f
inked-append (w ∷ ws) b e f = let p = and_parts (is_inked w) (all_inked ws) e in and_from (is_inked w) (all_inked (ws ++ b)) p.0 (inked-append ws b p.1 f)

no_gaps : (bs : List ℕ) → list_all is_ink bs ≡ true → All (λ b. is_gap b ≡ false) bs
no_gaps [] e = All-nil (λ b. is_gap b ≡ false)
no_gaps (b ∷ bs) e = let p = and_parts (is_ink b) (list_all is_ink bs) e in All-cons (λ x. is_gap x ≡ false) b bs (not-true (is_gap b) p.0) (no_gaps bs p.1)

no_gap : (w : List ℕ) → is_inked w ≡ true → All (λ b. is_gap b ≡ false) w
no_gap [] e = All-nil (λ b. is_gap b ≡ false)
no_gap (b ∷ bs) e = no_gaps (b ∷ bs) e

-- the pieces of a line of such words are these words
pub pieces : (w : List ℕ) (ws : List (List ℕ)) → is_inked w ≡ true → all_inked ws ≡ true → slice_split is_gap (w ++ spaced ws) ≡ w ∷ ws
pieces w [] e f = ap (slice_split is_gap) (let n : w ++ [] ≡ w = grind (arith, common_steps) in n) ∙ slice_split_none is_gap w (no_gap w e)
pieces w (v ∷ ws) e f =
    let p = and_parts (is_inked v) (all_inked ws) f in
    slice_split_at is_gap w 32 (v ++ spaced ws) (no_gap w e) refl ∙ ap (λ xs. w ∷ xs) (pieces v ws p.0 p.1)

-- what is read after several words
abbrev pub run : Reading → List (List ℕ) → Option Reading
run r [] = Some r
run r (w ∷ ws) = read_on r w >>= λ next. run next ws

pub run_on : (r next : Reading) (w : List ℕ) (ws : List (List ℕ)) → read_on r w ≡ Some next → run r (w ∷ ws) ≡ run next ws
run_on r next w ws e = ap (λ o. o >>= λ n. run n ws) e

finish : ℕ → Reading → Result (List Step) ℕ
finish past r = cond (may_end r.place) (Ok (steps_of r)) (Err past)

inverse : (o : Option Reading) (f : Reading → Option Reading) (y : Reading) → (o >>= f) ≡ Some y → (x : Reading) × (o ≡ Some x) × (f x ≡ Some y)
inverse None f y e = cc
inverse (Some x) f y e = (x, refl, e)

-- words without columns are read as words with columns are
read_run : (past c : ℕ) (r last : Reading) (ws : List (List ℕ)) → all_inked ws ≡ true → run r ws ≡ Some last → read_words past r (words_from c ws) ≡ finish past last
unfolding read_words words_from finish
read_run past c r last [] e h = let s : r ≡ last = cc in ap (λ x. cond (may_end x.place) (Ok (steps_of x)) (Err past)) s
read_run past c r last ([] ∷ ws) e h = absurd (cc)
read_run past c r last ((b ∷ bs) ∷ ws) e h =
    let p = and_parts (is_inked (b ∷ bs)) (all_inked ws) e in
    let n = inverse (read_on r (b ∷ bs)) (λ next. run next ws) last h in
    ap (λ o. elim o as (λ _. Result (List Step) ℕ) [ None ↦ Err c | Some next ↦ read_words past next (words_from (c + length bs + 2) ws) ]) n.1
    ∙ read_run past (c + length bs + 2) n.0 last ws p.1 n.2

first_read : (past c : ℕ) (w : List ℕ) (ws : List (List ℕ)) → is_inked w ≡ true → words_read past (words_from c (w ∷ ws)) ≡ command_read past c (words_from (c + length w + 1) ws) (command_named commands w)
unfolding words_from
first_read past c [] ws e = absurd (cc)
first_read past c (b ∷ bs) ws e = ap (λ n. command_read past c (words_from n ws) (command_named commands (b ∷ bs))) (let s : c + length bs + 2 ≡ c + suc (length bs) + 1 = omega arith in s)

-- a line of a command's word and others
pub line_read : (c : Command) (w : List ℕ) (ws : List (List ℕ)) (last : Reading) (steps : List Step) → is_inked w ≡ true → command_named commands w ≡ Some c → ((rest : List ℕ) → begins_comment (w ++ rest) ≡ false)
    → all_inked ws ≡ true → length (w ++ spaced ws) ≤ 1024 → run (start_of c) ws ≡ Some last → may_end last.place ≡ true → steps_of last ≡ steps → line_of (w ++ spaced ws) ≡ Ok steps
unfolding line_of words_behind finish
line_read c w ws last steps inked named plain others short ran ends same =
    let line : List ℕ = w ++ spaced ws in
    let past : ℕ = length line + 1 in
    let few : nat_lt 1024 (length line) ≡ false = grind (arith, nat_tests, short) in
    ap (λ b. cond b (Ok []) (cond (nat_lt 1024 (length line)) (Err 1025) (words_read past (words_from 1 (slice_split is_gap line))))) (plain (spaced ws))
    ∙ ap (λ b. cond b (Err 1025) (words_read past (words_from 1 (slice_split is_gap line)))) few
    ∙ ap (λ ps. words_read past (words_from 1 ps)) (pieces w ws inked others)
    ∙ first_read past 1 w ws inked
    ∙ ap (command_read past 1 (words_from (1 + length w + 1) ws)) named
    ∙ read_run past (1 + length w + 1) (start_of c) last ws others ran
    ∙ ap (λ b. cond b (Ok (steps_of last)) (Err past)) ends
    ∙ ap Ok same
