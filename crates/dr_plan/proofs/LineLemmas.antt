-- Loops over lines, steps and uses.
use Rattle.std.proofs.Common.{ℕ, suc, ◌≡◌, ◌<◌, ◌≤◌, ◌+◌, List, [], ◌∷◌, ◌++◌, length, take, drop, drop-cons, get_or, map, slice_get, slice_set, ap, sym, ◌∙◌, arith, append_assoc, Some}
use Rattle.std.proofs.Math.ListN.{drop_of_length-le}
use Rattle.std.proofs.lemmas.List.{append-nil, get_or_default}
use Rattle.std.proofs.lemmas.List.Edits.{map_over_more}
use Rattle.std.proofs.lemmas.Grind.{common_steps}
use Rattle.std.proofs.lemmas.Option.{slice_get_within, get_or_from_slice_get}
use Rattle.dr_model.specs.declared.step.Step.{Step}
use Rattle.dr_model.specs.LineText.{step_text}
use Rattle.dr_plan.specs.Above.{line_steps}
use Rattle.dr_plan.specs.Parts.{tried_from}
use Rattle.dr_plan.specs.Reading.{parts_from, tried_steps}
use Rattle.dr_plan.specs.Sweep.{Tried}

-- the part of a line of several steps more
pub parts-more : (number : ℕ) (all new total : List Tried) (steps : List Step) (i : ℕ) (step : Step) (text : List ℕ) → slice_get steps i ≡ Some step → text ≡ step_text step → new ≡ all ++ record { line = number; part = i + 1; text = text } ∷ []
    → all ++ parts_from number (i + 1) (drop i steps) ≡ total → new ++ parts_from number (i + 1 + 1) (drop (i + 1) steps) ≡ total
unfolding parts_from
parts-more number all new total steps i step text here is more so_far =
    let rest = parts_from number (i + 1 + 1) (drop (i + 1) steps) in
    let cut : drop i steps ≡ step ∷ drop (i + 1) steps = drop-cons steps i step (slice_get_within steps i step here)
    ∙ (let e : suc i ≡ i + 1 = omega arith in λ j. get_or_from_slice_get steps i step step here j ∷ drop (e j) steps) in
    ap (λ ts. ts ++ rest) (more ∙ ap (λ t. all ++ record { line = number; part = i + 1; text = t } ∷ []) is)
    ∙ append_assoc all (record { line = number; part = i + 1; text = step_text step } ∷ []) rest
    ∙ sym (ap (λ ss. all ++ parts_from number (i + 1) ss) cut)
    ∙ so_far

pub parts-done : (number : ℕ) (all total : List Tried) (steps : List Step) (i : ℕ) → length steps ≤ i → all ++ parts_from number (i + 1) (drop i steps) ≡ total → all ≡ total
unfolding parts_from
parts-done number all total steps i past so_far = sym (append-nil all) ∙ sym (ap (λ ss. all ++ parts_from number (i + 1) ss) (drop_of_length-le steps past)) ∙ so_far

-- the steps of a line more
pub steps-more : (all new total : List Tried) (lines : List (List ℕ)) (i : ℕ) (d : List ℕ) → i < length lines → new ≡ all ++ tried_steps (i + 1) (get_or lines i d) (line_steps (get_or lines i d))
    → all ++ tried_from (i + 1) (drop i lines) ≡ total → new ++ tried_from (i + 1 + 1) (drop (i + 1) lines) ≡ total
unfolding tried_from
steps-more all new total lines i d lt more so_far =
    let line = get_or lines i d in
    let rest = tried_from (i + 1 + 1) (drop (i + 1) lines) in
    let cut : drop i lines ≡ line ∷ drop (i + 1) lines = drop-cons lines i d lt ∙ (let e : suc i ≡ i + 1 = omega arith in ap (λ n. line ∷ drop n lines) e) in
    ap (λ ts. ts ++ rest) more
    ∙ append_assoc all (tried_steps (i + 1) line (line_steps line)) rest
    ∙ sym (ap (λ ls. all ++ tried_from (i + 1) ls) cut)
    ∙ so_far

pub steps-done : (all total : List Tried) (lines : List (List ℕ)) (i : ℕ) → length lines ≤ i → all ++ tried_from (i + 1) (drop i lines) ≡ total → all ≡ total
unfolding tried_from
steps-done all total lines i past so_far = sym (append-nil all) ∙ sym (ap (λ ls. all ++ tried_from (i + 1) ls) (drop_of_length-le lines past)) ∙ so_far

-- a list whose first elements were changed, and one more
pub map-more : {X : Type 0} (f : X → X) (xs ys : List X) (i : ℕ) (d u : X) → i < length xs → ys ≡ map f (take i xs) ++ drop i xs → u ≡ f (get_or ys i d) → slice_set ys i u ≡ map f (take (i + 1) xs) ++ drop (i + 1) xs
map-more f xs ys i d u lt so_far is =
    let size : length (map f (take i xs) ++ drop i xs) ≡ length xs = grind (arith, common_steps, lt) in
    let same : length ys ≡ length (map f (take i xs) ++ drop i xs) = ap length so_far in
    let within : i < length ys = omega (arith, lt, size, same) in
    ap (slice_set ys i) is ∙ map_over_more f xs ys i (get_or ys i d) lt so_far (get_or_default ys i d (get_or ys i d) within)
