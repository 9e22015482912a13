-- What lines define, one after another.
use Rattle.std.proofs.Common.{ℕ, ◌≡◌, ◌<◌, ◌+◌, List, [], ◌∷◌, ◌++◌, length, take, slice_get, get_or, ap, sym, ◌∙◌, append_assoc, Option, Some}
use Rattle.std.specs.List.{filter_map}
use Rattle.std.proofs.lemmas.Grind.{flat_map-append}
use Rattle.std.proofs.lemmas.List.{append-nil, take_more}
use Rattle.std.proofs.lemmas.List.Concat.{flat_map-cons}
use Rattle.std.proofs.lemmas.List.Elements.{filter_map-append}
use Rattle.std.proofs.lemmas.Option.{slice_get_within, get_or_from_slice_get}
use Rattle.dr_model.specs.declared.step.Step.{Step}
use Rattle.dr_plan.specs.Above.{line_steps, steps_of}

-- a step more
pub found-more : {X : Type 0} (h : Step → Option X) (old all new : List X) (steps : List Step) (i : ℕ) (step : Step) → slice_get steps i ≡ Some step → new ≡ all ++ filter_map h (step ∷ []) → all ≡ old ++ filter_map h (take i steps)
    → new ≡ old ++ filter_map h (take (i + 1) steps)
found-more h old all new steps i step here more so_far =
    more
    ∙ ap (λ xs. xs ++ filter_map h (step ∷ [])) so_far
    ∙ append_assoc old (filter_map h (take i steps)) (filter_map h (step ∷ []))
    ∙ ap (λ xs. old ++ xs) (sym (filter_map-append h (take i steps) (step ∷ [])))
    ∙ ap (λ ss. old ++ filter_map h ss) (sym (take_more steps i step (slice_get_within steps i step here) ∙ ap (λ s. take i steps ++ s ∷ []) (get_or_from_slice_get steps i step step here)))

-- a line more
pub line-found : {X : Type 0} (h : Step → Option X) (all new : List X) (lines : List (List ℕ)) (i : ℕ) (d : List ℕ) → i < length lines → new ≡ all ++ filter_map h (line_steps (get_or lines i d)) → all ≡ filter_map h (steps_of (take i lines))
    → new ≡ filter_map h (steps_of (take (i + 1) lines))
line-found h all new lines i d lt more so_far =
    let line = get_or lines i d in
    more
    ∙ ap (λ xs. xs ++ filter_map h (line_steps line)) so_far
    ∙ sym (filter_map-append h (steps_of (take i lines)) (line_steps line))
    ∙ ap (λ ss. filter_map h (steps_of (take i lines) ++ ss)) (sym (flat_map-cons line_steps line [] ∙ append-nil (line_steps line)))
    ∙ ap (filter_map h) (sym (flat_map-append line_steps (take i lines) (line ∷ [])))
    ∙ ap (λ ls. filter_map h (steps_of ls)) (sym (take_more lines i d lt))
