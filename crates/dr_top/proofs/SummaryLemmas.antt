-- What a journal told, event by event.
use Rattle.std.proofs.Common.{ℕ, ◌≡◌, ◌<◌, ◌+◌, List, take, length, get_or, refl, ap, ◌∙◌, sym, arith, Bool, true, false, cond}
use Rattle.std.specs.Prelude.{slice_get}
use Rattle.std.specs.Option.{option_map_or}
use Rattle.std.proofs.lemmas.List.Sums.{count_by_more_yes, count_by_more_no, fold_more}
use Rattle.std.proofs.lemmas.Option.{slice_get-get_or}
use Rattle.dr_model.specs.declared.event.Event.{Event}
use Rattle.dr_model.specs.declared.event.Event.TheVariants.{ImageEnd}
use Rattle.dr_top.specs.Outcome.{is_refusal}
use Rattle.dr_top.specs.Statuses.{refusal_at}
use Rattle.dr_top.specs.Trials.{refusals, group_after, last_group}

counted : (es : List Event) (i : ℕ) → i < length es → (b : Bool) → is_refusal (get_or es i ImageEnd) ≡ b → refusals (take (i + 1) es) ≡ refusals (take i es) + cond b 1 0
counted es i lt true is = count_by_more_yes is_refusal es i ImageEnd lt is
counted es i lt false is = let same = count_by_more_no is_refusal es i ImageEnd lt is in omega (arith, same)

-- an event more is counted
pub refusals-more : (es : List Event) (i : ℕ) → i < length es → refusals (take (i + 1) es) ≡ refusals (take i es) + cond (refusal_at es i) 1 0
refusals-more es i lt =
    counted es i lt (is_refusal (get_or es i ImageEnd)) refl
    ∙ ap (λ e. refusals (take i es) + cond {A = ℕ} (option_map_or is_refusal e false) 1 0) (sym (slice_get-get_or es i ImageEnd lt))

-- an event more is heard
pub group-more : (es : List Event) (i : ℕ) → i < length es → last_group (take (i + 1) es) ≡ option_map_or (λ e. group_after (last_group (take i es)) e) (slice_get es i) (last_group (take i es))
group-more es i lt =
    fold_more group_after 0 es i ImageEnd lt
    ∙ ap (λ e. option_map_or (λ x. group_after (last_group (take i es)) x) e (last_group (take i es))) (sym (slice_get-get_or es i ImageEnd lt))
