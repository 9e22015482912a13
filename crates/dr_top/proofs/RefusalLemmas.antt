-- Whether a journal tells a refusal.
use Rattle.std.proofs.Common.{ℕ, suc, ◌≡◌, ◌<◌, ◌+◌, List, ◌∷◌, length, drop, ap, sym, ◌∙◌, ◌||◌, false, drop-cons, add-one}
use Rattle.std.specs.Option.{option_map_or}
use Rattle.std.proofs.lemmas.Option.{get_or_from_slice_get}
use Rattle.dr_model.specs.declared.event.Event.{Event}
use Rattle.dr_top.specs.Outcome.{has_refusal, is_refusal}
use Rattle.dr_top.specs.Statuses.{refusal_at}
use Rattle.dr_config.proofs.Lists.{element-at}

-- one answer more was looked at
pub refusal-more : (es : List Event) (i : ℕ) → i < length es → has_refusal (drop i es) ≡ (refusal_at es i || has_refusal (drop (i + 1) es))
refusal-more es i lt =
    let at = element-at es i lt in
    ap has_refusal (drop-cons es i at.0 lt ∙ (λ k. get_or_from_slice_get es i at.0 at.0 at.1 k ∷ drop (suc i) es))
    ∙ ap (λ n. is_refusal at.0 || has_refusal (drop n es)) (sym (add-one i))
    ∙ ap (λ o. option_map_or is_refusal o false || has_refusal (drop (i + 1) es)) (sym at.1)
