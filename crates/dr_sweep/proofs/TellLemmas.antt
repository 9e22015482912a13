-- What a journal tells of names, and the answers in it, event by event.
use Rattle.std.proofs.Common.{ℕ, ◌≡◌, ◌<◌, ◌≤◌, ◌+◌, ◌-◌, List, [], ◌∷◌, ◌++◌, take, drop, length, get_or, refl, ap, ◌∙◌, sym, arith, cond, Option, Some, None}
use Rattle.std.specs.Prelude.{slice_get, count_by}
use Rattle.std.specs.List.{fold, filter_map, cons_option, position}
use Rattle.std.specs.Option.{option_and_then, option_map_or}
use Rattle.std.proofs.lemmas.List.{take_more, take_all, length-drop}
use Rattle.std.proofs.lemmas.List.Elements.{filter_map-append}
use Rattle.std.proofs.lemmas.List.Sums.{fold_more}
use Rattle.std.proofs.lemmas.Option.{slice_get-get_or, slice_get_within, get_or_from_slice_get}
use Rattle.dr_model.specs.declared.event.Event.{Event}
use Rattle.dr_model.specs.declared.event.Event.TheVariants.{Answer as Answered, ImageEnd, Issue}
use Rattle.dr_model.specs.Text.{heard, untold, said_text}
use Rattle.dr_lost.proofs.SetLemmas.{once-same}
use Rattle.dr_lost.specs.Lost.{each_once}
use Rattle.dr_sweep.specs.Acks.{among, acked_in, issued_on, count_since, age_of, volume_by}
use Rattle.dr_plan.specs.Sweep.{Tried}
use Rattle.dr_sweep.specs.Answers.{answer_in, answer_at}
use Rattle.dr_sweep.specs.Calm.{RunHeard, heard_calm, noted_step}

-- an event more is heard
pub heard-more : (es : List Event) (i : ℕ) → i < length es → fold heard untold (take (i + 1) es) ≡ option_map_or (λ e. heard (fold heard untold (take i es)) e) (slice_get es i) (fold heard untold (take i es))
heard-more es i lt =
    fold_more heard untold es i ImageEnd lt
    ∙ ap (λ e. option_map_or (λ x. heard (fold heard untold (take i es)) x) e (fold heard untold (take i es))) (sym (slice_get-get_or es i ImageEnd lt))

-- what an event more tells
pub told-more : {X : Type 0} (f : Event → Option X) (es : List Event) (i : ℕ) (e : Event) (more : List X) → slice_get es i ≡ Some e → more ≡ cons_option (f e) [] → filter_map f (take (i + 1) es) ≡ filter_map f (take i es) ++ more
told-more f es i e more at is =
    ap (filter_map f) (take_more es i ImageEnd (slice_get_within es i e at))
    ∙ filter_map-append f (take i es) (get_or es i ImageEnd ∷ [])
    ∙ ap (λ x. filter_map f (take i es) ++ cons_option (f x) []) (get_or_from_slice_get es i e ImageEnd at)
    ∙ ap (λ xs. filter_map f (take i es) ++ xs) (sym is)

-- a fold over an event more
pub fold-more : {X : Type 0} (f : X → Event → X) (x : X) (es : List Event) (i : ℕ) (e : Event) → slice_get es i ≡ Some e → fold f x (take (i + 1) es) ≡ f (fold f x (take i es)) e
fold-more f x es i e at = fold_more f x es i ImageEnd (slice_get_within es i e at) ∙ ap (f (fold f x (take i es))) (get_or_from_slice_get es i e ImageEnd at)

-- an event more may be an answer
pub answers-more : (before : ℕ) (es : List Event) (i : ℕ) → i < length es → filter_map (answer_in before) (take (i + 1) es) ≡ filter_map (answer_in before) (take i es) ++ cons_option (answer_at before es i) []
answers-more before es i lt =
    ap (filter_map (answer_in before)) (take_more es i ImageEnd lt)
    ∙ filter_map-append (answer_in before) (take i es) (get_or es i ImageEnd ∷ [])
    ∙ ap (λ e. filter_map (answer_in before) (take i es) ++ cons_option (option_and_then (answer_in before) e) []) (sym (slice_get-get_or es i ImageEnd lt))

-- those of a list that are among some are as many as those among the same, each once
pub count-once : (ws xs : List ℕ) → count_by (among (each_once ws)) xs ≡ count_by (among ws) xs
count-once ws xs = ap (λ p. count_by p xs) (λ i n. once-same n ws i)

volume-once : (ws : List ℕ) (e : Event) → volume_by (each_once ws) e ≡ volume_by ws e
volume-once ws (Issue w volume track offset len bytes) = ap (λ b. cond b (Some volume) None) (once-same w ws)
volume-once ws _ = refl

-- the volumes on which some writes were issued are those on which the same were, each once
pub volumes-once : (ws : List ℕ) (es : List Event) → filter_map (volume_by (each_once ws)) es ≡ filter_map (volume_by ws) es
volumes-once ws [] = refl
volumes-once ws (e ∷ es) = ap (λ o. cons_option o (filter_map (volume_by (each_once ws)) es)) (volume-once ws e) ∙ ap (cons_option (volume_by ws e)) (volumes-once ws es)

all-after : (n : ℕ) (xs : List ℕ) → take (length xs - n) (drop n xs) ≡ drop n xs
all-after n xs = take_all (length xs - n) (drop n xs) (let len = length-drop n xs in omega (arith, len))

-- how many of some acknowledged writes, from the first lost one on, are in the set of those that were issued on some volumes
pub age-is : (lost volumes writes issued keys : List ℕ) (es : List Event) (first : ℕ) → writes ≡ acked_in es → issued ≡ issued_on volumes es → keys ≡ each_once issued → Some first ≡ position (among lost) writes → count_by (among keys) (take (length writes - first) (drop first writes)) ≡ age_of lost volumes es
age-is lost volumes writes issued keys es first are issues set place =
    ap (count_by (among keys)) (all-after first writes)
    ∙ ap (λ ks. count_by (among ks) (drop first writes)) (set ∙ ap each_once issues)
    ∙ count-once (issued_on volumes es) (drop first writes)
    ∙ ap (count_since (issued_on volumes es) writes) place
    ∙ ap (λ ws. count_since (issued_on volumes es) ws (position (among lost) ws)) are

-- an event more is the answer of one step more at most
pub heard-few : (steps : List Tried) (h : RunHeard) (e : Event) → (heard_calm steps h e).steps ≤ h.steps + 1
heard-few steps h (Answered line code a b c) = omega arith
heard-few steps h _ = omega arith

-- an answer was heard, and the step noted
pub answer-heard : (steps : List Tried) (h h' : RunHeard) (e : Event) (line code a b c : ℕ) (found : Option Tried) → e ≡ Answered line code a b c → found ≡ slice_get steps h.steps → h'.told ≡ heard h.told e → h'.steps ≡ h.steps + 1 → h'.noted ≡ h.noted ++ noted_step code (said_text h.told code a b c) found → h' ≡ heard_calm steps h e
answer-heard steps h h' e line code a b c found is at told count noted =
    let told_so = told ∙ ap (heard h.told) is in
    let noted_so = noted ∙ ap (λ (t : Option Tried). h.noted ++ noted_step code (said_text h.told code a b c) t) at in
    let same : h' ≡ heard_calm steps h (Answered line code a b c) = λ i. record { told = told_so i; steps = count i; noted = noted_so i } in
    same ∙ sym (ap (heard_calm steps h) is)

-- another event was heard
pub other-heard : (steps : List Tried) (h h' : RunHeard) (e : Event) → ((line code a b c : ℕ) → e ≡ Answered line code a b c → ⊥) → h'.told ≡ heard h.told e → h'.steps ≡ h.steps → h'.noted ≡ h.noted → h' ≡ heard_calm steps h e
other-heard steps h h' (Answered line code a b c) never told count noted = absurd (never line code a b c refl)
other-heard steps h h' _ never told count noted = λ i. record { told = told i; steps = count i; noted = noted i }
