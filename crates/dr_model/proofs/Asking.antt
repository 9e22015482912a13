-- One event further back: what is asked before it, the write of a number, and the tracks of a volume.
use Rattle.std.proofs.Common.{ℕ, ◌≡◌, ◌<◌, ◌≤◌, ◌+◌, List, [], ◌∷◌, ◌++◌, length, take, refl, ap, ◌∙◌, sym, cond, Bool, true, false, arith, nat_eq}
use Rattle.std.proofs.lemmas.List.{take_more}
use Rattle.std.proofs.lemmas.Option.{get_or_from_slice_get, slice_get_within}
use Rattle.std.specs.Prelude.{slice_get, Option, Some, None, zero, suc}
use Rattle.std.specs.Option.{option_or}
use Rattle.dr_logic.specs.Bytes.{zeros}
use Rattle.dr_model.specs.declared.event.Event.{Event}
use Rattle.dr_model.specs.declared.event.Event.TheVariants.{Volume, Issue, Ack, Mirrored, Sent, Flashed, Committed, Reverted, Set, Back, Blanked}
use Rattle.dr_model.specs.declared.image.Question.{Question}
use Rattle.dr_model.specs.declared.image.Earlier.{Earlier}
use Rattle.dr_model.specs.declared.image.Issued.{Issued}
use Rattle.dr_model.specs.Histories.{Histories, Write, histories, after_event, no_history, joined}
use Rattle.dr_model.specs.Contents.{image}
use Rattle.dr_model.specs.Asked.{asked, asked_if, with_last, earlier_of, goes_on, ends, present, kept_aside, issue_in, issue_at, write_of, tracks_in, tracks_at, with_write_if}
use Rattle.dr_model.proofs.Images.{image-push, histories-push}

-- the list that an answer stands for
abbrev pub said : Histories → Earlier → List ℕ
said h r = with_last (asked_if h r.question) r.write

-- a list that depends on one test, and one that depends on two
by_row : (h : Histories) (b : Bool) (f g : ℕ → List ℕ) (t : ℕ) (p r : Earlier) → f t ≡ said h p → g t ≡ said h r → (cond b f g) t ≡ said h (cond b p r)
by_row h true f g t p r x y = x
by_row h false f g t p r x y = y

by_place : (h : Histories) (b c : Bool) (xs ys : List ℕ) (p r : Earlier) → xs ≡ said h p → ys ≡ said h r → cond b (cond c xs ys) ys ≡ said h (cond (cond b c false) p r)
by_place h true true xs ys p r x y = x
by_place h true false xs ys p r x y = y
by_place h false c xs ys p r x y = y

-- what was asked of a list aside
told-aside : (h : Histories) (v t : ℕ) (e : Event) → asked (after_event h e) (kept_aside v t) ≡ said h (earlier_of h (kept_aside v t) e)
told-aside h v t (Flashed session n a b c) = by_row h (nat_eq v c) (h.now c) (h.aside v) t (goes_on (present c t)) (goes_on (kept_aside v t)) refl refl
told-aside h v t (Committed session n a c) = by_row h (nat_eq v c) (λ k. []) (h.aside v) t ends (goes_on (kept_aside v t)) refl refl
told-aside h v t _ = refl

-- what was asked of a present list
told-present : (h : Histories) (v t : ℕ) (e : Event) → asked (after_event h e) (present v t) ≡ said h (earlier_of h (present v t) e)
told-present h v t (Volume x server tracks) = by_row h (nat_eq v x) (λ k. []) (h.now v) t ends (goes_on (present v t)) refl refl
told-present h v t (Ack w) =
    by_place h (nat_eq v (h.write w).volume) (nat_eq t (h.write w).track) (joined h w) (h.now v t) (record { question = Some (present (h.write w).volume (h.write w).track); write = Some w }) (goes_on (present v t)) refl refl
told-present h v t (Mirrored w x) =
    by_place h (nat_eq v x) (nat_eq t (h.write w).track) (joined h w) (h.now v t) (record { question = Some (present (h.write w).volume (h.write w).track); write = Some w }) (goes_on (present v t)) refl refl
told-present h v t (Sent x k to) = by_place h (nat_eq v to) (nat_eq t k) (h.now x k) (h.now v t) (goes_on (present x k)) (goes_on (present v t)) refl refl
told-present h v t (Flashed session n a b c) = by_row h (nat_eq v c) (h.now b) (h.now v) t (goes_on (present b t)) (goes_on (present v t)) refl refl
told-present h v t (Reverted session n a c) = by_row h (nat_eq v c) (h.aside c) (h.now v) t (goes_on (kept_aside c t)) (goes_on (present v t)) refl refl
told-present h v t (Set x from) = by_row h (nat_eq v x) (h.now from) (h.now v) t (goes_on (present from t)) (goes_on (present v t)) refl refl
told-present h v t (Back x k from) = by_place h (nat_eq v x) (nat_eq t k) (h.now from k) (h.now v t) (goes_on (present from k)) (goes_on (present v t)) refl refl
told-present h v t (Blanked x k) = by_place h (nat_eq v x) (nat_eq t k) [] (h.now v t) ends (goes_on (present v t)) refl refl
told-present h v t _ = refl

told-either : (h : Histories) (v t : ℕ) (aside : Bool) (e : Event) → asked (after_event h e) (record { volume = v; track = t; aside = aside }) ≡ said h (earlier_of h (record { volume = v; track = t; aside = aside }) e)
told-either h v t true e = told-aside h v t e
told-either h v t false e = told-present h v t e

pub told : (h : Histories) (q : Question) (e : Event) → asked (after_event h e) q ≡ said h (earlier_of h q e)
told h q e = told-either h q.volume q.track q.aside e

-- the events up to and with the one at a place
take-event : (es : List Event) (i : ℕ) (e : Event) → slice_get es i ≡ Some e → take (i + 1) es ≡ take i es ++ e ∷ []
take-event es i e is =
    take_more es i e (slice_get_within es i e is) ∙ ap (λ x. take i es ++ x ∷ []) (get_or_from_slice_get es i e e is)

pub histories-event : (es : List Event) (i : ℕ) (e : Event) → slice_get es i ≡ Some e → histories (take (i + 1) es) ≡ after_event (histories (take i es)) e
histories-event es i e is = ap histories (take-event es i e is) ∙ histories-push (take i es) e

some_event : (es : List Event) (i : ℕ) → i < length es → (e : Event) × (slice_get es i ≡ Some e)
some_event [] i lt = absurd (omega arith)
some_event (e ∷ es) zero lt = (e, refl)
some_event (e ∷ es) (suc i) lt = some_event es i (omega arith)

image-last : (write : ℕ → Write) (ws : List ℕ) (w : Option ℕ) → image write (with_last ws w) ≡ with_write_if write (image write ws) w
image-last write ws None = refl
image-last write ws (Some w) = image-push write ws w

-- the image of what is asked, from the event before
pub image-told : (write : ℕ → Write) (es : List Event) (i : ℕ) (e : Event) (q : Question) (r : Earlier) → slice_get es i ≡ Some e → r ≡ earlier_of (histories (take i es)) q e
    → image write (asked (histories (take (i + 1) es)) q) ≡ with_write_if write (image write (asked_if (histories (take i es)) r.question)) r.write
image-told write es i e q r is answer =
    ap (λ h. image write (asked h q)) (histories-event es i e is)
    ∙ ap (image write) (told (histories (take i es)) q e ∙ ap (said (histories (take i es))) (sym answer))
    ∙ image-last write (asked_if (histories (take i es)) r.question) r.write

-- the write of a number, where an event issues it, or as it was
abbrev pub issued_or : Option Issued → Write → Write
issued_or None old = old
issued_or (Some i) old = write_of i

issued-if : (b : Bool) (i : Issued) (old : Write) → cond b (write_of i) old ≡ issued_or (cond b (Some i) None) old
issued-if true i old = refl
issued-if false i old = refl

write-event : (h : Histories) (e : Event) (n : ℕ) → (after_event h e).write n ≡ issued_or (issue_in e n) (h.write n)
write-event h (Issue w v t offset len bytes) n = issued-if (nat_eq n w) (record { volume = v; track = t; offset = offset; len = len; bytes = bytes }) (h.write n)
write-event h _ n = refl

write-told : (es : List Event) (i n : ℕ) → i < length es → (histories (take (i + 1) es)).write n ≡ issued_or (issue_at (slice_get es i) n) ((histories (take i es)).write n)
write-told es i n lt =
    let at = some_event es i lt in
    ap (λ (h : Histories). h.write n) (histories-event es i at.0 at.1) ∙ write-event (histories (take i es)) at.0 n
    ∙ ap (λ o. issued_or (issue_at o n) ((histories (take i es)).write n)) (sym at.1)

-- the same as the place goes back
pub write-back : (es : List Event) (n i number : ℕ) → n ≡ i + 1 → i < length es → (o : Option Issued) → o ≡ issue_at (slice_get es i) number
    → (histories (take n es)).write number ≡ issued_or o ((histories (take i es)).write number)
write-back es n i number next lt o is =
    ap (λ k. (histories (take k es)).write number) next ∙ write-told es i number lt ∙ ap (λ p. issued_or p ((histories (take i es)).write number)) (sym is)

tracks-if : (b : Bool) (n : ℕ) (old : Option ℕ) → cond b (Some n) old ≡ option_or (cond b (Some n) None) old
tracks-if true n old = refl
tracks-if false n old = refl

tracks-event : (h : Histories) (e : Event) (v : ℕ) → (after_event h e).tracks v ≡ option_or (tracks_in e v) (h.tracks v)
tracks-event h (Volume x server n) v = tracks-if (nat_eq v x) n (h.tracks v)
tracks-event h _ v = refl

tracks-told : (es : List Event) (i v : ℕ) → i < length es → (histories (take (i + 1) es)).tracks v ≡ option_or (tracks_at (slice_get es i) v) ((histories (take i es)).tracks v)
tracks-told es i v lt =
    let at = some_event es i lt in
    ap (λ (h : Histories). h.tracks v) (histories-event es i at.0 at.1) ∙ tracks-event (histories (take i es)) at.0 v
    ∙ ap (λ o. option_or (tracks_at o v) ((histories (take i es)).tracks v)) (sym at.1)

pub tracks-back : (es : List Event) (n i v : ℕ) → n ≡ i + 1 → i < length es → (o : Option ℕ) → o ≡ tracks_at (slice_get es i) v
    → (histories (take n es)).tracks v ≡ option_or o ((histories (take i es)).tracks v)
tracks-back es n i v next lt o is =
    ap (λ k. (histories (take k es)).tracks v) next ∙ tracks-told es i v lt ∙ ap (λ p. option_or p ((histories (take i es)).tracks v)) (sym is)

-- before the first event
pub histories-none : (es : List Event) (i : ℕ) → i ≤ 0 → histories (take i es) ≡ no_history
unfolding histories
histories-none es i le = let e : i ≡ 0 = omega arith in ap (λ n. histories (take n es)) e

pub asked-none : (q : Option Question) → asked_if no_history q ≡ []
asked-none None = refl
asked-none (Some q) = elim q.aside as (λ a. cond {A = List ℕ} a [] [] ≡ []) [ true ↦ refl | false ↦ refl ]

pub image-none : (write : ℕ → Write) → image write [] ≡ zeros
unfolding image
image-none write = refl
