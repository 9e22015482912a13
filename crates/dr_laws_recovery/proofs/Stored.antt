-- A write that a secondary of Metro Mirror stored is acknowledged in its step, or a server stops in it; and no volume is cut in such a step.
use Rattle.std.proofs.Common.{ℕ, ◌≡◌, ◌⊎◌, inl, inr, refl, ap, sym, ◌∙◌, subst, append_assoc, Bool, true, false, ◌||◌, List, [], ◌∷◌, ◌++◌}
use Rattle.std.specs.List.{list_any}
use Rattle.std.proofs.lemmas.Grind.{flat_map-append}
use Rattle.std.proofs.lemmas.Bool.{or_parts}
use Rattle.std.proofs.lemmas.List.{append_cancel_left, same_from_push}
use Rattle.std.proofs.lemmas.List.Folds.{list_any-append}
use Rattle.dr_laws_sound.proofs.Journal.{EndsAnswered, after_task-ends}
use Rattle.dr_model.specs.declared.event.Event.{Event}
use Rattle.dr_model.specs.declared.event.Event.TheVariants.{Ack, Mirrored, Stopped, Cut}
use Rattle.dr_model.specs.Answers.{answer}
use Rattle.dr_model.specs.Control.{World, nothing}
use Rattle.dr_model.specs.Groups.{In}
use Rattle.dr_model.specs.HeldWrites.{is_answer, IsStored}
use Rattle.dr_model.specs.Runs.{Task, after_task, after_tasks, run}
use Rattle.dr_facts.proofs.Lists.{in-first, in-second, in-joined}
use Rattle.dr_laws_sound.specs.Acknowledged.{said_in}
use Rattle.dr_laws_sound.proofs.Unacknowledged.{mirror, mirrors, is_cut, cuts_any, HasStop}
use Rattle.dr_laws_sound.proofs.Acknowledged.{MirrorsOne, StepWay, StepTold, told-task}
use Rattle.dr_laws_recovery.specs.Stored.{MirroredIsStored, StoredAtCuts}
use Rattle.dr_logic.proofs.Truth.{false_true}

-- ---- lists of events

-- what was stored stays so
stored-longer : (es more : List Event) (u : ℕ) → IsStored es u → IsStored (es ++ more) u
stored-longer es more u (inl told) = inl (in-first es more (Ack u) told)
stored-longer es more u (inr p) = inr (record {
  before = p.before;
  between = p.between;
  behind = p.behind ++ more;
  secondary = p.secondary;
  server = p.server;
  landed = p.landed;
  is = ap (λ j. j ++ more) p.is ∙ append_assoc p.before (Mirrored u p.secondary ∷ (p.between ++ Stopped p.server p.landed ∷ p.behind)) more
      ∙ ap (λ j. p.before ++ Mirrored u p.secondary ∷ j) (append_assoc p.between (Stopped p.server p.landed ∷ p.behind) more);
  unanswered = p.unanswered;
})

-- where an event is, and what comes before it
record Found (e : Event) (es : List Event) : Type 0 where
  before : List Event
  behind : List Event
  is : es ≡ before ++ e ∷ behind

found-in : (e : Event) (es : List Event) → In e es → Found e es
found-in e [] h = absurd h
found-in e (x ∷ es) (inl is) = record { before = []; behind = es; is = ap (λ x. x ∷ es) (sym is) }
found-in e (x ∷ es) (inr more) = let f = found-in e es more in record { before = x ∷ f.before; behind = f.behind; is = ap (λ es. x ∷ es) f.is }

-- no answer is in a part of what has none
unanswered-first : (a b : List Event) → list_any is_answer (a ++ b) ≡ false → list_any is_answer a ≡ false
unanswered-first a b h = (or_parts (list_any is_answer a) (list_any is_answer b) (sym (list_any-append is_answer a b) ∙ h)).0

unanswered-last : (a b : List Event) → list_any is_answer (a ++ b) ≡ false → list_any is_answer b ≡ false
unanswered-last a b h = (or_parts (list_any is_answer a) (list_any is_answer b) (sym (list_any-append is_answer a b) ∙ h)).1

-- a write that is mirrored is one of those
to-mirrors : (es : List Event) (u x : ℕ) → In (Mirrored u x) es → In u (mirrors es)
to-mirrors [] u x h = absurd h
to-mirrors (e ∷ es) u x (inl is) = in-first (mirror e) (mirrors es) u (subst (λ e. In u (mirror e)) is (inl refl))
to-mirrors (e ∷ es) u x (inr more) = in-second (mirror e) (mirrors es) u (to-mirrors es u x more)

none-mirrored : {P : Type 0} (es : List Event) (u x : ℕ) → mirrors es ≡ [] → In (Mirrored u x) es → P
none-mirrored es u x none h = absurd (subst (In u) none (to-mirrors es u x h))

nil-first : (xs ys : List ℕ) → xs ++ ys ≡ [] → xs ≡ []
nil-first [] ys h = refl
nil-first (x ∷ xs) ys h = absurd cc

none-first : (a b : List Event) → mirrors (a ++ b) ≡ [] → mirrors a ≡ []
none-first a b h = nil-first (mirrors a) (mirrors b) (sym (flat_map-append mirror a b) ∙ h)

cut-told : (before behind : List Event) (s n v : ℕ) → cuts_any (before ++ Cut s n v ∷ behind) ≡ true
cut-told [] behind s n v = refl
cut-told (e ∷ es) behind s n v = ap (λ b. is_cut e || b) (cut-told es behind s n v) ∙ by (is_cut e)
  where
    by : (b : Bool) → (b || true) ≡ true
    by true = refl
    by false = refl

-- a place of a journal in two parts is in the first or in the second
pub record InFirst (es : List Event) (e : Event) (before : List Event) : Type 0 where
  pub behind : List Event
  pub is : es ≡ before ++ e ∷ behind

pub record InSecond (es fs : List Event) (e : Event) (before : List Event) : Type 0 where
  pub front : List Event
  pub behind : List Event
  pub is : fs ≡ front ++ e ∷ behind
  pub whole : before ≡ es ++ front

pub places : (es fs : List Event) (e : Event) (before behind : List Event) → es ++ fs ≡ before ++ e ∷ behind → InFirst es e before ⊎ InSecond es fs e before
places [] fs e before behind is = inr (record { front = before; behind = behind; is = is; whole = refl })
places (x ∷ es) fs e [] behind is = inl (record { behind = es; is = let head : x ≡ e = cc in ap (λ x. x ∷ es) head })
places (x ∷ es) fs e (y ∷ before) behind is =
    let head : x ≡ y = cc in
    let rest : es ++ fs ≡ before ++ e ∷ behind = cc in
    by head (places es fs e before behind rest)
  where
    by : x ≡ y → InFirst es e before ⊎ InSecond es fs e before → InFirst (x ∷ es) e (y ∷ before) ⊎ InSecond (x ∷ es) fs e (y ∷ before)
    by head (inl a) = inl (record { behind = a.behind; is = (λ i. head i ∷ a.is i) })
    by head (inr a) = inr (record { front = a.front; behind = a.behind; is = a.is; whole = (λ i. sym head i ∷ a.whole i) })

-- ---- one step more

module _ (es : List Event) (k : StoredAtCuts es) (told : List Event) (way : StepWay told) (silent : MirrorsOne told → list_any is_answer told ≡ false) where
  -- a front of what a step told, in which nothing was mirrored
  plain-front : (front : List Event) → mirrors front ≡ [] → MirroredIsStored (es ++ front)
  plain-front front none u x h = elim (in-joined es front (Mirrored u x) h) [
    | inl was ↦ stored-longer es front u (k.now u x was)
    | inr new ↦ none-mirrored front u x none new
  ]

  -- the one write that was
  of-one : (m : MirrorsOne told) (u x : ℕ) → In (Mirrored u x) told → u ≡ m.write
  of-one m u x h = by (in-joined m.before (Mirrored m.write m.secondary ∷ m.behind) (Mirrored u x) (subst (In (Mirrored u x)) m.is h))
    where
      same : Mirrored u x ≡ Mirrored m.write m.secondary → u ≡ m.write
      same e = cc

      by : In (Mirrored u x) m.before ⊎ In (Mirrored u x) (Mirrored m.write m.secondary ∷ m.behind) → u ≡ m.write
      by (inl first) = none-mirrored m.before u x m.first first
      by (inr (inl is)) = same is
      by (inr (inr rest)) = none-mirrored m.behind u x m.rest rest

  one-stored : (m : MirrorsOne told) → IsStored (es ++ told) m.write
  one-stored m = by m.closed
    where
      by : In (Ack m.write) m.behind ⊎ HasStop m.behind → IsStored (es ++ told) m.write
      by (inl acked) = inl (in-second es told (Ack m.write) (subst (In (Ack m.write)) (sym m.is) (in-second m.before (Mirrored m.write m.secondary ∷ m.behind) (Ack m.write) (inr acked))))
      by (inr s) =
          let f = found-in (Stopped s.server s.landed) m.behind s.here in
          inr (record {
            before = es ++ m.before;
            between = f.before;
            behind = f.behind;
            secondary = m.secondary;
            server = s.server;
            landed = s.landed;
            is = ap (λ fs. es ++ fs) (m.is ∙ ap (λ fs. m.before ++ Mirrored m.write m.secondary ∷ fs) f.is) ∙ sym (append_assoc es m.before (Mirrored m.write m.secondary ∷ (f.before ++ Stopped s.server s.landed ∷ f.behind)));
            unanswered = unanswered-first f.before (Stopped s.server s.landed ∷ f.behind)
                (ap (list_any is_answer) (sym f.is) ∙ unanswered-last (Mirrored m.write m.secondary ∷ []) m.behind (unanswered-last m.before (Mirrored m.write m.secondary ∷ m.behind) (ap (list_any is_answer) (sym m.is) ∙ silent m)));
          })

  step-now : MirroredIsStored (es ++ told)
  step-now = by way
    where
      by : StepWay told → MirroredIsStored (es ++ told)
      by (inl none) = plain-front told none
      by (inr m) = λ u x h. elim (in-joined es told (Mirrored u x) h) [
        | inl was ↦ stored-longer es told u (k.now u x was)
        | inr new ↦ subst (IsStored (es ++ told)) (sym (of-one m.1 u x new)) (one-stored m.1)
      ]

  -- nothing was mirrored before a cut
  front-plain : (front behind : List Event) (s n v : ℕ) → told ≡ front ++ Cut s n v ∷ behind → StepWay told → mirrors front ≡ []
  front-plain front behind s n v is (inl none) = none-first front (Cut s n v ∷ behind) (sym (ap mirrors is) ∙ none)
  front-plain front behind s n v is (inr m) = false_true (sym (ap cuts_any is) ∙ m.0) (cut-told front behind s n v)

  step-stored : StoredAtCuts (es ++ told)
  step-stored = record {
    now = step-now;
    cut = λ before behind s n v is. elim (places es told (Cut s n v) before behind is) [
      | inl a ↦ k.cut before a.behind s n v a.is
      | inr a ↦ subst MirroredIsStored (sym a.whole) (plain-front a.front (front-plain a.front a.behind s n v a.is way))
    ];
  }

-- what a step tells before its answer has none
told-unanswered : (w : World) (t : Task) (told : List Event) → (after_task w t).events ≡ (w.events ++ told) ++ answer t.line (said_in w t) ∷ [] → list_any is_answer told ≡ false
told-unanswered w t told is =
    let e : EndsAnswered w t.line (after_task w t) = after_task-ends w t in
    let both : w.events ++ e.before ≡ w.events ++ told = (same_from_push (w.events ++ e.before) (w.events ++ told) (answer t.line e.says) (answer t.line (said_in w t)) (sym e.events ∙ is)).0 in
    subst (λ es. list_any is_answer es ≡ false) (append_cancel_left w.events e.before told both) e.silent

stored-task : (w : World) (t : Task) → StoredAtCuts w.events → StoredAtCuts (after_task w t).events
stored-task w t k =
    let s : StepTold w t = told-task w t in
    let last : Event = answer t.line (said_in w t) in
    let told : StoredAtCuts (w.events ++ s.answers.told) = step-stored w.events k s.answers.told s.way (λ m. told-unanswered w t s.answers.told s.answers.events) in
    subst StoredAtCuts (sym s.answers.events) (step-stored (w.events ++ s.answers.told) told (last ∷ []) (inl refl)
    (λ m. none-mirrored (last ∷ []) m.write m.secondary refl (subst (In (Mirrored m.write m.secondary)) (sym m.is) (in-second m.before (Mirrored m.write m.secondary ∷ m.behind) (Mirrored m.write m.secondary) (inl refl)))))

stored-tasks : (w : World) (tasks : List Task) → StoredAtCuts w.events → StoredAtCuts (after_tasks w tasks).events
unfolding after_tasks
stored-tasks w [] k = k
stored-tasks w (t ∷ tasks) k = stored-tasks (after_task w t) tasks (stored-task w t k)

none-before : (e : Event) (before behind : List Event) → [] ≡ before ++ e ∷ behind → MirroredIsStored before
none-before e [] behind is u x h = absurd h
none-before e (y ∷ before) behind is u x h = absurd cc

pub stored-run : (tasks : List Task) → StoredAtCuts (run tasks).events
stored-run tasks = stored-tasks nothing tasks (record { now = λ u x h. absurd h; cut = λ before behind s n v is. none-before (Cut s n v) before behind is })
