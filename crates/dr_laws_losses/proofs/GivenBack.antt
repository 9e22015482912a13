-- Where no step takes writes away from primaries once there are host writes, nothing is given back to one.
use Rattle.std.proofs.Common.{ℕ, ◌≡◌, ◌<◌, ◌+◌, ◌⊎◌, inl, inr, refl, ap, sym, ◌∙◌, subst, arith, append_assoc, Bool, true, false, ◌||◌, List, [], ◌∷◌, ◌++◌}
use Rattle.std.specs.List.{list_any}
use Rattle.std.proofs.lemmas.Bool.{or_parts, eq-eqb, eqb-true, false_from_ne_true}
use Rattle.std.proofs.lemmas.Bool.Decides.{eqb_tells}
use Rattle.std.proofs.lemmas.List.{append-nil, append_cancel_left}
use Rattle.std.proofs.lemmas.List.Folds.{list_any-append}
use Rattle.dr_logic.specs.Tables.{at, at2}
use Rattle.dr_logic.proofs.Lists.{cons-parts}
use Rattle.dr_logic.proofs.Tables.{at_other}
use Rattle.dr_facts.proofs.Tables.{at_cases, at2_cases}
use Rattle.dr_ids.specs.declared.names.Member.{Member}
use Rattle.dr_model.specs.declared.event.Event.{Event}
use Rattle.dr_model.specs.declared.event.Event.TheVariants.{Volume as VolumeDefined, Issue, Ack, Mirrored, Sent, Flashed, Reverted, Set, Back, Blanked, Cut}
use Rattle.dr_model.specs.Histories.{Lists, Write, Histories, joined, after_event, histories, lists}
use Rattle.dr_model.specs.HeldWrites.{IsMirrored, WasAcknowledged, Replaces}
use Rattle.dr_model.specs.TakenWrites.{takes_from}
use Rattle.dr_model.specs.Control.{World}
use Rattle.dr_model.specs.Groups.{In}
use Rattle.dr_model.specs.Runs.{Task, after_task, run}
use Rattle.dr_model.proofs.Images.{histories-push}
use Rattle.dr_facts.proofs.Emits.{AllOf}
use Rattle.dr_facts.proofs.Joined.{InFirst, InOther, place-in}
use Rattle.dr_facts.proofs.Lists.{in-first, in-second, in-joined}
use Rattle.dr_laws_targets.proofs.Held.{held-stored, acknowledged-kept, stays-or}
use Rattle.dr_laws_sound.proofs.Journal.{run-more}
use Rattle.dr_laws_recovery.proofs.Takes.{TakesFrom, at-place, Told}
use Rattle.dr_laws_recovery.proofs.TakesSteps.{MayTake}
use Rattle.dr_laws_recovery.proofs.KeepsWrites.{told-task, replaced-may}
use Rattle.dr_laws_recovery.proofs.TakenAt.{StepAt, step-at}
use Rattle.dr_laws_losses.specs.Pairs.{asks_write}
use Rattle.dr_laws_losses.specs.Losses.{PrimariesKeep, WasGivenBack}
use Rattle.dr_laws_losses.proofs.Alike.{NoIssue, issues_it}
use Rattle.dr_laws_losses.proofs.Early.{none-it, step-none, nothing-told}
use Rattle.dr_laws_losses.proofs.Tidy.{tidy-run}
use Rattle.dr_laws_losses.proofs.Numbers.{IsNumber, heard-run, heard-at}
use Rattle.dr_laws_losses.proofs.Broken.{IssuedAt, IsIssue, issued-at}
use Rattle.dr_laws_losses.proofs.Known.{Longer}

-- ---- a list that gains a write, and one that loses it

-- an event by which it does
record Turns (u v t : ℕ) (es more : List Event) (Is : List Event → Event → Type 0) : Type 0 where
  before : List Event
  event : Event
  after : List Event
  is : more ≡ before ++ event ∷ after
  so : Is (es ++ before) event

-- an acknowledgement of the write, on that track
record IsAcked (u v t : ℕ) (es : List Event) (e : Event) : Type 0 where
  is : e ≡ Ack u
  volume : ((histories es).write u).volume ≡ v
  track : ((histories es).write u).track ≡ t

abbrev Gains : ℕ → ℕ → ℕ → List Event → Event → Type 0
Gains u v t es e = Replaces (histories es).write v t e ⊎ IsAcked u v t es e

module _ (u v t : ℕ) where
  -- each event either leaves it so or is such
  module _ (So : List Event → Type 0) (Is : List Event → Event → Type 0) (stays : (es : List Event) (e : Event) → So es → So (es ++ e ∷ []) ⊎ Is es e) where
    along : (more es : List Event) → So es → So (es ++ more) ⊎ Turns u v t es more Is
    along [] es so = inl (subst So (sym (append-nil es)) so)
    along (e ∷ more) es so = elim (stays es e so) [
      | inl here ↦ elim (along more (es ++ e ∷ []) here) [
        | inl rest ↦ inl (subst So (append_assoc es (e ∷ []) more) rest)
        | inr turns ↦ inr (record { before = e ∷ turns.before; event = turns.event; after = turns.after; is = ap (λ es. e ∷ es) turns.is; so = subst (λ es. Is es turns.event) (append_assoc es (e ∷ []) turns.before) turns.so })
      ]
      | inr turns ↦ inr (record { before = []; event = e; after = more; is = refl; so = subst (λ es. Is es e) (sym (append-nil es)) turns })
    ]

  loses-by : (es : List Event) (e : Event) → In u (lists es v t) → In u (lists (es ++ e ∷ []) v t) ⊎ Replaces (histories es).write v t e
  loses-by es e here = elim (stays-or u (histories es) e v t here) [
    | inl stays ↦ inl (subst (λ (h : Histories). In u (h.now v t)) (sym (histories-push es e)) stays)
    | inr gone ↦ inr gone
  ]

  abbrev Lacks : List Event → Type 0
  Lacks es = In u (lists es v t) → ⊥

  -- what an event adds
  acked-adds : (h : Histories) (n : ℕ) → (In u (h.now v t) → ⊥) → In u ((after_event h (Ack n)).now v t) → (Ack n ≡ Ack u) × (((h.write u).volume ≡ v) × ((h.write u).track ≡ t))
  acked-adds h n lacks = at2_cases (λ x q ws. (In u (h.now x q) → ⊥) → In u ws → (Ack n ≡ Ack u) × (((h.write u).volume ≡ x) × ((h.write u).track ≡ q))) h.now (h.write n).volume (h.write n).track (joined h n)
      (λ lacks i. elim (in-joined (h.now (h.write n).volume (h.write n).track) (n ∷ []) u i) [
        | inl was ↦ absurd (lacks was)
        | inr last ↦ elim last [
          | inl is ↦ (ap Ack (sym is), (ap (λ k. (h.write k).volume) is, ap (λ k. (h.write k).track) is))
          | inr none ↦ absurd none
        ]
      ]) (λ x q ne lacks i. absurd (lacks i)) v t lacks

  volume-gains : (l : Lists) (x : ℕ) (new : ℕ → List ℕ) → (In u (l v t) → ⊥) → In u (at l x new v t) → v ≡ x
  volume-gains l x new = at_cases (λ v f. (In u (l v t) → ⊥) → In u (f t) → v ≡ x) l x new (λ lacks i. refl) (λ v ne lacks i. absurd (lacks i)) v

  track-gains : (l : Lists) (x q : ℕ) (new : List ℕ) → (In u (l v t) → ⊥) → In u (at2 l x q new v t) → (v ≡ x) × (t ≡ q)
  track-gains l x q new = at2_cases (λ v t ws. (In u (l v t) → ⊥) → In u ws → (v ≡ x) × (t ≡ q)) l x q new (λ lacks i. (refl, refl)) (λ v t ne lacks i. absurd (lacks i)) v t

  event-gains : (h : Histories) (e : Event) → (In u (h.now v t) → ⊥) → In u ((after_event h e).now v t) → Replaces h.write v t e ⊎ ((e ≡ Ack u) × (((h.write u).volume ≡ v) × ((h.write u).track ≡ t)))
  event-gains h (VolumeDefined x server tracks) lacks i = inl (volume-gains h.now x (λ t. []) lacks i)
  event-gains h (Ack n) lacks i = inr (acked-adds h n lacks i)
  event-gains h (Mirrored n x) lacks i = inl (track-gains h.now x (h.write n).track (joined h n) lacks i)
  event-gains h (Sent x q to) lacks i = inl (track-gains h.now to q (h.now x q) lacks i)
  event-gains h (Flashed s n a b c) lacks i = inl (volume-gains h.now c (h.now b) lacks i)
  event-gains h (Reverted s n a c) lacks i = inl (volume-gains h.now c (h.aside c) lacks i)
  event-gains h (Set x from) lacks i = inl (volume-gains h.now x (h.now from) lacks i)
  event-gains h (Back x q from) lacks i = inl (track-gains h.now x q (h.now from q) lacks i)
  event-gains h (Blanked x q) lacks i = inl (track-gains h.now x q [] lacks i)
  event-gains h e lacks i = absurd (lacks i)

-- ---- journals

-- a list has a number, or it hasn't
list_has : (n : ℕ) (ns : List ℕ) → In n ns ⊎ (In n ns → ⊥)
list_has n [] = inr (λ h. h)
list_has n (m ∷ ns) = elim (eqb_tells n m) [
  | inl is ↦ inl (inl is.1)
  | inr ne ↦ elim (list_has n ns) [
    | inl later ↦ inl (inr later)
    | inr not ↦ inr (λ h. elim h [ inl is ↦ ne.1 is | inr later ↦ not later ])
  ]
]

-- of two fronts of a list one is a front of the other
fronts : (es fs x y : List Event) → es ++ x ≡ fs ++ y → Longer es fs ⊎ Longer fs es
fronts [] fs x y is = inl (record { more = fs; is = refl })
fronts (e ∷ es) [] x y is = inr (record { more = e ∷ es; is = refl })
fronts (e ∷ es) (f ∷ fs) x y is = by (cons-parts is).0 (fronts es fs x y (cons-parts is).1)
  where
    by : e ≡ f → Longer es fs ⊎ Longer fs es → Longer (e ∷ es) (f ∷ fs) ⊎ Longer (f ∷ fs) (e ∷ es)
    by same (inl l) = inl (record { more = l.more; is = λ i. sym same i ∷ l.is i })
    by same (inr l) = inr (record { more = l.more; is = λ i. same i ∷ l.is i })

-- where an event is
record Found (es : List Event) (e : Event) : Type 0 where
  before : List Event
  after : List Event
  is : es ≡ before ++ e ∷ after

found-in : (es : List Event) (e : Event) → In e es → Found es e
found-in [] e h = absurd h
found-in (x ∷ es) e (inl same) = record { before = []; after = es; is = ap (λ x. x ∷ es) (sym same) }
found-in (x ∷ es) e (inr later) = let f : Found es e = found-in es e later in record { before = x ∷ f.before; after = f.after; is = ap (λ es. x ∷ es) f.is }

record IssueIn (u : ℕ) (es : List Event) : Type 0 where
  before : List Event
  event : Event
  after : List Event
  is : es ≡ before ++ event ∷ after
  issue : IsIssue u event

is-it : (u : ℕ) (e : Event) → issues_it u e ≡ true → IsIssue u e
is-it u (Issue n v t offset len bytes) is = (v, t, offset, len, bytes, ap (λ n. Issue n v t offset len bytes) (sym (eqb-true u n is)))
is-it u e is = absurd cc

issue-in : (u : ℕ) (es : List Event) → list_any (issues_it u) es ≡ true → IssueIn u es
issue-in u [] is = absurd cc
issue-in u (e ∷ es) is = by (issues_it u e) refl is (issue-in u es)
  where
    by : (b : Bool) → issues_it u e ≡ b → (b || list_any (issues_it u) es) ≡ true → (list_any (issues_it u) es ≡ true → IssueIn u es) → IssueIn u (e ∷ es)
    by true it any later = record { before = []; event = e; after = es; is = refl; issue = is-it u e it }
    by false it any later = let i : IssueIn u es = later any in record { before = e ∷ i.before; event = i.event; after = i.after; is = ap (λ es. e ∷ es) i.is; issue = i.issue }

-- a write that isn't issued again stays on its track
write-event : (u : ℕ) (h : Histories) (e : Event) → issues_it u e ≡ false → (after_event h e).write u ≡ h.write u
write-event u h (Issue n v t offset len bytes) not = at_other h.write n _ u (λ is. absurd (let it : true ≡ false = sym (eq-eqb u n is) ∙ not in cc))
write-event u h e not = refl

write-stays : (u : ℕ) (more es : List Event) → list_any (issues_it u) more ≡ false → (histories (es ++ more)).write u ≡ (histories es).write u
write-stays u [] es none = ap (λ es. (histories es).write u) (append-nil es)
write-stays u (e ∷ more) es none =
    let both = or_parts (issues_it u e) (list_any (issues_it u) more) none in
    ap (λ es. (histories es).write u) (sym (append_assoc es (e ∷ []) more)) ∙ (write-stays u more (es ++ e ∷ []) both.1
    ∙ (ap (λ (h : Histories). h.write u) (histories-push es e) ∙ write-event u (histories es) e both.0))

-- ---- runs

-- the journal speaks of write u
abbrev SpeaksOf : ℕ → List Event → Type 0
SpeaksOf u es = In (Ack u) es ⊎ IsMirrored es u

speaks-more : (u : ℕ) (es more : List Event) → SpeaksOf u es → SpeaksOf u (es ++ more)
speaks-more u es more (inl acked) = inl (in-first es more (Ack u) acked)
speaks-more u es more (inr m) = inr (record { secondary = m.secondary; told = in-first es more (Mirrored u m.secondary) m.told })

speaks-number : (tasks : List Task) (u : ℕ) → SpeaksOf u (run tasks).events → IsNumber (run tasks).control.issued u
speaks-number tasks u (inl acked) = heard-at (run tasks).control.issued (run tasks).events (heard-run tasks) (Ack u) acked
speaks-number tasks u (inr m) = heard-at (run tasks).control.issued (run tasks).events (heard-run tasks) (Mirrored u m.secondary) m.told

-- so a write was issued
spoken-issued : {P : Type 0} (tasks : List Task) (u : ℕ) → SpeaksOf u (run tasks).events → NoIssue (run tasks).events → P
spoken-issued tasks u speaks none =
    let n : IsNumber (run tasks).control.issued u = speaks-number tasks u speaks in
    absurd (let e : true ≡ false = sym ((tidy-run tasks).issued u n.0 n.1) ∙ none-it u (run tasks).events none in cc)

quiet-run : (todo done : List Task) → NoIssue (run done).events → list_any (λ (t : Task). asks_write t.asked) todo ≡ false → NoIssue (run (done ++ todo)).events
quiet-run [] done none other = subst (λ ts. NoIssue (run ts).events) (sym (append-nil done)) none
quiet-run (t ∷ todo) done none other =
    let both = or_parts (asks_write t.asked) _ other in
    subst (λ ts. NoIssue (run ts).events) (append_assoc done (t ∷ []) todo)
    (quiet-run todo (done ++ t ∷ []) (subst (λ (w : World). NoIssue w.events) (sym (run-more done t)) (step-none (run done) t none both.0)) both.1)

module _ (tasks : List Task) (ms : List Member) (keep : PrimariesKeep tasks ms) (m : Member) (of : In m ms) where
  abbrev a : ℕ
  a = m.a.0

  -- once a write was spoken of, no list of the primary is replaced
  no-replace : (before : List Event) (e : Event) (after : List Event) → (run tasks).events ≡ before ++ e ∷ after → (u t : ℕ) → SpeaksOf u before → Replaces (histories before).write a t e → ⊥
  no-replace before e after is u t speaks replaces = by (place-in keep.early keep.late s.first s.step s.rest (sym keep.cut ∙ s.is))
    where
      s : StepAt tasks before e
      s = step-at tasks before e after is

      early : InFirst keep.early s.first s.step → ⊥
      early p =
          let xs : List Task = s.first ++ s.step ∷ [] in
          let all : list_any (λ (t : Task). asks_write t.asked) (xs ++ p.behind) ≡ false = ap (list_any (λ (t : Task). asks_write t.asked)) (append_assoc s.first (s.step ∷ []) p.behind ∙ sym p.is) ∙ keep.unwritten in
          let none : NoIssue (run xs).events = quiet-run xs [] nothing-told (or_parts _ _ (sym (list_any-append (λ (t : Task). asks_write t.asked) xs p.behind) ∙ all)).0 in
          let leads : (run xs).events ≡ before ++ e ∷ s.later = ap (λ (w : World). w.events) (run-more s.first s.step) ∙ s.ended in
          spoken-issued xs u (subst (SpeaksOf u) (sym leads) (speaks-more u before (e ∷ s.later) speaks)) none

      late : InOther keep.early keep.late s.first s.step s.rest → ⊥
      late p =
          let w : World = run s.first in
          let told : Told (MayTake w.control s.step.asked) w.events (after_task w s.step).events = told-task w s.step in
          let more : told.more ≡ s.since ++ e ∷ s.later = append_cancel_left w.events told.more (s.since ++ e ∷ s.later) (sym told.is ∙ s.ended ∙ ap (λ es. es ++ e ∷ s.later) s.begun ∙ append_assoc w.events s.since (e ∷ s.later)) in
          let takes : takes_from w.control s.step.asked a ≡ true =
          replaced-may (MayTake w.control s.step.asked) (histories before).write a t e replaces
          (at-place (TakesFrom (MayTake w.control s.step.asked)) s.since e s.later (subst (AllOf (TakesFrom (MayTake w.control s.step.asked))) more told.each)) in
          let keeps : takes_from w.control s.step.asked a ≡ false = subst (λ ts. takes_from (run ts).control s.step.asked a ≡ false) (sym p.first) (keep.keep p.middle s.rest s.step m p.other of) in
          absurd (let no : true ≡ false = sym takes ∙ keeps in cc)

      by : InFirst keep.early s.first s.step ⊎ InOther keep.early keep.late s.first s.step s.rest → ⊥
      by (inl p) = early p
      by (inr p) = late p

  -- no write is acknowledged on another track than at first
  module _ (u t : ℕ) (es : List Event) (acked : In (Ack u) es) (more : List Event) (rest : List Event) (leads : (run tasks).events ≡ es ++ more ++ rest) where
    f : Found es (Ack u)
    f = found-in es (Ack u) acked

    abbrev since : List Event
    since = Ack u ∷ (f.after ++ more)

    joined-is : es ++ more ≡ f.before ++ since
    joined-is = ap (λ es. es ++ more) f.is ∙ append_assoc f.before (Ack u ∷ f.after) more

    not-again : IssueIn u since → ⊥
    not-again i = by i.before i.is
      where
        by : (before : List Event) → since ≡ before ++ i.event ∷ i.after → ⊥
        by [] is = let e : Ack u ≡ i.event = (cons-parts is).0 in let it : i.event ≡ Issue u _ _ _ _ _ = i.issue.5 in cc
        by (x ∷ before) is =
            let whole : (run tasks).events ≡ (f.before ++ x ∷ before) ++ i.event ∷ (i.after ++ rest) =
            leads ∙ ap (λ es. es ++ rest) (joined-is ∙ ap (λ es. f.before ++ es) is ∙ sym (append_assoc f.before (x ∷ before) (i.event ∷ i.after))) ∙ append_assoc (f.before ++ x ∷ before) (i.event ∷ i.after) rest in
            let at : IssuedAt (f.before ++ x ∷ before) u = issued-at tasks (f.before ++ x ∷ before) (i.after ++ rest) i.event u i.issue whole in
            let here : In (Ack u) (f.before ++ x ∷ before) = in-second f.before (x ∷ before) (Ack u) (inl (cons-parts is).0) in
            let low : IsNumber (run at.first).control.issued u = speaks-number at.first u (inl (subst (In (Ack u)) at.is here)) in
            let lt : u < (run at.first).control.issued + 1 = low.1 in
            let number : u ≡ (run at.first).control.issued + 1 = at.number in
            omega (arith, lt, number)

    none-again : list_any (issues_it u) since ≡ false
    none-again = false_from_ne_true _ (λ it. not-again (issue-in u since it))

    write-is : (histories (es ++ more)).write u ≡ (histories f.before).write u
    write-is = ap (λ es. (histories es).write u) joined-is ∙ write-stays u since f.before none-again

    -- so where it is acknowledged again, it was acknowledged there
    acked-there : IsAcked u a t (es ++ more) (Ack u) → WasAcknowledged es u a t
    acked-there k = record { before = f.before; behind = f.after; is = f.is; volume = sym (ap (λ (w : Write). w.volume) write-is) ∙ k.volume; track = sym (ap (λ (w : Write). w.track) write-is) ∙ k.track }

  -- ---- nothing is given back

  module _ (u t : ℕ) (es : List Event) (acked : In (Ack u) es) (lacks : In u (lists es a t) → ⊥) where
    -- a list that gains the write
    gains-none : (more rest : List Event) → (run tasks).events ≡ es ++ more ++ rest → In u (lists (es ++ more) a t) → ⊥
    gains-none more rest leads here = elim (along u a t (Lacks u a t) (Gains u a t) each more es lacks) [
      | inl none ↦ none here
      | inr turns ↦ by turns turns.so
    ]
      where
        each : (es : List Event) (e : Event) → Lacks u a t es → Lacks u a t (es ++ e ∷ []) ⊎ Gains u a t es e
        each es e none = dec (list_has u (lists (es ++ e ∷ []) a t))
          where
            dec : (In u (lists (es ++ e ∷ []) a t)) ⊎ (In u (lists (es ++ e ∷ []) a t) → ⊥) → Lacks u a t (es ++ e ∷ []) ⊎ Gains u a t es e
            dec (inr not) = inl not
            dec (inl i) = elim (event-gains u a t (histories es) e none (subst (λ (h : Histories). In u (h.now a t)) (histories-push es e) i)) [
              | inl replaces ↦ inr (inl replaces)
              | inr k ↦ inr (inr (record { is = k.0; volume = k.1.0; track = k.1.1 }))
            ]

        by : (turns : Turns u a t es more (Gains u a t)) → Gains u a t (es ++ turns.before) turns.event → ⊥
        by turns (inl replaces) =
            no-replace (es ++ turns.before) turns.event (turns.after ++ rest)
            (leads ∙ ap (λ m. es ++ m ++ rest) turns.is ∙ ap (λ es. es ++ rest) (sym (append_assoc es turns.before (turns.event ∷ turns.after))) ∙ append_assoc (es ++ turns.before) (turns.event ∷ turns.after) rest)
            u t (speaks-more u es turns.before (inl acked)) replaces
        by turns (inr k) =
            let before_leads : (run tasks).events ≡ es ++ turns.before ++ (turns.event ∷ (turns.after ++ rest)) =
            leads ∙ ap (λ m. es ++ m ++ rest) turns.is ∙ ap (λ es. es ++ rest) (sym (append_assoc es turns.before (turns.event ∷ turns.after))) ∙ append_assoc (es ++ turns.before) (turns.event ∷ turns.after) rest in
            let there : WasAcknowledged es u a t = acked-there u t es acked turns.before (turns.event ∷ (turns.after ++ rest)) before_leads (record { is = refl; volume = k.volume; track = k.track }) in
            elim (acknowledged-kept es u a t there) [
              | inl in_list ↦ lacks in_list
              | inr r ↦ no-replace r.before r.event (r.behind ++ (more ++ rest)) (leads ∙ append_assoc es more rest
                  ∙ ap (λ es. es ++ (more ++ rest)) r.is ∙ append_assoc r.before (r.event ∷ r.behind) (more ++ rest)) u t (inl r.acknowledged) r.replaces
            ]

  -- one that loses it
  loses-none : (u t : ℕ) (es more rest : List Event) → (run tasks).events ≡ es ++ more ++ rest → In u (lists es a t) → (In u (lists (es ++ more) a t) → ⊥) → ⊥
  loses-none u t es more rest leads here gone = elim (along u a t (λ es. In u (lists es a t)) (λ es e. Replaces (histories es).write a t e) (loses-by u a t) more es here) [
    | inl stays ↦ gone stays
    | inr turns ↦ no-replace (es ++ turns.before) turns.event (turns.after ++ rest)
        (leads ∙ ap (λ m. es ++ m ++ rest) turns.is ∙ ap (λ es. es ++ rest) (sym (append_assoc es turns.before (turns.event ∷ turns.after))) ∙ append_assoc (es ++ turns.before) (turns.event ∷ turns.after) rest)
        u t (speaks-more u es turns.before (held-stored es u a t here)) turns.so
  ]

-- where primaries keep their writes, nothing is given back to one
pub none-given : (tasks : List Task) (ms : List Member) (begun : List Event) (s n u : ℕ) → PrimariesKeep tasks ms → Longer begun (run tasks).events → WasGivenBack ms begun (run tasks).events s n u → ⊥
none-given tasks ms begun s n u keep l g = by (fronts g.last.place.before begun (Cut s n g.last.volume ∷ g.last.place.behind) l.more (sym g.last.place.is ∙ l.is))
  where
    rest-of : (xs ys zs more : List Event) → zs ≡ xs ++ more → (run tasks).events ≡ zs ++ ys → (run tasks).events ≡ xs ++ more ++ ys
    rest-of xs ys zs more is leads = leads ∙ ap (λ zs. zs ++ ys) is

    by : Longer g.last.place.before begun ⊎ Longer begun g.last.place.before → ⊥
    by (inl later) =
        gains-none tasks ms keep g.member g.here u g.track g.last.place.before g.acknowledged g.lacked later.more l.more (rest-of g.last.place.before l.more begun later.more later.is l.is)
        (subst (λ es. In u (lists es g.member.a.0 g.track)) later.is g.held)
    by (inr earlier) =
        loses-none tasks ms keep g.member g.here u g.track begun earlier.more (Cut s n g.last.volume ∷ g.last.place.behind)
        (rest-of begun (Cut s n g.last.volume ∷ g.last.place.behind) g.last.place.before earlier.more earlier.is g.last.place.is)
        g.held (λ h. g.lacked (subst (λ es. In u (lists es g.member.a.0 g.track)) (sym earlier.is) h))
