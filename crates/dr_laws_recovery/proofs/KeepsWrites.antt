-- Each step keeps the writes of volumes' lists, but for those of volumes from which it may take; and where a list lost a write, there is
-- the step that took it.
use Rattle.std.proofs.Common.{refl, ℕ, ◌≡◌, ◌⊎◌, inl, inr, sym, subst, append_assoc, Bool, true, false, cond, List, [], ◌∷◌, ◌++◌, Result, Ok}
use Rattle.std.proofs.lemmas.List.{append-nil}
use Rattle.dr_model.specs.declared.event.Event.{Event}
use Rattle.dr_model.specs.declared.event.Event.TheVariants.{Volume as VolumeDefined, Mirrored, Sent, Flashed, Reverted, Set, Back, Blanked}
use Rattle.dr_model.specs.declared.said.Said.{Said}
use Rattle.dr_model.specs.declared.step.Step.{Step}
use Rattle.dr_model.specs.declared.step.Step.TheVariants.{Run, Compare, Image}
use Rattle.dr_ids.specs.declared.refusal.Refusal.TheVariants.{JournalFull}
use Rattle.dr_model.specs.Groups.{In}
use Rattle.dr_model.specs.Answers.{answer}
use Rattle.dr_model.specs.Histories.{Write, Histories, histories, lists}
use Rattle.dr_model.specs.HeldWrites.{Replaces}
use Rattle.dr_model.specs.Control.{World}
use Rattle.dr_model.specs.Limits.{image_events}
use Rattle.dr_model.specs.Plans.{Plan, only_says, refuses, has_room_for}
use Rattle.dr_model.specs.Forming.{Way, formed, form_said}
use Rattle.dr_model.specs.Carried.{carried_out, answered, after_plan}
use Rattle.dr_model.specs.Runs.{Task, own_course, course_of, answered_part, after_task, run, compared, image_plan}
use Rattle.dr_model.specs.TakenWrites.{takes_from, StepKeeps, KeepsWrites}
use Rattle.dr_model.proofs.Images.{histories-push}
use Rattle.dr_laws_targets.proofs.Held.{stays-or}
use Rattle.dr_facts.proofs.Emits.{AllOf}
use Rattle.dr_laws_sound.proofs.Cases.{Case, Says, plan-case, refused-not}
use Rattle.dr_laws_sound.proofs.Parts.{compared-case}
use Rattle.dr_laws_recovery.proofs.Takes.{TakesFrom, Told, told-more, told-on}
use Rattle.dr_laws_recovery.proofs.TakesSteps.{MayTake, Tells, case-told, telling-told, image-told}
use Rattle.dr_laws_recovery.proofs.TakesRuns.{run-told}

-- ---- what a step tells

module _ (w : World) (Q : ℕ → Type 0) (line : ℕ) where
  -- a plan that is answered
  plan-told : (p : Plan) → Tells w Q p → Told Q w.events (after_plan w line p).events
  unfolding after_plan
  plan-told p t = let u : World = (carried_out w p).0 in told-more Q w.events u.events (answer line (answered p u.control (carried_out w p).1) ∷ []) t (tt, tt)

pub told-task : (w : World) (t : Task) → Told (MayTake w.control t.asked) w.events (after_task w t).events
told-task w t = by t.asked
  where
    of : (asked : Result Step ℕ) (p : Plan) → Case w.control w.events t.line asked p → Told (MayTake w.control asked) w.events (after_plan w t.line p).events
    of asked p c = plan-told w (MayTake w.control asked) t.line p (case-told w (MayTake w.control asked) t.line asked p c (λ v may. may))

    imaging : (room : Bool) → Told (MayTake w.control (Ok Image)) w.events (after_plan w t.line (cond room (image_plan t.listed) (refuses JournalFull))).events
    imaging true = let Q : ℕ → Type 0 = MayTake w.control (Ok Image) in plan-told w Q t.line (image_plan t.listed) (image-told w Q t.listed)
    imaging false = of (Ok Image) (refuses JournalFull) (Says _ (refused-not JournalFull) (λ one. refl))

    by : (asked : Result Step ℕ) → Told (MayTake w.control asked) w.events (answered_part t.line (course_of w (record { line = t.line; asked = asked; listed = t.listed }) (own_course asked)).last).events
    by (Ok (Run s n)) =
        let x : Way = formed w s n in
        let a : Said = form_said s x.world.control x.refusal in
        let Q : ℕ → Type 0 = MayTake w.control (Ok (Run s n)) in
        told-on Q w.events x.world.events _ (run-told w s n) (plan-told x.world Q t.line (only_says a) (telling-told x.world Q [] (only_says a).says tt))
    by (Ok (Compare v u)) = of (Ok (Compare v u)) (compared w v u) (compared-case w t.line (Ok (Compare v u)) v u)
    by (Ok Image) = imaging (has_room_for image_events w.events)
    by asked = of asked _ (plan-case w.control w.events t.line asked)

-- ---- what lists keep over such events

module _ (Q : ℕ → Type 0) where
  -- who has a list replaced is one that it may be taken from
  pub replaced-may : (write : ℕ → Write) (v q : ℕ) (e : Event) → Replaces write v q e → TakesFrom Q e → Q v
  replaced-may write v q (VolumeDefined x server tracks) is may = subst Q (sym is) may
  replaced-may write v q (Mirrored n x) is may = subst Q (sym is.0) may
  replaced-may write v q (Sent x p to) is may = subst Q (sym is.0) may
  replaced-may write v q (Flashed s n a b c) is may = subst Q (sym is) may
  replaced-may write v q (Reverted s n a c) is may = subst Q (sym is) may
  replaced-may write v q (Set x from) is may = subst Q (sym is) may
  replaced-may write v q (Back x p from) is may = subst Q (sym is.0) may
  replaced-may write v q (Blanked x p) is may = subst Q (sym is.0) may
  replaced-may write v q e is may = absurd is

  module _ (u v q : ℕ) where
    kept-event : (es : List Event) (e : Event) → In u (lists es v q) → TakesFrom Q e → In u (lists (es ++ e ∷ []) v q) ⊎ Q v
    kept-event es e i may = elim (stays-or u (histories es) e v q i) [
      | inl stays ↦ inl (subst (λ (h : Histories). In u (h.now v q)) (sym (histories-push es e)) stays)
      | inr gone ↦ inr (replaced-may (histories es).write v q e gone may)
    ]

    pub kept-more : (es more : List Event) → In u (lists es v q) → AllOf (TakesFrom Q) more → In u (lists (es ++ more) v q) ⊎ Q v
    kept-more es [] i may = inl (subst (λ es. In u (lists es v q)) (sym (append-nil es)) i)
    kept-more es (e ∷ more) i may = elim (kept-event es e i may.0) [
      | inl j ↦ subst (λ es. In u (lists es v q) ⊎ Q v) (append_assoc es (e ∷ []) more) (kept-more (es ++ e ∷ []) more j may.1)
      | inr taken ↦ inr taken
    ]

pub keeps-task : (w : World) (t : Task) → StepKeeps w t
keeps-task w t v q u i =
    let told : Told (MayTake w.control t.asked) w.events (after_task w t).events = told-task w t in
    subst (λ es. In u (lists es v q) ⊎ (takes_from w.control t.asked v ≡ true)) (sym told.is) (kept-more (MayTake w.control t.asked) u v q w.events told.more i told.each)

pub keeps-run : (tasks : List Task) → KeepsWrites tasks
keeps-run tasks before behind t is = keeps-task (run before) t
