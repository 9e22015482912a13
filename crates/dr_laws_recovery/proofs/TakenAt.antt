-- Where a list lost a write, there is the step of the run that may have taken it.
use Rattle.std.proofs.Common.{ℕ, ◌≡◌, ◌⊎◌, inl, inr, refl, ap, sym, ◌∙◌, subst, append_assoc, List, [], ◌∷◌, ◌++◌}
use Rattle.std.proofs.lemmas.List.{append_cancel_left}
use Rattle.dr_model.specs.declared.event.Event.{Event}
use Rattle.dr_model.specs.declared.event.Event.TheVariants.{Cut}
use Rattle.dr_model.specs.Groups.{In}
use Rattle.dr_model.specs.Histories.{histories, lists}
use Rattle.dr_model.specs.HeldWrites.{WasAcknowledged, WasReplaced}
use Rattle.dr_model.specs.Control.{World}
use Rattle.dr_model.specs.ClosedCuts.{ClosedCuts}
use Rattle.dr_model.specs.Runs.{Task, after_task, after_tasks, run}
use Rattle.dr_model.specs.TakenWrites.{WasTaken}
use Rattle.dr_facts.proofs.Emits.{AllOf}
use Rattle.dr_facts.proofs.Joined.{InFirst, InOther, place-in}
use Rattle.dr_laws_cuts.proofs.Places.{snoc}
use Rattle.dr_laws_targets.proofs.Held.{acknowledged-kept}
use Rattle.dr_laws_sound.proofs.Journal.{run-more}
use Rattle.dr_laws_recovery.specs.Held.{HoldsAll}
use Rattle.dr_laws_recovery.proofs.Takes.{TakesFrom, at-place, Told}
use Rattle.dr_laws_recovery.proofs.ClosesAlong.{closed-run}
use Rattle.dr_laws_recovery.proofs.TakesSteps.{MayTake}
use Rattle.dr_laws_recovery.proofs.KeepsWrites.{told-task, replaced-may}

-- ---- the step that told the event at a place

pub record StepAt (tasks : List Task) (before : List Event) (e : Event) : Type 0 where
  pub first : List Task
  pub step : Task
  pub rest : List Task
  pub is : tasks ≡ first ++ step ∷ rest
  pub since : List Event
  pub begun : before ≡ (run first).events ++ since
  pub later : List Event
  pub ended : (after_task (run first) step).events ≡ before ++ e ∷ later

abbrev pub HasStep : List Task → Type 0
HasStep tasks = (before : List Event) (e : Event) (behind : List Event) → (run tasks).events ≡ before ++ e ∷ behind → StepAt tasks before e

none-told : HasStep []
unfolding after_tasks
none-told [] e behind is = absurd cc
none-told (b ∷ before) e behind is = absurd cc

one-more : (tasks : List Task) (t : Task) → HasStep tasks → HasStep (tasks ++ t ∷ [])
one-more tasks t old before e behind is =
    let told : Told (MayTake (run tasks).control t.asked) (run tasks).events (after_task (run tasks) t).events = told-task (run tasks) t in
    by told.more told.is (place-in (run tasks).events told.more before e behind (sym told.is ∙ ap (λ (w : World). w.events) (sym (run-more tasks t)) ∙ is))
  where
    by : (more : List Event) → (after_task (run tasks) t).events ≡ (run tasks).events ++ more → InFirst (run tasks).events before e ⊎ InOther (run tasks).events more before e behind → StepAt (tasks ++ t ∷ []) before e
    by more is (inl p) =
        let s : StepAt tasks before e = old before e p.behind p.is in
        record { first = s.first; step = s.step; rest = s.rest ++ t ∷ []; is = ap (λ ts. ts ++ t ∷ []) s.is ∙ append_assoc s.first (s.step ∷ s.rest) (t ∷ []); since = s.since; begun = s.begun; later = s.later; ended = s.ended }
    by more is (inr p) = record {
      first = tasks;
      step = t;
      rest = [];
      is = refl;
      since = p.middle;
      begun = p.first;
      later = behind;
      ended = is ∙ ap (λ zs. (run tasks).events ++ zs) p.other ∙ sym (append_assoc (run tasks).events p.middle (e ∷ behind)) ∙ ap (λ zs. zs ++ e ∷ behind) (sym p.first);
    }

pub step-at : (tasks : List Task) → HasStep tasks
step-at tasks = snoc HasStep none-told one-more tasks

-- ---- so what was replaced was taken

module _ (tasks : List Task) (events later : List Event) (leads : (run tasks).events ≡ events ++ later) (u v t : ℕ) where
  taken-where : WasReplaced events u v t → WasTaken tasks events u v t
  taken-where r =
      let s : StepAt tasks r.before r.event = step-at tasks r.before r.event (r.behind ++ later) (leads ∙ ap (λ es. es ++ later) r.is ∙ append_assoc r.before (r.event ∷ r.behind) later) in
      let w : World = run s.first in
      let told : Told (MayTake w.control s.step.asked) w.events (after_task w s.step).events = told-task w s.step in
      let more : told.more ≡ s.since ++ r.event ∷ s.later =
      append_cancel_left w.events told.more (s.since ++ r.event ∷ s.later) (sym told.is ∙ s.ended ∙ ap (λ es. es ++ r.event ∷ s.later) s.begun ∙ append_assoc w.events s.since (r.event ∷ s.later)) in
      record {
        replaced = r;
        before = s.first;
        step = s.step;
        behind = s.rest;
        is = s.is;
        since = s.since;
        begun = s.begun;
        later = s.later;
        ended = ap (λ (x : World). x.events) (run-more s.first s.step) ∙ s.ended;
        takes = replaced-may (MayTake w.control s.step.asked) (histories r.before).write v t r.event r.replaces
            (at-place (TakesFrom (MayTake w.control s.step.asked)) s.since r.event s.later (subst (AllOf (TakesFrom (MayTake w.control s.step.asked))) more told.each));
      }

  pub kept-or-taken : WasAcknowledged events u v t → In u (lists events v t) ⊎ WasTaken tasks events u v t
  kept-or-taken acked = elim (acknowledged-kept events u v t acked) [
    | inl here ↦ inl here
    | inr gone ↦ inr (taken-where gone)
  ]

-- ---- and the cuts of each group hold what wasn't

pub holds-all : (tasks : List Task) (events : List Event) (s n : ℕ) → (run tasks).events ≡ events → ClosedCuts events s n → HoldsAll tasks events s n
holds-all tasks events s n leads closed = record {
  kept = λ a g c u t acked. kept-or-taken tasks c.before (Cut s n a ∷ c.behind) (leads ∙ c.is) u a t acked;
  depends = λ a z g h c d p w u t q here after acked.
      subst (λ ws. In u ws ⊎ WasTaken tasks p.place.before u z q) (sym (closed.moment z h d p q))
      (kept-or-taken tasks p.place.before (Cut s n p.volume ∷ p.place.behind) (leads ∙ p.place.is) u z q acked);
}

-- those of a run do
pub holds-run : (tasks : List Task) (w : World) → run tasks ≡ w → (s n : ℕ) → HoldsAll tasks w.events s n
holds-run tasks w leads s n = let is : (run tasks).events ≡ w.events = ap (λ (x : World). x.events) leads in holds-all tasks w.events s n is (subst (λ es. ClosedCuts es s n) is (closed-run tasks s n))
