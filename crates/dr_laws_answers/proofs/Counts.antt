-- Drains, copies and destages answer how much they have done.
use Rattle.std.proofs.Common.{ℕ, ◌≡◌, ◌+◌, refl, ap, sym, ◌∙◌, arith, Bool, cond, List, [], ◌∷◌, ◌++◌, length, Option, Some, None, Ok}
use Rattle.std.specs.Prelude.{is_some}
use Rattle.std.proofs.lemmas.List.{append-nil}
use Rattle.dr_model.specs.declared.event.Event.{Event}
use Rattle.dr_model.specs.declared.said.Addition.{Addition}
use Rattle.dr_model.specs.declared.said.Addition.TheVariants.{Counted}
use Rattle.dr_model.specs.declared.said.Said.TheVariants.{Done}
use Rattle.dr_model.specs.declared.step.Step.{Step}
use Rattle.dr_model.specs.declared.step.Step.TheVariants.{Drain, Copy, Destage}
use Rattle.dr_model.specs.Answers.{answer}
use Rattle.dr_model.specs.Control.{Fuse, Volume, World}
use Rattle.dr_model.specs.Moves.{Unstage}
use Rattle.dr_model.specs.Carry.{Redo, Do, Entry, carry, continue, now, redo_writes}
use Rattle.dr_model.specs.Entries.{fields_at, is_running}
use Rattle.dr_model.specs.PairEntries.{tracks_to_send}
use Rattle.dr_model.specs.Plans.{drain_plan, copy_plan, destage_plan, is_defined, at_most, left_to_copy, redo_now, destage_entries}
use Rattle.dr_model.specs.Laws.{Sound}
use Rattle.dr_model.specs.Allowed.{Runs}
use Rattle.dr_model.specs.Runs.{Task, after_task, run}
use Rattle.dr_model.proofs.CarryLemmas.{carry-first}
use Rattle.dr_logic.proofs.Tables.{at_same}
use Rattle.dr_logic.proofs.Truth.{false_true}
use Rattle.dr_laws_sound.specs.Acknowledged.{said_in}
use Rattle.dr_laws_sound.proofs.Awaits.{none-refused}
use Rattle.dr_laws_sound.proofs.FitsFlash.{as_begun}
use Rattle.dr_laws_sound.proofs.FitsPairs.{row}
use Rattle.dr_laws_sound.proofs.Steps.{sound-run}
use Rattle.dr_laws_sound.proofs.Turned.{passed-check, move-led, nothing-left}
use Rattle.dr_laws_sound.proofs.Turns.{act-cases, fused, server_at}
use Rattle.dr_laws_answers.specs.Counts.{count, is_sent_by, is_copied_to, is_back_from, CountsTold, Counts, CountsAreOfSteps}
use Rattle.dr_laws_answers.proofs.Answered.{ends-gives, task-gives}
use Rattle.dr_laws_answers.proofs.Told.{Extends, extends, count-append}
use Rattle.dr_laws_answers.proofs.DrainCounts.{drain-counts}
use Rattle.dr_laws_answers.proofs.CopyCounts.{copy-counts}

-- ---- a track that was staged

module _ (v : ℕ) where
  -- it was written to its place, and the server didn't stop
  record Redone (w u : World) (ds : List Entry) : Type 0 where
    fuse : Option Fuse
    leads : carry (fused w (server_at w v) fuse) ds ≡ (u, None)

  redone : (w u : World) (ds : List Entry) → Runs w v → carry w (redo_now v ∷ ds) ≡ (u, None) → Redone w u ds
  redone w u ds on leads =
      act-cases w (Redo v) (λ t. continue t.0 t.1 (λ k. carry k ds) ≡ (u, None) → Redone w u ds)
      (λ writes off h. false_true off on) (λ f h. record { fuse = f; leads = h }) tt (λ writes f h. none-refused _ u _ h)
      (sym (carry-first w (redo_now v) ds (Do (Redo v)) refl) ∙ leads)

  destaged : (w u : World) → Runs w v → (staged : Option ℕ) → (w.control.volume v).staged ≡ staged → carry w (destage_entries staged v) ≡ (u, None) → (u.control.volume v).staged ≡ None
  destaged w u on None is leads = ap (λ (z : World). (z.control.volume v).staged) (sym (nothing-left w u leads)) ∙ is
  destaged w u on (Some q) is leads =
      let r : Redone w u (now (Unstage v) ∷ []) = redone w u (now (Unstage v) ∷ []) on leads in
      let k : World = fused w (server_at w v) r.fuse in
      let led = move-led k u (now (Unstage v)) (Unstage v) [] refl on r.leads in
      ap (λ (z : World). (z.control.volume v).staged) (sym (nothing-left _ u led.leads)) ∙ ap (λ (y : Volume). y.staged) (at_same k.control.volume v (row k (Unstage v) led.fuse))

  writes-one : (staged : Option ℕ) → redo_writes staged ≡ cond (is_some staged) 1 0
  writes-one None = refl
  writes-one (Some q) = refl

-- ---- the steps

-- the events of a step whose entries led on to u, and how many of them are so
tells : (w u : World) (line m : ℕ) (x : Addition) (is : Event → Bool) (z : World) → z.events ≡ u.events ++ answer line (Done x) ∷ [] → Extends (as_begun w) u → Counted m ≡ x → count is u.events ≡ count is (as_begun w).events + m → CountsTold w z line x is
tells w u line m x is z ends e said counted =
    let told : u.events ≡ w.events ++ e.told = e.events ∙ ap (λ es. es ++ e.told) (append-nil w.events) in
    let a : count is u.events ≡ count is w.events + count is e.told = ap (count is) told ∙ count-append is w.events e.told in
    let b : count is u.events ≡ count is w.events + m = counted ∙ ap (λ es. count is es + m) (append-nil w.events) in
    let same : m ≡ count is e.told = omega (arith, a, b) in
    record { told = e.told; events = ends ∙ ap (λ es. es ++ answer line (Done x) ∷ []) told; counts = sym said ∙ ap Counted same }

said-is : (a x : Addition) → Done a ≡ Done x → a ≡ x
said-is a x h = cc

module _ (w : World) (sound : Sound w) (t : Task) where
  abbrev Q : Step → Addition → World → Type 0
  Q s x u = Counts w u t.line x s

  step-counts : (s : Step) → t.asked ≡ Ok s → (x : Addition) → said_in w t ≡ Done x → Counts w (after_task w t) t.line x s
  step-counts (Drain a most) asked x says =
      task-gives w t (Q (Drain a most)) (Drain a most) refl asked
      (ends-gives w t.line (Q (Drain a most)) (drain_plan w.control a most)
      (λ u leads x says.
      let ts : List ℕ = tracks_to_send most (w.control.volume a).tracks (fields_at w.control a).out_of_sync in
      tells w u t.line (length ts) x (is_sent_by a) _ (ap (λ a. u.events ++ answer t.line a ∷ []) says) (extends _ (as_begun w) u leads) (said-is (Counted (length ts)) x says) (drain-counts w sound a most u leads))) x says
  step-counts (Copy v most) asked x says =
      task-gives w t (Q (Copy v most)) (Copy v most) refl asked
      (ends-gives w t.line (Q (Copy v most)) (copy_plan w.control v most)
      (λ u leads x says.
      let n : ℕ = at_most most (left_to_copy w.control v) in
      tells w u t.line n x (cond (fields_at w.control v).reversing (is_back_from v) (is_copied_to v)) _ (ap (λ a. u.events ++ answer t.line a ∷ []) says) (extends _ (as_begun w) u leads) (said-is (Counted n) x says)
      (copy-counts w sound v most u leads))) x says
  step-counts (Destage v) asked x says =
      task-gives w t (Q (Destage v)) (Destage v) refl asked
      (ends-gives w t.line (Q (Destage v)) (destage_plan w.control v)
      (λ u leads x says.
      let there = passed-check (as_begun w) u (is_defined v) _ _ leads in
      let on = passed-check (as_begun w) u (is_running v) _ _ there.1 in
      record {
        counts = sym (said-is (Counted (redo_writes (w.control.volume v).staged)) x says) ∙ ap Counted (writes-one v (w.control.volume v).staged);
        left = destaged v (as_begun w) u on.0 (w.control.volume v).staged refl on.1;
      })) x says
  step-counts s asked x says = tt

pub counts-are-of-steps : (tasks : List Task) → CountsAreOfSteps tasks
counts-are-of-steps tasks before behind t s said is asked says = step-counts (run before) (sound-run before) t s asked said says
