-- The moments of the steps between some steps of a run and the steps after these.
use Rattle.std.proofs.Common.{ℕ, zero, suc, ◌≡◌, ◌≤◌, refl, ap, sym, ◌∙◌, subst, arith, true, List, [], ◌∷◌, ◌++◌, append_assoc, length, take, drop, Some}
use Rattle.std.specs.Prelude.{is_some}
use Rattle.std.specs.Option.{unwrap_or}
use Rattle.std.proofs.Math.Seq.{take-append_seam}
use Rattle.std.proofs.lemmas.List.{take-append-le}
use Rattle.std.specs.List.{slice_get}
use Rattle.dr_model.specs.declared.event.Event.{Event}
use Rattle.dr_model.specs.Control.{World, nothing}
use Rattle.dr_model.specs.Runs.{Task, after_task, after_tasks, run}
use Rattle.dr_laws_freezes.specs.Moments.{task_moments, moments_from, moments}
use Rattle.dr_laws_freezes.specs.Windows.{last_of}
use Rattle.dr_laws_freezes.proofs.EndsInCut.{IsBehind, run-behind, last-moment}
use Rattle.dr_laws_sites.proofs.Along.{Lasts, run-moment}
use Rattle.dr_laws_sites.proofs.Example.{ends-with}
use Rattle.dr_laws_examples.specs.Example.{IsStretch}

-- the moments of steps and of later ones
moments-more : (w : World) (xs ys : List Task) → moments_from w (xs ++ ys) ≡ moments_from w xs ++ moments_from (after_tasks w xs) ys
unfolding moments_from after_tasks
moments-more w [] ys = refl
moments-more w (x ∷ xs) ys =
    ap (λ us. task_moments w x ++ us) (moments-more (after_task w x) xs ys)
    ∙ sym (append_assoc (task_moments w x) (moments_from (after_task w x) xs) (moments_from (after_tasks (after_task w x) xs) ys))

pub stretch-is : (first between later : List Task) → IsStretch (first ++ (between ++ later)) (run first) (moments_from (run first) between)
stretch-is first between later =
    let w : World = run first in
    let b : IsBehind (moments first) w = run-behind first in
    let more : List World = moments_from (after_tasks w between) later in
    record {
      before = b.before;
      after = more;
      is = ap (λ us. nothing ∷ us) (moments-more nothing first (between ++ later))
          ∙ (ap (λ us. us ++ moments_from w (between ++ later)) b.is
          ∙ (append_assoc b.before (w ∷ []) (moments_from w (between ++ later))
          ∙ ap (λ us. b.before ++ (w ∷ us)) (moments-more w between later)));
    }

-- the moment at a place
abbrev pub at_place : List World → ℕ → World
at_place us i = unwrap_or (slice_get us i) nothing

abbrev pub IsThere : List World → ℕ → Type 0
IsThere us i = is_some (slice_get us i) ≡ true

-- moments at one of their places
pub parted-at : (us : List World) (i : ℕ) → IsThere us i → us ≡ take i us ++ (at_place us i ∷ drop (suc i) us)
parted-at [] i there = absurd cc
parted-at (u ∷ us) zero there = refl
parted-at (u ∷ us) (suc i) there = ap (λ vs. u ∷ vs) (parted-at us i there)

-- the last one of those up to a place
last-taken : (w : World) (us : List World) (i : ℕ) → IsThere us i → last_of w (take (suc i) us) ≡ at_place us i
last-taken w [] i there = absurd cc
last-taken w (u ∷ us) zero there = refl
last-taken w (u ∷ us) (suc i) there = last-taken u us i there

-- the journal of the run goes on from each
lasts-at : (tasks : List Task) (first : World) (later : List World) → IsStretch tasks first later → (i : ℕ) → IsThere later i → Lasts (at_place later i) (run tasks)
lasts-at tasks first later s i there =
    let w : World = at_place later i in
    let is : moments tasks ≡ (s.before ++ (first ∷ take i later)) ++ (w ∷ drop (suc i) later ++ s.after) =
    s.is
    ∙ (ap (λ us. s.before ++ (first ∷ us ++ s.after)) (parted-at later i there)
    ∙ (ap (λ us. s.before ++ (first ∷ us)) (append_assoc (take i later) (w ∷ drop (suc i) later) s.after)
    ∙ sym (append_assoc s.before (first ∷ take i later) (w ∷ drop (suc i) later ++ s.after)))) in
    subst (Lasts w) (last-moment tasks (s.before ++ (first ∷ take i later)) (drop (suc i) later ++ s.after) w is) (run-moment tasks (s.before ++ (first ∷ take i later)) (drop (suc i) later ++ s.after) w is).lasts

-- what is told between two moments, where it is one event
pub told-at : (tasks : List Task) (first : World) (later : List World) → IsStretch tasks first later
    → (i n : ℕ) (e : Event) → IsThere later i → IsThere later (suc i) → length (at_place later i).events ≡ n → length (at_place later (suc i)).events ≡ suc n → slice_get (at_place later (suc i)).events n ≡ Some e
    → (at_place later (suc i)).events ≡ (last_of first (take (suc i) later)).events ++ e ∷ []
told-at tasks first later s i n e there next long longer is =
    let w : World = at_place later i in
    let u : World = at_place later (suc i) in
    let one : Lasts w (run tasks) = lasts-at tasks first later s i there in
    let two : Lasts u (run tasks) = lasts-at tasks first later s (suc i) next in
    let few : n ≤ length u.events = subst (λ m. n ≤ m) (sym longer) (omega arith) in
    let front : take n u.events ≡ w.events =
    sym (ap (take n) two.events ∙ take-append-le n u.events two.told few)
    ∙ (ap (take n) one.events ∙ (ap (λ m. take m (w.events ++ one.told)) (sym long) ∙ take-append_seam w.events one.told)) in
    ends-with u.events n e longer is ∙ (ap (λ es. es ++ e ∷ []) front ∙ ap (λ (x : World). x.events ++ e ∷ []) (sym (last-taken first later i there)))
