-- Every run stays within the limits: of servers, volumes and pending writes, and of the journal's length.
use Rattle.std.proofs.Common.{ℕ, All, ◌≡◌, ◌≤◌, ◌<◌, ◌+◌, ◌++◌, ◌⊎◌, inl, inr, List, [], ◌∷◌, length, refl, ap, ◌∙◌, sym, arith, Bool, true, false, cond, nat_le, Option, Some, None, Result, Ok, Err, subst}
use Rattle.std.proofs.lemmas.List.{length-append, length-map}
use Rattle.std.proofs.lemmas.Bool.Decides.{nat_tests}
use Rattle.dr_ids.specs.declared.refusal.Refusal.TheVariants.{JournalFull, Syntax}
use Rattle.dr_model.specs.declared.event.Event.{Event}
use Rattle.dr_model.specs.declared.said.Said.{Said}
use Rattle.dr_model.specs.declared.said.Said.TheVariants.{Done, Refused}
use Rattle.dr_model.specs.declared.said.Addition.TheVariants.{Alone}
use Rattle.dr_model.specs.PlantImage.{Volume as ListedVolume, IsVolume}
use Rattle.dr_model.specs.Listed.{IsListed, ListsAll, ListsIf, ListsBy, Lists}
use Rattle.dr_facts.proofs.ImageLengths.{image-few}
use Rattle.dr_model.specs.declared.step.Step.{Step}
use Rattle.dr_model.specs.Answers.{answer}
use Rattle.dr_model.specs.Limits.{most_events, step_events, image_events, most_servers, most_volumes, most_tracks, most_pending}
use Rattle.dr_model.specs.Control.{Control, World, nothing}
use Rattle.dr_model.specs.Plans.{Plan, plan, same, plan_of, has_room, has_room_for, only_says, refuses, compare_plan}
use Rattle.dr_model.specs.Forming.{Part, after_part}
use Rattle.dr_model.specs.Runs.{Task, own_course, course_of, course, said, after_plan, after_task, after_tasks, run, answered_part, OwnCourse, Groups, Volumes, Devices, image_plan, image_told}
use Rattle.dr_model.proofs.CarryLemmas.{plan-says, plan-tables}
use Rattle.dr_model.specs.Laws.{Sound}
use Rattle.dr_laws_sound.specs.Limits.{IsWithin}
use Rattle.dr_laws_sound.proofs.Cases.{Case}
use Rattle.dr_laws_sound.proofs.Parts.{Comes, plain-case, last-plan}
use Rattle.dr_laws_sound.proofs.Steps.{sound-part}
use Rattle.dr_laws_sound.proofs.Journal.{Stays, few-lost, Onward, AnswersNothing, after_plan-stays, onward-part, onward-last, answers_nothing-last}
use Rattle.dr_laws_sound.proofs.Spends.{after_plan-adds, after_part-adds, case-spends}

-- every run is within the limits
within-stays : (j k : Control) → Stays j k → IsWithin j → IsWithin k
within-stays j k stays h = record {
  servers = subst (λ xs. length xs ≤ most_servers) (sym stays.servers) h.servers;
  volumes = subst (λ xs. length xs ≤ most_volumes) (sym stays.volumes) h.volumes;
  pending = let a : length k.pending ≤ length j.pending = stays.pending in let b : length j.pending ≤ most_pending = h.pending in omega arith;
  tracks = λ v. subst (λ n. n ≤ most_tracks) (sym (stays.tracks v)) (h.tracks v);
  sessions = let a : length k.sessions ≤ length j.sessions = stays.sessions in let b : length j.sessions ≤ 4 = h.sessions in omega arith;
}

within-onward : (w u : World) → Onward w u → IsWithin w.control → IsWithin u.control
within-onward w u o h = within-stays w.control u.control o.stays h

pub within-task : (w : World) (t : Task) → IsWithin w.control → IsWithin (after_task w t).control
within-task w t h =
    let x : Part = (course w t).last in
    let m : AnswersNothing x.world.control x.plan = answers_nothing-last w t in
    within-stays (x.plan.first x.world.control) (after_task w t).control (let e = after_plan-stays x.world x.plan m t.line in record { servers = e.servers; tracks = e.tracks; volumes = e.volumes; issued = e.issued; pending = e.pending; sessions = few-lost x.world (after_plan x.world t.line x.plan) (x.plan.first x.world.control) e.sessions }) (m.within (within-onward w x.world (onward-last w t) h))

pub within-tasks : (w : World) (tasks : List Task) → IsWithin w.control → IsWithin (after_tasks w tasks).control
unfolding after_tasks
within-tasks w [] h = h
within-tasks w (t ∷ tasks) h = within-tasks (after_task w t) tasks (within-task w t h)

pub within-run : (tasks : List Task) → IsWithin (run tasks).control
within-run tasks = within-tasks nothing tasks (record { servers = omega arith; volumes = omega arith; pending = omega arith; tracks = λ v. omega arith; sessions = omega arith })

-- there is room, or a step only answers
plan-room : (k : Control) (events : List Event) (line : ℕ) (asked : Result Step ℕ) → (has_room events ≡ true) ⊎ ((a : Said) × (plan k events line asked ≡ only_says a))
plan-room k events line (Ok step) = by (has_room events) refl
  where
    by : (room : Bool) → has_room events ≡ room → (has_room events ≡ true) ⊎ ((a : Said) × (cond room (plan_of k events line step) (refuses JournalFull) ≡ only_says a))
    by true is = inl is
    by false is = inr (Refused JournalFull, refl)
plan-room k events line (Err column) = inr (Refused (Syntax column), refl)

-- as a plan begins: the world is sound and within its limits, and the journal isn't full
abbrev Roomy : World → Type 0
Roomy w = Sound w × (IsWithin w.control × (length w.events < most_events))

roomy-part : (w : World) (p : Plan) → Comes w p → Roomy w → Roomy (after_part w p)
roomy-part w p comes (s, (h, lt)) =
    let adds : length (after_part w p).events + 1 ≤ length w.events + step_events = after_part-adds w p (case-spends w s h 0 comes.asked p (comes.case 0)) in
    let left : length w.events + step_events ≤ most_events = has-room (length w.events) comes.room in
    (sound-part w p comes s, (within-onward w (after_part w p) (onward-part w p comes) h, omega arith))
  where
    has-room : (n : ℕ) → nat_le (n + step_events) most_events ≡ true → n + step_events ≤ most_events
    has-room n h = grind (arith, nat_tests, h)

-- there is room for the last plan, or it only answers; an image asks for room of its own
last-room : (w : World) (t : Task) → (own_course t.asked ≡ Some Devices → ⊥) → let x : Part = (course w t).last in (has_room x.world.events ≡ true) ⊎ ((a : Said) × (x.plan ≡ only_says a))
last-room w t = by (own_course t.asked)
  where
    by : (o : Option OwnCourse) → (o ≡ Some Devices → ⊥) → let x : Part = (course_of w t o).last in (has_room x.world.events ≡ true) ⊎ ((a : Said) × (x.plan ≡ only_says a))
    by None other = plan-room w.control w.events t.line t.asked
    by (Some (Groups s n)) other = inr (_, refl)
    by (Some Devices) other = absurd (other refl)
    by (Some (Volumes v u)) other = compared-room (has_room w.events) refl
      where
        compared-room : (room : Bool) → has_room w.events ≡ room → (has_room w.events ≡ true) ⊎ ((a : Said) × (cond room (compare_plan w.control w.contents v u) (refuses JournalFull) ≡ only_says a))
        compared-room true is = inl is
        compared-room false is = inr (_, refl)

fits-room : (w : World) (line : ℕ) (asked : Result Step ℕ) (p : Plan) → Case w.control w.events line asked p → Sound w → IsWithin w.control → has_room w.events ≡ true → length (after_plan w line p).events ≤ most_events
fits-room w line asked p case s h room =
    let adds : length (after_plan w line p).events ≤ length w.events + step_events = after_plan-adds w line p (case-spends w s h line asked p case) in
    let left : length w.events + step_events ≤ most_events = grind (arith, nat_tests, room) in omega arith

fits-says : (w : World) (line : ℕ) (p : Plan) (a : Said) → p ≡ only_says a → length w.events < most_events → length (after_plan w line p).events ≤ most_events
fits-says w line p a is lt =
    let e : length (said w line a).events ≡ length w.events + 1 = length-append w.events (answer line a ∷ []) in
    subst (λ (u : World). length u.events ≤ most_events) (sym (ap (after_plan w line) is ∙ plan-says w line a)) (omega arith)

-- an image has few lines
all-proper : (w : World) (vs : List ListedVolume) → All (IsListed w) vs → All IsVolume vs
all-proper w vs each k d low = (each k d low).proper

listed-few : (w : World) (vs : List ListedVolume) → length w.control.volumes ≤ most_volumes → ListsAll w vs → length (image_told vs) ≤ 17794
listed-few w vs few lists =
    let e : length vs ≡ length w.control.volumes = sym (length-map vs (λ (v : ListedVolume). v.volume)) ∙ ap length lists.volumes in
    image-few vs (omega arith) (all-proper w vs lists.each)

image-fits : (w : World) (line : ℕ) (vs : List ListedVolume) → IsWithin w.control → length w.events < most_events → (room : Bool) → has_room_for image_events w.events ≡ room → ListsIf room w vs
    → length (after_plan w line (cond room (image_plan vs) (refuses JournalFull))).events ≤ most_events
image-fits w line vs h lt false is lists = fits-says w line _ (Refused JournalFull) refl lt
image-fits w line vs h lt true is lists =
    let few : length (image_told vs) ≤ 17794 = listed-few w vs h.volumes lists in
    let room : length w.events + image_events ≤ most_events = grind (arith, nat_tests, is) in
    let told : length (w.events ++ image_told vs) ≡ length w.events + length (image_told vs) = length-append w.events (image_told vs) in
    let said : length ((w.events ++ image_told vs) ++ answer line (Done Alone) ∷ []) ≡ length (w.events ++ image_told vs) + 1 = length-append (w.events ++ image_told vs) (answer line (Done Alone) ∷ []) in
    let leaves : length (after_plan w line (image_plan vs)).events ≡ length ((w.events ++ image_told vs) ++ answer line (Done Alone) ∷ []) = ap (λ (u : World). length u.events) (plan-tables w line same (image_told vs) (Done Alone)) in omega arith

-- the journal stays within its limit
pub journal-fits : (w : World) (t : Task) → Lists w t → Sound w → IsWithin w.control → length w.events < most_events → length (after_task w t).events ≤ most_events
journal-fits w t lists s h lt = by (own_course t.asked) refl
  where
    plain : (own_course t.asked ≡ Some Devices → ⊥) → length (after_task w t).events ≤ most_events
    plain other =
        let x : Part = (course w t).last in
        let r : Roomy x.world = last-plan Roomy roomy-part w t (s, (h, lt)) in
        elim (last-room w t other) [
          | inl room ↦ fits-room x.world t.line t.asked x.plan (plain-case w t other) r.0 r.1.0 room
          | inr says ↦ fits-says x.world t.line x.plan says.0 says.1 r.1.1
        ]

    by : (o : Option OwnCourse) → own_course t.asked ≡ o → length (after_task w t).events ≤ most_events
    by None is = plain (λ e. let none : None ≡ Some Devices = sym is ∙ e in absurd cc)
    by (Some (Groups i n)) is = plain (λ e. let none : Some (Groups i n) ≡ Some Devices = sym is ∙ e in absurd cc)
    by (Some (Volumes v u)) is = plain (λ e. let none : Some (Volumes v u) ≡ Some Devices = sym is ∙ e in absurd cc)
    by (Some Devices) is =
        subst (λ (o : Option OwnCourse). length (answered_part t.line (course_of w t o).last).events ≤ most_events) (sym is)
        (image-fits w t.line t.listed h lt (has_room_for image_events w.events) refl (subst (ListsBy w t.listed) is lists))
