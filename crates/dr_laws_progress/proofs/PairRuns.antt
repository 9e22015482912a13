-- The primary and the secondary of each member stand in one of three ways at each moment of a run.
use Rattle.std.proofs.Common.{inl, inr, refl, sym, subst, List, [], ◌∷◌, ◌++◌, Option, Some, None}
use Rattle.dr_ids.specs.declared.refusal.Refusal.{Refusal}
use Rattle.dr_model.specs.Control.{World, nothing}
use Rattle.dr_model.specs.Groups.{In}
use Rattle.dr_model.specs.PlanParts.{Plan}
use Rattle.dr_model.specs.Forming.{Part, Way, goes_on, after_part, part_refusal}
use Rattle.dr_model.specs.Carried.{carried_out, masters_lost}
use Rattle.dr_model.specs.Runs.{Task, OwnCourse, Groups, Volumes, Devices, own_course, course_of, course, after_plan, after_task, after_tasks, run}
use Rattle.dr_model.specs.Laws.{Sound}
use Rattle.dr_facts.proofs.Lists.{in-joined, in-first, in-second}
use Rattle.dr_laws_closed.proofs.Regroups.{stays-lost}
use Rattle.dr_laws_sound.proofs.Parts.{Comes, Ways as CourseWays, way-formed, course-case}
use Rattle.dr_laws_sound.proofs.Steps.{sound-nothing, sound-part, sound-task}
use Rattle.dr_laws_freezes.specs.Moments.{plan_moments, parts_moments, part_moments, task_moments, moments_from}
use Rattle.dr_laws_progress.specs.PairWays.{PairWays, HasPairWays}
use Rattle.dr_laws_progress.proofs.PairPlans.{WaysIn, PlanStands}
use Rattle.dr_laws_progress.proofs.PairCases.{case-stands, ending-stands}

-- masters are lost
lost-ways : (w u : World) → WaysIn u → WaysIn (masters_lost w u)
lost-ways w u ways y q i in_y = let o = (stays-lost u.control.sessions w.control.on u.control.on y q i in_y).was in ways o.session q o.listed o.here

-- what holds between steps, and between the plans of a step
record Between (w : World) : Type 0 where
  sound : Sound w
  ways : WaysIn w

abbrev AllWays : List World → Type 0
AllWays us = (u : World) → In u us → WaysIn u

all-joined : (us vs : List World) → AllWays us → AllWays vs → AllWays (us ++ vs)
all-joined us vs one two u here = elim (in-joined us vs u here) [
  | inl h ↦ one u h
  | inr h ↦ two u h
]

all-more : (v : World) (us : List World) → WaysIn v → AllWays us → AllWays (v ∷ us)
all-more v us one rest u (inl is) = subst WaysIn (sym is) one
all-more v us one rest u (inr h) = rest u h

-- the plans of a step before its last one
parts-joined : (xs ys : List Part) → AllWays (parts_moments xs) → AllWays (parts_moments ys) → AllWays (parts_moments (xs ++ ys))
unfolding parts_moments
parts-joined [] ys one two = two
parts-joined (x ∷ xs) ys one two = by (parts-joined xs ys (λ u h. one u (in-second (part_moments x) _ u (inr h))) two)
  where
    by : AllWays (parts_moments (xs ++ ys)) → AllWays (part_moments x ++ (after_part x.world x.plan ∷ parts_moments (xs ++ ys)))
    by rest = all-joined (part_moments x) _ (λ u h. one u (in-first (part_moments x) _ u h)) (all-more _ _ (one (after_part x.world x.plan) (in-second (part_moments x) _ _ (inl refl))) rest)

-- a way that leads on from such a world
abbrev Leads : World → Way → Type 0
Leads w x = Between w → AllWays (parts_moments x.parts) × Between x.world

stands-lead : (w : World) (r : Option Refusal) → Leads w (record { parts = []; world = w; refusal = r })
unfolding parts_moments
stands-lead w r b = (λ u h. absurd h, b)

one-leads : (w : World) (p : Plan) → Comes w p → Leads w (record { parts = record { world = w; plan = p } ∷ []; world = after_part w p; refusal = part_refusal w p })
unfolding parts_moments
one-leads w p comes b =
    let stands : PlanStands w p = case-stands w b.sound b.ways 0 comes.asked p (comes.case 0) in
    let after : WaysIn (after_part w p) = lost-ways w (carried_out w p).0 stands.ends in
    (all-joined (plan_moments w p) _ stands.moments (all-more (after_part w p) [] after (λ u h. absurd h)), record { sound = sound-part w p comes b.sound; ways = after })

then-leads : (w u : World) (xs : List Part) (r : Option Refusal) (more : World → Way) → Leads w (record { parts = xs; world = u; refusal = r }) → ((v : World) → Leads v (more v)) → Leads w (goes_on xs u r more)
then-leads w u xs None more one on b = let o = one b in let z = on u o.1 in (parts-joined xs (more u).parts o.0 z.0, z.1)
then-leads w u xs (Some r) more one on b = one b

leads : CourseWays Leads
leads = record { stands = stands-lead; one = one-leads; then = then-leads }

-- ---- steps, and runs

before-ways : (w : World) (t : Task) → Between w → AllWays (parts_moments (course w t).before) × Between (course w t).last.world
unfolding parts_moments
before-ways w t b = by (own_course t.asked)
  where
    by : (o : Option OwnCourse) → AllWays (parts_moments (course_of w t o).before) × Between (course_of w t o).last.world
    by None = (λ u h. absurd h, b)
    by (Some (Groups s n)) = way-formed Leads leads w s n b
    by (Some (Volumes v u)) = (λ u h. absurd h, b)
    by (Some Devices) = (λ u h. absurd h, b)

task-ways : (w : World) (t : Task) → Between w → AllWays (task_moments w t) × Between (after_task w t)
unfolding after_plan
task-ways w t b =
    let x : Part = (course w t).last in
    let before = before-ways w t b in
    let stands : PlanStands x.world x.plan = ending-stands x.world before.1.sound before.1.ways t.line x.plan (course-case w t) in
    let after : WaysIn (after_task w t) = lost-ways x.world (after_plan x.world t.line x.plan) stands.ends in (
      all-joined (parts_moments (course w t).before) _ before.0 (all-joined (part_moments x) _ stands.moments (all-more (after_task w t) [] after (λ u h. absurd h))),
      record { sound = sound-task w t b.sound; ways = after },
    )

from-ways : (tasks : List Task) (w : World) → Between w → AllWays (moments_from w tasks)
unfolding moments_from
from-ways [] w b = λ u h. absurd h
from-ways (t ∷ ts) w b = let z = task-ways w t b in all-joined (task_moments w t) _ z.0 (from-ways ts (after_task w t) z.1)

tasks-ways : (tasks : List Task) (w : World) → Between w → Between (after_tasks w tasks)
unfolding after_tasks
tasks-ways [] w b = b
tasks-ways (t ∷ ts) w b = tasks-ways ts (after_task w t) (task-ways w t b).1

begins : Between nothing
begins = record { sound = sound-nothing; ways = λ x q h. absurd h }

in-pairs : (w : World) → WaysIn w → PairWays w.control
in-pairs w ways x m i in_x = (ways x m i in_x).1

pub has-pair-ways : (tasks : List Task) → HasPairWays tasks
has-pair-ways tasks w (inl is) = in-pairs w (subst WaysIn (sym is) begins.ways)
has-pair-ways tasks w (inr h) = in-pairs w (from-ways tasks nothing begins w h)

pub pair-ways-run : (tasks : List Task) → PairWays (run tasks).control
pair-ways-run tasks = in-pairs (run tasks) (tasks-ways tasks nothing begins).ways
