-- Whole runs: the steps of a script in order, each ended by its answer.
use Rattle.std.specs.Prelude.{ℕ, List, [], ◌∷◌, ◌++◌, map, Option, Some, None, Result, Ok, if◌then◌else◌}
use Rattle.std.specs.List.{flat_map, fold}
use Rattle.dr_model.specs.Control.{World, nothing}
use Rattle.dr_ids.specs.declared.refusal.Refusal.TheVariants.{JournalFull}
use Rattle.dr_model.specs.declared.event.Event.{Event}
use Rattle.dr_model.specs.declared.event.Event.TheVariants.{ImageStart, ImageVolume, ImageBlock, ImageEnd}
use Rattle.dr_model.specs.declared.said.Addition.TheVariants.{Alone}
use Rattle.dr_model.specs.declared.said.Said.TheVariants.{Done}
use Rattle.dr_model.specs.Limits.{image_events}
use Rattle.dr_model.specs.PlantImage.{Volume}
use Rattle.dr_model.specs.PlanParts.{same, tables_plan, only_says, refuses}
use Rattle.dr_model.specs.Plans.{Plan, plan, has_room, has_room_for, compare_plan}
pub use Rattle.dr_model.specs.Carried.{begun, finish, stop_place, carried_out, answered, said, masters_lost}
unfoldable pub use Rattle.dr_model.specs.Carried.{after_plan}
use Rattle.dr_model.specs.Forming.{Part, Way, formed, form_said}
use Rattle.dr_model.specs.declared.step.Step.{Step}
use Rattle.dr_model.specs.declared.step.Step.TheVariants.{Run, Compare, Image}

-- A step with the number of its line; a line outside the grammar is one too, with the column of its first fault. A run knows records and
-- tracks, and not blocks: what an `@image` finds on the devices comes with its step (`Listed` says what that may be).
pub record Task : Type 0 where
  pub line : ℕ
  pub asked : Result Step ℕ
  pub listed : List Volume

-- What a step comes to: the plan that is answered, in the world in which it begins, and the plans that were carried out before it.
pub record Course : Type 0 where
  pub before : List Part
  pub last : Part

-- A step that isn't one plan of its control state and journal: an `@run`, with its session and how many groups it asks for; a comparison
-- of two volumes, which looks at what tracks contain; and an image, which looks at the devices.
pub data OwnCourse : Type 0 where
  Groups : (s n : ℕ) → OwnCourse
  Volumes : (v u : ℕ) → OwnCourse
  Devices : OwnCourse

-- the steps that are so
abbrev pub own_course : Result Step ℕ → Option OwnCourse
own_course (Ok (Run s n)) = Some (Groups s n)
own_course (Ok (Compare v u)) = Some (Volumes v u)
own_course (Ok Image) = Some Devices
own_course asked = None

-- one plan, answered
abbrev pub alone : World → Plan → Course
alone w p = record { before = []; last = record { world = w; plan = p } }

-- a comparison, with room in the journal
abbrev pub compared : World → ℕ → ℕ → Plan
compared w v u = if has_room w.events then compare_plan w.control w.contents v u else refuses JournalFull

-- the line of a volume, and those of its blocks, in an image
abbrev pub volume_told : Volume → Event
volume_told v = ImageVolume v.volume v.server v.tracks

-- those of its blocks that aren't all zero
abbrev pub blocks_told : Volume → List Event
blocks_told v = map (λ b. ImageBlock v.volume b.index b.bytes) v.blocks

-- the lines of an image: the volumes in order, then the blocks of each in this order, between its first line and its last
abbrev pub image_told : List Volume → List Event
image_told vs = ImageStart ∷ map volume_told vs ++ flat_map blocks_told vs ++ ImageEnd ∷ []

-- an image of these volumes
abbrev pub image_plan : List Volume → Plan
image_plan vs = tables_plan same (image_told vs) (Done Alone)

-- with room in the journal for what it may tell
abbrev pub imaged : World → List Volume → Plan
imaged w vs = if has_room_for image_events w.events then image_plan vs else refuses JournalFull

-- an `@run` ends in a plan that only answers; every other step is one plan
abbrev pub course_of : World → Task → Option OwnCourse → Course
course_of w t None = alone w (plan w.control w.events t.line t.asked)
course_of w t (Some (Groups s n)) =
    let x : Way = formed w s n in
    record { before = x.parts; last = record { world = x.world; plan = only_says (form_said s x.world.control x.refusal) } }
course_of w t (Some (Volumes v u)) = alone w (compared w v u)
course_of w t (Some Devices) = alone w (imaged w t.listed)

-- the plans of a task, in the world in which it begins
abbrev pub course : World → Task → Course
course w t = course_of w t (own_course t.asked)

-- all its plans, in order
abbrev pub plans_of : World → Task → List Part
plans_of w t = (course w t).before ++ (course w t).last ∷ []

-- the world after the last plan of a task, with its answer; the masters whose servers went off are lost
abbrev pub answered_part : ℕ → Part → World
answered_part line x = masters_lost x.world (after_plan x.world line x.plan)

-- the world after a task
abbrev pub after_task : World → Task → World
after_task w t = answered_part t.line (course w t).last

-- the world after steps in order
unfoldable pub after_tasks : World → List Task → World
after_tasks w tasks = fold after_task w tasks

-- the world that a list of steps leads to from nothing
abbrev pub run : List Task → World
run tasks = after_tasks nothing tasks
