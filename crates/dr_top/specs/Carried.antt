-- How far the steps of a line were carried out.
use Rattle.std.specs.Prelude.{◌≡◌, ℕ, ◌≤◌, ◌⊎◌, List, [], length, map, take, Result, Ok, Err}
use Rattle.dr_model.specs.Layout.{Blocks}
use Rattle.dr_model.specs.Control.{World}
use Rattle.dr_model.specs.Listed.{ListsAlong, ImagesDevices, as_asked}
use Rattle.dr_model.specs.Lines.{tasks_from}
use Rattle.dr_model.specs.Runs.{Task, after_tasks, run}
use Rattle.dr_top.specs.Followed.{IsFull, StepWants, LacksWithin}
use Rattle.dr_top.specs.declared.carry.Bar.{Bar}
use Rattle.dr_top.specs.declared.carry.Bar.TheVariants.{Full, NoMemory}

-- some steps lead to the world from nothing
abbrev pub Reached : World → Type 0
Reached w = (ts : List Task) × (run ts ≡ w)

-- Steps that a script asks for, carried out, each with what it listed: they lead from a world to another, and what the last one listed
-- is what these devices are.
pub record StepsLead (w : World) (asked : List Task) (u : World) (device : ℕ → Blocks) : Type 0 where
  pub steps : List Task
  pub same : map as_asked steps ≡ asked
  pub lists : ListsAlong w steps
  pub leads : after_tasks w steps ≡ u
  pub images : ImagesDevices w steps device

-- all steps, or those before one that found the journal full, or those before one that wanted memory; or none, where the line couldn't be read
-- for want of it
abbrev pub EndsBy : ℕ → List Task → World → Result (Unit {0}) Bar → Type 0
EndsBy done tasks u (Ok x) = done ≡ length tasks
EndsBy done tasks u (Err Full) = IsFull done tasks u
EndsBy done tasks u (Err NoMemory) = StepWants done tasks u ⊎ (done ≡ 0)

-- The first steps of a list lead from a world to another; where there are none, the devices are as they were.
pub record GoesTo (w : World) (before : ℕ → Blocks) (tasks : List Task) (u : World) (after : ℕ → Blocks) (result : Result (Unit {0}) Bar) : Type 0 where
  pub done : ℕ
  pub within : done ≤ length tasks
  pub led : StepsLead w (take done tasks) u after
  pub still : take done tasks ≡ [] → after ≡ before
  pub ends : EndsBy done tasks u result

-- all steps of some lines, or those before one that found the journal full, or before the place where memory was wanting
abbrev pub EndsThrough : ℕ → ℕ → List (List ℕ) → World → Result (Unit {0}) Bar → Type 0
EndsThrough done number ls u (Ok x) = done ≡ length (tasks_from number ls)
EndsThrough done number ls u (Err Full) = IsFull done (tasks_from number ls) u
EndsThrough done number ls u (Err NoMemory) = LacksWithin number ls done u

-- The first steps of some lines, of which the first has this number, lead from a world to another; where there are none, the devices are as
-- they were.
pub record GoesThrough (w : World) (before : ℕ → Blocks) (number : ℕ) (ls : List (List ℕ)) (u : World) (after : ℕ → Blocks) (result : Result (Unit {0}) Bar) : Type 0 where
  pub done : ℕ
  pub within : done ≤ length (tasks_from number ls)
  pub led : StepsLead w (take done (tasks_from number ls)) u after
  pub still : take done (tasks_from number ls) ≡ [] → after ≡ before
  pub ends : EndsThrough done number ls u result
