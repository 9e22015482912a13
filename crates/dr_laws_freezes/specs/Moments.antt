-- The moments of a run: the world after each act, and as each step begins and ends.
use Rattle.std.specs.Prelude.{ℕ, List, [], ◌∷◌, ◌++◌, Option, Some, None}
use Rattle.dr_ids.specs.declared.refusal.Refusal.{Refusal}
use Rattle.dr_ids.specs.declared.refusal.Refusal.TheVariants.{Stopped}
use Rattle.dr_model.specs.Control.{World, nothing}
use Rattle.dr_model.specs.Carry.{Next, Pass, Do, End, Entry, act, carry}
use Rattle.dr_model.specs.Plans.{Plan}
use Rattle.dr_model.specs.Forming.{Part, after_part}
use Rattle.dr_model.specs.Runs.{Task, course, begun, after_task, stop_place}

-- the world after an act, and those that come where no server stopped in it
abbrev pub on_from : World → Option ℕ → (World → List World) → List World
on_from w None more = w ∷ more w
on_from w (Some s) more = w ∷ []

-- what an entry comes to, and then the worlds of the entries behind it
abbrev pub on_next : World → Next → (World → List World) → List World
on_next w Pass more = more w
on_next w (End r) more = []
on_next w (Do a) more = on_from (act w a).0 (act w a).1 more

-- the worlds that entries come to, until one ends the plan or a server stops
unfoldable pub worlds : World → List Entry → List World
worlds w [] = []
worlds w (d ∷ ds) = on_next w (d w.control) (λ v. worlds v ds)

-- those of entries that come one by one, whether a server stopped in the one before or not
unfoldable pub worlds_each : World → List Entry → List World
worlds_each w [] = []
worlds_each w (d ∷ ds) = worlds w (d ∷ []) ++ worlds_each (carry w (d ∷ [])).0 ds

-- those of what follows the stop of a server
abbrev pub worlds_after : World → Option Refusal → List Entry → List World
worlds_after w (Some (Stopped s)) follows = worlds_each w follows
worlds_after w _ follows = []

-- a plan: as it begins, and after each act
abbrev pub plan_moments : World → Plan → List World
plan_moments w p =
    begun w p
    ∷ (worlds (begun w p) p.entries
    ++ worlds_after (carry (begun w p) p.entries).0 (carry (begun w p) p.entries).1 (p.follows (stop_place w p)))

-- one plan of a step, from the world in which it begins
abbrev pub part_moments : Part → List World
part_moments x = plan_moments x.world x.plan

-- plans that aren't the last of their step, and as each ends
unfoldable pub parts_moments : List Part → List World
parts_moments [] = []
parts_moments (x ∷ xs) = part_moments x ++ (after_part x.world x.plan ∷ parts_moments xs)

-- a step: its plans, and as it is answered
abbrev pub task_moments : World → Task → List World
task_moments w t = parts_moments (course w t).before ++ (part_moments (course w t).last ++ after_task w t ∷ [])

-- a list of steps, from a world on
unfoldable pub moments_from : World → List Task → List World
moments_from w [] = []
moments_from w (t ∷ ts) = task_moments w t ++ moments_from (after_task w t) ts

-- from the first world on, in which there is nothing
abbrev pub moments : List Task → List World
moments tasks = nothing ∷ moments_from nothing tasks
