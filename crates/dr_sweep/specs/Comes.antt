-- What the script of a point comes to.
use Rattle.std.specs.Prelude.{◌≡◌, ℕ, ◌+◌, ◌<◌, ◌⊎◌, true, false, List, [], ◌++◌, length, map, slice_get, Option, Some, All}
use Rattle.std.specs.Option.{option_and_then, option_map_or, unwrap_or}
use Rattle.dr_plant.specs.State.{PlantState, IsFresh}
use Rattle.dr_io.specs.Lines.{most_bytes, most_lines}
use Rattle.dr_model.specs.declared.event.Event.{Event}
use Rattle.dr_model.specs.declared.step.Name.{Name}
use Rattle.dr_model.specs.Control.{World}
use Rattle.dr_model.specs.Lines.{tasks_from}
use Rattle.dr_model.specs.Listed.{as_asked}
use Rattle.dr_model.specs.Runs.{Task, run}
use Rattle.dr_plan.specs.declared.points.Point.{Point}
use Rattle.dr_plan.specs.declared.points.Point.TheVariants.{Cut, Gap}
use Rattle.dr_plan.specs.Pieces.{Pieces, pieces_of, IsTextOf}
use Rattle.dr_plan.specs.Points.{script_of, text_of}
use Rattle.dr_plan.specs.Sweep.{Sweep}
use Rattle.dr_rows.specs.declared.row.Members.{Members}
use Rattle.dr_rows.specs.declared.row.SessionPhase.{SessionPhase}
use Rattle.dr_sweep.specs.declared.fault.PointFault.{PointFault}
use Rattle.dr_sweep.specs.declared.fault.PointFault.TheVariants.{NoMemory, TooLong}
use Rattle.dr_sweep.specs.Moments.{phases_of, any_runs, IsOff, AreMembers}
use Rattle.dr_sweep.specs.Reach.{stop_since, is_own}
use Rattle.dr_sweep.specs.declared.reach.FirstStop.{FirstStop}
use Rattle.dr_sweep.specs.declared.reach.FirstStop.TheVariants.{Own}
use Rattle.dr_top.specs.OpenRuns.{RunProgress, HasRun, IsOfRun, FirstOf, BeforeFull, shown}
use Rattle.dr_top.specs.Stands.{Stands}
use Rattle.dr_top.specs.Tried.{AreAll, IsTried}
use Rattle.dr_top.specs.declared.status.Status.TheVariants.{TooLong as PastLimit}

-- ---- disasters

-- how many servers a disaster takes
abbrev pub servers_lost : Sweep → ℕ → ℕ
servers_lost plan disaster = option_map_or length (slice_get plan.loses disaster) 0

-- the server of a disaster
abbrev pub name_at : Sweep → ℕ → ℕ → Option Name
name_at plan disaster server = option_and_then (λ names. slice_get names server) (slice_get plan.loses disaster)

-- the disaster of a point
abbrev pub disaster_of : Point → ℕ
disaster_of (Cut disaster place server torn writes) = disaster
disaster_of (Gap disaster place) = disaster

-- the servers that are lost at a point
abbrev pub servers_at : Sweep → Point → List Name
servers_at plan point = unwrap_or (slice_get plan.loses (disaster_of point)) []

-- Of the servers of a point's disaster, whose stop the journal tells first after its first events, that many. Between two steps none has to stop.
abbrev pub first_stop : Sweep → Point → ℕ → List Event → FirstStop
first_stop plan (Cut disaster place server torn writes) from events = stop_since (servers_at plan (Cut disaster place server torn writes)) server from events
first_stop plan (Gap disaster place) from events = Own

-- ---- runs of whole scripts

-- A script, run whole on a fresh plant, leaves these events, and that is how it stands.
pub record RunsWhole (script : List ℕ) (events : List Event) : Type 0 where
  pub before : PlantState
  pub after : PlantState
  pub fresh : IsFresh before
  pub steps : List Task
  pub world : World
  pub all : AreAll script steps
  pub stands : Stands steps world events before after

-- A script is past a script's limits, or a step of it found the journal full.
pub record RunsTooLong (script : List ℕ) : Type 0 where
  pub before : PlantState
  pub after : PlantState
  pub fresh : IsFresh before
  pub events : List Event
  pub tried : IsTried script PastLimit events before after

-- why a script wasn't run whole
abbrev pub FailsOn : List ℕ → PointFault → Type 0
FailsOn script NoMemory = Unit {0}
FailsOn script TooLong = RunsTooLong script

-- ---- the run of a point

-- what was told of the run of a point
pub record PointTold : Type 0 where
  pub events : List Event
  pub before : ℕ  -- how many lines of its script come before those of the recovery
  pub begin : ℕ  -- how many events there were as the recovery began
  pub phases : List SessionPhase
  pub members : List Members

-- Lines were carried out as the steps of a run on a fresh plant, and this is how it stands.
pub record RunsLines (ls : List (List ℕ)) (steps : List Task) (events : List Event) : Type 0 where
  pub before : PlantState
  pub after : PlantState
  pub fresh : IsFresh before
  pub world : World
  pub asks : map as_asked steps ≡ tasks_from 1 ls
  pub stands : Stands steps world events before after

-- The script of a point was run whole. The first steps are those before the disaster, then comes the one in which its server is the first of the
-- disaster to stop, then the stops of the others, and then the recovery. In the world in which the recovery begins each server of the disaster is off.
pub record ComesTo (plan : Sweep) (point : Point) (told : PointTold) : Type 0 where
  pub script : List ℕ
  pub is : script_of plan point ≡ Some script
  pub whole : RunsWhole script told.events
  pub pieces : Pieces
  pub are : pieces_of plan point ≡ Some pieces
  pub front : List Task
  pub strike : List Task
  pub stops : List Task
  pub recovery : List Task
  pub cut : whole.steps ≡ front ++ strike ++ stops ++ recovery
  pub asks_front : map as_asked front ≡ tasks_from 1 pieces.front
  pub asks_strike : map as_asked strike ≡ tasks_from (length pieces.front + 1) pieces.strike
  pub asks_stops : map as_asked stops ≡ tasks_from (length (pieces.front ++ pieces.strike) + 1) pieces.stops
  pub struck : first_stop plan point (length (run front).events) (run (front ++ strike)).events ≡ Own
  pub lost : All (IsOff (run (front ++ strike ++ stops)).control) (servers_at plan point)
  pub before : told.before ≡ length (pieces.front ++ pieces.strike ++ pieces.stops)
  pub begin : told.begin ≡ length (run (front ++ strike ++ stops)).events
  pub phases : told.phases ≡ phases_of (run front).control
  pub members : AreMembers (run (front ++ strike ++ stops)) (told.before + 1) plan.recovery recovery told.members

-- the lines before the disaster and the tried step were run: of the disaster's servers, this stop is the first in that step
pub record Stops (plan : Sweep) (point : Point) (stop : FirstStop) : Type 0 where
  pub pieces : Pieces
  pub are : pieces_of plan point ≡ Some pieces
  pub front : List Task
  pub strike : List Task
  pub events : List Event
  pub asks_front : map as_asked front ≡ tasks_from 1 pieces.front
  pub asks_strike : map as_asked strike ≡ tasks_from (length pieces.front + 1) pieces.strike
  pub runs : RunsLines (pieces.front ++ pieces.strike) (front ++ strike) events
  pub is : first_stop plan point (length (run front).events) events ≡ stop

-- the server of the point isn't the first of the disaster to stop in the tried step
abbrev pub Misses : Sweep → Point → Type 0
Misses plan point = (stop : FirstStop) × Stops plan point stop × (is_own stop ≡ false)

-- ---- why a point has no row

-- its script is past a script's limits, or a step of it found the journal full
pub record IsTooLong (plan : Sweep) (point : Point) : Type 0 where
  pub script : List ℕ
  pub is : script_of plan point ≡ Some script
  pub runs : RunsTooLong script

-- after the stops of its script a server of the disaster runs, since the journal had no room for a step that stops it
pub record RunsOn (plan : Sweep) (point : Point) : Type 0 where
  pub pieces : Pieces
  pub are : pieces_of plan point ≡ Some pieces
  pub steps : List Task
  pub events : List Event
  pub runs : RunsLines (pieces.front ++ pieces.strike ++ pieces.stops) steps events
  pub one : any_runs (run steps).control (servers_at plan point) ≡ true

-- by the fault
abbrev pub FailsAt : Sweep → Point → PointFault → Type 0
FailsAt plan point NoMemory = Unit {0}
FailsAt plan point TooLong = IsTooLong plan point ⊎ RunsOn plan point

-- ---- on the way

-- what a run shows between two texts
pub record RunState : Type 0 where
  pub plant : PlantState
  pub run : RunProgress
  pub events : List Event

-- it is one of a run, whichever steps that carried out
abbrev pub IsRun : RunState → Type 0
IsRun r = IsOfRun r.plant r.run r.events

-- the world that it shows
abbrev pub seen : RunState → World
seen r = shown r.plant r.run r.events

-- Lines were carried out as these steps, and nothing else.
pub record Ran (began : PlantState) (ls : List (List ℕ)) (r : RunState) (steps : List Task) : Type 0 where
  pub has : HasRun began r.plant r.run r.events steps
  pub asks : map as_asked steps ≡ tasks_from 1 ls
  pub lines : r.run.lines ≡ length ls
  pub bytes : r.run.bytes ≡ length (text_of ls)

-- Lines were carried out after others.
pub record CarriesOn (began : PlantState) (ls more : List (List ℕ)) (new : RunState) (steps : List Task) : Type 0 where
  pub further : List Task
  pub asks : map as_asked further ≡ tasks_from (length ls + 1) more
  pub ran : Ran began (ls ++ more) new (steps ++ further)

-- as a text, lines are past a script's limits
abbrev pub ArePast : List (List ℕ) → Type 0
ArePast ls = (most_bytes < length (text_of ls)) ⊎ (most_lines < length ls)

-- The first steps of some lines were carried out: the next one found the journal full, or the lines are past a script's limits.
pub record Halts (began : PlantState) (ls : List (List ℕ)) (r : RunState) : Type 0 where
  pub steps : List Task
  pub stands : Stands steps (seen r) r.events began r.plant
  pub why : BeforeFull (tasks_from 1 ls) steps (seen r) ⊎ (FirstOf (tasks_from 1 ls) steps × ArePast ls)

-- by the fault: of the lines so was a front
abbrev pub HaltsBy : PlantState → List (List ℕ) → RunState → PointFault → Type 0
HaltsBy began ls r NoMemory = Unit {0}
HaltsBy began ls r TooLong = (front : List (List ℕ)) × (rest : List (List ℕ)) × (ls ≡ front ++ rest) × Halts began front r

-- the recovery was carried out after other lines
pub record Recovers (began : PlantState) (ls : List (List ℕ)) (recovery : List (List ℕ)) (old new : RunState) (steps : List Task) (members : List Members) : Type 0 where
  pub further : List Task
  pub ran : Ran began (ls ++ recovery) new (steps ++ further)
  pub are : AreMembers (seen old) (length ls + 1) recovery further members

-- what a call comes to that carries out a text more
abbrev pub Carries : RunState → RunState → List ℕ → Type 0
Carries old new text = (began : PlantState) (ls more : List (List ℕ)) (steps : List Task) → Ran began ls old steps → IsTextOf more text → CarriesOn began ls more new steps

-- and one that couldn't
abbrev pub Fails : RunState → RunState → List ℕ → PointFault → Type 0
Fails old new text fault = (began : PlantState) (ls more : List (List ℕ)) (steps : List Task) → Ran began ls old steps → IsTextOf more text → HaltsBy began (ls ++ more) new fault

-- the lines before the disaster and the tried step were carried out: this stop is the first in that step; before it the phases were these
pub record Approaches (plan : Sweep) (point : Point) (p : Pieces) (began : PlantState) (new : RunState) (stop : FirstStop) (phases : List SessionPhase) : Type 0 where
  pub before : RunState
  pub first : CarriesOn began [] p.front before []
  pub second : CarriesOn began p.front p.strike new first.further
  pub stopped : first_stop plan point (length before.events) new.events ≡ stop
  pub are : phases ≡ phases_of (seen before).control

-- the stops and the recovery were carried out after other lines
pub record Settles (began : PlantState) (ls stops recovery : List (List ℕ)) (names : List Name) (new : RunState) (steps : List Task) (begin : ℕ) (members : List Members) : Type 0 where
  pub at : RunState
  pub third : CarriesOn began ls stops at steps
  pub off : any_runs (seen at).control names ≡ false
  pub is : begin ≡ length at.events
  pub fourth : Recovers began (ls ++ stops) recovery at new (steps ++ third.further) members

-- a server runs after the stops
pub record LosesNone (began : PlantState) (ls stops : List (List ℕ)) (names : List Name) (steps : List Task) (fault : PointFault) : Type 0 where
  pub at : RunState
  pub third : CarriesOn began ls stops at steps
  pub one : any_runs (seen at).control names ≡ true
  pub is : fault ≡ TooLong

-- why that wasn't
abbrev pub FailsAfter : PlantState → List (List ℕ) → List (List ℕ) → List (List ℕ) → List Name → RunState → List Task → PointFault → Type 0
FailsAfter began ls stops recovery names new steps fault = HaltsBy began (ls ++ stops ++ recovery) new fault ⊎ LosesNone began ls stops names steps fault
