-- Tried steps of a plan, each `@run` taken apart into the drains and exchanges to which it comes.
use Rattle.std.specs.Prelude.{◌≡◌, ℕ, ◌⊎◌, Bool, true, false, not, List, [], ◌∷◌, ◌++◌, length, map, Option, Some, None, Result, Ok, All, if◌then◌else◌}
use Rattle.std.specs.Option.{option_map_or}
use Rattle.dr_plant.specs.State.{PlantState, IsFresh}
use Rattle.dr_model.specs.declared.event.Event.{Event}
use Rattle.dr_model.specs.declared.step.Step.{Step}
use Rattle.dr_model.specs.declared.step.Step.TheVariants.{Run}
use Rattle.dr_ids.specs.declared.names.Member.{Member}
use Rattle.dr_ids.specs.declared.refusal.PhaseName.{PhaseName}
use Rattle.dr_model.specs.declared.step.Name.{Name}
use Rattle.dr_model.specs.Control.{Control, World}
use Rattle.dr_model.specs.Forming.{Way, ask, drains, formed, is_draining, master_in, most_turns, next_asked, part, stays, turns}
use Rattle.dr_model.specs.Grammar.{line_of}
use Rattle.dr_model.specs.LineText.{IsWritten, name_fits, step_text}
use Rattle.dr_model.specs.Lines.{tasks_from}
use Rattle.dr_model.specs.Listed.{as_asked}
use Rattle.dr_model.specs.PairEntries.{is_copying}
use Rattle.dr_model.specs.PlanParts.{Plan, name_bytes, server_named}
use Rattle.dr_model.specs.Plans.{drain_plan, has_room}
use Rattle.dr_model.specs.Runs.{Task, after_tasks, run}
use Rattle.dr_model.specs.SessionEntries.{members_on}
use Rattle.dr_laws_runs.specs.Parts.{AreTheRun, AsksFor}
use Rattle.dr_laws_runs.specs.Walks.{AskForFirst, IsPartOf, TellsMore, Walk}
use Rattle.dr_plan.specs.Parts.{IsOneStep}
use Rattle.dr_plan.specs.Points.{calm_lines}
use Rattle.dr_plan.specs.Reading.{parts_from}
use Rattle.dr_plan.specs.Sweep.{Sweep, Tried, texts, is_unbroken}
use Rattle.dr_sweep.specs.declared.apart.RunAsked.{RunAsked}
use Rattle.dr_sweep.specs.declared.fault.PointFault.{PointFault}
use Rattle.dr_sweep.specs.declared.fault.PointFault.TheVariants.{NoMemory, TooLong}
use Rattle.dr_sweep.specs.Comes.{RunState, RunsLines, Ran, HaltsBy, seen}
use Rattle.dr_sweep.specs.Moments.{members_of}
use Rattle.dr_top.specs.Outcome.{is_refusal}

-- the `@run` that a line's one step is
abbrev pub run_in : Result (List Step) ℕ → Option RunAsked
run_in (Ok (Run s n ∷ [])) = Some (record { session = s; groups = n })
run_in _ = None

-- ---- a step that is tried

-- what a task asks for
abbrev pub asked_of : Task → Result Step ℕ
asked_of t = t.asked

-- An `@run` of session s that asks for n groups, in the world before it; the steps that are tried in its place, as parts of its line; and these steps as
-- they were carried out. They ask for the drains and exchanges of the `@run`, one after another, all of them if the journal has room for each and for
-- one more; then they lead to its control state and contents, and tell its events with an answer for each.
pub record AreParts (w : World) (s n : ℕ) (t : Tried) (made : List Tried) (tasks : List Task) : Type 0 where
  pub steps : List Step
  pub some : steps ≡ [] → ⊥
  pub are : made ≡ parts_from t.line 1 steps
  pub of_run : All (IsPartOf s) steps
  pub asked : map asked_of tasks ≡ map Ok steps
  pub follow : AskForFirst w tasks (formed w s n).parts
  pub is_run : has_room (after_tasks w tasks).events ≡ true → AreTheRun w (formed w s n) tasks

-- one that makes no drain and no exchange stays as it is
abbrev pub IsRunApart : World → RunAsked → Tried → List Tried → List Task → Type 0
IsRunApart w r t made tasks = ((formed w r.session r.groups).parts ≡ []) × (made ≡ t ∷ []) ⊎ AreParts w r.session r.groups t made tasks

-- by whether the step is an `@run`
abbrev pub IsApartBy : Option RunAsked → World → Tried → List Tried → List Task → Type 0
IsApartBy None w t made tasks = made ≡ t ∷ []
IsApartBy (Some r) w t made tasks = IsRunApart w r t made tasks

-- the steps that are tried in place of one, and as they were carried out from a world
abbrev pub IsApart : World → Tried → List Tried → List Task → Type 0
IsApart w t made tasks = IsApartBy (run_in (line_of t.text)) w t made tasks

-- ---- all of them

-- the first are those in place of a step, and what comes after it goes on from there
pub record BeginsApart (w : World) (t : Tried) (later : World → List Tried → List Task → Type 0) (made : List Tried) (tasks : List Task) : Type 0 where
  pub first : List Tried
  pub rest : List Tried
  pub cut : made ≡ first ++ rest
  pub steps : List Task
  pub further : List Task
  pub carried : tasks ≡ steps ++ further
  pub each : length steps ≡ length first
  pub are : IsApart w t first steps
  pub others : later (after_tasks w steps) rest further

-- the steps that are tried in place of some, one task for each, from a world on
abbrev pub AreApart : World → List Tried → List Tried → List Task → Type 0
AreApart w [] made tasks = (made ≡ []) × (tasks ≡ [])
AreApart w (t ∷ ts) made tasks = BeginsApart w t (λ u rest further. AreApart u ts rest further) made tasks

-- The plan of which the points are tried: another plan's, with each `@run` taken apart in the run of set-up and tried steps without a disaster.
pub record IsTakenApart (plan apart : Sweep) : Type 0 where
  pub same : apart ≡ record plan { tried = apart.tried }
  pub setup : List Task
  pub tried : List Task
  pub events : List Event
  pub asks : map as_asked setup ≡ tasks_from 1 plan.setup
  pub runs : RunsLines (calm_lines apart) (setup ++ tried) events
  pub are : AreApart (run setup) plan.tried apart.tried tried

-- ---- why it isn't

-- lines in place of a step: its own, or drains and exchanges of the `@run` that it is
abbrev pub AreLinesOf : Tried → List (List ℕ) → Type 0
AreLinesOf t ls =
    (ls ≡ t.text ∷ []) ⊎ ((r : RunAsked) × (run_in (line_of t.text) ≡ Some r) × (steps : List Step) × All (IsPartOf r.session) steps × (ls ≡ map step_text steps))

-- lines up to those in place of a tried step halted
pub record HaltsAtStep (plan : Sweep) (began : PlantState) (r : RunState) : Type 0 where
  pub done : List Tried
  pub here : Tried
  pub left : List Tried
  pub cut : plan.tried ≡ done ++ here ∷ left
  pub made : List Tried
  pub setup : List Task
  pub tried : List Task
  pub asks : map as_asked setup ≡ tasks_from 1 plan.setup
  pub are : AreApart (run setup) done made tried
  pub more : List (List ℕ)
  pub of : AreLinesOf here more
  pub halts : HaltsBy began ((plan.setup ++ texts made) ++ more) r TooLong

-- Set-up and tried steps, with each `@run` taken apart, are past a script's limits, or a step of them found the journal full.
pub record HaltsApart (plan : Sweep) : Type 0 where
  pub began : PlantState
  pub fresh : IsFresh began
  pub state : RunState
  pub why : HaltsBy began plan.setup state TooLong ⊎ HaltsAtStep plan began state

-- by the fault
abbrev pub FailsApart : Sweep → PointFault → Type 0
FailsApart plan NoMemory = Unit {0}
FailsApart plan TooLong = HaltsApart plan

-- ---- on the way

-- steps that are tried stand by themselves
abbrev pub StandAlone : List Tried → Type 0
StandAlone tried = All (λ (t : Tried). is_unbroken t.text ≡ true) tried × All (λ (t : Tried). IsOneStep t.text) tried

-- the event is no refusal
abbrev pub is_well : Option Event → Bool
is_well event = option_map_or (λ e. not (is_refusal e)) event true

-- Steps that are parts of an `@run` of session s were added, and carried out as lines after others; and this holds of them as they were carried out.
pub record CarriesParts (began : PlantState) (ls : List (List ℕ)) (done : List Task) (new : RunState) (s : ℕ) (old_parts parts : List Step) (holds : List Task → Type 0) : Type 0 where
  pub steps : List Step
  pub cut : parts ≡ old_parts ++ steps
  pub tasks : List Task
  pub ran : Ran began (ls ++ map step_text steps) new (done ++ tasks)
  pub asked : map asked_of tasks ≡ map Ok steps
  pub of_run : All (IsPartOf s) steps
  pub written : All IsWritten steps
  pub so : holds tasks

-- how far they come on a way that begins in the world before them
abbrev pub Walks : Bool → (World → Way) → List Task → RunState → List Task → Type 0
Walks on way done new tasks = (v : World) → TellsMore v (run done) → Walk on (run done) (seen new) tasks (way v)

-- they ask for the first parts of a way that begins there
abbrev pub Follows : (World → Way) → List Task → List Task → Type 0
Follows way done tasks = (v : World) → TellsMore v (run done) → AskForFirst (run done) tasks (way v).parts

-- what a call comes to that carries out parts: whether the way goes on after them
abbrev pub AddsParts : RunState → RunState → ℕ → List Step → List Step → (World → Way) → Bool → Type 0
AddsParts old new s old_parts parts way on =
    (began : PlantState) (ls : List (List ℕ)) (done : List Task) → Ran began ls old done → CarriesParts began ls done new s old_parts parts (Walks on way done new)

-- and one that carries out all of them
abbrev pub AddsAll : RunState → RunState → ℕ → List Step → List Step → (World → Way) → Type 0
AddsAll old new s old_parts parts way = (began : PlantState) (ls : List (List ℕ)) (done : List Task) → Ran began ls old done → CarriesParts began ls done new s old_parts parts (Follows way done)

-- lines of parts after others halted
pub record HaltsInParts (began : PlantState) (ls : List (List ℕ)) (new : RunState) (s : ℕ) (fault : PointFault) : Type 0 where
  pub steps : List Step
  pub of_run : All (IsPartOf s) steps
  pub halts : HaltsBy began (ls ++ map step_text steps) new fault

-- and a call that couldn't
abbrev pub FailsInParts : RunState → RunState → ℕ → PointFault → Type 0
FailsInParts old new s fault = (began : PlantState) (ls : List (List ℕ)) (done : List Task) → Ran began ls old done → HaltsInParts began ls new s fault

-- from the world that a run shows, a way is the part for which a step asks
abbrev pub IsPartWay : RunState → Step → (World → Way) → Type 0
IsPartWay old step way = (v : World) → TellsMore v (seen old) → (p : Plan) × AsksFor step (record { world = v; plan = p }) × (way v ≡ part v p)

-- a member is drained if it is in Copy Pending
abbrev pub drained_by : Member → World → Way
drained_by m v = if is_copying m.a.0 v.control then part v (drain_plan v.control m.a.0 None) else stays v

-- before a server is asked to seal, its members are drained
abbrev pub drained_first : ℕ → ℕ → PhaseName → World → Way
drained_first s server phase v = if is_draining phase then drains v (members_on server (members_of v.control s)) else stays v

-- a server is asked for what it owes
abbrev pub asked_way : ℕ → ℕ → PhaseName → World → Way
asked_way s server phase v = ask v s phase (members_of v.control s) server

-- all turns of an `@run`
abbrev pub turns_of : ℕ → ℕ → World → Way
turns_of s n v = turns (most_turns n) v s n false

-- the server that is asked next for a session, and its name
pub record IsNextAsked (k : Control) (s server : ℕ) (name : Name) : Type 0 where
  pub next : next_asked (master_in k s) ≡ Some server
  pub named : server_named k (name_bytes name) ≡ Some server
  pub fits : name_fits name ≡ true

-- a run carried out lines
pub record HasLines (r : RunState) : Type 0 where
  pub began : PlantState
  pub ls : List (List ℕ)
  pub done : List Task
  pub ran : Ran began ls r done

-- steps are tried in place of one, and were carried out after other lines
pub record StepsApart (began : PlantState) (ls : List (List ℕ)) (done : List Task) (new : RunState) (t : Tried) (old_made made : List Tried) : Type 0 where
  pub first : List Tried
  pub cut : made ≡ old_made ++ first
  pub tasks : List Task
  pub ran : Ran began (ls ++ texts first) new (done ++ tasks)
  pub each : length tasks ≡ length first
  pub are : IsApart (run done) t first tasks

abbrev pub GoesApart : RunState → RunState → Tried → List Tried → List Tried → Type 0
GoesApart old new t old_made made = (began : PlantState) (ls : List (List ℕ)) (done : List Task) → Ran began ls old done → StepsApart began ls done new t old_made made

-- lines in place of a step, after others, halted
pub record HaltsInStep (began : PlantState) (ls : List (List ℕ)) (new : RunState) (t : Tried) (fault : PointFault) : Type 0 where
  pub more : List (List ℕ)
  pub of : AreLinesOf t more
  pub halts : HaltsBy began (ls ++ more) new fault

abbrev pub FailsInStep : RunState → RunState → Tried → PointFault → Type 0
FailsInStep old new t fault = (began : PlantState) (ls : List (List ℕ)) (done : List Task) → Ran began ls old done → HaltsInStep began ls new t fault

-- steps are tried in place of some, and were carried out after other lines
pub record AllApart (began : PlantState) (ls : List (List ℕ)) (done : List Task) (new : RunState) (ts made : List Tried) : Type 0 where
  pub tasks : List Task
  pub ran : Ran began (ls ++ texts made) new (done ++ tasks)
  pub are : AreApart (run done) ts made tasks

abbrev pub GoesAllApart : RunState → RunState → List Tried → List Tried → Type 0
GoesAllApart old new ts made = (began : PlantState) (ls : List (List ℕ)) (done : List Task) → Ran began ls old done → AllApart began ls done new ts made

-- steps in place of some were carried out after other lines, and those in place of the next one halted
pub record HaltsAfterSteps (began : PlantState) (ls : List (List ℕ)) (done : List Task) (new : RunState) (ts : List Tried) (fault : PointFault) : Type 0 where
  pub before : List Tried
  pub here : Tried
  pub left : List Tried
  pub cut : ts ≡ before ++ here ∷ left
  pub made : List Tried
  pub tasks : List Task
  pub are : AreApart (run done) before made tasks
  pub halts : HaltsInStep began (ls ++ texts made) new here fault

-- by the fault
abbrev pub HaltsStepsBy : PlantState → List (List ℕ) → List Task → RunState → List Tried → PointFault → Type 0
HaltsStepsBy began ls done new ts NoMemory = Unit {0}
HaltsStepsBy began ls done new ts TooLong = HaltsAfterSteps began ls done new ts TooLong

abbrev pub FailsInSteps : RunState → RunState → List Tried → PointFault → Type 0
FailsInSteps old new ts fault = (began : PlantState) (ls : List (List ℕ)) (done : List Task) → Ran began ls old done → HaltsStepsBy began ls done new ts fault
