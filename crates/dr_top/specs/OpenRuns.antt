-- A run that goes on: texts are carried out one after another, and their lines are numbered on.
use Rattle.std.specs.Prelude.{◌≡◌, ℕ, ◌+◌, ◌<◌, ◌≤◌, ◌⊎◌, Bool, true, false, List, [], ◌++◌, length, map, take}
use Rattle.std.specs.Option.{option_map_or}
use Rattle.std.specs.Str.Lines.{lines}
use Rattle.dr_plant.specs.State.{PlantState}
use Rattle.dr_config.specs.Table.{ConfigTable}
use Rattle.dr_io.specs.Lines.{most_bytes, most_lines}
use Rattle.dr_model.specs.declared.event.Event.{Event}
use Rattle.dr_model.specs.Control.{Control, World}
use Rattle.dr_model.specs.Lines.{tasks_from}
use Rattle.dr_model.specs.Listed.{as_asked}
use Rattle.dr_model.specs.PlanParts.{server_named}
use Rattle.dr_model.specs.Runs.{Task}
use Rattle.dr_steps.specs.Here.{here, IsReady}
use Rattle.dr_steps.specs.declared.tables.Tables.{Tables}
use Rattle.dr_top.specs.Followed.{IsFull, LacksWithin}
use Rattle.dr_top.specs.Outcome.{has_refusal}
use Rattle.dr_top.specs.Stands.{Stands}
use Rattle.dr_top.specs.declared.status.Status.{Status}
use Rattle.dr_top.specs.declared.status.Status.TheVariants.{Done, DoneRefused, NoMemory, TooLong}

-- ---- how far a run is

-- what a run has beside its plant and its journal: its configuration and its tables, and of how many lines and bytes of script it was given
-- the steps
pub record RunProgress : Type 0 where
  pub config : ConfigTable
  pub tables : Tables
  pub lines : ℕ
  pub bytes : ℕ

-- the world that a run shows on its plant, with its journal
abbrev pub shown : PlantState → RunProgress → List Event → World
shown s r events = here s r.config r.tables events

-- the server of that name runs; not so if there is none
abbrev pub runs_named : Control → List ℕ → Bool
runs_named k name = option_map_or k.on (server_named k name) false

-- A run that began on a plant carried out these steps, and this is how it stands.
pub record HasRun (s0 s : PlantState) (r : RunProgress) (events : List Event) (steps : List Task) : Type 0 where
  pub stands : Stands steps (shown s r events) events s0 s
  pub ready : IsReady s r.config r.tables events

-- Plant and journal are those of a run, whichever steps it carried out.
pub record IsOfRun (s : PlantState) (r : RunProgress) (events : List Event) : Type 0 where
  pub began : PlantState
  pub steps : List Task
  pub has : HasRun began s r events steps

-- A plant is that of a run, whatever its journal tells.
pub record IsPlantOf (r : RunProgress) (s : PlantState) : Type 0 where
  pub events : List Event
  pub is : IsOfRun s r events

-- A run, whatever its plant and its journal are.
pub record IsAnyRun (r : RunProgress) : Type 0 where
  pub plant : PlantState
  pub events : List Event
  pub is : IsOfRun plant r events

-- ---- which of the steps that are asked for were carried out

module _ (asked : List Task) where
  -- all of them
  abbrev pub AllOf : List Task → Type 0
  AllOf steps = map as_asked steps ≡ asked

  -- the first of them
  pub record FirstOf (steps : List Task) : Type 0 where
    pub done : ℕ
    pub within : done ≤ length asked
    pub same : map as_asked steps ≡ take done asked

  -- those before one that found the journal full
  pub record BeforeFull (steps : List Task) (w : World) : Type 0 where
    pub first : FirstOf steps
    pub full : IsFull first.done asked w

-- the first steps of some lines, of which the first has this number, before the place where memory was wanting
pub record BeforeWant (number : ℕ) (ls : List (List ℕ)) (steps : List Task) (w : World) : Type 0 where
  pub first : FirstOf (tasks_from number ls) steps
  pub place : LacksWithin number ls first.done w

-- ---- one text more

module _ (text : List ℕ) (r : RunProgress) where
  -- the steps that it asks for
  abbrev pub steps_on : List Task
  steps_on = tasks_from (r.lines + 1) (lines text)

  -- with it the texts of a run pass a script's limits; a line is ended by the end of its text
  abbrev pub PassesLimits : Type 0
  PassesLimits = (most_bytes < r.bytes + length text) ⊎ (most_lines < r.lines + length (lines text))

  module _ (r' : RunProgress) where
    -- with it they are within these limits, and it is counted
    pub record IsCounted : Type 0 where
      pub more_lines : r'.lines ≡ r.lines + length (lines text)
      pub few : r'.lines ≤ most_lines
      pub more_bytes : r'.bytes ≡ r.bytes + length text
      pub short : r'.bytes ≤ most_bytes

    module _ (s s' : PlantState) (more : List Task) (told : List Event) where
      -- nothing was done
      pub record IsLeft : Type 0 where
        pub no_step : more ≡ []
        pub none_told : told ≡ []
        pub run_same : r' ≡ r
        pub plant_same : s' ≡ s

      -- by the status, which steps of it were carried out, and lead to a world
      abbrev pub EndsText : Status → World → Type 0
      EndsText Done w = IsCounted × AllOf steps_on more × (has_refusal told ≡ false)
      EndsText DoneRefused w = IsCounted × AllOf steps_on more × (has_refusal told ≡ true)
      EndsText NoMemory w = IsCounted × BeforeWant (r.lines + 1) (lines text) more w
      EndsText TooLong w = (IsCounted × BeforeFull steps_on more w) ⊎ (PassesLimits × IsLeft)
      EndsText _ w = ⊥

    -- A run that had carried out these steps carried out more of them, those of the text or the first ones, and this is how it stands.
    pub record GoesOn (s0 s s' : PlantState) (events events' : List Event) (steps : List Task) (status : Status) : Type 0 where
      pub more : List Task
      pub told : List Event
      pub tells : events' ≡ events ++ told
      pub ends : EndsText s s' more told status (shown s' r' events')
      pub goes : HasRun s0 s' r' events' (steps ++ more)
