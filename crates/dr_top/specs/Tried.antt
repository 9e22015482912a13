-- What a run of a script comes to that stands in memory, and whose answers nobody hears.
use Rattle.std.specs.Prelude.{◌≡◌, ℕ, ◌⊎◌, true, false, List}
use Rattle.dr_plant.specs.State.{PlantState}
use Rattle.dr_model.specs.declared.event.Event.{Event}
use Rattle.dr_model.specs.Control.{World}
use Rattle.dr_model.specs.Lines.{tasks}
use Rattle.dr_model.specs.Runs.{Task}
use Rattle.dr_io.specs.Pieces.{IsPast}
use Rattle.dr_top.specs.Offline.{script_limits}
use Rattle.dr_top.specs.OpenRuns.{AllOf, FirstOf, BeforeFull}
use Rattle.dr_top.specs.Outcome.{has_refusal}
use Rattle.dr_top.specs.Stands.{Stands}
use Rattle.dr_top.specs.declared.status.Status.{Status}
use Rattle.dr_top.specs.declared.status.Status.TheVariants.{Done, DoneRefused, NoMemory, TooLong}

module _ (script : List ℕ) where
  -- all steps of the script
  abbrev pub AreAll : List Task → Type 0
  AreAll steps = AllOf (tasks script) steps

  -- the first steps of it
  abbrev pub AreFirst : List Task → Type 0
  AreFirst steps = FirstOf (tasks script) steps

  -- those before one that found the journal full
  abbrev pub AreBeforeFull : List Task → World → Type 0
  AreBeforeFull steps w = BeforeFull (tasks script) steps w

  -- the first ones, where the script is past a limit
  pub record AreBeforeLimit (steps : List Task) : Type 0 where
    pub first : AreFirst steps
    pub past : IsPast script_limits script

  -- by the status, in which steps and a world stand
  abbrev pub TriedBy : Status → List Task → World → Type 0
  TriedBy Done steps w = AreAll steps × (has_refusal w.events ≡ false)
  TriedBy DoneRefused steps w = AreAll steps × (has_refusal w.events ≡ true)
  TriedBy NoMemory steps w = AreFirst steps
  TriedBy TooLong steps w = AreBeforeFull steps w ⊎ AreBeforeLimit steps
  TriedBy _ steps w = ⊥

  -- The script was run: steps of it were carried out, and this is how it stands.
  pub record IsTried (status : Status) (events : List Event) (s s' : PlantState) : Type 0 where
    pub world : World
    pub steps : List Task
    pub by : TriedBy status steps world
    pub stands : Stands steps world events s s'
