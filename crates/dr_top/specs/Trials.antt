-- How `trial` ends: what the script of a trial came to.
use Rattle.std.specs.Prelude.{◌≡◌, ℕ, List, ◌∷◌, [], ◌++◌, length, nat_eq, Option, codes, if◌then◌else◌}
use Rattle.std.specs.List.{count_by, fold}
use Rattle.std.specs.Fmt.{decimal}
use Rattle.std.specs.Str.Lines.{lines}
use Rattle.dr_logic.specs.Counts.{Counted}
use Rattle.dr_plant.specs.State.{PlantState}
use Rattle.dr_model.specs.declared.event.Event.{Event}
use Rattle.dr_model.specs.declared.event.Event.TheVariants.{Recovered}
use Rattle.dr_model.specs.Control.{World}
use Rattle.dr_model.specs.Runs.{Task}
use Rattle.dr_gen.specs.Trial.{script_text}
use Rattle.dr_io.specs.Given.{Gave, GavePart}
use Rattle.dr_top.specs.Outcome.{is_refusal, is_write_fault}
use Rattle.dr_top.specs.Stands.{Stands}
use Rattle.dr_top.specs.Tried.{AreAll, AreFirst, AreBeforeFull}
use Rattle.dr_top.specs.declared.report.Report.{Report}
use Rattle.dr_top.specs.declared.status.Status.{Status}
use Rattle.dr_top.specs.declared.status.Status.TheVariants.{Done, DoneRefused, Usage, ReadFault, WriteFault, NoMemory, TooLong, BadImage, Contradiction, NoMembers}

-- how many answers of a journal are refusals
abbrev pub refusals : List Event → ℕ
refusals events = count_by is_refusal events

-- the group that was recovered last, where this one was before the event
abbrev pub group_after : ℕ → Event → ℕ
group_after group (Recovered session n) = n
group_after group _ = group

-- the group that was recovered last in a journal; 0 where the last recovery found none, or there was none
abbrev pub last_group : List Event → ℕ
last_group events = fold group_after 0 events

-- a group as it is printed
abbrev pub group_word : ℕ → List ℕ
group_word group = if nat_eq group 0 then codes "none" else decimal group

-- three lines: on the number of lines, and on the answers and recoveries of a journal
abbrev pub summary_text : ℕ → List Event → List ℕ
summary_text count events = codes "lines " ++ (decimal count ++ (codes "\nrefused " ++ (decimal (refusals events) ++ (codes "\ngroup " ++ (group_word (last_group events) ++ 10 ∷ [])))))

-- what the trial of a number prints, by the journal of its script
abbrev pub trial_text : ℕ → List Event → List ℕ
trial_text n events = summary_text (length (lines (script_text n))) events

-- the same with its status
abbrev pub summary_report : ℕ → List Event → Report
summary_report count events = record { status = Done; text = summary_text count events }

module _ {K : Type 0} (n : ℕ) (written : K → Option (List ℕ)) (sink sink' : K) where
  -- why a trial ended with its status, which steps of its script were carried out, and what was put: without all of them nothing
  abbrev pub EndsTrial : Status → List Task → World → Type 0
  EndsTrial Done steps w = AreAll (script_text n) steps × Gave written sink sink' (trial_text n w.events)
  EndsTrial DoneRefused steps w = ⊥
  EndsTrial Usage steps w = ⊥
  EndsTrial ReadFault steps w = ⊥
  EndsTrial WriteFault steps w = AreAll (script_text n) steps × GavePart written sink sink' (trial_text n w.events)
  EndsTrial NoMemory steps w = AreFirst (script_text n) steps × (sink' ≡ sink)
  EndsTrial TooLong steps w = AreBeforeFull (script_text n) steps w × (sink' ≡ sink)
  EndsTrial BadImage steps w = ⊥
  EndsTrial Contradiction steps w = ⊥
  EndsTrial NoMembers steps w = ⊥

  -- A trial: steps of its script were carried out, and this is how it stands. The sink counted a fault exactly where the status says so.
  pub record IsTrial (write_faults : K → ℕ) (status : Status) (events : List Event) (s s' : PlantState) : Type 0 where
    pub world : World
    pub steps : List Task
    pub ends : EndsTrial status steps world
    pub writes : Counted (is_write_fault status) (write_faults sink) (write_faults sink')
    pub stands : Stands steps world events s s'
