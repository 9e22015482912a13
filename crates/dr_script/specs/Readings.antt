-- When a call reads as a reading says.
use Rattle.std.specs.Prelude.{◌≡◌, ℕ, List, Result, Ok, Err}
use Rattle.dr_ids.specs.declared.refusal.Fault.{Fault}
use Rattle.dr_ids.specs.declared.refusal.Fault.TheVariants.{NoMemory, Refused}
use Rattle.dr_ids.specs.declared.refusal.Refusal.{Refusal}
use Rattle.dr_ids.specs.declared.refusal.Refusal.TheVariants.{Syntax}
use Rattle.dr_model.specs.declared.step.Step.{Step}

-- the refusal tells the column that the reading has
abbrev pub TellsColumn : Result (List Step) ℕ → Refusal → Type 0
TellsColumn reading (Syntax column) = reading ≡ Err column
TellsColumn reading _ = ⊥

-- the fault is want of memory, or tells the column that the reading has
abbrev pub TellsFault : Result (List Step) ℕ → Fault → Type 0
TellsFault reading NoMemory = Unit {0}
TellsFault reading (Refused refusal) = TellsColumn reading refusal

-- the steps are those of the reading, or the fault tells its column
abbrev pub ReadsAs : Result (List Step) ℕ → List Step → Result (Unit {0}) Fault → Type 0
ReadsAs reading steps (Ok x) = reading ≡ Ok steps
ReadsAs reading steps (Err fault) = TellsFault reading fault
