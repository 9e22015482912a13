-- What a call that reads a plan answers.
use Rattle.std.specs.Prelude.{◌≡◌, ℕ, ◌+◌, List, [], ◌∷◌, ◌++◌, length, Result, Ok, Err}
use Rattle.dr_plan.specs.declared.fault.PlanFault.{PlanFault}
use Rattle.dr_plan.specs.declared.fault.PlanFault.TheVariants.{NoMemory, BadLine}
use Rattle.dr_plan.specs.Parts.{IsPlan}
use Rattle.dr_plan.specs.Reading.{Bad}
use Rattle.dr_plan.specs.Sweep.{Sweep}

-- the fault is want of memory, or tells the bad line and its reason
abbrev pub TellsFault : Result Sweep Bad → PlanFault → Type 0
TellsFault reading NoMemory = Unit {0}
TellsFault reading (BadLine line reason) = reading ≡ Err (record { line = line; reason = reason })

-- the plan is the one of the reading, or the fault tells its bad line
abbrev pub ReadsAs : Result Sweep Bad → Result Sweep PlanFault → Type 0
ReadsAs reading (Ok plan) = reading ≡ Ok plan
ReadsAs reading (Err fault) = TellsFault reading fault

-- no plan is these lines
abbrev pub IsNone : List (List ℕ) → Type 0
IsNone lines = (plan : Sweep) → IsPlan lines plan → ⊥

-- lines with a bad one are no plan
abbrev pub IsNoPlan : List (List ℕ) → PlanFault → Type 0
IsNoPlan lines NoMemory = Unit {0}
IsNoPlan lines (BadLine line reason) = IsNone lines

-- the lines begin a plan
abbrev pub Begins : List (List ℕ) → Type 0
Begins lines = (rest : List (List ℕ)) × (plan : Sweep) × IsPlan (lines ++ rest) plan

-- with the next line these begin no plan; if there is none, they are none
abbrev pub Breaks : List (List ℕ) → List (List ℕ) → Type 0
Breaks before [] = IsNone before
Breaks before (line ∷ rest) = Begins (before ++ line ∷ []) → ⊥

-- the lines before that one begin a plan, and with it they begin none; it is the one after the last line if a line is missing
pub record IsFirstBad (lines : List (List ℕ)) (number : ℕ) : Type 0 where
  pub before : List (List ℕ)
  pub after : List (List ℕ)
  pub cut : lines ≡ before ++ after
  pub is : number ≡ length before + 1
  pub begins : Begins before
  pub breaks : Breaks before after

-- the fault tells the first bad line
abbrev pub TellsFirst : List (List ℕ) → PlanFault → Type 0
TellsFirst lines NoMemory = Unit {0}
TellsFirst lines (BadLine line reason) = IsFirstBad lines line
