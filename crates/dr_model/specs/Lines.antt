-- The steps of a script, line by line.
use Rattle.std.specs.Prelude.{ℕ, ◌+◌, List, [], ◌∷◌, ◌++◌, map, Result, Ok, Err}
use Rattle.std.specs.Str.Lines.{lines}
use Rattle.dr_model.specs.declared.step.Step.{Step}
use Rattle.dr_model.specs.Grammar.{line_of}
use Rattle.dr_model.specs.Runs.{Task}

-- a step of the line with that number; a script doesn't say what an image is going to list
abbrev pub task : ℕ → Result Step ℕ → Task
task number asked = record { line = number; asked = asked; listed = [] }

-- the steps that were read in a line, in order; a line with a fault is one step
abbrev pub tasks_read : ℕ → Result (List Step) ℕ → List Task
tasks_read number (Ok steps) = map (λ (s : Step). task number (Ok s)) steps
tasks_read number (Err column) = task number (Err column) ∷ []

-- the steps of a line of bytes
abbrev pub tasks_of : ℕ → List ℕ → List Task
tasks_of number line = tasks_read number (line_of line)

-- the steps of lines one after another, of which the first has this number
abbrev pub tasks_from : ℕ → List (List ℕ) → List Task
tasks_from number [] = []
tasks_from number (line ∷ rest) = tasks_of number line ++ tasks_from (number + 1) rest

-- the steps of a script, with the numbers of their lines from 1 on
abbrev pub tasks : List ℕ → List Task
tasks script = tasks_from 1 (lines script)
