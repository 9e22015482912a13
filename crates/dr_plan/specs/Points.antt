-- The scripts of a sweep's points.
use Rattle.std.specs.Prelude.{ℕ, ◌+◌, ◌-◌, ◌==◌, List, [], ◌∷◌, ◌++◌, length, map, take, drop, slice_index, slice_index_or, nat_eq, nat_le, Option, Some, None, Ok, if◌then◌else◌}
use Rattle.std.specs.List.{flat_map, slice_get}
use Rattle.std.specs.Option.{option_map}
use Rattle.dr_model.specs.declared.step.Name.{Name}
use Rattle.dr_model.specs.declared.step.Step.{Step}
use Rattle.dr_model.specs.declared.step.Step.TheVariants.{Stop, StopAfter}
use Rattle.dr_model.specs.declared.step.TornWord.{TornWord}
use Rattle.dr_model.specs.declared.step.TornWord.TheVariants.{Same, Fill}
use Rattle.dr_model.specs.LineText.{step_text}
use Rattle.dr_model.specs.LineWords.{◌>>=◌}
use Rattle.dr_model.specs.Lines.{task, tasks_of, tasks_from}
use Rattle.dr_model.specs.Runs.{Task}
use Rattle.dr_plan.specs.declared.points.PlanPlace.{PlanPlace}
use Rattle.dr_plan.specs.declared.points.Torn.{Torn}
use Rattle.dr_plan.specs.declared.points.Torn.TheVariants.{Unchanged, Zeros, Ones}
use Rattle.dr_plan.specs.declared.points.Point.{Point}
use Rattle.dr_plan.specs.declared.points.Point.TheVariants.{Cut, Gap}
use Rattle.dr_plan.specs.Sweep.{Sweep, Tried, texts}

-- `none`, `00` and `01`
abbrev pub torn_word : Torn → TornWord
torn_word Unchanged = Same
torn_word Zeros = Fill 0
torn_word Ones = Fill 1

-- `@stop NAME`
abbrev pub stop_line : Name → List ℕ
stop_line server = step_text (Stop server)

-- how many device writes a server makes in the tried step before its fuse stops it, by its place in the disaster
abbrev pub count_at : List ℕ → ℕ → ℕ
count_at writes place = slice_index_or writes place 0

-- what a fuse leaves of the block: that of the server that is cut short there has these torn bytes, those of the others leave it as it was
abbrev pub torn_at : ℕ → Torn → ℕ → Torn
torn_at server torn place = if nat_eq place server then torn else Unchanged

-- `@stop NAME after WRITES torn TORN` for each server, of which the first has that place in the disaster
abbrev pub fuses : ℕ → Torn → List ℕ → ℕ → List Name → List Step
fuses server torn writes place [] = []
fuses server torn writes place (name ∷ names) = StopAfter name (count_at writes place) (torn_word (torn_at server torn place)) ∷ fuses server torn writes (place + 1) names

-- the lines that arm the fuses of a disaster's servers
abbrev pub fuse_lines : List Name → ℕ → Torn → List ℕ → List (List ℕ)
fuse_lines names server torn writes = map step_text (fuses server torn writes 0 names)

-- the servers except the one at that place
abbrev pub others : ℕ → List Name → List Name
others server names = take server names ++ drop (server + 1) names

-- the lines of the set-up, and the first tried steps, that many
abbrev pub lines_before : Sweep → ℕ → List (List ℕ)
lines_before plan place = plan.setup ++ texts (take place plan.tried)

-- the lines of the calm run: the set-up and all tried steps
abbrev pub calm_lines : Sweep → List (List ℕ)
calm_lines plan = plan.setup ++ texts plan.tried

-- a stop within a tried step: it comes after those before it, with the servers' fuses armed, and then the other servers are stopped
abbrev pub cut_lines : Sweep → List Name → ℕ → ℕ → Torn → List ℕ → Option (List (List ℕ))
cut_lines plan names place server torn writes =
    slice_get names server >>= λ name. slice_get plan.tried place >>= λ tried.
    Some (lines_before plan place ++ fuse_lines names server torn writes ++ tried.text ∷ map stop_line (others server names) ++ plan.recovery)

-- a stop after that many tried steps
abbrev pub gap_lines : Sweep → List Name → ℕ → Option (List (List ℕ))
gap_lines plan names place =
    if nat_le place (length plan.tried) then Some (lines_before plan place ++ map stop_line names ++ plan.recovery) else None

-- the steps that stop servers at once, in lines from that number on
abbrev pub stop_steps : ℕ → List Name → List Task
stop_steps number [] = []
stop_steps number (name ∷ names) = task number (Ok (Stop name)) ∷ stop_steps (number + 1) names

-- steps of one line each, in lines from that number on
abbrev pub steps_from : ℕ → List Step → List Task
steps_from number [] = []
steps_from number (step ∷ steps) = task number (Ok step) ∷ steps_from (number + 1) steps

-- the steps of a stop within a tried step, with the numbers of their lines
abbrev pub cut_steps : Sweep → List Name → ℕ → ℕ → Torn → List ℕ → Option (List Task)
cut_steps plan names place server torn writes =
    slice_get names server >>= λ name. slice_get plan.tried place >>= λ tried.
    let before : ℕ = length plan.setup + place in
    let number : ℕ = before + 1 + length names in
    Some (tasks_from 1 (lines_before plan place) ++ steps_from (before + 1) (fuses server torn writes 0 names) ++ tasks_of number tried.text ++ stop_steps (number + 1) (others server names)
    ++ tasks_from (number + 1 + length (others server names)) plan.recovery)

-- the steps of a stop after that many tried steps
abbrev pub gap_steps : Sweep → List Name → ℕ → Option (List Task)
gap_steps plan names place =
    let before : ℕ = length plan.setup + place in
    if nat_le place (length plan.tried)
    then Some (tasks_from 1 (lines_before plan place) ++ stop_steps (before + 1) names ++ tasks_from (before + 1 + length names) plan.recovery)
    else None

-- the lines of the script of a point; none where the plan has no such point
unfoldable pub lines_at : Sweep → Point → Option (List (List ℕ))
lines_at plan (Cut disaster place server torn writes) = slice_get plan.loses disaster >>= λ names. cut_lines plan names place server torn writes
lines_at plan (Gap disaster place) = slice_get plan.loses disaster >>= λ names. gap_lines plan names place

-- the steps of the script of a point
unfoldable pub steps_at : Sweep → Point → Option (List Task)
steps_at plan (Cut disaster place server torn writes) = slice_get plan.loses disaster >>= λ names. cut_steps plan names place server torn writes
steps_at plan (Gap disaster place) = slice_get plan.loses disaster >>= λ names. gap_steps plan names place

-- a line with its line feed; before it, a carriage return that is the line's own is kept by a second one
abbrev pub with_end : List ℕ → List ℕ
with_end line = if slice_index line (length line - 1) == 13 then line ++ 13 ∷ 10 ∷ [] else line ++ 10 ∷ []

-- lines as a text
abbrev pub text_of : List (List ℕ) → List ℕ
text_of lines = flat_map with_end lines

-- the script of a point
abbrev pub script_of : Sweep → Point → Option (List ℕ)
script_of plan point = option_map text_of (lines_at plan point)

-- the script of the calm run
abbrev pub calm_script : Sweep → List ℕ
calm_script plan = text_of (calm_lines plan)

-- the place of a tried step in the plan
abbrev pub tried_place : Tried → PlanPlace
tried_place t = record { line = t.line; part = t.part }
