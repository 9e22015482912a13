-- What is said of each line of the recovery.
use Rattle.std.specs.Prelude.{ℕ, ◌+◌, ◌/◌, ◌%◌, Bool, ◌&&◌, ◌||◌, not, List, [], ◌∷◌, ◌++◌, length, count_by, nat_eq, codes, if◌then◌else◌}
use Rattle.std.specs.Fmt.{decimal}
use Rattle.std.specs.List.{flat_map, list_all, list_any, range_with_len, slice_index_or}
use Rattle.dr_plan.specs.Sweep.{Sweep}
use Rattle.dr_rows.specs.declared.row.Answer.{Answer}
use Rattle.dr_rows.specs.Outcome.{Outcome, is_kept}

-- the answer is of the line of the recovery with that number, counted from 1
abbrev pub is_of : ℕ → Answer → Bool
is_of number a = nat_eq a.line number

-- it is of another line, or ok or held
abbrev pub is_fine : ℕ → Answer → Bool
is_fine number a = not (is_of number a) || is_kept a

-- it is that refusal of a line
abbrev pub is_refusal_of : ℕ → ℕ → Answer → Bool
is_refusal_of number code a = is_of number a && nat_eq a.code code

-- the row has an answer of a line
abbrev pub answers_line : ℕ → Outcome → Bool
answers_line number row = list_any (is_of number) row.answers

-- all answers of a line are ok or held, and there are some
abbrev pub keeps_line : ℕ → Outcome → Bool
keeps_line number row = answers_line number row && list_all (is_fine number) row.answers

-- an answer of a line is that refusal
abbrev pub refuses_line : ℕ → ℕ → Outcome → Bool
refuses_line number code row = list_any (is_refusal_of number code) row.answers

-- a refusal's code of two digits, after an E
abbrev pub code_word : ℕ → List ℕ
code_word code = codes "E" ++ decimal (code / 10) ++ decimal (code % 10)

-- at that many points a line was refused so, if at any
abbrev pub refusal_said : ℕ → ℕ → List ℕ
refusal_said code count = if nat_eq count 0 then [] else codes ", " ++ code_word code ++ codes " at " ++ decimal count

-- the refusals of a line, and at how many points each came
unfoldable pub refusals_said : ℕ → List Outcome → List ℕ
refusals_said number rows = flat_map (λ code. refusal_said code (count_by (refuses_line number code) rows)) (range_with_len 1 25)

-- a line of the recovery, which comes after that many lines of the plan: its number in the plan, at how many points it was ok or held, and
-- its refusals
abbrev pub line_told : ℕ → List Outcome → ℕ → List ℕ → List ℕ
line_told before rows number line =
    codes "  " ++ decimal (before + number) ++ codes " " ++ line ++ codes ": ok at " ++ decimal (count_by (keeps_line number) rows) ++ refusals_said number rows ++ 10 ∷ []

-- the line of the recovery at a place, if some row has an answer of it
abbrev pub recovery_line : ℕ → List (List ℕ) → List Outcome → ℕ → List ℕ
recovery_line before lines rows place = if list_any (answers_line (place + 1)) rows then line_told before rows (place + 1) (slice_index_or lines place []) else []

-- what is said of lines of the recovery
abbrev pub recovery_lines : ℕ → List (List ℕ) → List Outcome → List ℕ
recovery_lines before lines rows = flat_map (recovery_line before lines rows) (range_with_len 0 (length lines))

-- what is said of the recovery
unfoldable pub recovery_told : Sweep → List Outcome → List ℕ
recovery_told plan rows = codes "recovery" ++ 10 ∷ [] ++ recovery_lines plan.then_line plan.recovery rows
