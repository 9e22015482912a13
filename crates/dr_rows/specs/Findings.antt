-- Which rows are findings, and what else is one.
use Rattle.std.specs.Prelude.{ℕ, Bool, ◌+◌, ◌&&◌, ◌||◌, true, false, not, List, [], ◌∷◌, length, count_by, nat_eq, nat_lt, Option, Some, None, is_some, Result, Ok, Err, if◌then◌else◌}
use Rattle.std.specs.List.{flat_map, list_any, range_with_len, slice_get, slice_index_or}
use Rattle.std.specs.Option.{option_map_or}
use Rattle.dr_model.specs.declared.step.Step.{Step}
use Rattle.dr_model.specs.declared.step.Step.TheVariants.{Recover}
use Rattle.dr_model.specs.Grammar.{line_of}
use Rattle.dr_plan.specs.Sweep.{Sweep}
use Rattle.dr_rows.specs.declared.row.Answer.{Answer}
use Rattle.dr_rows.specs.Outcome.{Outcome, Loss, gives_group, has_group, lacks_members}
use Rattle.dr_rows.specs.Calm.{Calm, is_announced, is_calm_finding, is_mistaken, is_unannounced}
use Rattle.dr_rows.specs.Refusals.{answers_line, keeps_line}

-- the step is an `@recover`
abbrev pub is_recovery : Step → Bool
is_recovery (Recover session) = true
is_recovery _ = false

-- an `@recover` is among the steps that were read; none is where the line has a fault
abbrev pub recovers_in : Result (List Step) ℕ → Bool
recovers_in (Ok steps) = list_any is_recovery steps
recovers_in (Err column) = false

-- an `@recover` stands in the line
abbrev pub recovers : List ℕ → Bool
recovers line = recovers_in (line_of line)

-- an `@recover` stands among the lines of the recovery
abbrev pub asks_recovery : Sweep → Bool
asks_recovery plan = list_any recovers plan.recovery

-- no group came back, though one was asked for
abbrev pub has_no_group : Bool → Outcome → Bool
has_no_group asks row = asks && not (has_group row)

-- ---- rows

-- that many lost writes are more than the bound, where there is one
abbrev pub is_above : Option ℕ → ℕ → Bool
is_above None n = false
is_above (Some bound) n = nat_lt bound n

-- something is broken, or more is lost than the bound
abbrev pub is_bad : Option ℕ → Loss → Bool
is_bad bound loss = is_some loss.broken || is_above bound loss.count

-- a refusal is announced in the line of the recovery at a place
abbrev pub is_announced_at : Sweep → ℕ → Bool
is_announced_at plan place = is_announced plan (plan.then_line + place + 1)

-- an `@recover` stands in the line of the recovery at a place, and no refusal is announced there
abbrev pub wants_group : Sweep → ℕ → Bool
wants_group plan place = recovers (slice_index_or plan.recovery place []) && not (is_announced_at plan place)

-- the number of that line in the recovery, if so
abbrev pub wanted_at : Sweep → ℕ → List ℕ
wanted_at plan place = if wants_group plan place then (place + 1) ∷ [] else []

-- the lines of the recovery, counted from 1, whose `@recover` is to be answered with a group
abbrev pub wanted : Sweep → List ℕ
wanted plan = flat_map (wanted_at plan) (range_with_len 0 (length plan.recovery))

-- the answer is of one of these lines
abbrev pub is_of_one : List ℕ → Answer → Bool
is_of_one numbers a = list_any (λ n. nat_eq a.line n) numbers

-- it is, and has no group
abbrev pub is_ungrouped : List ℕ → Answer → Bool
is_ungrouped numbers a = is_of_one numbers a && not (gives_group a)

-- some `@recover` of these lines wasn't answered with a group
abbrev pub lacks_group : List ℕ → Outcome → Bool
lacks_group numbers row = list_any (is_ungrouped numbers) row.answers

-- one of its losses is bad, or it lacks a group, or fewer members count than the session has
abbrev pub is_finding : Sweep → List ℕ → Outcome → Bool
is_finding plan numbers row = list_any (is_bad plan.bound) row.losses || lacks_group numbers row || lacks_members row

-- the loss to the use at a place is bad
abbrev pub is_bad_at : Sweep → ℕ → Outcome → Bool
is_bad_at plan which row = option_map_or (is_bad plan.bound) (slice_get row.losses which) false

-- the row is a finding for the use at a place
abbrev pub is_finding_for : Sweep → List ℕ → ℕ → Outcome → Bool
is_finding_for plan numbers which row = is_bad_at plan which row || lacks_group numbers row || lacks_members row

-- ---- lines of the recovery

-- some row has an answer of the line of the recovery at a place, in none it is ok or held, and no refusal is announced there
abbrev pub is_never_kept : Sweep → List Outcome → ℕ → Bool
is_never_kept plan rows place = list_any (answers_line (place + 1)) rows && not (list_any (keeps_line (place + 1)) rows) && not (is_announced_at plan place)

-- there is such a line
abbrev pub has_never_kept : Sweep → List Outcome → Bool
has_never_kept plan rows = list_any (is_never_kept plan rows) (range_with_len 0 (length plan.recovery))

-- ---- all

-- the calm run, a line of the recovery or a row is a finding
abbrev pub has_finding : Sweep → Calm → List Outcome → Bool
has_finding plan calm rows = is_calm_finding plan calm || has_never_kept plan rows || list_any (is_finding plan (wanted plan)) rows

-- ---- how many there are

-- of the calm run: the steps that are refused without an announcement, and the uses that are mistaken
abbrev pub calm_count : Sweep → Calm → ℕ
calm_count plan calm = count_by (is_unannounced plan) calm.told + count_by (is_mistaken calm) plan.uses

-- the lines of the recovery that are ok or held at no point
abbrev pub never_kept_count : Sweep → List Outcome → ℕ
never_kept_count plan rows = count_by (is_never_kept plan rows) (range_with_len 0 (length plan.recovery))

-- all: those, and the rows that are findings
abbrev pub finding_count : Sweep → Calm → List Outcome → ℕ
finding_count plan calm rows = calm_count plan calm + never_kept_count plan rows + count_by (is_finding plan (wanted plan)) rows
