-- The table at the head of a report: a row for each disaster and use, and its cells as wide as the widest of their column.
use Rattle.std.specs.Prelude.{ℕ, ◌-◌, Bool, ◌||◌, List, [], ◌∷◌, ◌++◌, length, map, fold, find, max, count_by, nat_eq, nat_lt, replicate, codes, if◌then◌else◌}
use Rattle.std.specs.Fmt.{decimal}
use Rattle.std.specs.List.{flat_map, range_with_len, slice_index_or}
use Rattle.std.specs.Option.{option_map_or}
use Rattle.dr_model.specs.LineText.{name_text}
use Rattle.dr_plan.specs.Sweep.{Sweep}
use Rattle.dr_plan.specs.declared.points.PlanPlace.{PlanPlace}
use Rattle.dr_plan.specs.declared.points.Point.{Point}
use Rattle.dr_plan.specs.declared.points.Point.TheVariants.{Cut, Gap}
use Rattle.dr_rows.specs.Outcome.{Outcome, broken_at, is_broken, lacks_members, lost_count, lost_age}
use Rattle.dr_rows.specs.Cells.{broken_cell, decision_cell, group_cell, listed, phase_said, use_name}
use Rattle.dr_rows.specs.Findings.{has_no_group, is_above, is_finding_for, lacks_group, wanted}
use Rattle.dr_rows.specs.Kinds.{loses_most, rows_of, servers_of}
use Rattle.dr_rows.specs.declared.table.Layout.{Layout}
use Rattle.dr_rows.specs.declared.table.Layout.TheVariants.{OfReport, OfTwoPlans}
use Rattle.dr_rows.specs.Places.{most_lost}
use Rattle.dr_rows.specs.Words.{gap_place, place_name, point_words, step_place}

-- the name of a column
abbrev pub column_name : ℕ → List ℕ
column_name column =
    if nat_eq column 0 then codes "lost at once" else if nat_eq column 1 then codes "use" else if nat_eq column 2 then codes "points"
    else if nat_eq column 3 then codes "most lost" else if nat_eq column 4 then codes "age" else if nat_eq column 5 then codes "line"
    else if nat_eq column 6 then codes "phases" else if nat_eq column 7 then codes "group" else if nat_eq column 8 then codes "decision"
    else if nat_eq column 9 then codes "shown by" else if nat_eq column 10 then codes "broken" else if nat_eq column 11 then codes "no group"
    else if nat_eq column 12 then codes "fewer members" else if nat_eq column 13 then codes "first finding" else []

-- how many columns there are
abbrev pub column_count : ℕ
column_count = 14

-- a column of numbers
abbrev pub is_number : ℕ → Bool
is_number column = nat_eq column 2 || nat_eq column 3 || nat_eq column 4 || nat_eq column 10 || nat_eq column 11 || nat_eq column 12

-- the names of all columns
abbrev pub column_names : List (List ℕ)
column_names = map column_name (range_with_len 0 column_count)

-- ---- the most writes that are lost

-- the line and part of a point
abbrev pub point_place : Sweep → Point → PlanPlace
point_place plan (Cut disaster place server torn writes) = step_place plan place
point_place plan (Gap disaster place) = gap_place plan place

-- what is said of the first row with the most lost writes: their age, the line and part, the phases, and what came back
abbrev pub worst_cells : Sweep → ℕ → Outcome → List (List ℕ)
worst_cells plan which row = decimal (lost_age which row) ∷ place_name (point_place plan row.point) ∷ listed phase_said row.phases ∷ group_cell row ∷ decision_cell row ∷ point_words plan row.point ∷ []

-- dashes in their place, if nothing is lost
abbrev pub no_worst : List (List ℕ)
no_worst = replicate 6 (codes "-")

-- one or the other, of rows
abbrev pub worst_of : Sweep → ℕ → List Outcome → List (List ℕ)
worst_of plan which rows = option_map_or (worst_cells plan which) (find (loses_most which (most_lost which rows)) rows) no_worst

-- ---- the first finding

-- the kind of a row that is a finding for the use at a place
abbrev pub finding_kind : Sweep → List ℕ → ℕ → Outcome → List ℕ
finding_kind plan numbers which row =
    if is_broken which row then codes "broken " ++ broken_cell (broken_at which row)
    else if is_above plan.bound (lost_count which row) then codes "too many lost"
    else if lacks_group numbers row then codes "group missing"
    else codes "fewer members"

-- the kind, and the words that show the row
abbrev pub finding_said : Sweep → List ℕ → ℕ → Outcome → List ℕ
finding_said plan numbers which row = finding_kind plan numbers which row ++ codes ": " ++ point_words plan row.point

-- the first row that is a finding
abbrev pub finding_cell : Sweep → List ℕ → ℕ → List Outcome → List ℕ
finding_cell plan numbers which rows = option_map_or (finding_said plan numbers which) (find (is_finding_for plan numbers which) rows) (codes "no finding")

-- ---- rows of the table

-- the servers of a disaster, the use at a place, how many points there are, and how many writes are lost at most
abbrev pub head_cells : Sweep → ℕ → List Outcome → ℕ → List (List ℕ)
head_cells plan disaster rows which = listed name_text (servers_of plan disaster) ∷ use_name plan which ∷ decimal (length rows) ∷ decimal (most_lost which rows) ∷ []

-- how many rows are broken, have no group, and have members that don't count
abbrev pub count_cells : Bool → ℕ → List Outcome → List (List ℕ)
count_cells asks which rows = decimal (count_by (is_broken which) rows) ∷ decimal (count_by (has_no_group asks) rows) ∷ decimal (count_by lacks_members rows) ∷ []

-- the cells of the rows of a disaster, for the use at a place
unfoldable pub use_cells : Sweep → Bool → List ℕ → ℕ → List Outcome → ℕ → List (List ℕ)
use_cells plan asks numbers disaster rows which =
    head_cells plan disaster rows which ++ worst_of plan which rows ++ count_cells asks which rows ++ finding_cell plan numbers which rows ∷ []

-- the same for each use
abbrev pub uses_cells : Sweep → Bool → List ℕ → ℕ → List Outcome → List (List (List ℕ))
uses_cells plan asks numbers disaster rows = map (use_cells plan asks numbers disaster rows) (range_with_len 0 (length plan.uses))

-- the same of a disaster
abbrev pub disaster_cells : Sweep → Bool → List ℕ → List Outcome → ℕ → List (List (List ℕ))
disaster_cells plan asks numbers rows disaster = uses_cells plan asks numbers disaster (rows_of disaster rows)

-- the names of the columns, and the rows of all disasters
unfoldable pub table : Sweep → Bool → List Outcome → List (List (List ℕ))
table plan asks rows = column_names ∷ flat_map (disaster_cells plan asks (wanted plan) rows) (range_with_len 0 (length plan.loses))

-- ---- its text

-- the cell of a row in a column
abbrev pub cell_in : ℕ → List (List ℕ) → List ℕ
cell_in column cells = slice_index_or cells column []

-- how wide the widest cell of a column is
abbrev pub width : List (List (List ℕ)) → ℕ → ℕ
width rows column = fold (λ n cells. max n (length (cell_in column cells))) 0 rows

-- the blanks that a cell lacks
abbrev pub blanks : ℕ → List ℕ → List ℕ
blanks wide cell = replicate (wide - length cell) 32

-- a column of numbers: of a report's table those above, and in the table of two plans each after the first two
abbrev pub is_number_in : Layout → ℕ → Bool
is_number_in OfReport column = is_number column
is_number_in OfTwoPlans column = nat_lt 1 column

-- a cell in that width, and no blanks after it: a number stands at the right
abbrev pub at_right : Layout → ℕ → ℕ → List ℕ → List ℕ
at_right layout wide column cell = if is_number_in layout column then blanks wide cell ++ cell else cell

-- the blanks after it: another one stands at the left
abbrev pub blanks_after : Layout → ℕ → ℕ → List ℕ → List ℕ
blanks_after layout wide column cell = if is_number_in layout column then [] else blanks wide cell

-- a cell in that width, before the next one
abbrev pub aligned : Layout → ℕ → ℕ → List ℕ → List ℕ
aligned layout wide column cell = at_right layout wide column cell ++ blanks_after layout wide column cell ++ codes "  "

-- the cell of a row in a column, before the next one
abbrev pub column_said : Layout → List (List (List ℕ)) → List (List ℕ) → ℕ → List ℕ
column_said layout rows cells column = aligned layout (width rows column) column (cell_in column cells)

-- the last one of a row
abbrev pub last_said : Layout → List (List (List ℕ)) → List (List ℕ) → ℕ → List ℕ
last_said layout rows cells column = at_right layout (width rows column) column (cell_in column cells)

-- the line of a row; no blanks stand at its end
unfoldable pub table_line : Layout → List (List (List ℕ)) → List (List ℕ) → List ℕ
table_line layout rows cells =
    flat_map (column_said layout rows cells) (range_with_len 0 (length cells - 1)) ++ last_said layout rows cells (length cells - 1) ++ 10 ∷ []

-- the lines of all rows
abbrev pub lines_of : Layout → List (List (List ℕ)) → List ℕ
lines_of layout rows = flat_map (table_line layout rows) rows

-- the table of a plan and its rows
unfoldable pub table_told : Sweep → Bool → List Outcome → List ℕ
table_told plan asks rows = lines_of OfReport (table plan asks rows)
