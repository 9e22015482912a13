-- The columns of a panel: the moments of a disaster, in order.
use Rattle.std.specs.Prelude.{◌≡◌, ℕ, ◌+◌, ◌<◌, ◌%◌, ◌⊎◌, Bool, true, false, List, [], ◌∷◌, ◌++◌, length, filter, fold, max, nat_eq, All, Option, Some, None, if◌then◌else◌}
use Rattle.std.specs.List.{flat_map, list_any, range_with_len, slice_get}
use Rattle.dr_plan.specs.Sweep.{Sweep}
use Rattle.dr_plan.specs.declared.points.Point.{Point}
use Rattle.dr_plan.specs.declared.points.Point.TheVariants.{Cut, Gap}
use Rattle.dr_rows.specs.declared.row.Answer.{Answer}
use Rattle.dr_rows.specs.Line.{writes_before}
use Rattle.dr_rows.specs.Outcome.{Outcome, groups_in, is_broken, lacks_members}
use Rattle.dr_rows.specs.Places.{decides, most_lost}
use Rattle.dr_chart.specs.declared.columns.Column.{Column}
use Rattle.dr_chart.specs.declared.columns.Mark.{Mark}
use Rattle.dr_chart.specs.declared.columns.Mark.TheVariants.{Group, NoGroup, NoSession, Torn}

-- how many stretches a plan has: the gap before the first tried step, and each tried step with the gap after it
abbrev pub stretches : Sweep → ℕ
stretches plan = length plan.tried + 1

-- in which of them a point is
abbrev pub stretch_of : Point → ℕ
stretch_of (Cut disaster step server torn writes) = step + 1
stretch_of (Gap disaster step) = step

-- the rows of a stretch
abbrev pub rows_in : ℕ → List Outcome → List Outcome
rows_in stretch rows = filter (λ row. nat_eq (stretch_of row.point) stretch) rows

-- a device write is cut short at the point, after that many of the disaster's servers
abbrev pub is_write_at : ℕ → Point → Bool
is_write_at place (Cut disaster step server torn writes) = nat_eq (writes_before writes) place
is_write_at place (Gap disaster step) = false

-- the point is a gap
abbrev pub is_gap : Point → Bool
is_gap (Cut disaster step server torn writes) = false
is_gap (Gap disaster step) = true

-- one more than the place of a device write, and 0 of a gap
abbrev pub after_place : Point → ℕ
after_place (Cut disaster step server torn writes) = writes_before writes + 1
after_place (Gap disaster step) = 0

-- how many places there are, up to that of the last device write
abbrev pub places_in : List Outcome → ℕ
places_in rows = fold (λ n row. max n (after_place row.point)) 0 rows

-- what the answers with a group say: the number of the first one, or that none came back
abbrev pub group_mark : Bool → List Answer → Mark
group_mark asks [] = if asks then NoGroup else NoSession
group_mark asks (a ∷ more) = Group (a.b % 6)

-- the colour of a column: that of the first row's group, or that what is torn decides
abbrev pub mark_of : Bool → ℕ → Outcome → List Outcome → Mark
mark_of asks which first rows = if decides asks which rows then Torn else group_mark asks (groups_in first)

-- the column of a moment of a stretch, by its first row and all of its rows; the place is that of a device write, or none for the gap
abbrev pub column_with : Bool → ℕ → ℕ → Option ℕ → Outcome → List Outcome → Column
column_with asks which stretch place first rows =
    record { stretch = stretch; place = place; lost = most_lost which rows; mark = mark_of asks which first rows; broken = list_any (is_broken which) rows; short = list_any lacks_members rows; phase = slice_get first.phases 0 }

-- that column, if the moment has rows
abbrev pub column_of : Bool → ℕ → ℕ → Option ℕ → List Outcome → List Column
column_of asks which stretch place [] = []
column_of asks which stretch place (first ∷ more) = column_with asks which stretch place first (first ∷ more) ∷ []

-- the column of the device writes at a place
abbrev pub write_column : Bool → ℕ → ℕ → List Outcome → ℕ → List Column
write_column asks which stretch rows place = column_of asks which stretch (Some place) (filter (λ row. is_write_at place row.point) rows)

-- the column of a gap
abbrev pub gap_column : Bool → ℕ → ℕ → List Outcome → List Column
gap_column asks which stretch rows = column_of asks which stretch None (filter (λ row. is_gap row.point) rows)

-- the columns of the rows of a stretch: its device writes by their places, and its gap last
abbrev pub stretch_columns : Bool → ℕ → ℕ → List Outcome → List Column
stretch_columns asks which stretch rows = flat_map (write_column asks which stretch rows) (range_with_len 0 (places_in rows)) ++ gap_column asks which stretch rows

-- the columns of a stretch of some rows
abbrev pub columns_in : Bool → ℕ → List Outcome → ℕ → List Column
columns_in asks which rows stretch = stretch_columns asks which stretch (rows_in stretch rows)

-- the columns of all stretches
unfoldable pub columns : Sweep → Bool → ℕ → List Outcome → List Column
columns plan asks which rows = flat_map (columns_in asks which rows) (range_with_len 0 (stretches plan))

-- ---- their order

-- a device write comes before one of a greater place, and before the gap
abbrev pub PlaceBefore : Option ℕ → Option ℕ → Type 0
PlaceBefore (Some place) (Some other) = place < other
PlaceBefore (Some place) None = Unit {0}
PlaceBefore None other = ⊥

-- a column is of an earlier line or part than another, or of the same and of an earlier place
abbrev pub IsBefore : Column → Column → Type 0
IsBefore column other = (column.stretch < other.stretch) ⊎ ((column.stretch ≡ other.stretch) × PlaceBefore column.place other.place)

-- columns are in the order of line, part and place: each is before all that come after it
abbrev pub InOrder : List Column → Type 0
InOrder [] = Unit {0}
InOrder (column ∷ more) = All (IsBefore column) more × InOrder more
