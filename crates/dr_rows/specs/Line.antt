-- The lines that are printed of a row.
use Rattle.std.specs.Prelude.{ℕ, ◌+◌, List, [], ◌∷◌, ◌++◌, length, nat_eq, codes, if◌then◌else◌}
use Rattle.std.specs.Fmt.{decimal}
use Rattle.std.specs.List.{flat_map, range_with_len, slice_get, sum}
use Rattle.std.specs.Option.{option_map_or}
use Rattle.dr_plan.specs.Points.{count_at}
use Rattle.dr_plan.specs.Sweep.{Sweep}
use Rattle.dr_plan.specs.declared.points.PlanPlace.{PlanPlace}
use Rattle.dr_plan.specs.declared.points.Point.{Point}
use Rattle.dr_plan.specs.declared.points.Point.TheVariants.{Cut, Gap}
use Rattle.dr_plan.specs.declared.points.Torn.{Torn}
use Rattle.dr_rows.specs.Outcome.{Outcome, Loss}
use Rattle.dr_rows.specs.Cells.{listed, use_name, phase_said, group_cell, decision_cell, members_said, newest_cell, quoted, server_name, torn_cell, least_cell, broken_cell, refused_count, first_refused_cell}
use Rattle.dr_rows.specs.Words.{step_place, gap_place}

-- the names of the cells
abbrev pub heading : List ℕ
heading =
    codes "disaster,use,line,part,server,write,torn,place,phases,group,decision,members,newest,lost,lost writes,age,broken,refused,first refused line" ++ 10 ∷ []

-- a comma and a cell
abbrev pub cell : List ℕ → List ℕ
cell says = 44 ∷ says

-- the number of a part; a dash where a line has no parts
abbrev pub part_cell : ℕ → List ℕ
part_cell part = if nat_eq part 0 then codes "-" else decimal part

-- a line and its part
abbrev pub place_cells : PlanPlace → List ℕ
place_cells p = cell (decimal p.line) ++ cell (part_cell p.part)

-- how many device writes the servers of a disaster make in a step before the one that is cut short
abbrev pub writes_before : List ℕ → ℕ
writes_before writes = sum writes

-- the server, the write, what is torn, and how many device writes come before
abbrev pub write_cells : Sweep → ℕ → ℕ → Torn → List ℕ → List ℕ
write_cells plan disaster server torn writes =
    cell (server_name plan disaster server) ++ cell (decimal (count_at writes server)) ++ cell (torn_cell torn) ++ cell (decimal (writes_before writes))

-- the line and the part, with these; a gap has the step before it
abbrev pub cut_cells : Sweep → Point → List ℕ
cut_cells plan (Cut disaster place server torn writes) = place_cells (step_place plan place) ++ write_cells plan disaster server torn writes
cut_cells plan (Gap disaster place) = place_cells (gap_place plan place) ++ codes ",gap,-,-,-"

-- the disaster of a point
abbrev pub disaster_of : Point → ℕ
disaster_of (Cut disaster place server torn writes) = disaster
disaster_of (Gap disaster place) = disaster

-- the disaster, the use at a place, and where the disaster came
abbrev pub point_cells : Sweep → ℕ → Point → List ℕ
point_cells plan which point = decimal (disaster_of point + 1) ++ cell (use_name plan which) ++ cut_cells plan point

-- the phases of sessions
abbrev pub phase_cells : Outcome → List ℕ
phase_cells row = cell (listed phase_said row.phases)

-- the groups that came back, and their decisions
abbrev pub answer_cells : Outcome → List ℕ
answer_cells row = cell (group_cell row) ++ cell (quoted (decision_cell row))

-- the members after each `@recover`, and the newest write
abbrev pub member_cells : Outcome → List ℕ
member_cells row = cell (listed members_said row.members) ++ cell (newest_cell row.newest)

-- what is lost, and what is broken
abbrev pub loss_cells : Loss → List ℕ
loss_cells loss = cell (decimal loss.count) ++ cell (least_cell loss) ++ cell (decimal loss.age) ++ cell (broken_cell loss.broken)

-- what was refused
abbrev pub refusal_cells : Sweep → Outcome → List ℕ
refusal_cells plan row = cell (decimal (refused_count row.answers)) ++ cell (first_refused_cell plan row.answers)

-- the line of a row with one of its losses, of the use at a place
abbrev pub loss_line : Sweep → Outcome → ℕ → Loss → List ℕ
loss_line plan row which loss = point_cells plan which row.point ++ phase_cells row ++ answer_cells row ++ member_cells row ++ loss_cells loss ++ refusal_cells plan row ++ 10 ∷ []

-- the line of a row for the use at a place
abbrev pub use_line : Sweep → Outcome → ℕ → List ℕ
use_line plan row which = option_map_or (loss_line plan row which) (slice_get row.losses which) []

-- the lines of a row, one for each use
abbrev pub row_lines : Sweep → Outcome → List ℕ
row_lines plan row = flat_map (use_line plan row) (range_with_len 0 (length row.losses))
