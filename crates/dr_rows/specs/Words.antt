-- The names of lines and parts, and the words that show a point.
use Rattle.std.specs.Prelude.{ℕ, ◌+◌, ◌-◌, List, [], ◌++◌, length, nat_eq, codes, if◌then◌else◌}
use Rattle.std.specs.Fmt.{decimal}
use Rattle.std.specs.List.{slice_get}
use Rattle.std.specs.Option.{option_map_or}
use Rattle.dr_plan.specs.Points.{count_at, tried_place}
use Rattle.dr_plan.specs.Sweep.{Sweep}
use Rattle.dr_plan.specs.declared.points.PlanPlace.{PlanPlace}
use Rattle.dr_plan.specs.declared.points.Point.{Point}
use Rattle.dr_plan.specs.declared.points.Point.TheVariants.{Cut, Gap}
use Rattle.dr_rows.specs.Cells.{server_name, torn_cell}

-- the line and part of a tried step
abbrev pub step_place : Sweep → ℕ → PlanPlace
step_place plan place = option_map_or tried_place (slice_get plan.tried place) (record { line = 0; part = 0 })

-- a gap has the line and part of the step before it, and the first one the line of `here`
abbrev pub gap_place : Sweep → ℕ → PlanPlace
gap_place plan place = if nat_eq place 0 then record { line = length plan.setup + 1; part = 0 } else step_place plan (place - 1)

-- the number of a part, after a dot
abbrev pub part_word : ℕ → List ℕ
part_word part = if nat_eq part 0 then [] else codes "." ++ decimal part

-- the name of a line or part
abbrev pub place_name : PlanPlace → List ℕ
place_name p = decimal p.line ++ part_word p.part

-- the number of a disaster that isn't the first
abbrev pub disaster_word : ℕ → List ℕ
disaster_word disaster = if nat_eq disaster 0 then [] else codes " " ++ decimal (disaster + 1)

-- the program's words that show a point: `script LINE[.PART] SERVER WRITE TORN` or `script LINE[.PART] gap`
abbrev pub point_words : Sweep → Point → List ℕ
point_words plan (Cut disaster place server torn writes) =
    codes "script " ++ place_name (step_place plan place) ++ codes " " ++ server_name plan disaster server ++ codes " " ++ decimal (count_at writes server) ++ codes " " ++ torn_cell torn
    ++ disaster_word disaster
point_words plan (Gap disaster place) = codes "script " ++ place_name (gap_place plan place) ++ codes " gap" ++ disaster_word disaster
