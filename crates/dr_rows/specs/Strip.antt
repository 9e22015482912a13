-- The strip: a character for each place of a sweep.
use Rattle.std.specs.Prelude.{ℕ, ◌+◌, ◌-◌, Bool, ◌&&◌, false, List, [], ◌∷◌, ◌++◌, length, map, filter, fold, max, nat_eq, replicate, codes, if◌then◌else◌}
use Rattle.std.specs.Fmt.{decimal}
use Rattle.std.specs.List.{flat_map, list_any, range_with_len, slice_get}
use Rattle.std.specs.Option.{option_map_or}
use Rattle.dr_plan.specs.Sweep.{Sweep, Tried}
use Rattle.dr_plan.specs.declared.points.Point.{Point}
use Rattle.dr_plan.specs.declared.points.Point.TheVariants.{Cut, Gap}
use Rattle.dr_rows.specs.declared.signs.Sign.{Sign}
use Rattle.dr_rows.specs.Outcome.{Outcome, is_broken, lacks_members}
use Rattle.dr_rows.specs.Cells.{no_group, server_name, use_head}
use Rattle.dr_rows.specs.Findings.{has_no_group}
use Rattle.dr_rows.specs.Places.{decides, most_lost, places}
use Rattle.dr_rows.specs.Kinds.{lost_at_once, servers_of}
use Rattle.dr_rows.specs.Line.{disaster_of}
use Rattle.dr_rows.specs.Table.{blanks}
use Rattle.dr_rows.specs.Words.{gap_place, place_name}

-- the character of members and losses, for a use: `m` where fewer members count than there are, else `.` where nothing is lost, and else `o`
abbrev pub loss_character : ℕ → List Outcome → ℕ
loss_character which rows = if list_any lacks_members rows then 109 else if nat_eq (most_lost which rows) 0 then 46 else 111

-- the character of a place, for a use: `!` where a row is broken, else `*` where what is torn decides, else `-` where no group came back though
-- it was asked for, else that of members and losses
abbrev pub character : Bool → ℕ → List Outcome → ℕ
character asks which rows =
    if list_any (is_broken which) rows then 33
    else if decides asks which rows then 42
    else if list_any (has_no_group asks) rows then 45
    else loss_character which rows

-- the point of the first row
abbrev pub point_of : List Outcome → Point
point_of [] = Gap 0 0
point_of (first ∷ more) = first.point

-- a place with its character, and the most writes that are lost there
abbrev pub sign_of : Bool → ℕ → List Outcome → Sign
sign_of asks which rows = record { point = point_of rows; shown = character asks which rows; lost = most_lost which rows }

-- those of all places, in order
abbrev pub signs : Bool → ℕ → List Outcome → List Sign
signs asks which rows = map (sign_of asks which) (places rows)

-- the place is in that tried step, at that server
abbrev pub is_cut_at : ℕ → ℕ → ℕ → Point → Bool
is_cut_at disaster place server (Cut d p s torn writes) = nat_eq d disaster && nat_eq p place && nat_eq s server
is_cut_at disaster place server _ = false

-- it is after that many tried steps
abbrev pub is_gap_at : ℕ → ℕ → Point → Bool
is_gap_at disaster place (Gap d p) = nat_eq d disaster && nat_eq p place
is_gap_at disaster place _ = false

-- it is of the disaster
abbrev pub is_in_disaster : ℕ → Point → Bool
is_in_disaster disaster point = nat_eq (disaster_of point) disaster

-- it is in the tried step with that number, counted from 1, or in the gap after it
abbrev pub is_in_line : ℕ → ℕ → Point → Bool
is_in_line disaster number (Cut d p s torn writes) = nat_eq d disaster && nat_eq (p + 1) number
is_in_line disaster number (Gap d p) = nat_eq d disaster && nat_eq p number

-- the writes that are lost at a place, if it is one of those that are asked for
abbrev pub lost_if : Bool → ℕ → ℕ
lost_if asked lost = if asked then lost else 0

-- the most writes that are lost in the gap after that many tried steps
abbrev pub gap_lost : List Sign → ℕ → ℕ → ℕ
gap_lost found disaster place = fold (λ n (s : Sign). max n (lost_if (is_gap_at disaster place s.point) s.lost)) 0 found

-- the most writes that are lost in the tried step before it or in the gap
abbrev pub line_lost : List Sign → ℕ → ℕ → ℕ
line_lost found disaster place = fold (λ n (s : Sign). max n (lost_if (is_in_line disaster place s.point) s.lost)) 0 found

-- the most writes that are lost in the disaster
abbrev pub disaster_lost : List Sign → ℕ → ℕ
disaster_lost found disaster = fold (λ n (s : Sign). max n (lost_if (is_in_disaster disaster s.point) s.lost)) 0 found

-- the characters of a server in a tried step, one for each device write
abbrev pub cut_signs : List Sign → ℕ → ℕ → ℕ → List ℕ
cut_signs found disaster place server = map (λ (s : Sign). s.shown) (filter (λ (s : Sign). is_cut_at disaster place server s.point) found)

-- the character of a gap
abbrev pub gap_signs : List Sign → ℕ → ℕ → List ℕ
gap_signs found disaster place = map (λ (s : Sign). s.shown) (filter (λ (s : Sign). is_gap_at disaster place s.point) found)

-- a name in six columns
abbrev pub wide : List ℕ → List ℕ
wide name = replicate (6 - length name) 32 ++ name

-- a number, as wide as the greatest of its column
abbrev pub wide_number : ℕ → ℕ → List ℕ
wide_number greatest n = blanks (length (decimal greatest)) (decimal n) ++ decimal n

-- how many writes are lost in a gap, and at most in its line
unfoldable pub lost_said : ℕ → ℕ → ℕ → List ℕ
lost_said greatest gap most = codes " | " ++ wide_number greatest gap ++ codes " lost, worst " ++ wide_number greatest most ++ codes " |"

-- the same of the gap after that many tried steps
abbrev pub lost_column : List Sign → ℕ → ℕ → List ℕ
lost_column found disaster place = lost_said (disaster_lost found disaster) (gap_lost found disaster place) (line_lost found disaster place)

-- the name of a gap, how many writes are lost there and in its line, and its character
abbrev pub gap_column : Sweep → List Sign → ℕ → ℕ → List ℕ
gap_column plan found disaster place = wide (place_name (gap_place plan place)) ++ lost_column found disaster place ++ gap_signs found disaster place ++ codes "|"

-- a server's name and its characters
abbrev pub server_column : Sweep → List Sign → ℕ → ℕ → ℕ → List ℕ
server_column plan found disaster place server = codes " " ++ server_name plan disaster server ++ codes " " ++ cut_signs found disaster place server

-- those of all servers of the disaster
abbrev pub server_columns : Sweep → List Sign → ℕ → ℕ → List ℕ
server_columns plan found disaster place = flat_map (server_column plan found disaster place) (range_with_len 0 (length (servers_of plan disaster)))

-- the tried step at a place
abbrev pub step_text : Sweep → ℕ → List ℕ
step_text plan place = option_map_or (λ (t : Tried). t.text) (slice_get plan.tried place) []

-- the strip of a tried step
unfoldable pub line_strip : Sweep → List Sign → ℕ → ℕ → List ℕ
line_strip plan found disaster place =
    gap_column plan found disaster (place + 1) ++ server_columns plan found disaster place ++ codes "  " ++ step_text plan place ++ 10 ∷ []

-- the strips of all tried steps
abbrev pub line_strips : Sweep → List Sign → ℕ → List ℕ
line_strips plan found disaster = flat_map (line_strip plan found disaster) (range_with_len 0 (length plan.tried))

-- the strips of a disaster and a use
unfoldable pub signs_told : Sweep → List Sign → ℕ → List ℕ
signs_told plan found disaster = gap_column plan found disaster 0 ++ 10 ∷ [] ++ line_strips plan found disaster

-- the same with the name of the use at a place
abbrev pub use_strip : Sweep → Bool → List Outcome → ℕ → ℕ → List ℕ
use_strip plan asks rows disaster which = use_head plan which ++ signs_told plan (signs asks which rows) disaster

-- the strips of all uses
abbrev pub use_strips : Sweep → Bool → List Outcome → ℕ → List ℕ
use_strips plan asks rows disaster = flat_map (use_strip plan asks rows disaster) (range_with_len 0 (length plan.uses))

-- the strips of a disaster
unfoldable pub disaster_strip : Sweep → Bool → List Outcome → ℕ → List ℕ
disaster_strip plan asks rows disaster = lost_at_once (servers_of plan disaster) ++ use_strips plan asks rows disaster

-- the strips of all disasters
abbrev pub disaster_strips : Sweep → Bool → List Outcome → List ℕ
disaster_strips plan asks rows = flat_map (disaster_strip plan asks rows) (range_with_len 0 (length plan.loses))

-- what the strip is
unfoldable pub strip_head : List ℕ
strip_head = codes "strip: of each line the writes lost in the gap after it, and the most lost at one of its points; then the gap's character, and one for each device write" ++ 10 ∷ []

-- what the characters say
unfoldable pub characters_told : List ℕ
characters_told = codes "! a kept write depends on a lost one; * torn bytes decide; m fewer members count; . nothing is lost; o writes are lost; - "

-- both
abbrev pub legend : Bool → List ℕ
legend asks = strip_head ++ characters_told ++ no_group asks ++ 10 ∷ []

-- all strips, after what their characters say
unfoldable pub strip_told : Sweep → Bool → List Outcome → List ℕ
strip_told plan asks rows = legend asks ++ disaster_strips plan asks rows
