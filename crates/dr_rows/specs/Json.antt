-- What `sweep json` prints: a plan, its calm run, the table of its report and its rows, as one JSON object (RFC 8259).
use Rattle.std.specs.Prelude.{ℕ, ◌+◌, Bool, ◌||◌, List, [], ◌∷◌, ◌++◌, length, drop, find, nat_eq, nat_lt, Option, codes, if◌then◌else◌}
use Rattle.std.specs.Fmt.{decimal}
use Rattle.std.specs.List.{flat_map, range_with_len, slice_get}
use Rattle.std.specs.Option.{option_map_or}
use Rattle.std.specs.Str.{bytes_eq}
use Rattle.dr_ids.specs.Spelling.{hex2, hex4}
use Rattle.dr_model.specs.declared.grammar.Item.{Item}
use Rattle.dr_model.specs.declared.step.Name.{Name}
use Rattle.dr_model.specs.LineText.{name_text}
use Rattle.dr_plan.specs.Points.{count_at}
use Rattle.dr_plan.specs.Sweep.{Sweep, Use as HostUse}
use Rattle.dr_plan.specs.declared.points.PlanPlace.{PlanPlace}
use Rattle.dr_plan.specs.declared.points.Point.{Point}
use Rattle.dr_plan.specs.declared.points.Point.TheVariants.{Cut, Gap}
use Rattle.dr_plan.specs.declared.points.Torn.{Torn}
use Rattle.dr_rows.specs.declared.row.Answer.{Answer}
use Rattle.dr_rows.specs.Calm.{Calm, CalmStep, was_announced}
use Rattle.dr_rows.specs.Cells.{broken_cell, decision_cell, group_cell, least_cell, listed, members_said, newest_cell, phase_said, refused_count, server_name, torn_cell, use_name}
use Rattle.dr_rows.specs.Findings.{asks_recovery}
use Rattle.dr_rows.specs.Line.{disaster_of, writes_before}
use Rattle.dr_rows.specs.Outcome.{Outcome, Loss, is_refused}
use Rattle.dr_rows.specs.Table.{cell_in, column_count, column_name, is_number, table}
use Rattle.dr_rows.specs.Words.{gap_place, step_place}

-- ---- JSON. A number is its digits, as `decimal` gives them.

-- no value
abbrev pub null : List ℕ
null = codes "null"

-- a truth value
unfoldable pub truth : Bool → List ℕ
truth is = if is then codes "true" else codes "false"

-- A byte of a string: quote, backslash and control bytes are escaped, and each byte that is no ASCII is U+FFFD. What is printed of a plan has no
-- such byte, since its steps and names are within the grammar.
abbrev pub string_byte : ℕ → List ℕ
string_byte b =
    if nat_eq b 34 || nat_eq b 92 then 92 ∷ b ∷ []
    else if nat_lt b 32 then codes "\\u00" ++ hex2 b
    else if nat_lt 127 b then codes "\\ufffd"
    else b ∷ []

-- a string
unfoldable pub string : List ℕ → List ℕ
string text = codes "\"" ++ flat_map string_byte text ++ codes "\""

-- Items of an array and fields of an object each begin with a comma. The first comma of an array or object is left out.
abbrev pub item : List ℕ → List ℕ
item value = codes "," ++ value

-- the name of a field; nothing in it is to be escaped
unfoldable pub named : List ℕ → List ℕ
named name = codes ",\"" ++ name ++ codes "\":"

-- a field with its value
abbrev pub field : List ℕ → List ℕ → List ℕ
field name value = named name ++ value

-- an array of these items
unfoldable pub array : List ℕ → List ℕ
array items = codes "[" ++ drop 1 items ++ codes "]"

-- an object of these fields
unfoldable pub object : List ℕ → List ℕ
object fields = codes "{" ++ drop 1 fields ++ codes "}"

-- ---- cells of report and rows, of which a dash is no value

-- a text
unfoldable pub text_or_null : List ℕ → List ℕ
text_or_null cell = if bytes_eq cell (codes "-") then null else string cell

-- the digits of a number
unfoldable pub number_or_null : List ℕ → List ℕ
number_or_null cell = if bytes_eq cell (codes "-") then null else cell

-- ---- the plan

-- the names of servers
abbrev pub name_items : List Name → List ℕ
name_items names = flat_map (λ name. item (string (name_text name))) names

-- the servers of a disaster
abbrev pub disaster_item : List Name → List ℕ
disaster_item names = item (array (name_items names))

-- a pair: hosts use the first volume in place of the second one
abbrev pub pair_item : Item → List ℕ
pair_item pair = item (array (item (string (hex4 pair.first)) ++ item (string (hex4 pair.second))))

-- a name that may be missing
abbrev pub name_value : Option Name → List ℕ
name_value name = option_map_or (λ n. string (name_text n)) name null

-- a use
abbrev pub use_item : HostUse → List ℕ
use_item u =
    item
    (object
    (field (codes "name") (name_value u.name)
    ++ field (codes "pairs") (array (flat_map pair_item u.pairs))))

-- more lost writes than that are a finding
abbrev pub bound_value : Option ℕ → List ℕ
bound_value bound = option_map_or (λ n. decimal n) bound null

-- what the plan says of disasters, uses and losses
unfoldable pub plan_fields : Sweep → List ℕ
plan_fields plan =
    field (codes "disasters") (array (flat_map disaster_item plan.loses))
    ++ field (codes "uses") (array (flat_map use_item plan.uses))
    ++ field (codes "at_most") (bound_value plan.bound)

-- ---- the calm run

-- a step that was refused or held
unfoldable pub calm_fields : Sweep → CalmStep → List ℕ
calm_fields plan s =
    field (codes "line") (decimal s.line)
    ++ field (codes "text") (string s.text)
    ++ field (codes "answer") (string s.says)
    ++ field (codes "announced") (truth (was_announced plan s))

-- the same as an item
abbrev pub calm_item : Sweep → CalmStep → List ℕ
calm_item plan s = item (object (calm_fields plan s))

-- ---- the table of the report

-- a space of a column's name is an underscore in its key
abbrev pub key_byte : ℕ → List ℕ
key_byte b = if nat_eq b 32 then codes "_" else b ∷ []

-- the key of a column
abbrev pub column_key : ℕ → List ℕ
column_key column = flat_map key_byte (column_name column)

-- the value of a cell in a column
abbrev pub column_value : ℕ → List ℕ → List ℕ
column_value column cell = if is_number column then number_or_null cell else text_or_null cell

-- the field of a column
abbrev pub column_field : List (List ℕ) → ℕ → List ℕ
column_field cells column = field (column_key column) (column_value column (cell_in column cells))

-- a row of the table
unfoldable pub table_item : List (List ℕ) → List ℕ
table_item cells = item (object (flat_map (column_field cells) (range_with_len 0 column_count)))

-- all rows of it but the first one, which has the names of the columns
abbrev pub table_items : Sweep → List Outcome → List ℕ
table_items plan rows = flat_map table_item (drop 1 (table plan (asks_recovery plan) rows))

-- ---- the rows, with the columns of `heading`

-- the number of a part; none if a line has no parts
abbrev pub part_value : ℕ → List ℕ
part_value part = if nat_eq part 0 then null else decimal part

-- a line and its part
unfoldable pub place_fields : PlanPlace → List ℕ
place_fields p =
    field (codes "line") (decimal p.line)
    ++ field (codes "part") (part_value p.part)

-- the server, the write, what is torn, and how many device writes come before
unfoldable pub write_fields : Sweep → ℕ → ℕ → Torn → List ℕ → List ℕ
write_fields plan disaster server torn writes =
    field (codes "server") (string (server_name plan disaster server))
    ++ field (codes "write") (decimal (count_at writes server))
    ++ field (codes "torn") (string (torn_cell torn))
    ++ field (codes "place") (decimal (writes_before writes))

-- the same of a gap
unfoldable pub gap_fields : List ℕ
gap_fields =
    field (codes "server") (string (codes "gap"))
    ++ field (codes "write") null
    ++ field (codes "torn") null
    ++ field (codes "place") null

-- where the disaster came
abbrev pub cut_fields : Sweep → Point → List ℕ
cut_fields plan (Cut disaster place server torn writes) = place_fields (step_place plan place) ++ write_fields plan disaster server torn writes
cut_fields plan (Gap disaster place) = place_fields (gap_place plan place) ++ gap_fields

-- where the disaster came, with the disaster and the use at a place
unfoldable pub point_fields : Sweep → ℕ → Point → List ℕ
point_fields plan which point =
    field (codes "disaster") (decimal (disaster_of point + 1))
    ++ field (codes "use") (text_or_null (use_name plan which))
    ++ cut_fields plan point

-- the phases of sessions, and what came back
unfoldable pub answer_fields : Outcome → List ℕ
answer_fields row =
    field (codes "phases") (text_or_null (listed phase_said row.phases))
    ++ field (codes "group") (text_or_null (group_cell row))
    ++ field (codes "decision") (text_or_null (decision_cell row))

-- the members after each `@recover`, and the newest write
unfoldable pub member_fields : Outcome → List ℕ
member_fields row =
    field (codes "members") (text_or_null (listed members_said row.members))
    ++ field (codes "newest") (text_or_null (newest_cell row.newest))

-- what is lost, and what is broken
unfoldable pub loss_fields : Loss → List ℕ
loss_fields loss =
    field (codes "lost") (decimal loss.count)
    ++ field (codes "lost_writes") (text_or_null (least_cell loss))
    ++ field (codes "age") (decimal loss.age)
    ++ field (codes "broken") (text_or_null (broken_cell loss.broken))

-- the line of the first refusal, by its number in the plan
abbrev pub first_refused_value : Sweep → List Answer → List ℕ
first_refused_value plan answers = option_map_or (λ (a : Answer). decimal (plan.then_line + a.line)) (find is_refused answers) null

-- what was refused
unfoldable pub refusal_fields : Sweep → List Answer → List ℕ
refusal_fields plan answers =
    field (codes "refused") (decimal (refused_count answers))
    ++ field (codes "first_refused_line") (first_refused_value plan answers)

-- a row with one of its losses, of the use at a place
unfoldable pub row_fields : Sweep → Outcome → ℕ → Loss → List ℕ
row_fields plan row which loss =
    point_fields plan which row.point
    ++ answer_fields row
    ++ member_fields row
    ++ loss_fields loss
    ++ refusal_fields plan row.answers

-- the same as an item
abbrev pub row_item : Sweep → Outcome → ℕ → Loss → List ℕ
row_item plan row which loss = item (object (row_fields plan row which loss))

-- a row for the use at a place
abbrev pub use_row : Sweep → Outcome → ℕ → List ℕ
use_row plan row which = option_map_or (row_item plan row which) (slice_get row.losses which) []

-- a row for each use
abbrev pub row_items : Sweep → Outcome → List ℕ
row_items plan row = flat_map (use_row plan row) (range_with_len 0 (length row.losses))

-- ---- the whole

-- a plan and its calm run, and table and rows of the plan that is tried
abbrev pub json_text : Sweep → Sweep → Calm → List Outcome → List ℕ
json_text plan tried calm rows =
    object
    (field (codes "plan") (object (plan_fields plan))
    ++ field (codes "calm") (array (flat_map (calm_item plan) calm.told))
    ++ field (codes "table") (array (table_items tried rows))
    ++ field (codes "rows") (array (flat_map (row_items tried) rows)))
    ++ 10 ∷ []
