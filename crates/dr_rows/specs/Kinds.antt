-- What is said of each disaster.
use Rattle.std.specs.Prelude.{ℕ, Bool, ◌&&◌, List, [], ◌∷◌, ◌++◌, length, filter, fold, find, count_by, nat_eq, nat_lt, codes, if◌then◌else◌}
use Rattle.std.specs.Fmt.{decimal}
use Rattle.std.specs.List.{flat_map, list_any, range_with_len, slice_index_or}
use Rattle.std.specs.Option.{option_map_or}
use Rattle.std.specs.Str.{bytes_eq}
use Rattle.dr_model.specs.declared.step.Name.{Name}
use Rattle.dr_model.specs.LineText.{name_text}
use Rattle.dr_plan.specs.Sweep.{Sweep}
use Rattle.dr_rows.specs.Outcome.{Outcome, has_refusal, is_broken, lost_count}
use Rattle.dr_rows.specs.Cells.{kind, use_head}
use Rattle.dr_rows.specs.Line.{disaster_of}
use Rattle.dr_rows.specs.Places.{most_lost}
use Rattle.dr_rows.specs.Words.{point_words}

-- the rows of a disaster
abbrev pub rows_of : ℕ → List Outcome → List Outcome
rows_of disaster rows = filter (λ row. nat_eq (disaster_of row.point) disaster) rows

-- a kind joins those that came before it, unless it is one of them
abbrev pub with_kind : List (List ℕ) → List ℕ → List (List ℕ)
with_kind found said = if list_any (bytes_eq said) found then found else found ++ said ∷ []

-- the kinds of rows, each once, in the order in which they first come
unfoldable pub kinds : Bool → List Outcome → List (List ℕ)
kinds asks rows = fold (λ found row. with_kind found (kind asks row)) [] rows

-- the row is of a kind
abbrev pub is_like : Bool → List ℕ → Outcome → Bool
is_like asks said row = bytes_eq said (kind asks row)

-- the rows of a kind
abbrev pub rows_like : Bool → List ℕ → List Outcome → List Outcome
rows_like asks said rows = filter (is_like asks said) rows

-- a count and what is counted
abbrev pub counted : ℕ → List ℕ → List ℕ
counted n words = decimal n ++ words

-- the counts of a kind
unfoldable pub counts : ℕ → ℕ → ℕ → ℕ → List ℕ
counts points most broken refused =
    codes ": " ++ counted points (codes " points, at most ") ++ counted most (codes " lost, ") ++ counted broken (codes " broken, ")
    ++ counted refused (codes " with refusals" ++ 10 ∷ [])

-- what is said of rows of one kind, for the use at a place
abbrev pub tally : ℕ → List Outcome → List ℕ
tally which rows = counts (length rows) (most_lost which rows) (count_by (is_broken which) rows) (count_by has_refusal rows)

-- the line of a kind
abbrev pub kind_line : Bool → ℕ → List Outcome → List ℕ → List ℕ
kind_line asks which rows said = codes "  " ++ said ++ tally which (rows_like asks said rows)

-- the words that show a point, at the end of a line
unfoldable pub shown_by : Sweep → Outcome → List ℕ
shown_by plan row = codes ", shown by: " ++ point_words plan row.point ++ 10 ∷ []

-- that many writes are lost, and some are
abbrev pub loses_most : ℕ → ℕ → Outcome → Bool
loses_most which most row = nat_lt 0 most && nat_eq (lost_count which row) most

-- the line of the worst point
abbrev pub worst_said : Sweep → ℕ → Outcome → List ℕ
worst_said plan which row = codes "  worst: " ++ decimal (lost_count which row) ++ codes " lost" ++ shown_by plan row

-- the first row with the most lost writes, where some are lost
abbrev pub worst_line : Sweep → ℕ → List Outcome → List ℕ
worst_line plan which rows = option_map_or (worst_said plan which) (find (loses_most which (most_lost which rows)) rows) []

-- the servers of a disaster
abbrev pub servers_of : Sweep → ℕ → List Name
servers_of plan disaster = slice_index_or plan.loses disaster []

-- the names of servers that are lost at once
unfoldable pub lost_at_once : List Name → List ℕ
lost_at_once servers = codes "lost at once:" ++ flat_map (λ name. 32 ∷ name_text name) servers ++ 10 ∷ []

-- what is said of the rows of one disaster, for the use at a place
abbrev pub told : Sweep → Bool → List Outcome → ℕ → List ℕ
told plan asks rows which = use_head plan which ++ flat_map (kind_line asks which rows) (kinds asks rows)

-- the same for each use
abbrev pub uses_told : Sweep → Bool → List Outcome → List ℕ
uses_told plan asks rows = flat_map (told plan asks rows) (range_with_len 0 (length plan.uses))

-- what is said of a disaster
unfoldable pub disaster_told : Sweep → Bool → List Outcome → ℕ → List ℕ
disaster_told plan asks rows disaster = lost_at_once (servers_of plan disaster) ++ uses_told plan asks (rows_of disaster rows)

-- what is said of all disasters
unfoldable pub disasters_told : Sweep → Bool → List Outcome → List ℕ
disasters_told plan asks rows = flat_map (disaster_told plan asks rows) (range_with_len 0 (length plan.loses))
