-- Two plans side by side: what each loses, as the tables of their reports say it.
use Rattle.std.specs.Prelude.{ℕ, Bool, ◌&&◌, true, false, List, [], ◌∷◌, ◌++◌, length, map, position, replicate, Option, Some, None, is_some, codes, if◌then◌else◌}
use Rattle.std.specs.Fmt.{decimal}
use Rattle.std.specs.List.{flat_map, list_all, range_with_len}
use Rattle.std.specs.Str.{bytes_eq}
use Rattle.dr_model.specs.declared.step.Name.{Name}
use Rattle.dr_model.specs.LineText.{name_text}
use Rattle.dr_model.specs.LineWords.{◌>>=◌}
use Rattle.dr_plan.specs.Above.{is_among}
use Rattle.dr_plan.specs.Sweep.{Sweep, Use as HostUse}
use Rattle.dr_rows.specs.Calm.{Calm}
use Rattle.dr_rows.specs.Cells.{name_at}
use Rattle.dr_rows.specs.Findings.{asks_recovery, finding_count, wanted}
use Rattle.dr_rows.specs.Kinds.{rows_of, servers_of}
use Rattle.dr_rows.specs.Outcome.{Outcome}
use Rattle.dr_rows.specs.declared.table.Layout.TheVariants.{OfTwoPlans}
use Rattle.dr_rows.specs.Table.{cell_in, column_count, column_name, column_names, is_number, lines_of, use_cells}

-- What a sweep of a plan came to.
pub record Swept : Type 0 where
  pub plan : Sweep  -- the plan that was tried
  pub calm : Calm
  pub rows : List Outcome

-- ---- which disasters and uses of two plans are the same

-- each name of the first ones is among the second ones
abbrev pub are_among : List Name → List Name → Bool
are_among names others = list_all (λ name. is_among name others) names

-- both have the same names, in whatever order
abbrev pub is_same_set : List Name → List Name → Bool
is_same_set names others = are_among names others && are_among others names

-- both uses have the same name, or none has one
abbrev pub is_same_use : Option Name → Option Name → Bool
is_same_use (Some name) (Some other) = bytes_eq (name_text name) (name_text other)
is_same_use None None = true
is_same_use _ _ = false

-- the place in another plan of the disaster that takes the same servers as that at a place of a plan
abbrev pub disaster_like : Sweep → Sweep → ℕ → Option ℕ
disaster_like other plan disaster = position (is_same_set (servers_of plan disaster)) other.loses

-- the place in another plan of the use with the same name
abbrev pub use_like : Sweep → Sweep → ℕ → Option ℕ
use_like other plan which = position (λ (u : HostUse). is_same_use (name_at plan which) u.name) other.uses

-- the other plan has both
abbrev pub has_like : Sweep → Sweep → ℕ → ℕ → Bool
has_like other plan disaster which = is_some (disaster_like other plan disaster) && is_some (use_like other plan which)

-- ---- rows

-- the row of a report's table for a disaster and a use
abbrev pub row_cells : Swept → ℕ → ℕ → List (List ℕ)
row_cells swept disaster which =
    use_cells swept.plan (asks_recovery swept.plan) (wanted swept.plan) disaster (rows_of disaster swept.rows) which

-- dashes in the place of a row that a plan hasn't got
abbrev pub no_cells : List (List ℕ)
no_cells = replicate column_count (codes "-")

-- that of another sweep for the same disaster and use, if its plan has both
abbrev pub found_like : Swept → Sweep → ℕ → ℕ → Option (List (List ℕ))
found_like other plan disaster which = disaster_like other.plan plan disaster >>= λ d. use_like other.plan plan which >>= λ w. Some (row_cells other d w)

-- a row that was found, or dashes
abbrev pub or_dashes : Option (List (List ℕ)) → List (List ℕ)
or_dashes (Some cells) = cells
or_dashes None = no_cells

-- the cells of two rows in a column of numbers
abbrev pub both : List (List ℕ) → List (List ℕ) → ℕ → List (List ℕ)
both first second column = if is_number column then cell_in column first ∷ cell_in column second ∷ [] else []

-- servers and use of a row, and the numbers of two rows side by side
abbrev pub side_by_side : List (List ℕ) → List (List ℕ) → List (List ℕ) → List (List ℕ)
side_by_side named first second = cell_in 0 named ∷ cell_in 1 named ∷ flat_map (both first second) (range_with_len 0 column_count)

-- the names of columns, with a letter after each
abbrev pub lettered : List ℕ → List (List ℕ)
lettered letter = map (λ column. column_name column ++ letter) (range_with_len 0 column_count)

-- the names of the columns
unfoldable pub compared_names : List (List ℕ)
compared_names = side_by_side column_names (lettered (codes " A")) (lettered (codes " B"))

-- the row of a disaster and a use of the first plan
unfoldable pub first_row : Swept → Swept → ℕ → ℕ → List (List ℕ)
first_row a b disaster which = side_by_side (row_cells a disaster which) (row_cells a disaster which) (or_dashes (found_like b a.plan disaster which))

-- the rows of a disaster of it
abbrev pub first_rows : Swept → Swept → ℕ → List (List (List ℕ))
first_rows a b disaster = map (first_row a b disaster) (range_with_len 0 (length a.plan.uses))

-- the row of a disaster and a use of the second plan
unfoldable pub second_row : Swept → ℕ → ℕ → List (List ℕ)
second_row b disaster which = side_by_side (row_cells b disaster which) no_cells (row_cells b disaster which)

-- the same, if the first plan hasn't got them
abbrev pub only_second : Swept → Swept → ℕ → ℕ → List (List (List ℕ))
only_second a b disaster which = if has_like a.plan b.plan disaster which then [] else second_row b disaster which ∷ []

-- those of a disaster of it
abbrev pub second_rows : Swept → Swept → ℕ → List (List (List ℕ))
second_rows a b disaster = flat_map (only_second a b disaster) (range_with_len 0 (length b.plan.uses))

-- the names of the columns, the rows of the first plan, and those that only the second one has
unfoldable pub compared : Swept → Swept → List (List (List ℕ))
compared a b = compared_names ∷ flat_map (first_rows a b) (range_with_len 0 (length a.plan.loses)) ++ flat_map (second_rows a b) (range_with_len 0 (length b.plan.loses))

-- ---- the text

-- how many findings a sweep has
abbrev pub found_in : Swept → ℕ
found_in swept = finding_count swept.plan swept.calm swept.rows

-- the last line: how many findings each has
unfoldable pub findings_line : ℕ → ℕ → List ℕ
findings_line first second = codes "findings: " ++ decimal first ++ codes " of A, " ++ decimal second ++ (codes " of B" ++ 10 ∷ [])

-- what is printed of two plans
unfoldable pub comparison : Swept → Swept → List ℕ
comparison a b = lines_of OfTwoPlans (compared a b) ++ findings_line (found_in a) (found_in b)
