-- Rows by place.
use Rattle.std.specs.Prelude.{ℕ, Bool, ◌&&◌, ◌||◌, true, false, not, List, [], ◌∷◌, ◌++◌, fold, max, nat_eq, if◌then◌else◌}
use Rattle.std.specs.List.{list_any}
use Rattle.std.specs.Str.{bytes_eq}
use Rattle.dr_plan.specs.Points.{count_at}
use Rattle.dr_plan.specs.declared.points.Point.{Point}
use Rattle.dr_plan.specs.declared.points.Point.TheVariants.{Cut, Gap}
use Rattle.dr_rows.specs.Outcome.{Outcome, lost_count}
use Rattle.dr_rows.specs.Cells.{kind}

-- both stop the same servers after as many tried steps and writes, whatever is torn
abbrev pub is_beside : Point → Point → Bool
is_beside (Cut d p s t w) (Cut d' p' s' t' w') = nat_eq d d' && nat_eq p p' && nat_eq s s' && nat_eq (count_at w s) (count_at w' s')
is_beside (Gap d p) (Gap d' p') = nat_eq d d' && nat_eq p p'
is_beside _ _ = false

-- the row is of the same place as the first of these; so it is where there are none
abbrev pub joins : List Outcome → Outcome → Bool
joins [] row = true
joins (first ∷ more) row = is_beside first.point row.point

-- places: first the one of these rows, then those of the others. Rows of one place stand together
abbrev pub places_from : List Outcome → List Outcome → List (List Outcome)
places_from here [] = here ∷ []
places_from here (row ∷ rest) = if joins here row then places_from (here ++ row ∷ []) rest else here ∷ places_from (row ∷ []) rest

-- rows by place
unfoldable pub places : List Outcome → List (List Outcome)
places [] = []
places (row ∷ rest) = places_from (row ∷ []) rest

-- the most writes that are lost in one of some rows
abbrev pub most_lost : ℕ → List Outcome → ℕ
most_lost which rows = fold (λ n row. max n (lost_count which row)) 0 rows

-- other groups came back, or with other decisions, or more or fewer writes are lost
abbrev pub differs : Bool → ℕ → Outcome → Outcome → Bool
differs asks which first row = not (bytes_eq (kind asks first) (kind asks row)) || not (nat_eq (lost_count which first) (lost_count which row))

-- what is torn decides: not all rows of a place come to the same
abbrev pub decides : Bool → ℕ → List Outcome → Bool
decides asks which [] = false
decides asks which (first ∷ more) = list_any (differs asks which first) more
