-- The columns of a panel are in the order of line, part and place.
use Rattle.std.proofs.Common.{ℕ, zero, suc, ◌≡◌, ◌+◌, ◌<◌, ◌≤◌, inl, inr, Bool, List, [], ◌∷◌, ◌++◌, refl, sym, subst, ◌∙◌, arith, Option, Some, None}
use Rattle.std.specs.Prelude.{All, filter}
use Rattle.std.specs.List.{flat_map, range_with_len}
use Rattle.std.proofs.lemmas.List.Elements.{All-nil, All-cons, All-head, All-tail, All-append, All-weaker}
use Rattle.dr_plan.specs.Sweep.{Sweep}
use Rattle.dr_rows.specs.Outcome.{Outcome}
use Rattle.dr_chart.specs.declared.columns.Column.{Column}
use Rattle.dr_chart.specs.Columns.{IsBefore, InOrder, PlaceBefore, column_of, column_with, columns, columns_in, gap_column, is_gap, is_write_at, places_in, rows_in, stretch_columns, stretches, write_column}

-- ---- places

-- the place is that or a later one of a device write
abbrev pub PlaceFrom : ℕ → Option ℕ → Type 0
PlaceFrom place (Some other) = place ≤ other
PlaceFrom place None = ⊥

-- the column is of that moment
abbrev pub IsAt : ℕ → Option ℕ → Column → Type 0
IsAt stretch place column = (column.stretch ≡ stretch) × (column.place ≡ place)

-- it is of that stretch, at that place or a later one
abbrev pub IsFrom : ℕ → ℕ → Column → Type 0
IsFrom stretch place column = (column.stretch ≡ stretch) × PlaceFrom place column.place

-- a place comes before all later ones
pub before_later : (place : ℕ) (other : Option ℕ) → PlaceFrom (place + 1) other → PlaceBefore (Some place) other
before_later place (Some other) le = omega arith
before_later place None cc = absurd cc

-- and before the gap
pub before_gap : (place : ℕ) (other : Option ℕ) → PlaceFrom place other → PlaceBefore other None
before_gap place (Some other) le = tt
before_gap place None cc = absurd cc

-- a later place is one from here on
pub from_here : (place : ℕ) (other : Option ℕ) → PlaceFrom (place + 1) other → PlaceFrom place other
from_here place (Some other) le = omega arith
from_here place None cc = absurd cc

-- the place itself is one
pub here : (place : ℕ) → PlaceFrom place (Some place)
here place = omega arith

-- ---- lists

-- each of some columns is before each of others, by what is known of both
pub crossing : (P Q : Column → Type 0) (xs ys : List Column) → ((x y : Column) → P x → Q y → IsBefore x y) → All P xs → All Q ys → All (λ x. All (IsBefore x) ys) xs
crossing P Q xs ys before ps qs = All-weaker P (λ x. All (IsBefore x) ys) (λ x p. All-weaker Q (IsBefore x) (λ y q. before x y p q) ys qs) xs ps

-- columns in order, and then others in order that come after them
pub joined : (xs ys : List Column) → InOrder xs → InOrder ys → All (λ x. All (IsBefore x) ys) xs → InOrder (xs ++ ys)
joined [] ys first second cross = second
joined (x ∷ xs) ys first second cross =
    (All-append (IsBefore x) xs ys first.0 (All-head (λ x. All (IsBefore x) ys) x xs cross), joined xs ys first.1 second (All-tail (λ x. All (IsBefore x) ys) x xs cross))

-- ---- one moment

-- a column alone
pub single : (column : Column) (stretch : ℕ) (place : Option ℕ) → column.stretch ≡ stretch → column.place ≡ place → InOrder (column ∷ []) × All (IsAt stretch place) (column ∷ [])
single column stretch place at is = ((All-nil (IsBefore column), tt), All-cons (IsAt stretch place) column [] (at, is) (All-nil (IsAt stretch place)))

-- the column of a moment
pub one : (asks : Bool) (which stretch : ℕ) (place : Option ℕ) (rows : List Outcome) → InOrder (column_of asks which stretch place rows) × All (IsAt stretch place) (column_of asks which stretch place rows)
one asks which stretch place [] = (tt, All-nil (IsAt stretch place))
one asks which stretch place (first ∷ more) = single (column_with asks which stretch place first (first ∷ more)) stretch place refl refl

-- ---- the device writes of a stretch

-- those from a place on
pub writes : (asks : Bool) (which stretch : ℕ) (rows : List Outcome) (place n : ℕ)
    → InOrder (flat_map (write_column asks which stretch rows) (range_with_len place n)) × All (IsFrom stretch place) (flat_map (write_column asks which stretch rows) (range_with_len place n))
writes asks which stretch rows place zero = (tt, All-nil (IsFrom stretch place))
writes asks which stretch rows place (suc n) =
    let says : ℕ → List Column = write_column asks which stretch rows in
    let first : List Column = says place in
    let more : List Column = flat_map says (range_with_len (place + 1) n) in
    let now = one asks which stretch (Some place) (filter (λ row. is_write_at place row.point) rows) in
    let later = writes asks which stretch rows (place + 1) n in (
      joined first more now.0 later.0
          (crossing (IsAt stretch (Some place)) (IsFrom stretch (place + 1)) first more
          (λ x y at from. inr (at.0 ∙ sym from.0, subst (λ p. PlaceBefore p y.place) (sym at.1) (before_later place y.place from.1))) now.1 later.1),
      All-append (IsFrom stretch place) first more
          (All-weaker (IsAt stretch (Some place)) (IsFrom stretch place) (λ x at. (at.0, subst (PlaceFrom place) (sym at.1) (here place))) first now.1)
          (All-weaker (IsFrom stretch (place + 1)) (IsFrom stretch place) (λ x from. (from.0, from_here place x.place from.1)) more later.1),
    )

-- ---- a stretch

-- its device writes, and then its gap
pub of_stretch : (asks : Bool) (which stretch : ℕ) (rows : List Outcome)
    → InOrder (stretch_columns asks which stretch rows) × All (λ (c : Column). c.stretch ≡ stretch) (stretch_columns asks which stretch rows)
of_stretch asks which stretch rows =
    let first : List Column = flat_map (write_column asks which stretch rows) (range_with_len 0 (places_in rows)) in
    let gap : List Column = gap_column asks which stretch rows in
    let cuts = writes asks which stretch rows 0 (places_in rows) in
    let last = one asks which stretch None (filter (λ row. is_gap row.point) rows) in (
      joined first gap cuts.0 last.0
          (crossing (IsFrom stretch 0) (IsAt stretch None) first gap
          (λ x y from at. inr (from.0 ∙ sym at.0, subst (PlaceBefore x.place) (sym at.1) (before_gap 0 x.place from.1))) cuts.1 last.1),
      All-append (λ (c : Column). c.stretch ≡ stretch) first gap (All-weaker (IsFrom stretch 0) (λ (c : Column). c.stretch ≡ stretch) (λ x from. from.0) first cuts.1)
          (All-weaker (IsAt stretch None) (λ (c : Column). c.stretch ≡ stretch) (λ x at. at.0) gap last.1),
    )

-- ---- all stretches

-- an earlier stretch
pub earlier : (a b stretch : ℕ) → a ≡ stretch → stretch + 1 ≤ b → a < b
earlier a b stretch at from = omega arith

-- the stretch itself is one from here on
pub at_least : (a stretch : ℕ) → a ≡ stretch → stretch ≤ a
at_least a stretch at = omega arith

-- and so is a later one
pub no_less : (a stretch : ℕ) → stretch + 1 ≤ a → stretch ≤ a
no_less a stretch from = omega arith

-- those from a stretch on
pub of_stretches : (asks : Bool) (which : ℕ) (rows : List Outcome) (stretch n : ℕ)
    → InOrder (flat_map (columns_in asks which rows) (range_with_len stretch n)) × All (λ (c : Column). stretch ≤ c.stretch) (flat_map (columns_in asks which rows) (range_with_len stretch n))
of_stretches asks which rows stretch zero = (tt, All-nil (λ (c : Column). stretch ≤ c.stretch))
of_stretches asks which rows stretch (suc n) =
    let says : ℕ → List Column = columns_in asks which rows in
    let first : List Column = says stretch in
    let more : List Column = flat_map says (range_with_len (stretch + 1) n) in
    let now = of_stretch asks which stretch (rows_in stretch rows) in
    let later = of_stretches asks which rows (stretch + 1) n in (
      joined first more now.0 later.0
          (crossing (λ (c : Column). c.stretch ≡ stretch) (λ (c : Column). stretch + 1 ≤ c.stretch) first more (λ x y at from. inl (earlier x.stretch y.stretch stretch at from)) now.1 later.1),
      All-append (λ (c : Column). stretch ≤ c.stretch) first more (All-weaker (λ (c : Column). c.stretch ≡ stretch) (λ (c : Column). stretch ≤ c.stretch) (λ x at. at_least x.stretch stretch at) first now.1)
          (All-weaker (λ (c : Column). stretch + 1 ≤ c.stretch) (λ (c : Column). stretch ≤ c.stretch) (λ x from. no_less x.stretch stretch from) more later.1),
    )

-- the columns of a panel, of any rows
pub in_order : (plan : Sweep) (asks : Bool) (which : ℕ) (rows : List Outcome) → InOrder (columns plan asks which rows)
unfolding columns
in_order plan asks which rows = (of_stretches asks which rows 0 (stretches plan)).0
