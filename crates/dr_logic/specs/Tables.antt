-- Tables from numbers, as plain functions with a default.
use Rattle.std.specs.Prelude.{ℕ, if◌then◌else◌, ◌==◌}

-- the table with another value at k
abbrev pub at : {X : Type 0} → (ℕ → X) → ℕ → X → ℕ → X
at f k x q = if q == k then x else f q

-- the table of tables with another value at j, k
abbrev pub at2 : {X : Type 0} → (ℕ → ℕ → X) → ℕ → ℕ → X → ℕ → ℕ → X
at2 f j k x p q = if p == j then (if q == k then x else f p q) else f p q
