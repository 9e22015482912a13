-- The two ends of a link.
use Rattle.std.specs.Prelude.{ℕ, Bool, ◌==◌, ◌&&◌, ◌||◌}

-- Whether x and y are the two ends a and b, in the one order or the other.
abbrev pub joins : ℕ → ℕ → ℕ → ℕ → Bool
joins x y a b = (x == a && y == b) || (x == b && y == a)
