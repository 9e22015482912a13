-- Tables of the numbers of nodes, by volume and track.
use Rattle.std.specs.Prelude.{ℕ, List, [], Vec, nat_eq, slice_index}
use Rattle.std.specs.Option.{option_map_or}
use Rattle.std.specs.Map.{lookup}
use Rattle.std.specs.declared.alloc.Global.{Global}

-- the row of a volume; an empty one where none stands
abbrev pub row_in : List (ℕ × Vec ℕ Global) → ℕ → List ℕ
row_in rows v = option_map_or (λ (row : Vec ℕ Global). row.items) (lookup (nat_eq v) rows) []

-- the number that stands for a volume and a track; 0 where none does
abbrev pub cells : List (ℕ × Vec ℕ Global) → ℕ → ℕ → ℕ
cells rows v = slice_index (row_in rows v)
