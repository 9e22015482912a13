-- Rows that say which links are down: one for each server, with a truth value for each other server.
use Rattle.std.specs.Prelude.{◌≡◌, ℕ, ◌<◌, Bool, false, List, [], length, replicate, slice_index_or, slice_set}

-- Whether the link from x to y is down; beyond the rows it isn't.
unfoldable pub is_down : List (List Bool) → ℕ → ℕ → Bool
is_down rows x y = slice_index_or (slice_index_or rows x []) y false

-- The rows with the link from a to b set, in this direction alone.
unfoldable pub set_from : List (List Bool) → ℕ → ℕ → Bool → List (List Bool)
set_from rows a b down = slice_set rows a (slice_set (slice_index_or rows a []) b down)

-- The rows with the link between a and b set, in both directions.
abbrev pub set_between : List (List Bool) → ℕ → ℕ → Bool → List (List Bool)
set_between rows a b down = set_from (set_from rows a b down) b a down

-- No link is down.
unfoldable pub none_down : List (List Bool)
none_down = replicate 8 (replicate 8 false)

-- There are eight rows, each of eight.
pub record IsSquare (rows : List (List Bool)) : Type 0 where
  pub servers : length rows ≡ 8
  pub ends : (x : ℕ) → x < 8 → length (slice_index_or rows x []) ≡ 8
