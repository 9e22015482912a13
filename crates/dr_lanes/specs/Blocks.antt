-- When two lists of blocks have the same block at a place.
use Rattle.std.specs.Prelude.{ℕ, ◌≡◌, ◌<◌, List, [], length}
use Rattle.std.specs.List.{slice_index_or}

-- the lists have a block number k, and it has the same bytes in both
abbrev pub IsSameBlock : List (List ℕ) → List (List ℕ) → ℕ → Type 0
IsSameBlock a b k = record {
  in_a : k < length a;
  in_b : k < length b;
  same : slice_index_or a k [] ≡ slice_index_or b k [];
}
