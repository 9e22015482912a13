-- The numbers that stand in a list of bytes, the highest byte first.
use Rattle.std.specs.Prelude.{ℕ, ◌+◌, ◌*◌, List, slice_index}

-- The number of the two bytes from a place on.
abbrev pub be16_at : List ℕ → ℕ → ℕ
be16_at bytes at = slice_index bytes at * 256 + slice_index bytes (at + 1)

-- The number of the four bytes from a place on.
abbrev pub be32_at : List ℕ → ℕ → ℕ
be32_at bytes at = be16_at bytes at * 65536 + be16_at bytes (at + 2)
