-- Blocks and tracks, 64 bytes each.
use Rattle.std.specs.Prelude.{ℕ, List, replicate}

-- a block or a track of zeros
unfoldable pub zeros : List ℕ
zeros = replicate 64 0
