use Rattle.std.specs.Prelude.{ℕ, List, ◌+◌, ◌==◌, take}
use Rattle.std.specs.List.{count_by, common_prefix_len}

-- the line that the byte at a place of a text stands in, counted from 1
abbrev pub line_at : List ℕ → ℕ → ℕ
line_at text at = 1 + count_by (λ byte. byte == 10) (take at text)

-- the first line in which the printed text isn't as wanted
abbrev pub differing_line : List ℕ → List ℕ → ℕ
differing_line wanted printed = line_at wanted (common_prefix_len (λ x y. x == y) wanted printed)
