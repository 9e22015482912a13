-- Whole lines.
use Rattle.std.specs.Prelude.{◌≡◌, ℕ, ◌⊎◌, List, [], ◌∷◌, ◌++◌}
use Rattle.dr_io.specs.Lines.{IsOpen}

-- whole lines: nothing, or bytes whose last one ends a line
abbrev pub IsClosed : List ℕ → Type 0
IsClosed bytes = (bytes ≡ []) ⊎ ((front : List ℕ) × (bytes ≡ front ++ 10 ∷ []))

-- one line with its end
abbrev pub IsEnded : List ℕ → Type 0
IsEnded bytes = (front : List ℕ) × (bytes ≡ front ++ 10 ∷ []) × IsOpen front
