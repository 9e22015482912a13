-- Tables from numbers, as plain functions with a default.
use Rattle.std.specs.Prelude.{◌≡◌, ℕ, false, List, [], ◌∷◌, nat_eq}
use Rattle.std.specs.List.{list_any}

-- no number comes twice
abbrev pub Once : List ℕ → Type 0
Once [] = Unit {0}
Once (x ∷ xs) = (list_any (nat_eq x) xs ≡ false) × Once xs
