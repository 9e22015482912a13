-- Paths from one logical subsystem to another.
use Rattle.std.specs.Prelude.{ℕ, Bool, not, ◌&&◌, List, [], ◌∷◌, ◌++◌, map, filter, Option, option_map, is_some, nat_eq, if◌then◌else◌}
use Rattle.std.specs.List.{find}

-- A path goes one way. One with a consistency group holds back writes where its target can't be reached.
pub record Path : Type 0 where
  pub src : ℕ
  pub tgt : ℕ
  pub group : Bool

-- the path goes from src to tgt
abbrev pub joins_lss : ℕ → ℕ → Path → Bool
joins_lss src tgt p = nat_eq p.src src && nat_eq p.tgt tgt

-- whether the path from src to tgt has a consistency group; none where it isn't defined
abbrev pub path_in : List Path → ℕ → ℕ → Option Bool
path_in ps src tgt = option_map (λ (p : Path). p.group) (find (joins_lss src tgt) ps)

-- a path that is defined gets the new flag at its place; any other stands at the end
abbrev pub with_path : List Path → ℕ → ℕ → Bool → List Path
with_path ps src tgt group =
    if is_some (path_in ps src tgt) then map (λ (p : Path). if joins_lss src tgt p then record p { group = group } else p) ps
    else ps ++ record { src = src; tgt = tgt; group = group } ∷ []

-- without the path from src to tgt
abbrev pub without_path : List Path → ℕ → ℕ → List Path
without_path ps src tgt = filter (λ (p : Path). not (joins_lss src tgt p)) ps
