-- What a revertible target shows, and what it would show if it went back.
use Rattle.std.specs.Prelude.{◌≡◌, ℕ, true, List, Some, if◌then◌else◌}
use Rattle.std.specs.FinSet.{contains}
use Rattle.dr_model.specs.Moves.{Move, Commit, Revert}
use Rattle.dr_model.specs.Table.{Table}
use Rattle.dr_model.specs.Laws.{source, fields}

-- a target that is revertible
pub record IsRevertible (T : Table) (v : ℕ) : Type 0 where
  pub from : ℕ
  pub related : source (T v) ≡ Some from
  pub revertible : (fields T v).revertible ≡ true

-- what track t of target v was before the flash: its own where v held it then, and else its source's
abbrev pub set_aside : Table → ℕ → ℕ → List ℕ
set_aside T v t = if contains (fields T v).previous_own t then (T v).bytes t else (T (fields T v).source).bytes t

-- the move commits or reverts v
abbrev pub Settles : ℕ → Move → Type 0
Settles v (Commit u a s n) = v ≡ u
Settles v (Revert u a s n) = v ≡ u
Settles v m = ⊥
