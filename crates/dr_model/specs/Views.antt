-- What a track reads as.
use Rattle.std.specs.Prelude.{ℕ, Bool, not, ◌&&◌, List, Option, Some, None, if◌then◌else◌}
use Rattle.std.specs.FinSet.{contains}
use Rattle.dr_model.specs.Layout.{Fields}

-- the source of a target
abbrev pub source_of : Fields → Option ℕ
source_of f = if f.related then Some f.source else None

-- a target shows its source's track where it doesn't hold its own
abbrev pub shows_source : Fields → ℕ → Bool
shows_source f t = f.related && not (contains f.own t)

-- what track t of volume v reads as, by the fields of all volumes and what their tracks contain
abbrev pub view : (ℕ → Fields) → (ℕ → ℕ → List ℕ) → ℕ → ℕ → List ℕ
view fields contents v t = if shows_source (fields v) t then contents (fields v).source t else contents v t
