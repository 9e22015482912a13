-- When a target is a copy of its source.
use Rattle.std.specs.Prelude.{◌≡◌, ℕ, true, false}
use Rattle.std.specs.FinSet.{contains}
use Rattle.dr_logic.specs.Bytes.{zeros}
use Rattle.dr_plant.specs.State.{PlantState}
use Rattle.dr_config.specs.Table.{ConfigTable}
use Rattle.dr_volume.specs.View.{volume_seen, track_seen}
use Rattle.dr_flash.specs.Views.{view_seen}

-- what target t holds, whose changes are recorded, and what changed on neither side, equals its source's
abbrev pub HoldsUnchanged : PlantState → ConfigTable → ℕ → Type 0
HoldsUnchanged s c t =
    (volume_seen s c t).fields.related ≡ true → (volume_seen s c t).fields.recorded ≡ true → (volume_seen s c t).fields.reversing ≡ false
    → (k : ℕ) → contains (volume_seen s c t).fields.own k ≡ true → contains (volume_seen s c t).fields.source_changes k ≡ false → contains (volume_seen s c t).fields.target_changes k ≡ false
    → track_seen s c t k ≡ track_seen s c (volume_seen s c t).fields.source k

-- the blank tracks of a volume are zeros
abbrev pub BlankAreZeros : PlantState → ConfigTable → ℕ → Type 0
BlankAreZeros s c v = (k : ℕ) → contains (volume_seen s c v).fields.blank k ≡ true → track_seen s c v k ≡ zeros

-- From x to y, target t of s shows what it showed; or its relationship has ended, and s has what t showed, and t is zeros.
abbrev pub Restores : PlantState → PlantState → ConfigTable → ℕ → ℕ → Type 0
Restores x y c s t =
    ((volume_seen y c t).fields.related ≡ true → (k : ℕ) → view_seen y c t k ≡ view_seen x c t k)
    × ((volume_seen y c t).fields.related ≡ false → (k : ℕ) → (track_seen y c s k ≡ view_seen x c t k) × (view_seen y c t k ≡ zeros))
