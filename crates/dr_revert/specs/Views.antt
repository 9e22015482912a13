-- What a target reads as before its flash, as long as that may be taken back.
use Rattle.std.specs.Prelude.{ℕ, List}
use Rattle.dr_plant.specs.State.{PlantState}
use Rattle.dr_config.specs.Table.{ConfigTable}
use Rattle.dr_model.specs.Layout.{Fields}
use Rattle.dr_model.specs.Views.{view}
use Rattle.dr_volume.specs.View.{volume_seen, track_seen}

-- the fields of a target that holds what it kept aside
abbrev pub set_back : Fields → Fields
set_back f = record f { own = f.previous_own }

-- what track t of volume v read as before the flash: as a view, by what the target kept aside
abbrev pub previous_view : (ℕ → Fields) → (ℕ → ℕ → List ℕ) → ℕ → ℕ → List ℕ
previous_view fields contents v t = view (λ u. set_back (fields u)) contents v t

-- on a plant
abbrev pub previous_seen : PlantState → ConfigTable → ℕ → ℕ → List ℕ
previous_seen s t = previous_view (λ u. (volume_seen s t u).fields) (track_seen s t)
