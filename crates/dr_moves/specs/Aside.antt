-- What a revertible target keeps aside.
use Rattle.std.specs.Prelude.{◌≡◌, ℕ, true, false}
use Rattle.std.specs.FinSet.{contains}
use Rattle.dr_plant.specs.State.{PlantState}
use Rattle.dr_config.specs.Table.{ConfigTable}
use Rattle.dr_model.specs.Layout.{Fields}
use Rattle.dr_volume.specs.View.{volume_seen}

-- what these fields keep aside for a revert isn't blank
abbrev pub KeepsAside : Fields → Type 0
KeepsAside f = f.revertible ≡ true → (k : ℕ) → contains f.previous_own k ≡ true → contains f.blank k ≡ false

-- No track that a revertible target held before its flash is blank, so that it holds them again once the flash is reverted.
pub record AsideFits (s : PlantState) (t : ConfigTable) : Type 0 where
  pub aside : (v : ℕ) → KeepsAside (volume_seen s t v).fields
