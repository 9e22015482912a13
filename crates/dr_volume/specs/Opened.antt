-- A volume that was read for a move.
use Rattle.std.specs.Prelude.{◌≡◌, ◌≢◌, ℕ, Bool, true, not, ◌&&◌, is_some}
use Rattle.std.specs.FinSet.{contains}
use Rattle.dr_plant.specs.State.{PlantState}
use Rattle.dr_record.specs.Slots.{slot_of}
use Rattle.dr_config.specs.Table.{ConfigTable, place_of}
use Rattle.dr_model.specs.Layout.{is_staged}
use Rattle.dr_model.specs.Control.{Volume}
use Rattle.dr_volume.specs.declared.opened.Gate.{Gate}
use Rattle.dr_volume.specs.declared.opened.Opened.{Opened}
use Rattle.dr_volume.specs.View.{device_of}
use Rattle.dr_volume.specs.Volume.{Shows}

-- The gate that was read of the volume v is what the plant has: its device, and the slot that this chooses.
pub record IsGate (s : PlantState) (t : ConfigTable) (v : ℕ) (g : Gate) : Type 0 where
  pub device : g.device.0 ≡ device_of t v
  pub slot : slot_of s (device_of t v) ≡ g.slot

-- What was read of the volume v is what the plant has: its gate, and the fields that its device gives.
pub record IsOpened (s : PlantState) (t : ConfigTable) (v : ℕ) (o : Opened) : Type 0 where
  pub gate : IsGate s t v o.gate
  pub shows : Shows s t v o.fields

-- From s to t, what was read of any volume but v is still what the plant has.
abbrev pub OthersOpened : PlantState → PlantState → ConfigTable → ℕ → Type 0
OthersOpened s t c v = (u : ℕ) (o : Opened) → u ≢ v → is_some (place_of c u) ≡ true → IsOpened s c u o → IsOpened t c u o

-- the track stands in its own block: it is neither staged nor blank
abbrev pub in_own_block : Volume → ℕ → Bool
in_own_block w t = not (is_staged w.staged t) && not (contains w.fields.blank t)
