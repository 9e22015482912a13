-- The state of a plant in memory.
use Rattle.std.specs.Prelude.{ℕ, List, Option, Some, None, slice_get, length, false}
use Rattle.std.specs.List.{slice_index_or}
use Rattle.dr_logic.specs.Bytes.{zeros}
use Rattle.dr_plant.specs.State.{PlantState}
use Rattle.dr_plant.specs.declared.device.Device.{Device}
use Rattle.dr_plant.specs.declared.model.ModelPlant.{ModelPlant}

-- The owner of a device, and 0 of none.
abbrev pub owner_of : Option Device → ℕ
owner_of None = 0
owner_of (Some d) = d.owner

-- How many blocks a device has, and 0 of none.
abbrev pub size_of : Option Device → ℕ
size_of None = 0
size_of (Some d) = length d.blocks.items

-- Each block of a device, and zeros of none and past its end.
abbrev pub device_block : Option Device → ℕ → List ℕ
device_block None b = zeros
device_block (Some d) b = slice_index_or d.blocks.items b zeros

-- The owner of each device.
abbrev pub owners : List Device → ℕ → ℕ
owners ds d = owner_of (slice_get ds d)

-- The size of each device.
abbrev pub sizes : List Device → ℕ → ℕ
sizes ds d = size_of (slice_get ds d)

-- The blocks of each device.
abbrev pub contents : List Device → ℕ → ℕ → List ℕ
contents ds d b = device_block (slice_get ds d) b

-- The value of each server, and none past the last.
abbrev pub each : {X : Type 0} → X → List X → ℕ → X
each none xs k = slice_index_or xs k none

-- The state of a plant in memory.
abbrev pub state_of : ModelPlant → PlantState
state_of m = record {
  count = length m.devices.items;
  owner = owners m.devices.items;
  size = sizes m.devices.items;
  block = contents m.devices.items;
  on = each false m.on;
  write_fuse = each None m.write_fuses;
  read_fuse = each None m.read_fuses;
  faults = m.faults;
}
