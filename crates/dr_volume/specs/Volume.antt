-- What is read of a volume: where it lies, and the fields that its device gives.
use Rattle.std.specs.Prelude.{◌≡◌, ℕ, ◌≤◌, Some, option_map, slice_get, is_some}
use Rattle.dr_logic.specs.Bytes.{zeros}
use Rattle.dr_ids.specs.Sizes.{most_tracks}
use Rattle.dr_plant.specs.State.{PlantState}
use Rattle.dr_config.specs.Table.{ConfigTable, place_of}
use Rattle.dr_config.specs.declared.entries.VolumeEntry.{VolumeEntry}
use Rattle.dr_model.specs.Layout.{only_if, chosen}
use Rattle.dr_volume.specs.declared.fields.Fields.{Fields}
use Rattle.dr_model.specs.Lawful.{IsLawful}
use Rattle.dr_volume.specs.Plain.{plain}
use Rattle.dr_volume.specs.Update.{staged_seen, stages}
use Rattle.dr_volume.specs.View.{volume_seen, device_of}

-- The volume v lies on the device d and has n tracks.
pub record LiesOn (t : ConfigTable) (v d n : ℕ) : Type 0 where
  pub place : place_of t v ≡ Some d
  pub tracks : option_map (λ (e : VolumeEntry). e.tracks) (slice_get t.volumes d) ≡ Some n
  pub few : n ≤ most_tracks

-- The fields are those that the volume's device gives: the machine's fields and staged track, the bytes of that track
-- (zeros where there is none), and nothing besides.
pub record Shows (s : PlantState) (t : ConfigTable) (v : ℕ) (f : Fields) : Type 0 where
  pub fields : plain f ≡ (volume_seen s t v).fields
  pub staged : f.staged ≡ (volume_seen s t v).staged
  pub staged_bytes : f.staged_bytes ≡ only_if (is_some (volume_seen s t v).staged) (chosen (s.block (device_of t v)) 5) zeros
  pub lawful : IsLawful (volume_seen s t v).tracks (plain f)

-- The machine's fields are those that the volume's device gives, and so is the staged track, if there is one, with its bytes.
pub record Says (s : PlantState) (t : ConfigTable) (v : ℕ) (f : Fields) : Type 0 where
  pub fields : plain f ≡ (volume_seen s t v).fields
  pub staged : stages f ≡ staged_seen s t v
  pub lawful : IsLawful (volume_seen s t v).tracks (plain f)
