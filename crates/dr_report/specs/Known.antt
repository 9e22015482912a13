-- A volume with what its device says.
use Rattle.std.specs.Prelude.{ℕ, ◌+◌, Bool, not, List, map, nat_eq, Option, Some, None, is_some, if◌then◌else◌}
use Rattle.std.specs.FinSet.{contains}
use Rattle.std.specs.List.{find, range_with_len, slice_index_or}
use Rattle.dr_logic.specs.Bytes.{zeros}
use Rattle.dr_ids.specs.Sizes.{blocks_of, track_block}
use Rattle.dr_model.specs.Layout as layout
use Rattle.dr_model.specs.Layout.{Blocks, is_staged, only_if, chosen}
use Rattle.dr_model.specs.PlantImage.{Volume, device_blocks}
use Rattle.dr_model.specs.Recovery.{goes_back}
use Rattle.dr_model.specs.Views as views
use Rattle.dr_image.specs.declared.held.ImageVolume.{ImageVolume}
use Rattle.dr_image.specs.Shown.{block_at}
use Rattle.dr_volume.specs.Plain.{plain}
use Rattle.dr_report.specs.declared.device.Device.{Device}

-- its number and size, all blocks of its device, and what these give: its fields, the staged track, and the bytes of that
pub record Known : Type 0 where
  pub volume : ℕ
  pub tracks : ℕ
  pub blocks : List (List ℕ)
  pub fields : layout.Fields
  pub staged : Option ℕ
  pub staged_bytes : List ℕ

-- what was read of a volume
abbrev pub known : Device → Known
known d = record {
  volume = d.volume.volume.0;
  tracks = d.volume.tracks;
  blocks = d.blocks.items;
  fields = plain d.fields;
  staged = d.fields.staged;
  staged_bytes = d.fields.staged_bytes;
}

-- of each volume, in order
abbrev pub all_known : List Device → List Known
all_known ds = map known ds

-- what a device with these blocks says of a volume of that number and size
abbrev pub known_on : ℕ → ℕ → Blocks → Known
known_on volume tracks blocks = record {
  volume = volume;
  tracks = tracks;
  blocks = map blocks (range_with_len 0 (blocks_of tracks));
  fields = layout.fields tracks blocks;
  staged = layout.staged tracks blocks;
  staged_bytes = only_if (is_some (layout.staged tracks blocks)) (chosen blocks 5) zeros;
}

-- what a volume of an image says
abbrev pub known_by : Volume → Known
known_by v = known_on v.volume v.tracks (device_blocks v)

-- what is known of the volume at a place of an image
abbrev pub known_at : List Volume → ℕ → ImageVolume → Known
known_at vs place v = known_on v.volume.0 v.tracks (block_at vs place)

-- a track: the staged bytes where it is staged, zeros where it is blank, else its own block
abbrev pub track_in : Known → ℕ → List ℕ
track_in k t =
    if is_staged k.staged t then k.staged_bytes
    else if contains k.fields.blank t then zeros else slice_index_or k.blocks (track_block t) zeros

-- a track of a volume, if there is one
abbrev pub track_of : Option Known → ℕ → List ℕ
track_of None t = zeros
track_of (Some k) t = track_in k t

-- the volume of that number
abbrev pub known_in : List Known → ℕ → Option Known
known_in ks v = find (λ k. nat_eq k.volume v) ks

-- once recovery is done a target shows its source's track where it doesn't hold its own; one that goes back holds what it held before
abbrev pub shows_source : Bool → layout.Fields → ℕ → Bool
shows_source reverts f t = if goes_back reverts f then not (contains f.previous_own t) else views.shows_source f t

-- what a track shows then, by the volume's source
abbrev pub shown_track : Bool → Option Known → Known → ℕ → List ℕ
shown_track reverts source k t = if shows_source reverts k.fields t then track_of source t else track_in k t
