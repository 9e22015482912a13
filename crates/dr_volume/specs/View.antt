-- The state of the machine that a plant and its configuration show.
use Rattle.std.specs.Prelude.{◌≡◌, ℕ, ◌<◌, Bool, true, List, Option, Some, None, slice_get, nat_lt, unwrap_or, map, if◌then◌else◌}
use Rattle.dr_logic.specs.Bytes.{zeros}
use Rattle.dr_ids.specs.Sizes.{side_block}
use Rattle.dr_plant.specs.State.{PlantState}
use Rattle.dr_plant.specs.declared.plant.WriteFuse.{WriteFuse}
use Rattle.dr_plant.specs.declared.plant.Torn.{Torn}
use Rattle.dr_plant.specs.declared.plant.Torn.TheVariants.{Untouched, Bytes}
use Rattle.dr_config.specs.Table.{ConfigTable, place_of, link_up}
use Rattle.dr_config.specs.declared.entries.VolumeEntry.{VolumeEntry}
use Rattle.dr_model.specs.declared.event.Event.{Event}
use Rattle.dr_model.specs.Sessions.{Session}
use Rattle.dr_model.specs.Messages.{Flight}
use Rattle.dr_model.specs.Layout.{Blocks, slot_chosen, fields, staged, physical, entry_of}
use Rattle.dr_model.specs.Control.{Control, Fuse, Pending, Volume, World, new_volume}

-- what a run knows beside the plant and the configuration: the writes issued and pending, the sessions, the messages in flight, and the
-- journal
pub record Rest : Type 0 where
  pub issued : ℕ
  pub pending : List Pending
  pub sessions : List Session
  pub flight : Flight
  pub events : List Event

-- the same with these messages in flight
abbrev pub with_flight : Flight → Rest → Rest
with_flight f r = record r { flight = f }

-- what a write that is cut short leaves in its block: None for what stood there
abbrev pub torn_seen : Torn → Option (List ℕ)
torn_seen Untouched = None
torn_seen (Bytes b) = Some b

-- a fuse of the plant as the machine has it
abbrev pub fuse_seen : Option WriteFuse → Option Fuse
fuse_seen None = None
fuse_seen (Some f) = Some (record { after = f.after; torn = torn_seen f.torn })

-- a server that no plant has is on, with no fuse
abbrev pub on_seen : PlantState → ℕ → Bool
on_seen s server = if nat_lt server 8 then s.on server else true

-- the fuses of the plant's servers; any other has none
abbrev pub fuses_seen : PlantState → ℕ → Option Fuse
fuses_seen s server = if nat_lt server 8 then fuse_seen (s.write_fuse server) else None

-- a volume on a device
abbrev pub volume_on : Blocks → Option VolumeEntry → Volume
volume_on blocks None = new_volume 0 0
volume_on blocks (Some e) = record {
  server = e.server;
  tracks = e.tracks;
  slot = slot_chosen blocks;
  fields = fields e.tracks blocks;
  staged = staged e.tracks blocks;
}

-- a track of the volume at a place, if one is there
abbrev pub track_on : Blocks → Option VolumeEntry → ℕ → List ℕ
track_on blocks None t = zeros
track_on blocks (Some e) t = if nat_lt t e.tracks then physical e.tracks blocks t else zeros

-- where a volume lies: its device's number and its entry
abbrev pub volume_at : PlantState → ConfigTable → Option ℕ → Volume
volume_at s t None = new_volume 0 0
volume_at s t (Some d) = volume_on (s.block d) (slice_get t.volumes d)

-- a track on a device, if there is one
abbrev pub track_at : PlantState → ConfigTable → Option ℕ → ℕ → List ℕ
track_at s t None k = zeros
track_at s t (Some d) k = track_on (s.block d) (slice_get t.volumes d) k

-- volume v as its device shows it
abbrev pub volume_seen : PlantState → ConfigTable → ℕ → Volume
volume_seen s t v = volume_at s t (place_of t v)

-- track k of volume v as its device shows it
abbrev pub track_seen : PlantState → ConfigTable → ℕ → ℕ → List ℕ
track_seen s t v k = track_at s t (place_of t v) k

-- the side block of an entry, if such a volume is there
abbrev pub side_on : Blocks → Option VolumeEntry → ℕ → List ℕ
side_on blocks None k = zeros
side_on blocks (Some e) k = blocks (side_block e.tracks k)

-- the side block of an entry on a device, if there is one
abbrev pub side_at : PlantState → ConfigTable → Option ℕ → ℕ → List ℕ
side_at s t None k = zeros
side_at s t (Some d) k = side_on (s.block d) (slice_get t.volumes d) k

-- the side block of entry k of volume v, as its device has it
abbrev pub side_seen : PlantState → ConfigTable → ℕ → ℕ → List ℕ
side_seen s t v k = side_at s t (place_of t v) k

-- the side block of the entry that names a track, zeros if none does
abbrev pub side_in : Blocks → ℕ → Option ℕ → List ℕ
side_in blocks tracks None = zeros
side_in blocks tracks (Some k) = blocks (side_block tracks k)

-- what is saved of a track on a device
abbrev pub saved_on : Blocks → Option VolumeEntry → ℕ → List ℕ
saved_on blocks None t = zeros
saved_on blocks (Some e) t = side_in blocks e.tracks (entry_of (fields e.tracks blocks).entries t)

-- of the volume at a place, if one is there
abbrev pub saved_at : PlantState → ConfigTable → Option ℕ → ℕ → List ℕ
saved_at s t None k = zeros
saved_at s t (Some d) k = saved_on (s.block d) (slice_get t.volumes d) k

-- what is saved of track k of volume v, as its device has it
abbrev pub saved_seen : PlantState → ConfigTable → ℕ → ℕ → List ℕ
saved_seen s t v k = saved_at s t (place_of t v) k

-- the volumes, in order of definition
abbrev pub ids_of : List VolumeEntry → List ℕ
ids_of es = map (λ (e : VolumeEntry). e.id) es

-- the machine's state
abbrev pub control_seen : PlantState → ConfigTable → Rest → Control
control_seen s t r = record {
  servers = t.names;
  on = on_seen s;
  fuse = fuses_seen s;
  link = link_up t;
  paths = t.paths;
  volumes = ids_of t.volumes;
  volume = volume_seen s t;
  issued = r.issued;
  pending = r.pending;
  sessions = r.sessions;
  flight = r.flight;
}

-- the world that plant, configuration and the rest of a run show
abbrev pub world : PlantState → ConfigTable → Rest → World
world s t r = record { control = control_seen s t r; contents = track_seen s t; saved = saved_seen s t; events = r.events }

-- the number of a volume's device, 0 where it isn't defined
abbrev pub device_of : ConfigTable → ℕ → ℕ
device_of t v = unwrap_or (place_of t v) 0

-- no read fuse is armed
abbrev pub ReadsPass : PlantState → Type 0
ReadsPass s = (server : ℕ) → server < 8 → s.read_fuse server ≡ None
