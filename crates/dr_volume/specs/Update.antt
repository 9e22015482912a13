-- What an update of a volume writes to its device, and what it leaves of the volume and of the machine's world.
use Rattle.std.specs.Prelude.{◌≡◌, ℕ, Bool, true, false, ◌||◌, List, [], ◌∷◌, ◌++◌, Option, Some, None, if◌then◌else◌, ◌≢◌, nat_eq, unwrap_or}
use Rattle.std.specs.FinSet.{contains}
use Rattle.dr_logic.specs.Bytes.{zeros}
use Rattle.dr_ids.specs.Sizes.{track_block, side_block}
use Rattle.dr_bits.specs.Tracks.{Tracks}
use Rattle.dr_plant.specs.State.{PlantState, after_read, can_read, passes_read}
use Rattle.dr_plant.specs.Writes.{BlockWrite, write, after_writes}
use Rattle.dr_record.specs.Slots.{record_writes}
use Rattle.dr_config.specs.Table.{ConfigTable}
use Rattle.dr_model.specs.Layout as layout
use Rattle.dr_model.specs.Layout.{chosen}
use Rattle.dr_model.specs.Control.{World}
use Rattle.dr_model.specs.Carry.{Ended, ended, update_keeping, redo}
use Rattle.dr_model.specs.ReadStops.{shut}
use Rattle.dr_model.specs.Moves.{Carried, is_carried, moved_keeping, tracks_after, saved_after}
use Rattle.dr_volume.specs.declared.fields.Fields.{Fields}
use Rattle.dr_volume.specs.Plain.{normal}
use Rattle.dr_volume.specs.Record.{record_block, raw_of}
use Rattle.dr_volume.specs.View.{volume_seen, track_seen, saved_seen, device_of}

-- the fields that stage the carried track, or none
abbrev pub staging : Carried → Fields → Fields
staging None f = record f { staged = None; staged_bytes = zeros }
staging (Some c) f = record f { staged = Some c.0; staged_bytes = c.1 }

-- a staged track, if there is one, with its bytes
abbrev pub track_with : Option ℕ → List ℕ → Carried
track_with None bytes = None
track_with (Some t) bytes = Some (t, bytes)

-- what fields stage
abbrev pub stages : Fields → Carried
stages f = track_with f.staged f.staged_bytes

-- what was staged, with its bytes, unless it is blank now
abbrev pub kept_filled : Tracks → Carried → Carried
kept_filled blank None = None
kept_filled blank (Some o) = if contains blank o.0 then None else Some o

-- what a record stages after a move: the carried track; else, where it is kept, what was staged, unless the next blank set holds it
abbrev pub staged_next : Bool → Tracks → Carried → Carried → Carried
staged_next keeps blank None old = if keeps then kept_filled blank old else None
staged_next keeps blank (Some c) old = Some c

-- the staged track that gives way to another that is carried, with its bytes
abbrev pub given_way : Carried → Carried → Carried
given_way None old = None
given_way (Some c) None = None
given_way (Some c) (Some o) = if nat_eq o.0 c.0 then None else Some o

-- a track is written to its own block
abbrev pub track_writes : Carried → List BlockWrite
track_writes None = []
track_writes (Some c) = write (track_block c.0) c.1 ∷ []

-- the side block of the entry that a move takes into use, if any, with the track that it names: the next entries name it, and the track
-- is as it was
abbrev pub side_for : ℕ → layout.Entries → (ℕ → List ℕ) → Option ℕ → Option (ℕ × List ℕ)
side_for tracks next old None = None
side_for tracks next old (Some k) = Some (side_block tracks k, old (unwrap_or (layout.entry_at next k) 0))

-- what a move saves, on a volume with that many tracks, by its entries before and after, and its tracks before
abbrev pub saving : ℕ → layout.Entries → layout.Entries → (ℕ → List ℕ) → Option (ℕ × List ℕ)
saving tracks old next bytes = side_for tracks next bytes (layout.entry_taken old next)

-- a side block is written
abbrev pub side_writes : Option (ℕ × List ℕ) → List BlockWrite
side_writes None = []
side_writes (Some side) = write side.0 side.1 ∷ []

-- the fields that a move writes, where that was staged
abbrev pub next_record : Bool → Carried → Fields → Carried → Fields
next_record keeps old f c = staging (staged_next keeps f.blank c old) f

-- the writes of a move that keeps what is staged, or doesn't: what it saves, the track that gives way, then the record into a slot, and
-- its gate
abbrev pub writes_keeping : Bool → Bool → Option (ℕ × List ℕ) → Carried → Fields → Carried → List BlockWrite
writes_keeping keeps slot side old f c =
    (side_writes side ++ track_writes (given_way c old)) ++ record_writes 6 slot (record_block (next_record keeps old f c))

-- the writes of an update
abbrev pub update_writes : Bool → Option (ℕ × List ℕ) → Carried → Fields → Carried → List BlockWrite
update_writes slot side old f c = writes_keeping true slot side old f c

-- the writes of a volume's staged track to its place, and then of a record that stages none
abbrev pub destage_writes : Bool → Carried → Fields → List BlockWrite
destage_writes slot None f = []
destage_writes slot (Some o) f = track_writes (Some o) ++ record_writes 6 slot (record_block (staging None f))

-- the device is read, and then these writes are done in order until one is stopped: what that leaves, and whether the
-- read or a write was stopped
unfoldable pub read_and_write : PlantState → ℕ → List BlockWrite → PlantState × Bool
read_and_write s dev ws = if can_read s dev then after_writes s dev ws else (after_read s dev, true)

-- each track that is blank stays blank, but the one that is carried
abbrev pub Covers : Tracks → Tracks → Carried → Type 0
Covers old new c = (t : ℕ) → contains old t ≡ true → (contains new t || is_carried c t) ≡ true

-- From s to t the volume has what it had.
pub record IsAsBefore (s t : PlantState) (c : ConfigTable) (v : ℕ) : Type 0 where
  pub volume : volume_seen t c v ≡ volume_seen s c v
  pub tracks : track_seen t c v ≡ track_seen s c v
  pub saved : saved_seen t c v ≡ saved_seen s c v

-- From s to t the volume got these fields in its other slot, and this track; it keeps what was staged, or doesn't.
pub record IsMovedKeeping (keeps : Bool) (s t : PlantState) (c : ConfigTable) (v : ℕ) (f : layout.Fields) (m : Carried) : Type 0 where
  pub volume : volume_seen t c v ≡ moved_keeping keeps (volume_seen s c v) f m
  pub tracks : track_seen t c v ≡ tracks_after f m (track_seen s c v)
  pub saved : saved_seen t c v ≡ saved_after (volume_seen s c v).fields.entries f.entries (track_seen s c v) (saved_seen s c v)

-- From s to t the volume got these fields in its other slot, and this track, and keeps what was staged.
abbrev pub IsMoved : PlantState → PlantState → ConfigTable → ℕ → layout.Fields → Carried → Type 0
IsMoved s t c v f m = IsMovedKeeping true s t c v f m

-- From s to t the volume's staged track, if there was one, went to its place, and none is staged.
abbrev pub IsDestaged : Bool → PlantState → PlantState → ConfigTable → ℕ → Type 0
IsDestaged true s t c v = IsMovedKeeping false s t c v (volume_seen s c v).fields None
IsDestaged false s t c v = IsAsBefore s t c v

-- From s to t every volume but v has what it had.
abbrev pub OthersStay : PlantState → PlantState → ConfigTable → ℕ → Type 0
OthersStay s t c v = (u : ℕ) → u ≢ v → IsAsBefore s t c u

-- A world, and whether an act was stopped, are those in which an act of the machine ended.
pub record EndsAs (w : World) (b : Bool) (e : Ended) : Type 0 where
  pub world : w ≡ e.world
  pub stopped : b ≡ e.stopped

-- How an act ends that begins with a read on its server: where the server's read fuse lets no read pass, the server
-- goes off before any write.
abbrev pub after_reading : PlantState → ℕ → World → Ended → Ended
after_reading s server w e = if passes_read (s.read_fuse server) then e else ended (shut w server) true false

-- what a move of a volume saves that is given these entries
abbrev pub saving_seen : PlantState → ConfigTable → ℕ → layout.Entries → Option (ℕ × List ℕ)
saving_seen s c v next = saving (volume_seen s c v).tracks (volume_seen s c v).fields.entries next (track_seen s c v)

-- a volume's staged track, with its bytes
abbrev pub staged_seen : PlantState → ConfigTable → ℕ → Carried
staged_seen s c v = track_with (volume_seen s c v).staged (chosen (s.block (device_of c v)) 5)

-- From s to t the server is on or off as it was, with the same fuses.
pub record ServerStays (s t : PlantState) (server : ℕ) : Type 0 where
  pub on : t.on server ≡ s.on server
  pub write_fuse : t.write_fuse server ≡ s.write_fuse server
  pub read_fuse : t.read_fuse server ≡ s.read_fuse server

-- the fields of a volume as its device gives them, with what is staged
abbrev pub fields_seen : PlantState → ConfigTable → ℕ → Fields
fields_seen s c v = normal (volume_seen s c v).tracks (raw_of (chosen (s.block (device_of c v))))

-- a staged track went to its place, which ended so; where it wasn't stopped, a move that changes no field leaves none staged
abbrev pub unstaged : Option ℕ → ℕ → Ended → Ended
unstaged None v e = e
unstaged (Some t) v e = if e.stopped then e else update_keeping false e.world v (e.world.control.volume v).fields None

-- how it ends that a volume's staged track goes to its place, and then none is staged
abbrev pub destaged : World → ℕ → Ended
destaged w v = unstaged (w.control.volume v).staged v (redo w v)
