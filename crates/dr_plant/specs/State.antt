-- What a plant is at one moment, and what each call makes of it.
use Rattle.std.specs.Prelude.{◌≡◌, ℕ, ◌<◌, ◌≤◌, ◌+◌, ◌-◌, ◌^◌, min, Bool, true, false, ◌&&◌, ◌==◌, if◌then◌else◌, List, Option, Some, None}
use Rattle.dr_logic.specs.Counts.{risen}
use Rattle.dr_logic.specs.Bytes.{zeros}
use Rattle.dr_logic.specs.Tables.{at, at2}
use Rattle.dr_plant.specs.declared.plant.WriteFuse.{WriteFuse}
use Rattle.dr_plant.specs.declared.plant.Torn.{Torn}
use Rattle.dr_plant.specs.declared.plant.Torn.TheVariants.{Untouched, Bytes}

-- A plant: numbered devices with their blocks, and numbered servers with their fuses.
pub record PlantState : Type 0 where
  pub count : ℕ  -- how many devices there are
  pub owner : ℕ → ℕ  -- of each device, the server that owns it
  pub size : ℕ → ℕ  -- of each device, how many blocks it has
  pub block : ℕ → ℕ → List ℕ  -- of each device and each of its blocks, the bytes
  pub on : ℕ → Bool  -- of each server, whether it is on
  pub write_fuse : ℕ → Option WriteFuse  -- of each server, its write fuse, if one is armed
  pub read_fuse : ℕ → Option ℕ  -- of each server, after how many writes its reads stop
  pub faults : ℕ  -- how many reads and writes could not be done

-- The device and its block exist.
pub record HasBlock (s : PlantState) (dev b : ℕ) : Type 0 where
  pub device : dev < s.count
  pub block : b < s.size dev

-- A plant with no devices, its eight servers on and no fuse armed.
pub record IsFresh (s : PlantState) : Type 0 where
  pub no_devices : s.count ≡ 0
  pub all_on : (server : ℕ) → server < 8 → s.on server ≡ true
  pub no_write_fuse : (server : ℕ) → server < 8 → s.write_fuse server ≡ None
  pub no_read_fuse : (server : ℕ) → server < 8 → s.read_fuse server ≡ None

-- From s to t no fault was lost, as far as 64 bits count them.
pub record FaultsStand (s t : PlantState) : Type 0 where
  pub below : min s.faults (2 ^ 64 - 1) ≤ t.faults

-- A server with this write fuse does its next write: none is armed, or it is above 0.
abbrev pub passes_write : Option WriteFuse → Bool
passes_write None = true
passes_write (Some f) = if f.after == 0 then false else true

-- A server with this read fuse does its next read: none is armed, or it is above 0.
abbrev pub passes_read : Option ℕ → Bool
passes_read None = true
passes_read (Some n) = if n == 0 then false else true

-- A write fuse after a write that was done: one less, or 0 as before.
abbrev pub lowered_write : Option WriteFuse → Option WriteFuse
lowered_write None = None
lowered_write (Some f) = Some (record f { after = f.after - 1 })

-- A read fuse after a write that was done: one less, or 0 as before.
abbrev pub lowered_read : Option ℕ → Option ℕ
lowered_read None = None
lowered_read (Some n) = Some (n - 1)

-- What a torn write leaves of a block: what was there, or bytes of its own.
abbrev pub torn_by : Torn → List ℕ → List ℕ
torn_by Untouched before = before
torn_by (Bytes bytes) before = bytes

-- What a block contains after this fuse cut short a write to it.
abbrev pub torn_block : Option WriteFuse → List ℕ → List ℕ
torn_block None before = before
torn_block (Some f) before = torn_by f.torn before

-- A write to the device is done: its owner is on, and the owner's write fuse lets it pass.
abbrev pub can_write : PlantState → ℕ → Bool
can_write s dev = s.on (s.owner dev) && passes_write (s.write_fuse (s.owner dev))

-- A read of the device is done: its owner is on, and the owner's read fuse lets it pass.
abbrev pub can_read : PlantState → ℕ → Bool
can_read s dev = s.on (s.owner dev) && passes_read (s.read_fuse (s.owner dev))

-- The server is off, and nothing else changed.
abbrev pub off : PlantState → ℕ → PlantState
off s server = record s { on = at s.on server false }

-- One more fault is counted, and nothing else changed.
abbrev pub faulted : PlantState → PlantState
faulted s = record s { faults = risen s.faults }

-- A write that was done: the block has its bytes, and each fuse of the owner is one lower.
abbrev pub written : PlantState → ℕ → ℕ → List ℕ → PlantState
written s dev b bytes = record s {
  block = at2 s.block dev b bytes;
  write_fuse = at s.write_fuse (s.owner dev) (lowered_write (s.write_fuse (s.owner dev)));
  read_fuse = at s.read_fuse (s.owner dev) (lowered_read (s.read_fuse (s.owner dev)));
}

-- A write cut short by a fuse: the block has what the fuse leaves, the owner is off, and a fault is counted.
abbrev pub torn : PlantState → ℕ → ℕ → PlantState
torn s dev b = record s {
  block = at2 s.block dev b (torn_block (s.write_fuse (s.owner dev)) (s.block dev b));
  on = at s.on (s.owner dev) false;
  faults = risen s.faults;
}

-- A write: where the owner is off only a fault is counted; else the fuse decides.
unfoldable pub after_write : PlantState → ℕ → ℕ → List ℕ → PlantState
after_write s dev b bytes =
    if s.on (s.owner dev) then (if passes_write (s.write_fuse (s.owner dev)) then written s dev b bytes else torn s dev b) else faulted s

-- A read: where it can't be done the owner is off, and a fault is counted.
unfoldable pub after_read : PlantState → ℕ → PlantState
after_read s dev = if can_read s dev then s else faulted (off s (s.owner dev))

-- A write fuse once its server starts: gone if it stood at 0.
abbrev pub started_write : Option WriteFuse → Option WriteFuse
started_write f = if passes_write f then f else None

-- A read fuse once its server starts: gone if it stood at 0.
abbrev pub started_read : Option ℕ → Option ℕ
started_read f = if passes_read f then f else None

-- The server is on, with no fuse that stands at 0.
unfoldable pub started : PlantState → ℕ → PlantState
started s server = record s {
  on = at s.on server true;
  write_fuse = at s.write_fuse server (started_write (s.write_fuse server));
  read_fuse = at s.read_fuse server (started_read (s.read_fuse server));
}

-- One more device, numbered by the count before, with its owner and so many blocks of zeros.
unfoldable pub with_device : PlantState → ℕ → ℕ → PlantState
with_device s server blocks = record s {
  count = s.count + 1;
  owner = at s.owner s.count server;
  size = at s.size s.count blocks;
  block = at s.block s.count (λ b. zeros);
}
