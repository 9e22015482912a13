-- Writes to one device, one after another, until one is stopped.
use Rattle.std.specs.Prelude.{◌≡◌, ℕ, zero, suc, ◌+◌, ◌-◌, ◌≤◌, ◌<◌, Bool, true, false, List, [], ◌∷◌, if◌then◌else◌, length, Option, Some, None}
use Rattle.std.specs.List.{slice_index_or}
use Rattle.dr_logic.specs.Counts.{risen}
use Rattle.dr_logic.specs.Tables.{at, at2}
use Rattle.dr_plant.specs.State.{PlantState, after_write, can_write, torn_by}
use Rattle.dr_plant.specs.declared.plant.WriteFuse.{WriteFuse}

-- A block of a device, and the bytes to write to it.
pub record BlockWrite : Type 0 where
  pub block : ℕ
  pub bytes : List ℕ

-- a write of these bytes to a block
abbrev pub write : ℕ → List ℕ → BlockWrite
write block bytes = record { block = block; bytes = bytes }

-- The writes of n blocks, from the k-th on, from the block start + k of a device on.
unfoldable pub block_writes : ℕ → ℕ → ℕ → (ℕ → List ℕ) → List BlockWrite
block_writes start k zero bytes = []
block_writes start k (suc n) bytes = write (start + k) (bytes k) ∷ block_writes start (k + 1) n bytes

-- the blocks of a list by number
abbrev pub listed : List (List ℕ) → ℕ → List ℕ
listed blocks i = slice_index_or blocks i []

-- The writes of a list of blocks, from a block of a device on.
abbrev pub list_writes : ℕ → List (List ℕ) → List BlockWrite
list_writes start blocks = block_writes start 0 (length blocks) (listed blocks)

-- The writes to a device in order, until one is stopped: what they leave, and whether one was stopped.
unfoldable pub after_writes : PlantState → ℕ → List BlockWrite → PlantState × Bool
after_writes s dev [] = (s, false)
after_writes s dev (w ∷ ws) =
    if can_write s dev then after_writes (after_write s dev w.block w.bytes) dev ws
    else (after_write s dev w.block w.bytes, true)

-- The device exists, and has at least n blocks.
pub record IsDevice (s : PlantState) (dev n : ℕ) : Type 0 where
  pub device : dev < s.count
  pub blocks : n ≤ s.size dev

-- The same devices, with the same sizes and owners.
pub record SameShape (s t : PlantState) : Type 0 where
  pub count : t.count ≡ s.count
  pub size : t.size ≡ s.size
  pub owner : t.owner ≡ s.owner

-- Every block once these writes are done.
unfoldable pub all_put : (ℕ → ℕ → List ℕ) → ℕ → List BlockWrite → ℕ → ℕ → List ℕ
all_put block dev [] = block
all_put block dev (w ∷ ws) = all_put (at2 block dev w.block w.bytes) dev ws

-- A server with this write fuse does n more writes: none is armed, or it stands at n or more.
abbrev pub Passes : ℕ → Option WriteFuse → Type 0
Passes n None = Unit {0}
Passes n (Some f) = n ≤ f.after

-- A write fuse after n writes that were done.
abbrev pub write_fuse_after : ℕ → Option WriteFuse → Option WriteFuse
write_fuse_after n None = None
write_fuse_after n (Some f) = Some (record f { after = f.after - n })

-- A read fuse after n writes that were done.
abbrev pub read_fuse_after : ℕ → Option ℕ → Option ℕ
read_fuse_after n None = None
read_fuse_after n (Some after) = Some (after - n)

-- All the writes are done: each block has its bytes, and each fuse of the owner is lower by their number.
abbrev pub all_written : PlantState → ℕ → List BlockWrite → PlantState
all_written s dev ws = record s {
  block = all_put s.block dev ws;
  write_fuse = at s.write_fuse (s.owner dev) (write_fuse_after (length ws) (s.write_fuse (s.owner dev)));
  read_fuse = at s.read_fuse (s.owner dev) (read_fuse_after (length ws) (s.read_fuse (s.owner dev)));
}

-- The first writes are done, and the fuse f cut short the next one, to block b: it has what the fuse leaves, the
-- owner is off with its write fuse at 0, and a fault is counted.
abbrev pub torn_after : PlantState → ℕ → List BlockWrite → ℕ → WriteFuse → PlantState
torn_after s dev ws b f = record s {
  block = at2 (all_put s.block dev ws) dev b (torn_by f.torn (all_put s.block dev ws dev b));
  on = at s.on (s.owner dev) false;
  write_fuse = at s.write_fuse (s.owner dev) (Some (record f { after = 0 }));
  read_fuse = at s.read_fuse (s.owner dev) (read_fuse_after (length ws) (s.read_fuse (s.owner dev)));
  faults = risen s.faults;
}
