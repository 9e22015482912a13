-- A record of n blocks in two slots of a device, and the gate that chooses one of them.
use Rattle.std.specs.Prelude.{◌≡◌, ◌≢◌, ℕ, ◌+◌, ◌%◌, ◌≤◌, ◌⊎◌, Bool, false, not, nat_eq, List, [], ◌∷◌, ◌++◌, if◌then◌else◌, Option, Some, None, replicate}
use Rattle.std.specs.List.{slice_index_or}
use Rattle.dr_logic.specs.Counts.{risen}
use Rattle.dr_plant.specs.State.{PlantState, torn_by}
use Rattle.dr_plant.specs.declared.plant.WriteFuse.{WriteFuse}
use Rattle.dr_plant.specs.Writes.{BlockWrite, write, block_writes, SameShape}
use Rattle.dr_record.specs.Taken.{taken_from}

-- The slot that a gate chooses: slot 1 (true) where bit 0 of its first byte is set, else slot 0 (false).
abbrev pub choice : List ℕ → Bool
choice gate = nat_eq (slice_index_or gate 0 0 % 2) 1

-- The slot that a device chooses, by its gate in block 0.
abbrev pub slot_of : PlantState → ℕ → Bool
slot_of s dev = choice (s.block dev 0)

-- The gate that is written to choose a slot.
unfoldable pub gate_of : Bool → List ℕ
gate_of slot = (if slot then 1 else 0) ∷ replicate 63 0

-- The first block of a slot: slot 0 is behind the gate, and slot 1 behind slot 0.
abbrev pub start_of : ℕ → Bool → ℕ
start_of n slot = if slot then n + 1 else 1

-- The value that the n blocks of a slot give.
abbrev pub stored : {F : Type 0} → (F → ℕ → List ℕ → F) → ℕ → F → PlantState → ℕ → Bool → F
stored taken n fresh s dev slot = taken_from taken 0 n (λ i. s.block dev (start_of n slot + i)) fresh

-- The device chooses the slot, and the slot's blocks give the value x.
pub record Chooses {F : Type 0} (taken : F → ℕ → List ℕ → F) (n : ℕ) (fresh : F) (s : PlantState) (dev : ℕ) (slot : Bool) (x : F) : Type 0 where
  pub gate : slot_of s dev ≡ slot
  pub value : stored taken n fresh s dev slot ≡ x

-- The device chooses the old value in the old slot, or the new value in the other slot.
abbrev pub IsOldOrNew : {F : Type 0} → (F → ℕ → List ℕ → F) → ℕ → F → PlantState → ℕ → Bool → F → F → Type 0
IsOldOrNew taken n fresh s dev slot old new =
    Chooses taken n fresh s dev slot old ⊎ Chooses taken n fresh s dev (not slot) new

-- The writes that put a record of n blocks into a slot: its blocks in order, and then the gate.
abbrev pub record_writes : ℕ → Bool → (ℕ → List ℕ) → List BlockWrite
record_writes n slot bytes = block_writes (start_of n slot) 0 n bytes ++ write 0 (gate_of slot) ∷ []

-- The slot that a gate chooses once a fuse stopped the writes of a record: what is left of the gate decides where
-- the fuse cut short its write, the one after n others.
abbrev pub torn_choice : ℕ → Option WriteFuse → List ℕ → Bool
torn_choice n None gate = choice gate
torn_choice n (Some f) gate = if nat_eq f.after n then choice (torn_by f.torn gate) else choice gate

-- The slot that a device chooses once the writes of a record of n blocks were stopped.
abbrev pub slot_when_stopped : ℕ → PlantState → ℕ → Bool
slot_when_stopped n s dev =
    if s.on (s.owner dev) then torn_choice n (s.write_fuse (s.owner dev)) (s.block dev 0) else slot_of s dev

-- From s to t the writes of a record were stopped: the owner is off, a fault is counted, and the device chooses the
-- other slot only where the gate's own write was cut short and left that choice.
pub record IsCutShort (n : ℕ) (s t : PlantState) (dev : ℕ) : Type 0 where
  pub off : t.on (s.owner dev) ≡ false
  pub faults : t.faults ≡ risen s.faults
  pub slot : slot_of t dev ≡ slot_when_stopped n s dev

-- From s to t only blocks below n of the device may have changed, and no device, size or owner.
pub record SameElsewhere (n : ℕ) (s t : PlantState) (dev : ℕ) : Type 0 where
  pub shape : SameShape s t
  pub others : (d b : ℕ) → d ≢ dev → t.block d b ≡ s.block d b
  pub behind : (b : ℕ) → n ≤ b → t.block dev b ≡ s.block dev b
