-- What a listing tells, one line after the other, and what it finds there.
use Rattle.std.specs.Prelude.{◌≡◌, ℕ, ◌<◌, Bool, true, false, List, [], ◌∷◌, map, length, All, IsSome, Option, Some, None}
use Rattle.std.specs.List.{flat_map}
use Rattle.dr_ids.specs.Sizes.{blocks_of}
use Rattle.dr_ids.specs.declared.names.Member.{Member}
use Rattle.dr_plant.specs.State.{PlantState}
use Rattle.dr_config.specs.Table.{ConfigTable, place_of}
use Rattle.dr_model.specs.declared.event.Event.{Event}
use Rattle.dr_model.specs.declared.event.Event.TheVariants.{ImageBlock}
use Rattle.dr_model.specs.Groups.{In}
use Rattle.dr_model.specs.Layout.{Blocks}
use Rattle.dr_model.specs.PlantImage.{Kept}
use Rattle.dr_model.specs.Sessions.{Session}
use Rattle.dr_model.specs.Tables.{Once}
use Rattle.dr_volume.specs.View.{volume_seen, device_of}

-- the line that there is, if any
abbrev pub lines_of : Option Event → List Event
lines_of None = []
lines_of (Some line) = line ∷ []

-- ---- sessions

-- the members of all sessions
abbrev pub members_of : List Session → List Member
members_of ss = flat_map (λ (x : Session). x.members) ss

-- the primaries of members are defined
abbrev pub AllStand : ConfigTable → List Member → Type 0
AllStand t ms = (m : Member) → In m ms → IsSome (place_of t m.a.0)

-- no number is that of two sessions, and the primaries of their members are defined
pub record AreSeated (t : ConfigTable) (ss : List Session) : Type 0 where
  pub once : Once (map (λ (x : Session). x.number) ss)
  pub stand : (x : Session) → In x ss → AllStand t x.members

-- ---- blocks

-- there are bytes
abbrev pub has_bytes : List ℕ → Bool
has_bytes [] = false
has_bytes (b ∷ bs) = true

-- the lines of blocks of volume v
abbrev pub kept_lines : ℕ → List Kept → List Event
kept_lines v blocks = map (λ (b : Kept). ImageBlock v b.index b.bytes) blocks

-- a block is 64 bytes
pub record IsBlock (bytes : List ℕ) : Type 0 where
  pub whole : length bytes ≡ 64
  pub small : All (λ b. b < 256) bytes

-- the first n blocks of a device are such
abbrev pub AreBlocks : ℕ → Blocks → Type 0
AreBlocks n blocks = (k : ℕ) → k < n → IsBlock (blocks k)

-- a volume is defined, its number has 16 bits, and each block of its device 64 bytes
pub record IsReadable (s : PlantState) (t : ConfigTable) (v : ℕ) : Type 0 where
  pub defined : IsSome (place_of t v)
  pub number : v < 65536
  pub blocks : AreBlocks (blocks_of (volume_seen s t v).tracks) (s.block (device_of t v))
