-- What the kept volumes and blocks show.
use Rattle.std.specs.Prelude.{ℕ, Bool, false, List, [], ◌∷◌, ◌++◌, map, filter, nat_eq, nat_le, nat_lt, Option, Some, None, if◌then◌else◌}
use Rattle.std.specs.List.{list_all, slice_get, position_or_len}
use Rattle.dr_logic.specs.Bytes.{zeros}
use Rattle.dr_model.specs.PlantImage.{Kept, Volume, block_in}
use Rattle.dr_image.specs.declared.held.ImageVolume.{ImageVolume}
use Rattle.dr_image.specs.declared.held.KeptBlock.{KeptBlock}
use Rattle.dr_image.specs.declared.held.Held.{Held}

-- a volume without blocks
abbrev pub bare : ImageVolume → Volume
bare v = record { volume = v.volume.0; server = v.server; tracks = v.tracks; blocks = [] }

-- a block of an image as the model has it
abbrev pub kept : KeptBlock → Kept
kept b = record { index = b.index; bytes = b.bytes }

-- blocks, in order
abbrev pub all_kept : List KeptBlock → List Kept
all_kept bs = map kept bs

-- a volume with its blocks
abbrev pub shown : Held → Volume
shown h = record { volume = h.volume.volume.0; server = h.volume.server; tracks = h.volume.tracks; blocks = all_kept h.blocks.items }

-- volumes, in order
abbrev pub all_shown : List Held → List Volume
all_shown hs = map shown hs

-- the volume alone
abbrev pub owned : Volume → ImageVolume
owned v = record { volume = record { 0 = v.volume }; server = v.server; tracks = v.tracks }

-- all bytes are zero
abbrev pub is_zero : List ℕ → Bool
is_zero bytes = list_all (λ b. nat_eq b 0) bytes

-- a block is kept where it isn't all zero
abbrev pub if_kept : ℕ → List ℕ → List Kept
if_kept k bytes = if is_zero bytes then [] else record { index = k; bytes = bytes } ∷ []

-- the blocks with block k replaced
unfoldable pub put : ℕ → List ℕ → List Kept → List Kept
put k bytes bs = filter (λ b. nat_lt b.index k) bs ++ if_kept k bytes ++ filter (λ b. nat_lt k b.index) bs

-- the volumes with a block of the last one replaced
unfoldable pub put_last : ℕ → List ℕ → List Volume → List Volume
put_last k bytes [] = []
put_last k bytes (v ∷ []) = record v { blocks = put k bytes v.blocks } ∷ []
put_last k bytes (v ∷ w ∷ vs) = v ∷ put_last k bytes (w ∷ vs)

-- a block of the volume at a place: zeros where none is kept
abbrev pub block_of_one : Option Volume → ℕ → List ℕ
block_of_one None k = zeros
block_of_one (Some v) k = block_in v.blocks k

-- block k of the volume at place i
abbrev pub block_at : List Volume → ℕ → ℕ → List ℕ
block_at vs i k = block_of_one (slice_get vs i) k

-- the bytes of a block, if there is one and it is the one of the number; else zeros
abbrev pub bytes_of : Option Kept → ℕ → List ℕ
bytes_of None k = zeros
bytes_of (Some b) k = if nat_eq b.index k then b.bytes else zeros

-- the place of the first block that doesn't come before a number
abbrev pub place : ℕ → List Kept → ℕ
place k bs = position_or_len (λ b. nat_le k b.index) bs

-- the block at a place is that of number k
abbrev pub has_number : ℕ → Option Kept → Bool
has_number k None = false
has_number k (Some b) = nat_eq b.index k

-- the block at a place is that of a number
abbrev pub stands_at : List Kept → ℕ → ℕ → Bool
stands_at bs at k = has_number k (slice_get bs at)
