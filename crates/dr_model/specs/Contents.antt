-- What a track contains, by the writes that it holds.
use Rattle.std.specs.Prelude.{ℕ, ◌+◌, ◌-◌, List, map, length, ◌&&◌, nat_le, nat_lt, if◌then◌else◌}
use Rattle.std.specs.List.{fold, flat_map, range_with_len, slice_index_or}
use Rattle.std.specs.Option.{unwrap_or}
use Rattle.dr_logic.specs.Bytes.{zeros}
use Rattle.dr_model.specs.declared.event.Event.{Event}
use Rattle.dr_model.specs.Histories.{Write, histories}

-- byte k of a track after bytes were written from an offset on
abbrev pub byte_laid : ℕ → List ℕ → List ℕ → ℕ → ℕ
byte_laid offset bytes old k =
    if nat_le offset k && nat_lt k (offset + length bytes) then slice_index_or bytes (k - offset) 0 else slice_index_or old k 0

-- a track after bytes were written from an offset on
unfoldable pub laid : ℕ → List ℕ → List ℕ → List ℕ
laid offset bytes old = map (byte_laid offset bytes old) (range_with_len 0 64)

-- a track after a host write
abbrev pub with_write : (ℕ → Write) → List ℕ → ℕ → List ℕ
with_write write old w = laid (write w).offset (write w).bytes old

-- 64 zero bytes, to which each write of the list was applied in order
unfoldable pub image : (ℕ → Write) → List ℕ → List ℕ
image write ws = fold (with_write write) zeros ws

-- what a track contains after a journal, by the host writes alone
abbrev pub image_at : List Event → ℕ → ℕ → List ℕ
image_at events v t = image (histories events).write ((histories events).now v t)

-- what the tracks of a volume contain after a journal, track after track; nothing of a volume that isn't defined
unfoldable pub volume_image : List Event → ℕ → List ℕ
volume_image events v = flat_map (image_at events v) (range_with_len 0 (unwrap_or ((histories events).tracks v) 0))
