-- What contracts see of the host: its pending writes, and what a step makes of them.
use Rattle.std.specs.Prelude.{ℕ, ◌+◌, ◌-◌, ◌<◌, ◌≤◌, ◌==◌, Bool, true, false, not, ◌&&◌, nat_eq, nat_le, List, [], ◌∷◌, ◌++◌, length, take, filter, replicate, Option, Some, None, option_map, if◌then◌else◌}
use Rattle.std.specs.List.{find}
use Rattle.std.specs.Option.{option_map_or}
use Rattle.dr_ids.specs.declared.refusal.Refusal.{Refusal}
use Rattle.dr_ids.specs.declared.refusal.Refusal.TheVariants.{Limit}
use Rattle.dr_ids.specs.declared.refusal.Which.TheVariants as limit
use Rattle.dr_config.specs.Table.{ConfigTable, entry_of}
use Rattle.dr_config.specs.declared.entries.VolumeEntry.{VolumeEntry}
use Rattle.dr_host.specs.declared.pending.Pending.{Pending}

-- How many writes were issued, and those that are pending, in order of issue.
pub record Writes : Type 0 where
  pub issued : ℕ
  pub pending : List Pending

-- the number of a pending write
abbrev pub number : Pending → ℕ
number p = p.w.0

-- it is that of number n
abbrev pub has_number : ℕ → Pending → Bool
has_number n p = number p == n

-- it is another one
abbrev pub is_other : ℕ → Pending → Bool
is_other n p = not (has_number n p)

-- The bytes that the write brings.
abbrev pub bytes_of : Pending → List ℕ
bytes_of p = take p.len p.bytes

-- Bytes with zeros behind them, up to a track.
abbrev pub padded : List ℕ → List ℕ
padded bytes = bytes ++ replicate (64 - length bytes) 0

-- A write as it is issued.
abbrev pub written : ℕ → ℕ → ℕ → ℕ → List ℕ → Pending
written n v track offset bytes = record {
  w = record { 0 = n };
  volume = record { 0 = v };
  track = track;
  offset = offset;
  len = length bytes;
  bytes = padded bytes;
  landed = false;
}

-- Why a write is refused: 64 are pending.
abbrev pub issue_refusal : Writes → Option Refusal
issue_refusal h = if nat_le 64 (length h.pending) then Some (Limit limit.Pending) else None

-- One more write is issued.
abbrev pub with_write : Writes → ℕ → ℕ → ℕ → List ℕ → Writes
with_write h v track offset bytes = record {
  issued = h.issued + 1;
  pending = h.pending ++ written (h.issued + 1) v track offset bytes ∷ [];
}

-- The write of that number has landed.
abbrev pub marked : ℕ → List Pending → List Pending
marked n [] = []
marked n (p ∷ ps) = (if has_number n p then record p { landed = true } else p) ∷ marked n ps

-- the host with the write of number n marked
abbrev pub with_marked : Writes → ℕ → Writes
with_marked h n = record h { pending = marked n h.pending }

-- The write of that number is pending no longer.
abbrev pub without : Writes → ℕ → Writes
without h n = record h { pending = filter (is_other n) h.pending }

-- A volume that is defined, and the server's.
abbrev pub has_owner : ConfigTable → ℕ → ℕ → Bool
has_owner t v server = option_map_or (λ (e : VolumeEntry). nat_eq e.server server) (entry_of t v) false

-- A write that landed on a volume of the server in a stop.
abbrev pub has_landed : ConfigTable → ℕ → Pending → Bool
has_landed t server p = p.landed && has_owner t p.volume.0 server

-- The number of the first of these.
abbrev pub landed_on : ConfigTable → ℕ → List Pending → Option ℕ
landed_on t server ps = option_map number (find (has_landed t server) ps)

-- A pending write, where so many were issued: it has a number up to there, and its bytes lie within a track.
pub record IsPending (issued : ℕ) (p : Pending) : Type 0 where
  pub first : 1 ≤ number p
  pub last : number p ≤ issued
  pub some : 1 ≤ p.len
  pub within : p.offset + p.len ≤ 64

-- P holds of each pending write.
abbrev pub EachPending : (Pending → Type 0) → List Pending → Type 0
EachPending P [] = Unit {0}
EachPending P (p ∷ ps) = P p × EachPending P ps

-- EachPending number is below all later ones, so no two are the same.
abbrev pub Ascends : List Pending → Type 0
Ascends [] = Unit {0}
Ascends (p ∷ ps) = EachPending (λ q. number p < number q) ps × Ascends ps

-- What is true of every host.
pub record IsSoundHost (h : Writes) : Type 0 where
  pub few : length h.pending ≤ 64
  pub each : EachPending (IsPending h.issued) h.pending
  pub order : Ascends h.pending
