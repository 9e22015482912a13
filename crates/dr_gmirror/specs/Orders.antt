-- What orders on members of a session ask for, and what they leave.
use Rattle.std.specs.Prelude.{ℕ, ◌≡◌, ◌≤◌, ◌+◌, Bool, true, false, ◌&&◌, not, List, Some, None, slice_get, nat_lt, option_map, unwrap_or, is_some, if◌then◌else◌}
use Rattle.std.specs.List.{list_any}
use Rattle.dr_ids.specs.declared.names.Member.{Member}
use Rattle.dr_bits.specs.Tracks.{Tracks}
use Rattle.dr_plant.specs.State.{PlantState}
use Rattle.dr_config.specs.Table.{ConfigTable, place_of}
use Rattle.dr_model.specs.Phases.{Work, Hold, Seal, Report}
use Rattle.dr_model.specs.Relations.{is_bare}
use Rattle.dr_model.specs.Sessions.{Session, session_in, mirror_in, begin_refusal, changed, begun}
use Rattle.dr_volume.specs.View.{Rest, volume_seen}

-- the rest with these sessions
abbrev pub with_sessions : List Session → Rest → Rest
with_sessions ss r = record r { sessions = ss }

-- the number of a session's last attempt, 0 where it isn't defined
abbrev pub last_in : List Session → ℕ → ℕ
last_in ss s = unwrap_or (option_map (λ x. x.last) (session_in ss s)) 0

-- 1 where attempt n of the session hasn't begun
abbrev pub to_begin : List Session → ℕ → ℕ → ℕ
to_begin ss s n = if nat_lt (last_in ss s) n then 1 else 0

-- Where attempt n of the session hasn't begun, it is the next one, and its master lets it begin.
pub record MayBegin (ss : List Session) (s n : ℕ) : Type 0 where
  pub free : nat_lt (last_in ss s) n ≡ true → begin_refusal (mirror_in (session_in ss s)) ≡ None
  pub next : n ≤ last_in ss s + 1

-- the sessions where an attempt has begun, or hasn't
abbrev pub begun_in : Bool → List Session → ℕ → List Session
begun_in b ss s = if b then changed s begun ss else ss

-- only a hold begins one
abbrev pub MayOrder : Work → List Session → ℕ → ℕ → Type 0
MayOrder Hold ss s n = MayBegin ss s n
MayOrder _ ss s n = Unit {0}

-- A member's volumes are defined, its server is that of the primary, and its target is on the secondary's.
pub record IsMemberReady (s : PlantState) (t : ConfigTable) (m : Member) : Type 0 where
  pub primary : is_some (place_of t m.a.0) ≡ true
  pub secondary : is_some (place_of t m.b.0) ≡ true
  pub target : is_some (place_of t m.c.0) ≡ true
  pub server : (volume_seen s t m.a.0).server ≡ m.server.0
  pub together : (volume_seen s t m.c.0).server ≡ (volume_seen s t m.b.0).server

-- so it is for each member
abbrev pub AreReady : PlantState → ConfigTable → List Member → Type 0
AreReady s t ms = (i : ℕ) (m : Member) → slice_get ms i ≡ Some m → IsMemberReady s t m

-- the servers of their secondaries are on
abbrev pub AreRunning : PlantState → ConfigTable → List Member → Type 0
AreRunning s t ms = (i : ℕ) (m : Member) → slice_get ms i ≡ Some m → s.on (volume_seen s t m.b.0).server ≡ true

-- the order is to seal
abbrev pub is_seal : Work → Bool
is_seal Seal = true
is_seal _ = false

-- the order is to report
abbrev pub is_report : Work → Bool
is_report Report = true
is_report _ = false

-- the tracks of a volume that are out of sync
abbrev pub sync_seen : PlantState → ConfigTable → ℕ → Tracks
sync_seen s t v = (volume_seen s t v).fields.out_of_sync

-- a seal has to wait where a member's primary has tracks to send
abbrev pub must_wait : (ℕ → Tracks) → Member → Bool
must_wait sync m = not (is_bare (sync m.a.0))

-- the reply to an order is that a seal has to wait
abbrev pub waits_in : Work → (ℕ → Tracks) → List Member → Bool
waits_in work sync ms = is_seal work && list_any (must_wait sync) ms
