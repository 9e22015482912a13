-- What is done for a host write on both sides, from its last move to its first, what that asks, and what it leaves.
use Rattle.std.specs.Prelude.{◌≡◌, ℕ, ◌<◌, Bool, true, false, List, [], ◌∷◌, ◌++◌, is_some}
use Rattle.std.specs.FinSet.{contains}
use Rattle.std.specs.List.{find}
use Rattle.dr_plant.specs.State.{PlantState}
use Rattle.dr_config.specs.Table.{ConfigTable, place_of}
use Rattle.dr_host.specs.Writes.{Writes, has_number}
use Rattle.dr_model.specs.declared.event.Event.{Event}
use Rattle.dr_model.specs.Contents.{with_write}
use Rattle.dr_model.specs.Histories.{histories}
use Rattle.dr_model.specs.Moves.{Mirror, LandBoth}
use Rattle.dr_model.specs.Pairs.{is_suspended}
use Rattle.dr_model.specs.Carry.{Entry, now}
use Rattle.dr_model.specs.Entries.{copy_first}
use Rattle.dr_volume.specs.declared.fields.Fields.{Fields}
use Rattle.dr_volume.specs.View.{volume_seen, track_seen}
use Rattle.dr_volume.specs.Volume.{Says}
use Rattle.dr_moves.specs.Made.{IsAt, IsPrimary}
use Rattle.dr_flash.specs.Standing.{HasNoTarget}
use Rattle.dr_gcopy.specs.Both.{IsOn}
use Rattle.dr_gcopy.specs.Sending.{MayPair}
use Rattle.dr_metro.specs.Here.{IsTold}
use Rattle.dr_metro.specs.declared.moves.Route.{Route}

-- the targets of primary v keep track t, and the write lands
abbrev pub settle_entries : List ℕ → ℕ → ℕ → ℕ → List Entry
settle_entries volumes n v t = copy_first volumes v t ++ now (LandBoth n v t) ∷ []

-- the targets of the secondary u keep the track, and u stores it
abbrev pub store_entries : List ℕ → ℕ → ℕ → ℕ → ℕ → List Entry
store_entries volumes n v t u = copy_first volumes u t ++ now (Mirror u t v n) ∷ []

-- first the secondary, and then the primary
abbrev pub mirror_entries : List ℕ → ℕ → ℕ → ℕ → ℕ → List Entry
mirror_entries volumes n v t u = store_entries volumes n v t u ++ settle_entries volumes n v t

-- Track t of primary v is the same on u, or v records that it isn't: it is out of sync, or the pair is Suspended.
abbrev pub Mirrors : PlantState → ConfigTable → ℕ → ℕ → ℕ → Type 0
Mirrors s c v u t = contains (volume_seen s c v).fields.out_of_sync t ≡ false → is_suspended (volume_seen s c v).fields.primary_state ≡ false → track_seen s c u t ≡ track_seen s c v t

-- Pending write n can land on track t of primary v, whose server is on: these are the track's bytes with it, and these the fields of v.
pub record CanLand (s : PlantState) (c : ConfigTable) (h : Writes) (events : List Event) (n v t : ℕ) (block : List ℕ) (f : Fields) : Type 0 where
  pub at : IsAt s c
  pub told : IsTold h events
  pub waits : is_some (find (has_number n) h.pending) ≡ true
  pub from : is_some (place_of c v) ≡ true
  pub running : IsOn s c v
  pub primary : IsPrimary s c v
  pub within : t < (volume_seen s c v).tracks
  pub bytes : block ≡ with_write (histories events).write (track_seen s c v t) n
  pub says : Says s c v f

-- Its secondary is of a kind, and where no target of the primary was found it has none.
pub record CanSettle (s : PlantState) (c : ConfigTable) (h : Writes) (events : List Event) (m : Route) (block : List ℕ) (f : Fields) (found : Bool) : Type 0 where
  pub can : CanLand s c h events m.write.0 m.from.0 m.track block f
  pub pair : MayPair s c m.from.0 m.to.0
  pub alone : found ≡ false → HasNoTarget s c m.from.0

-- The secondary, whose server is on, can store the track's bytes with the write: these are its fields.
pub record CanStore (s : PlantState) (c : ConfigTable) (events : List Event) (m : Route) (block : List ℕ) (g : Fields) : Type 0 where
  pub at : IsAt s c
  pub pair : MayPair s c m.from.0 m.to.0
  pub reached : IsOn s c m.to.0
  pub within : m.track < (volume_seen s c m.to.0).tracks
  pub bytes : block ≡ with_write (histories events).write (track_seen s c m.from.0 m.track) m.write.0
  pub says : Says s c m.to.0 g
