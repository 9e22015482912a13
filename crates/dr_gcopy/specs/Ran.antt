-- Entries that a call carried out, and what stays over it; and a track that may be passed on.
use Rattle.std.specs.Prelude.{◌≡◌, ◌≢◌, ℕ, ◌<◌, ◌≤◌, ◌+◌, Bool, true, List, length, None, is_some, Result, OnOk, OnErr}
use Rattle.dr_logic.specs.Counts.{Counted}
use Rattle.dr_ids.specs.declared.refusal.Refusal.{Refusal}
use Rattle.dr_plant.specs.State.{PlantState}
use Rattle.dr_config.specs.Table.{ConfigTable, place_of}
use Rattle.dr_model.specs.Log.{Log}
use Rattle.dr_model.specs.Carry.{Entry}
use Rattle.dr_model.specs.Pairs.{is_last}
use Rattle.dr_volume.specs.declared.fields.Fields.{Fields}
use Rattle.dr_volume.specs.Update.{IsAsBefore}
use Rattle.dr_volume.specs.View.{Rest, volume_seen, track_seen}
use Rattle.dr_volume.specs.Volume.{Says}
use Rattle.dr_moves.specs.Checks.{is_stop}
use Rattle.dr_moves.specs.Here.{world_seen, refusal_of, armed_in}
use Rattle.dr_moves.specs.Made.{IsAt, IsPrimary, IsSecondary}
use Rattle.dr_moves.specs.Turns.{Leads, Fails}
use Rattle.dr_gcopy.specs.Both.{IsOn}

-- What stays from s to u: configuration and plant agree, no read fuse is armed, a fault counts where a server stopped, these volumes
-- have what they had, and where the call went well servers are on as before. The journal is told so many events at most, and where
-- the call went well so many.
pub record Stays (s u : PlantState) (c : ConfigTable) (old new : Log) (spares : ℕ → Type 0) (most least : ℕ) (result : Result (Unit {0}) Refusal) : Type 0 where
  pub at : IsAt u c
  pub unarmed : (q : ℕ) → s.read_fuse q ≡ None → u.read_fuse q ≡ None
  pub faults : Counted (is_stop (refusal_of result)) s.faults u.faults
  pub others : (q : ℕ) → spares q → IsAsBefore s u c q
  pub on : OnOk result (u.on ≡ s.on)
  pub room : old.spare ≤ new.spare + most
  pub left : OnOk result (old.spare ≤ new.spare + least)
  pub spare : length new.events + new.spare ≡ length old.events + old.spare

-- These entries were carried out from s to u, or one of them ended all.
pub record Ran (s u : PlantState) (c : ConfigTable) (old new : Log) (es : List Entry) (spares : ℕ → Type 0) (most least : ℕ) (result : Result (Unit {0}) Refusal) : Type 0 where
  pub leads : OnOk result ((r : Rest) → Leads (world_seen s c r old.events) es (world_seen u c r new.events))
  pub fails : OnErr result ((r : Rest) → Fails (armed_in s) (world_seen s c r old.events) es (world_seen u c r new.events) (refusal_of result))
  pub stays : Stays s u c old new spares most least result

-- Primary a can pass track t on to its secondary b, by these fields of a and these bytes; it is its last track or isn't.
pub record CanPass (s : PlantState) (c : ConfigTable) (a b t : ℕ) (f : Fields) (block : List ℕ) (is_the_last : Bool) : Type 0 where
  pub from : is_some (place_of c a) ≡ true
  pub to : is_some (place_of c b) ≡ true
  pub running : IsOn s c a
  pub reached : IsOn s c b
  pub primary : IsPrimary s c a
  pub secondary : IsSecondary s c b
  pub two_servers : (volume_seen s c a).server ≢ (volume_seen s c b).server
  pub within : t < (volume_seen s c a).tracks
  pub size : (volume_seen s c b).tracks ≡ (volume_seen s c a).tracks
  pub says : Says s c a f
  pub bytes : block ≡ track_seen s c a t
  pub last : is_the_last ≡ is_last (volume_seen s c a).fields t
