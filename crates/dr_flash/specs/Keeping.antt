-- What becomes of targets before a track of their source changes, and of one that takes a track.
use Rattle.std.specs.Prelude.{◌≡◌, ◌⊎◌, ℕ, ◌≤◌, ◌+◌, false, length, Some, Result, OnOk, OnErr, is_err}
use Rattle.dr_ids.specs.declared.refusal.Refusal.{Refusal}
use Rattle.dr_plant.specs.State.{PlantState}
use Rattle.dr_config.specs.Table.{ConfigTable}
use Rattle.dr_model.specs.Log.{Log}
use Rattle.dr_model.specs.Carry.{Entry}
use Rattle.dr_model.specs.Entries.{keep_on, copy_first}
use Rattle.dr_model.specs.Moves.{Move, Keep, Fetch}
use Rattle.dr_model.specs.Refusals.{stopped}
use Rattle.dr_volume.specs.Update.{IsAsBefore, OthersStay}
use Rattle.dr_volume.specs.View.{Rest, volume_seen, ids_of}
use Rattle.dr_moves.specs.Here.{world_seen, armed_in, refusal_of}
use Rattle.dr_moves.specs.Made.{Kept}
use Rattle.dr_moves.specs.Turns.{Advances, Halts, Leads, Fails}
use Rattle.dr_flash.specs.Views.{AllShow, kept_for, KeepsTrack}

-- target v takes track t of its source, and notes that it is about to change, or doesn't
abbrev pub Takes : Move → ℕ → ℕ → Type 0
Takes m v t = (m ≡ Keep v t) ⊎ (m ≡ Fetch v t)

-- From s to u the entry was carried out, or this server stopped; it changed volume q alone, and no volume shows anything new.
pub record Unseen (s u : PlantState) (c : ConfigTable) (old new : Log) (d : Entry) (q server : ℕ) (result : Result (Unit {0}) Refusal) : Type 0 where
  pub advances : OnOk result ((r : Rest) → Advances (world_seen s c r old.events) d (world_seen u c r new.events))
  pub halts : OnErr result ((r : Rest) → Halts (armed_in s) (world_seen s c r old.events) d (world_seen u c r new.events) (refusal_of result))
  pub refused : OnErr result (refusal_of result ≡ Some (stopped server))
  pub kept : Kept s u c old new 2 (is_err result) result
  pub others : OthersStay s u c q
  pub show : AllShow s u c
  pub room_left : OnOk result (old.spare ≤ new.spare + 1)

-- Before track t of v changes, q has kept it where it is a target of v that isn't restored onto it.
pub record KeptOn (s u : PlantState) (c : ConfigTable) (old new : Log) (v t q : ℕ) (result : Result (Unit {0}) Refusal) : Type 0 where
  pub unseen : Unseen s u c old new (keep_on v t q) q (volume_seen s c v).server result
  pub held : OnOk result (KeepsTrack s u c v t q)
  pub apart : (p : ℕ) → kept_for v (volume_seen s c p).fields ≡ false → IsAsBefore s u c p

-- So have all of them, one after another, or the server of v stopped.
pub record KeptAll (s u : PlantState) (c : ConfigTable) (old new : Log) (v t : ℕ) (result : Result (Unit {0}) Refusal) : Type 0 where
  pub leads : OnOk result ((r : Rest) → Leads (world_seen s c r old.events) (copy_first (ids_of c.volumes) v t) (world_seen u c r new.events))
  pub fails : OnErr result ((r : Rest) → Fails (armed_in s) (world_seen s c r old.events) (copy_first (ids_of c.volumes) v t) (world_seen u c r new.events) (refusal_of result))
  pub refused : OnErr result (refusal_of result ≡ Some (stopped (volume_seen s c v).server))
  pub kept : Kept s u c old new (length c.volumes + 1) (is_err result) result
  pub show : AllShow s u c
  pub held : OnOk result ((q : ℕ) → KeepsTrack s u c v t q)
  pub apart : (q : ℕ) → kept_for v (volume_seen s c q).fields ≡ false → IsAsBefore s u c q
  pub room_left : OnOk result (old.spare ≤ new.spare + length c.volumes)
