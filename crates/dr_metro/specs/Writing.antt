-- A pending write that is to be carried out, and what is left where it was.
use Rattle.std.specs.Prelude.{◌≡◌, ℕ, ◌<◌, ◌≤◌, ◌+◌, Bool, true, false, List, length, Some, None, is_some, Result, Ok, Err}
use Rattle.std.specs.List.{find}
use Rattle.dr_logic.specs.Counts.{Counted}
use Rattle.dr_ids.specs.declared.refusal.Refusal.{Refusal}
use Rattle.dr_plant.specs.State.{PlantState}
use Rattle.dr_config.specs.Table.{ConfigTable, place_of}
use Rattle.dr_host.specs.Writes.{Writes, has_number}
use Rattle.dr_host.specs.declared.pending.Pending.{Pending}
use Rattle.dr_model.specs.declared.event.Event.{Event}
use Rattle.dr_model.specs.Log.{Log}
use Rattle.dr_model.specs.Carry.{Entry, Stretch}
use Rattle.dr_model.specs.Control.{Control}
use Rattle.dr_model.specs.ReadStops.{Ends}
use Rattle.dr_volume.specs.declared.fields.Fields.{Fields}
use Rattle.dr_volume.specs.View.{Rest, volume_seen}
use Rattle.dr_volume.specs.Volume.{Says}
use Rattle.dr_moves.specs.Checks.{is_stop}
use Rattle.dr_moves.specs.Followed.{EndsIn}
use Rattle.dr_moves.specs.Here.{refusal_of, armed_in}
use Rattle.dr_moves.specs.Made.{IsAt, IsPrimary}
use Rattle.dr_flash.specs.Standing.{HasNoTarget}
use Rattle.dr_gcopy.specs.Both.{IsOn}
use Rattle.dr_host.specs.Here.{here}
use Rattle.dr_metro.specs.Here.{IsTold}
use Rattle.dr_gcopy.specs.Sending.{MayPair}
use Rattle.dr_metro.specs.declared.sync.WriteEnd.{WriteEnd}
use Rattle.dr_metro.specs.declared.sync.WriteEnd.TheVariants.{Landed}

-- Write p is pending, and its place is on a volume that is defined.
pub record IsDue (s : PlantState) (c : ConfigTable) (h : Writes) (events : List Event) (p : Pending) : Type 0 where
  pub at : IsAt s c
  pub told : IsTold h events
  pub defined : is_some (place_of c p.volume.0) ≡ true
  pub within : p.track < (volume_seen s c p.volume.0).tracks
  pub fits : p.offset + p.len ≤ 64
  pub found : find (has_number p.w.0) h.pending ≡ Some p

-- Its volume is a primary whose server is on, and so is that of the secondary u: these are the fields of both, and where no target of
-- the primary was found it has none.
pub record CanCross (s : PlantState) (c : ConfigTable) (h : Writes) (events : List Event) (p : Pending) (u : ℕ) (f g : Fields) (found : Bool) : Type 0 where
  pub due : IsDue s c h events p
  pub running : IsOn s c p.volume.0
  pub primary : IsPrimary s c p.volume.0
  pub pair : MayPair s c p.volume.0 u
  pub reached : IsOn s c u
  pub says : Says s c p.volume.0 f
  pub says_to : Says s c u g
  pub alone : found ≡ false → HasNoTarget s c p.volume.0

-- From s to u a part of a host write was carried out, these entries by the state that it began in, and this stays: configuration and
-- plant agree, the pending writes are those of the journal, no read fuse is armed, a fault counts where a server stopped, no write is
-- issued, and the journal is told so many events at most.
pub record Wrote (s u : PlantState) (c : ConfigTable) (h g : Writes) (old new : Log) (es : Control → List Entry) (most : ℕ) {T : Type 0} (result : Result T Refusal) : Type 0 where
  pub carried : (r : Rest) → Ends (armed_in s) (here u c r g new.events) (refusal_of result) (here s c r h old.events) (es (here s c r h old.events).control)
  pub at : IsAt u c
  pub told : IsTold g new.events
  pub unarmed : (q : ℕ) → s.read_fuse q ≡ None → u.read_fuse q ≡ None
  pub faults : Counted (is_stop (refusal_of result)) s.faults u.faults
  pub issued : g.issued ≡ h.issued
  pub room : old.spare ≤ new.spare + most
  pub spare : length new.events + new.spare ≡ length old.events + old.spare

-- The same of stretches, one after another, with what follows a stop in them.
pub record WroteIn (s u : PlantState) (c : ConfigTable) (h g : Writes) (old new : Log) (ss : Control → List Stretch) (most : ℕ) {T : Type 0} (result : Result T Refusal) : Type 0 where
  pub carried : (r : Rest) → EndsIn (armed_in s) (here s c r h old.events) (ss (here s c r h old.events).control) (here u c r g new.events) (refusal_of result)
  pub at : IsAt u c
  pub told : IsTold g new.events
  pub unarmed : (q : ℕ) → s.read_fuse q ≡ None → u.read_fuse q ≡ None
  pub faults : Counted (is_stop (refusal_of result)) s.faults u.faults
  pub issued : g.issued ≡ h.issued
  pub room : old.spare ≤ new.spare + most
  pub spare : length new.events + new.spare ≡ length old.events + old.spare

-- a write that was carried out has landed
abbrev pub landed_so : Result (Unit {0}) Refusal → Result WriteEnd Refusal
landed_so (Ok x) = Ok Landed
landed_so (Err e) = Err e
