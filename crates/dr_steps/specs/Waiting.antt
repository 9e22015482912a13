-- A write of the host that is issued, and one that is carried out.
use Rattle.std.specs.Prelude.{◌≡◌, ◌≢◌, ℕ, ◌+◌, List, [], ◌∷◌, ◌++◌, take, Some, None, IsSome, true}
use Rattle.std.specs.List.{find}
use Rattle.dr_host.specs.Writes.{has_number, written, with_write}
use Rattle.dr_steps.specs.declared.tables.Tables.{Tables}
use Rattle.dr_model.specs.declared.event.Event.{Event}
use Rattle.dr_plant.specs.State.{PlantState}
use Rattle.dr_config.specs.Table.{ConfigTable, place_of}
use Rattle.dr_model.specs.declared.event.Event.TheVariants.{Issue}
use Rattle.dr_model.specs.Plans.{track_refusal, issue_refusal}
use Rattle.dr_model.specs.Layout.{is_part}
use Rattle.dr_model.specs.declared.said.Addition.TheVariants.{Wrote}
use Rattle.dr_model.specs.declared.said.Said.{Said}
use Rattle.dr_model.specs.declared.said.Said.TheVariants.{Done, Held as SaidHeld}
use Rattle.dr_volume.specs.View.{volume_seen}
use Rattle.dr_steps.specs.Here.{here}
use Rattle.dr_metro.specs.declared.sync.WriteEnd.{WriteEnd}
use Rattle.dr_metro.specs.declared.sync.WriteEnd.TheVariants.{Landed, Held}
use Rattle.dr_steps.specs.declared.steps.HostWrite.{HostWrite}

-- a write was issued on a track that is there, with this number: the host has it, and the journal is told
pub record IsIssued (t : ConfigTable) (h : Tables) (events : List Event) (h' : Tables) (events' : List Event) (x : HostWrite) (w : ℕ) : Type 0 where
  pub number : w ≡ h.host.issued + 1
  pub tables : h' ≡ record h { host = with_write h.host x.volume.0 x.track x.offset (take x.len x.bytes) }
  pub found : find (has_number w) h'.host.pending ≡ Some (written w x.volume.0 x.track x.offset (take x.len x.bytes))
  pub told : events' ≡ events ++ Issue w x.volume.0 x.track x.offset x.len x.bytes ∷ []
  pub there : (s : PlantState) → track_refusal (here s t h events).control x.volume.0 x.track ≡ None
  pub free : (s : PlantState) → issue_refusal (here s t h events).control x.volume.0 x.track ≡ None

-- what is answered where write n was carried out
abbrev pub written_as : ℕ → WriteEnd → Said
written_as n Landed = Done (Wrote n)
written_as n Held = SaidHeld n

-- the secondary of each primary is defined, on another server and of the same size
pub record PartnersFit (s : PlantState) (t : ConfigTable) : Type 0 where
  pub defined : (v : ℕ) → is_part (volume_seen s t v).fields.primary ≡ true → IsSome (place_of t (volume_seen s t v).fields.primary_partner)
  pub apart : (v : ℕ) → is_part (volume_seen s t v).fields.primary ≡ true → (volume_seen s t v).server ≢ (volume_seen s t (volume_seen s t v).fields.primary_partner).server
  pub same_tracks : (v : ℕ) → is_part (volume_seen s t v).fields.primary ≡ true → (volume_seen s t (volume_seen s t v).fields.primary_partner).tracks ≡ (volume_seen s t v).tracks
