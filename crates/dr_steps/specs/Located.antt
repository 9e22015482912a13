-- Where a track of a volume lies, by the configuration.
use Rattle.std.specs.Prelude.{◌≡◌, ℕ, ◌<◌, true, List, [], ◌∷◌, Some, None, is_some, Result, Ok, Err}
use Rattle.dr_plant.specs.State.{PlantState}
use Rattle.dr_config.specs.Table.{ConfigTable, place_of}
use Rattle.dr_volume.specs.View.{volume_seen}
use Rattle.dr_ids.specs.declared.refusal.Refusal.{Refusal}
use Rattle.dr_ids.specs.declared.refusal.Kind.TheVariants.{Volume as OfVolume}
use Rattle.dr_model.specs.Carry.{Entry, check}
use Rattle.dr_model.specs.Refusals.{unknown}
use Rattle.dr_model.specs.Plans.{track_refusal, is_defined}
use Rattle.dr_steps.specs.Here.{here}
use Rattle.dr_steps.specs.declared.tables.Tables.{Tables}
use Rattle.dr_steps.specs.declared.locate.TrackPlace.{TrackPlace}
use Rattle.dr_model.specs.declared.event.Event.{Event}

-- the place of a track that is there
pub record IsPlace (s : PlantState) (t : ConfigTable) (v k : ℕ) (p : TrackPlace) : Type 0 where
  pub defined : is_some (place_of t v) ≡ true
  pub server : (volume_seen s t v).server ≡ p.server.0
  pub known : p.server.0 < 8
  pub track : p.track ≡ k
  pub within : p.track < (volume_seen s t v).tracks

-- a track is located exactly where the machine has it, and else it says why not
abbrev pub Located : ConfigTable → ℕ → ℕ → Result TrackPlace Refusal → Type 0
Located t v k (Ok p) = (s : PlantState) (h : Tables) (events : List Event) → (track_refusal (here s t h events).control v k ≡ None) × IsPlace s t v k p
Located t v k (Err r) = (s : PlantState) (h : Tables) (events : List Event) → track_refusal (here s t h events).control v k ≡ Some r

-- two volumes are defined
abbrev pub defined_checks : ℕ → ℕ → List Entry
defined_checks v u = check (is_defined v) (unknown OfVolume) ∷ check (is_defined u) (unknown OfVolume) ∷ []
