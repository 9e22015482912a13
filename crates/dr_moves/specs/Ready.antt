-- What a move asks of its own volume, where nothing is known of the others, and what stays then.
use Rattle.std.specs.Prelude.{◌≡◌, ℕ, ◌<◌, ◌≤◌, ◌+◌, true, false, length, None, is_some, IfSome, Result, OnOk, OnErr, is_err}
use Rattle.dr_logic.specs.Counts.{Counted}
use Rattle.dr_ids.specs.Sizes.{most_tracks}
use Rattle.dr_plant.specs.State.{PlantState}
use Rattle.dr_config.specs.Table.{ConfigTable, StandsFor, place_of}
use Rattle.dr_model.specs.Lawful.{IsLawful}
use Rattle.dr_model.specs.Log.{Log}
use Rattle.dr_model.specs.Moves.{Move, Carried, fields_left}
use Rattle.dr_volume.specs.Update.{Covers}
use Rattle.dr_volume.specs.View.{volume_seen}
use Rattle.dr_moves.specs.Moves.{IsBelow}

-- The configuration stands for the plant, the volume is defined, and its server is on. Nothing is said of the other volumes.
pub record StandsReady (s : PlantState) (t : ConfigTable) (v : ℕ) : Type 0 where
  pub stands : StandsFor t s
  pub defined : is_some (place_of t v) ≡ true
  pub running : s.on (volume_seen s t v).server ≡ true
  pub size : (volume_seen s t v).tracks ≤ most_tracks

-- Its volume v stands ready; the fields that it leaves are lawful and cover what is blank, and the track that it carries is one of v.
pub record Ready (s : PlantState) (c : ConfigTable) (v : ℕ) (m : Move) (t : Carried) : Type 0 where
  pub ready : StandsReady s c v
  pub below : IsBelow most_tracks m
  pub lawful : IsLawful (volume_seen s c v).tracks (fields_left m (volume_seen s c v))
  pub covers : Covers (volume_seen s c v).fields.blank (fields_left m (volume_seen s c v)).blank t
  pub within : IfSome t (λ x. x.0 < (volume_seen s c v).tracks)

-- What stays from s to u: the configuration stands for the plant, no read fuse is armed, the faults are counted, servers are on as before
-- where the call went well, and else that one is off, and the journal has its room.
pub record Stayed (s u : PlantState) (c : ConfigTable) (old new : Log) (server most : ℕ) {E : Type 0} (result : Result (Unit {0}) E) : Type 0 where
  pub stands : StandsFor c u
  pub unarmed : (q : ℕ) → s.read_fuse q ≡ None → u.read_fuse q ≡ None
  pub faults : Counted (is_err result) s.faults u.faults
  pub on : OnOk result (u.on ≡ s.on)
  pub off : OnErr result (u.on server ≡ false)
  pub room : old.spare ≤ new.spare + most
  pub spare : length new.events + new.spare ≡ length old.events + old.spare
