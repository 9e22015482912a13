-- How a host write lands on its volume alone.
use Rattle.std.specs.Prelude.{◌≡◌, ℕ, ◌<◌, ◌≤◌, ◌+◌, Bool, true, List, length, is_some, Result, Ok, Err, if◌then◌else◌}
use Rattle.dr_plant.specs.State.{PlantState}
use Rattle.dr_config.specs.Table.{ConfigTable, place_of}
use Rattle.dr_host.specs.Writes.{Writes, without, with_marked}
use Rattle.dr_model.specs.declared.event.Event.{Event}
use Rattle.dr_model.specs.Layout.{Fields}
use Rattle.dr_model.specs.Control.{Volume}
use Rattle.dr_model.specs.Pairs.{written}
use Rattle.dr_model.specs.Relations.{closed, fetched, rewritten}
use Rattle.dr_model.specs.Moves.{Move, Land, Overwrite}
use Rattle.dr_volume.specs.View.{volume_seen}
use Rattle.dr_moves.specs.Made.{IsAt}
use Rattle.dr_moves.specs.declared.acts.Stop.{Stop}
use Rattle.dr_metro.specs.Here.{IsTold}
use Rattle.dr_metro.specs.Waiting.{IsIssuedAs}
use Rattle.dr_metro.specs.declared.machine.Target.{Target}

-- how a host write lands on a volume that is a target or isn't
abbrev pub landing_move : Bool → ℕ → ℕ → ℕ → Move
landing_move target n v t = if target then Overwrite n v t else Land n v t

-- the fields of a volume of n tracks once a host write landed on one
abbrev pub landed : ℕ → Fields → ℕ → Fields
landed n f t = if f.related then closed n (rewritten (fetched f t) t) else written f t

-- by the volume as it was
abbrev pub landed_on : Volume → ℕ → Fields
landed_on u t = landed u.tracks u.fields t

-- the host's writes once the move was made that lands write n: it is pending no more, or has landed where its server stopped in it
abbrev pub writes_after : Writes → ℕ → Result (Unit {0}) Stop → Writes
writes_after h n (Ok x) = without h n
writes_after h n (Err stop) = if stop.counts then with_marked h n else h

-- Pending write n can land on its volume alone, whose server is on, with these bytes at that place.
pub record CanLandAlone (s : PlantState) (c : ConfigTable) (h : Writes) (events : List Event) (n : ℕ) (target : Target) (bytes : List ℕ) : Type 0 where
  pub at : IsAt s c
  pub told : IsTold h events
  pub defined : is_some (place_of c target.volume.0) ≡ true
  pub server : (volume_seen s c target.volume.0).server ≡ target.server.0
  pub running : s.on target.server.0 ≡ true
  pub within : target.track < (volume_seen s c target.volume.0).tracks
  pub fits : target.offset + length bytes ≤ 64
  pub pending : IsIssuedAs h events n target bytes
