-- The machine's state that a call finds and leaves, and how the call ended.
use Rattle.std.specs.Prelude.{ℕ, ◌≤◌, Bool, ◌&&◌, List, Option, Some, None, is_some, nat_lt, Result, Ok, Err}
use Rattle.dr_ids.specs.Sizes.{most_tracks}
use Rattle.dr_ids.specs.declared.refusal.Refusal.{Refusal}
use Rattle.dr_plant.specs.State.{PlantState}
use Rattle.dr_config.specs.Table.{ConfigTable, StandsFor}
use Rattle.dr_model.specs.declared.event.Event.{Event}
use Rattle.dr_model.specs.Control.{World}
use Rattle.dr_volume.specs.View.{Rest, world, volume_seen}

-- the state that plant, configuration, the rest and a journal show
abbrev pub world_seen : PlantState → ConfigTable → Rest → List Event → World
world_seen s t r events = world s t (record r { events = events })

-- the refusal that a call ended with, if one
abbrev pub refusal_of : {T : Type 0} → Result T Refusal → Option Refusal
refusal_of (Ok x) = None
refusal_of (Err r) = Some r

-- a server of the plant whose read fuse is armed
abbrev pub armed_in : PlantState → ℕ → Bool
armed_in s server = nat_lt server 8 && is_some (s.read_fuse server)

-- The configuration stands for the plant, and no volume is larger than a volume may be.
pub record IsAtRest (s : PlantState) (t : ConfigTable) : Type 0 where
  pub stands : StandsFor t s
  pub sizes : (v : ℕ) → (volume_seen s t v).tracks ≤ most_tracks
