-- A move as an entry of a plan.
use Rattle.std.specs.Prelude.{◌≡◌, ◌⊎◌, ℕ, Bool, true, false, List, [], ◌∷◌, None, Some, Result, OnOk, OnErr}
use Rattle.dr_ids.specs.declared.refusal.Refusal.{Refusal}
use Rattle.dr_plant.specs.State.{PlantState}
use Rattle.dr_config.specs.Table.{ConfigTable}
use Rattle.dr_model.specs.declared.event.Event.{Event}
use Rattle.dr_model.specs.Moves.{Move, Land, Overwrite, LandBoth}
use Rattle.dr_model.specs.Carry.{now, turn}
use Rattle.dr_model.specs.ReadStops.{Ends, GoesOff}
use Rattle.dr_model.specs.Refusals.{stopped}
use Rattle.dr_volume.specs.View.{Rest, volume_seen}
use Rattle.dr_moves.specs.Here.{world_seen, armed_in, refusal_of}
use Rattle.dr_moves.specs.Turns.{Advances, Halts}

-- the move lands no host write, so that it settles no pending one
abbrev pub is_calm : Move → Bool
is_calm (Land w v t) = false
is_calm (Overwrite w v t) = false
is_calm (LandBoth w v t) = false
is_calm _ = true

-- The call was the machine's turn of that move, or a server went off at a read before it; so it carried out the one entry that comes to this move of v, or a server stopped.
pub record Entered (s u : PlantState) (c : ConfigTable) (before after : List Event) (m : Move) (v : ℕ) (result : Result (Unit {0}) Refusal) : Type 0 where
  pub done : OnOk result ((r : Rest) → turn (world_seen s c r before) m ≡ (world_seen u c r after, None))
  pub failed : OnErr result ((r : Rest) → GoesOff (armed_in s) (world_seen u c r after) (refusal_of result) (world_seen s c r before) ⊎ (turn (world_seen s c r before) m ≡ (world_seen u c r after, Some (volume_seen s c v).server)))
  pub carried : (r : Rest) → Ends (armed_in s) (world_seen u c r after) (refusal_of result) (world_seen s c r before) (now m ∷ [])
  pub advances : OnOk result ((r : Rest) → Advances (world_seen s c r before) (now m) (world_seen u c r after))
  pub halts : OnErr result ((r : Rest) → Halts (armed_in s) (world_seen s c r before) (now m) (world_seen u c r after) (refusal_of result))
  pub refused : OnErr result (refusal_of result ≡ Some (stopped (volume_seen s c v).server))
