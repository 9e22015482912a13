-- The entries that raise an attempt and a floor, by what the volume's fields say.
use Rattle.std.proofs.Common.{ℕ, ◌≡◌, ◌<◌, ◌≤◌, ap, List}
use Rattle.std.specs.Prelude.{if◌then◌else◌}
use Rattle.std.proofs.lemmas.Bool.{lt-ltb, le-ltb}
use Rattle.dr_plant.specs.State.{PlantState}
use Rattle.dr_config.specs.Table.{ConfigTable}
use Rattle.dr_model.specs.declared.event.Event.{Event}
use Rattle.dr_model.specs.Control.{World}
use Rattle.dr_model.specs.Moves.{RaiseAttempt, RaiseFloor}
use Rattle.dr_model.specs.Carry.{Make, Pass, Do}
use Rattle.dr_model.specs.SessionEntries.{raise_attempt_on, raise_floor_on}
use Rattle.dr_volume.specs.View.{Rest, volume_seen}
use Rattle.dr_moves.specs.Here.{world_seen}

module _ (s : PlantState) (t : ConfigTable) (r : Rest) (events : List Event) (v n : ℕ) where
  abbrev w : World
  w = world_seen s t r events

  pub attempt-skips : n ≤ (volume_seen s t v).fields.attempt → raise_attempt_on v n w.control ≡ Pass
  attempt-skips is = ap (λ b. if b then Do (Make (RaiseAttempt v n)) else Pass) (le-ltb (volume_seen s t v).fields.attempt n is)

  pub attempt-comes : (volume_seen s t v).fields.attempt < n → raise_attempt_on v n w.control ≡ Do (Make (RaiseAttempt v n))
  attempt-comes is = ap (λ b. if b then Do (Make (RaiseAttempt v n)) else Pass) (lt-ltb (volume_seen s t v).fields.attempt n is)

  pub floor-skips : n ≤ (volume_seen s t v).fields.floor → raise_floor_on v n w.control ≡ Pass
  floor-skips is = ap (λ b. if b then Do (Make (RaiseFloor v n)) else Pass) (le-ltb (volume_seen s t v).fields.floor n is)

  pub floor-comes : (volume_seen s t v).fields.floor < n → raise_floor_on v n w.control ≡ Do (Make (RaiseFloor v n))
  floor-comes is = ap (λ b. if b then Do (Make (RaiseFloor v n)) else Pass) (lt-ltb (volume_seen s t v).fields.floor n is)
