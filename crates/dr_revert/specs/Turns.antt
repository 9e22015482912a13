-- What becomes of a target in an attempt: nothing, or one move of it.
use Rattle.std.specs.Prelude.{◌≡◌, ◌≤◌, ℕ, length, None}
use Rattle.dr_plant.specs.State.{PlantState}
use Rattle.dr_config.specs.Table.{ConfigTable}
use Rattle.dr_model.specs.Moves.{Move, target, told}
use Rattle.dr_volume.specs.View.{volume_seen}
use Rattle.dr_moves.specs.Coming.{MayMake}
use Rattle.dr_moves.specs.Moves.{move_of}
use Rattle.dr_moves.specs.declared.carrying.Next.{Next}
use Rattle.dr_moves.specs.declared.carrying.Next.TheVariants.{Pass, Do}

-- A move of v that may come, carries no track, and tells one event at most.
pub record TurnOf (s : PlantState) (c : ConfigTable) (v : ℕ) (m : Move) : Type 0 where
  pub aims : target m ≡ v
  pub make : MayMake s c m None
  pub few : length (told m (volume_seen s c v)) ≤ 1

-- such a move, or nothing
abbrev pub Turns : PlantState → ConfigTable → ℕ → Next → Type 0
Turns s c v Pass = Unit {0}
Turns s c v (Do m) = TurnOf s c v (move_of m)
Turns s c v _ = ⊥
