-- The moves of a recovery, one by one, and what each asks.
use Rattle.std.specs.Prelude.{ℕ, List, ◌++◌, map}
use Rattle.dr_ids.specs.declared.names.Member.{Member}
use Rattle.dr_ids.specs.declared.refusal.Decision.{Decision}
use Rattle.dr_plant.specs.State.{PlantState}
use Rattle.dr_config.specs.Table.{ConfigTable}
use Rattle.dr_model.specs.Carry.{Entry}
use Rattle.dr_model.specs.RecoveryPlans.{take_over_on, settle_on}
use Rattle.dr_moves.specs.Aside.{AsideFits}
use Rattle.dr_gmirror.specs.Orders.{AreReady, AreRunning}

-- all secondaries are taken over, and then each target becomes what was decided
abbrev pub moves_of : ℕ → Decision → List Member → List Entry
moves_of s d ms = map take_over_on ms ++ map (settle_on s d) ms

-- The members are ready, the servers of their secondaries are on, and what a target keeps aside isn't blank.
pub record CanGo (s : PlantState) (c : ConfigTable) (ms : List Member) : Type 0 where
  pub members : AreReady s c ms
  pub running : AreRunning s c ms
  pub aside : AsideFits s c
