-- Members that are ready, and their servers, on a later plant.
use Rattle.std.proofs.Common.{ℕ, ◌≡◌, true, List, slice_get, ◌∙◌, ap, Some}
use Rattle.dr_ids.specs.declared.names.Member.{Member}
use Rattle.dr_plant.specs.State.{PlantState}
use Rattle.dr_config.specs.Table.{ConfigTable}
use Rattle.dr_volume.specs.View.{volume_seen}
use Rattle.dr_gcopy.proofs.TwoMoves.{still-running}
use Rattle.dr_gmirror.specs.Orders.{AreReady, AreRunning}
use Rattle.dr_gmirror.proofs.OrderLemmas.{still-ready}

-- members are ready, and their secondaries' servers on, on a later plant, too
pub all-ready : (s u : PlantState) (t : ConfigTable) (ms : List Member) → AreReady s t ms → AreReady u t ms
all-ready s u t ms ready i m at = still-ready s u t m (ready i m at)

pub all-running : (s u : PlantState) (t : ConfigTable) (ms : List Member) → u.on ≡ s.on → AreReady s t ms → AreRunning s t ms → AreRunning u t ms
all-running s u t ms on ready running i m at = still-running s u t m.b.0 (ready i m at).secondary on (running i m at)

-- a target is on its secondary's server
pub target-running : (s : PlantState) (t : ConfigTable) (ms : List Member) → AreReady s t ms → AreRunning s t ms → (i : ℕ) (m : Member) → slice_get ms i ≡ Some m → s.on (volume_seen s t m.c.0).server ≡ true
target-running s t ms ready running i m at = ap (λ q. s.on q) (ready i m at).together ∙ running i m at
