use Rattle.std.proofs.Common.{◌≡◌, ℕ, true}
use Rattle.std.specs.Prelude.{Result, Ok, Err, OnOk, is_ok}
use Rattle.dr_ids.specs.declared.refusal.Refusal.{Refusal}
use Rattle.dr_plant.specs.State.{PlantState}
use Rattle.dr_config.specs.Table.{ConfigTable}
use Rattle.dr_volume.specs.View.{volume_seen}
use Rattle.dr_freeze.specs.Between.{between}
use Rattle.dr_freeze.specs.Changes.{IsChanged}
use Rattle.dr_freeze.specs.Passing.{HasPassed}
use Rattle.dr_freeze.specs.declared.changes.Change.{Change}
use Rattle.dr_freeze.proofs.PassLemmas.{passed-all}
use Rattle.dr_freeze.proofs.passing.change_all.Goals as goal

changed-by : (x : Change) (s u : PlantState) (c : ConfigTable) (l m : ℕ) (res : Result (Unit {0}) Refusal) → HasPassed x (is_ok res) s u c l m 0 → OnOk res ((v : ℕ) → between s c l m v ≡ true → IsChanged x (volume_seen u c v).fields)
changed-by x s u c l m (Ok y) passed = passed-all s u c x l m passed
changed-by x s u c l m (Err e) passed = tt

pub returns-clause-changed : goal.returns-clause-changed
returns-clause-changed g c = changed-by c.args.x (g.P.Plant.state c.args.plant.now) (g.P.Plant.state c.carry.new.plant) c.args.config.now c.args.l.0 c.args.m.0 c.carry.result c.carry.ensures.makes
