use Rattle.std.proofs.Common.{◌≡◌, ℕ, true, nat_eq}
use Rattle.std.specs.Prelude.{Result, Ok, Err, OnOk, is_ok}
use Rattle.dr_ids.specs.declared.refusal.Refusal.{Refusal}
use Rattle.dr_plant.specs.State.{PlantState}
use Rattle.dr_config.specs.Table.{ConfigTable}
use Rattle.dr_model.specs.Entries.{subsystem}
use Rattle.dr_cgflash.specs.Freeing.{IsReleased, HasPassed}
use Rattle.dr_cgflash.proofs.PassLemmas.{passed-all}
use Rattle.dr_cgflash.proofs.passing.free_all.Goals as goal

released-by : (s u : PlantState) (c : ConfigTable) (l : ℕ) (res : Result (Unit {0}) Refusal) → HasPassed (is_ok res) s u c l 0 → OnOk res ((v : ℕ) → nat_eq (subsystem v) l ≡ true → IsReleased s u c v)
released-by s u c l (Ok y) passed = passed-all s u c l passed
released-by s u c l (Err e) passed = tt

pub returns-clause-released : goal.returns-clause-released
returns-clause-released g c = released-by (g.P.Plant.state c.args.plant.now) (g.P.Plant.state c.carry.new.plant) c.args.config.now c.args.l.0 c.carry.result c.carry.ensures.makes
