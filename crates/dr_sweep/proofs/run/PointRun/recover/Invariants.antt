use Rattle.std.proofs.Common.{ℕ, ◌≤◌, List, take, length}
use Rattle.dr_plant.specs.State.{PlantState}
use Rattle.dr_model.specs.Runs.{Task}
use Rattle.dr_sweep.specs.Comes.{IsRun, Ran, Recovers}
use Rattle.dr_sweep.specs.Seen.{run_seen}
use Rattle.dr_sweep.proofs.run.PointRun.recover.Given as goal

abbrev pub invariant-loop-line : goal.invariant-loop-line
invariant-loop-line l = record {
  longer : length (run_seen l.fn.self).events ≤ length (run_seen l.self).events;
  stays : IsRun (run_seen l.self);
  goes : (began : PlantState) (ls : List (List ℕ)) (steps : List Task) → Ran began ls (run_seen l.fn.self) steps → Recovers began ls (take l.line-index l.lines) (run_seen l.fn.self) (run_seen l.self) steps l.members.items;
}
