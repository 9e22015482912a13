use Rattle.std.proofs.Common.{take}
use Rattle.dr_sweep.specs.Apart.{GoesAllApart, HasLines, StandAlone}
use Rattle.dr_sweep.specs.Comes.{IsRun}
use Rattle.dr_sweep.specs.Seen.{run_seen}
use Rattle.dr_sweep.proofs.apart.take_steps_apart.Given as goal

abbrev pub invariant-loop-step : goal.invariant-loop-step
invariant-loop-step l = record {
  stays : IsRun (run_seen l.run);
  lines : HasLines (run_seen l.run);
  alone : StandAlone l.tried.items;
  goes : GoesAllApart (run_seen l.fn.run) (run_seen l.run) (take l.step-index l.steps) l.tried.items;
}
