use Rattle.dr_sweep.specs.Comes.{IsRun}
use Rattle.dr_sweep.specs.Seen.{run_seen}
use Rattle.dr_sweep.proofs.WayLemmas.{TakesTurns}
use Rattle.dr_sweep.proofs.run.PointRun.take_turns.Given as goal

abbrev pub invariant-loop : goal.invariant-loop
invariant-loop l = record {
  stays : IsRun (run_seen l.self);
  turned : TakesTurns (run_seen l.fn.self) (run_seen l.self) l.s.0 l.fn.parts.items l.parts.items l.groups l.counter l.left l.committed;
}
