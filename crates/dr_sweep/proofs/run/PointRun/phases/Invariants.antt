use Rattle.std.proofs.Common.{◌≡◌, ◌≤◌, ◌-◌, map, take, length}
use Rattle.dr_sweep.specs.Comes.{seen}
use Rattle.dr_sweep.specs.Seen.{run_seen}
use Rattle.dr_sweep.specs.Moments.{phase_at}
use Rattle.dr_sweep.proofs.run.PointRun.phases.Given as goal

abbrev pub invariant-loop-phase : goal.invariant-loop-phase
invariant-loop-phase l = record {
  same : l.phases.items ≡ map (phase_at (seen (run_seen l.self)).control) (take (length l.phases.items) (seen (run_seen l.self)).control.sessions);
  within : length l.phases.items ≤ length (seen (run_seen l.self)).control.sessions;
}

abbrev pub decreases-loop-phase : goal.decreases-loop-phase
decreases-loop-phase l = length (seen (run_seen l.self)).control.sessions - length l.phases.items
