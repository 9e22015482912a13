use Rattle.std.proofs.Common.{◌≡◌, ◌≤◌, take}
use Rattle.std.specs.Prelude.{count_by}
use Rattle.dr_model.specs.SessionEntries.{counts_at}
use Rattle.dr_sweep.specs.Comes.{seen}
use Rattle.dr_sweep.specs.Seen.{run_seen}
use Rattle.dr_sweep.specs.Moments.{members_of}
use Rattle.dr_sweep.proofs.run.PointRun.members.Given as goal

abbrev pub invariant-loop-i : goal.invariant-loop-i
invariant-loop-i l = record { same : l.counted ≡ count_by (counts_at l.s.0 (seen (run_seen l.self)).control) (take l.i (members_of (seen (run_seen l.self)).control l.s.0)); low : l.counted ≤ l.i }
