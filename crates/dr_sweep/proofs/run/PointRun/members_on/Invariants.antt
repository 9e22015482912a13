use Rattle.std.proofs.Common.{◌≡◌, take}
use Rattle.dr_model.specs.SessionEntries.{members_on}
use Rattle.dr_sweep.specs.Comes.{seen}
use Rattle.dr_sweep.specs.Seen.{run_seen}
use Rattle.dr_sweep.specs.Moments.{members_of}
use Rattle.dr_sweep.proofs.run.PointRun.members_on.Given as goal

abbrev pub invariant-loop-i : goal.invariant-loop-i
invariant-loop-i l = l.members.items ≡ members_on l.server.0 (take l.i (members_of (seen (run_seen l.self)).control l.s.0))
