use Rattle.std.proofs.Common.{◌≡◌, take}
use Rattle.dr_top.specs.Trials.{refusals}
use Rattle.dr_top.proofs.summary.refusals.Given as goal

abbrev pub invariant-loop-i : goal.invariant-loop-i
invariant-loop-i l = l.count ≡ refusals (take l.i l.journal.events)
