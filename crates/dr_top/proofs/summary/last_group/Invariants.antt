use Rattle.std.proofs.Common.{◌≡◌, take}
use Rattle.dr_top.specs.Trials.{last_group}
use Rattle.dr_top.proofs.summary.last_group.Given as goal

abbrev pub invariant-loop-i : goal.invariant-loop-i
invariant-loop-i l = l.group ≡ last_group (take l.i l.journal.events)
