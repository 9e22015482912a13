use Rattle.std.proofs.Common.{◌≡◌, drop}
use Rattle.dr_top.specs.Outcome.{has_refusal}
use Rattle.dr_top.proofs.status.has_refusal.Given as goal

abbrev pub invariant-loop-i : goal.invariant-loop-i
invariant-loop-i l = has_refusal (drop l.i l.journal.events) ≡ has_refusal (drop l.from l.journal.events)
