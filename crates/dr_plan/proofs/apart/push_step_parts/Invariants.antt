use Rattle.std.proofs.Common.{◌≡◌, ◌++◌, ◌+◌, drop}
use Rattle.dr_plan.specs.Reading.{parts_from}
use Rattle.dr_plan.proofs.apart.push_step_parts.Given as goal

abbrev pub invariant-loop-i : goal.invariant-loop-i
invariant-loop-i l = l.all.items ++ parts_from l.number (l.i + 1) (drop l.i l.steps) ≡ l.fn.all.items ++ parts_from l.number 1 l.steps
