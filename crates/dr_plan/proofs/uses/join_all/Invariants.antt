use Rattle.std.proofs.Common.{◌≡◌, ◌++◌, map, take, drop}
use Rattle.dr_plan.specs.Reading.{joined}
use Rattle.dr_plan.proofs.uses.join_all.Given as goal

abbrev pub invariant-loop-i : goal.invariant-loop-i
invariant-loop-i l = l.uses ≡ map (joined l.name l.pairs) (take l.i l.fn.uses) ++ drop l.i l.fn.uses
