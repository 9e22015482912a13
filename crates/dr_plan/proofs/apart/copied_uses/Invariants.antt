use Rattle.std.proofs.Common.{◌≡◌, take}
use Rattle.dr_plan.proofs.apart.copied_uses.Given as goal

abbrev pub invariant-loop-of : goal.invariant-loop-of
invariant-loop-of l = l.copy.items ≡ take l.of-index l.uses
