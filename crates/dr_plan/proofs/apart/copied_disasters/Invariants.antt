use Rattle.std.proofs.Common.{◌≡◌, take}
use Rattle.dr_plan.proofs.apart.copied_disasters.Given as goal

abbrev pub invariant-loop-lost : goal.invariant-loop-lost
invariant-loop-lost l = l.copy.items ≡ take l.lost-index l.loses
