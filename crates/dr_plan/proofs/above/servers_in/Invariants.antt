use Rattle.std.proofs.Common.{◌≡◌, take}
use Rattle.dr_plan.specs.Above.{servers_in}
use Rattle.dr_plan.proofs.above.servers_in.Given as goal

abbrev pub invariant-loop-line : goal.invariant-loop-line
invariant-loop-line l = l.found.items ≡ servers_in (take l.line-index l.lines)
