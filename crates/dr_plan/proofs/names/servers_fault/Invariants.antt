use Rattle.std.proofs.Common.{◌≡◌, [], take, drop}
use Rattle.dr_plan.specs.Reading.{servers_fault}
use Rattle.dr_plan.proofs.names.servers_fault.Given as goal

abbrev pub invariant-loop-i : goal.invariant-loop-i
invariant-loop-i l = servers_fault l.known (take l.i l.names) (drop l.i l.names) ≡ servers_fault l.known [] l.names
