use Rattle.dr_session.proofs.Loops.{Roomy}
use Rattle.dr_session.proofs.table.Sessions.reserve.Given as goal

abbrev pub invariant-loop-i : goal.invariant-loop-i
invariant-loop-i l = Roomy l.self-inside.table.entries l.i l.i-end l.fn.self
