use Rattle.dr_model.specs.Sessions as model
use Rattle.dr_session.proofs.Loops.{DoneBy}
use Rattle.dr_session.proofs.table.Sessions.lose_server.Given as goal

abbrev pub invariant-loop-i : goal.invariant-loop-i
invariant-loop-i l = DoneBy (model.lost_with l.server.0) l.self-inside.table.entries l.i l.i-end l.fn.self
