use Rattle.std.specs.Prelude.{◌==◌}
use Rattle.dr_model.specs.Sessions.{Session}
use Rattle.dr_session.proofs.Loops.{NonePasses}
use Rattle.dr_session.proofs.places.session_numbered.Given as goal

abbrev pub invariant-loop-i : goal.invariant-loop-i
invariant-loop-i l = NonePasses (λ (x : Session). x.number == l.s.0) l.table.entries l.i l.i-end
