use Rattle.dr_model.specs.Sessions as model
use Rattle.dr_session.proofs.Loops.{NonePasses}
use Rattle.dr_session.proofs.places.first_with_copy.Given as goal

abbrev pub invariant-loop-i : goal.invariant-loop-i
invariant-loop-i l = NonePasses (model.is_copy l.v.0) l.table.entries l.i l.i-end
