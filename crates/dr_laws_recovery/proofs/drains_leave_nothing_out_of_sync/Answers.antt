use Rattle.dr_laws_recovery.proofs.Emptied.{drain-empties, drain-equals}
use Rattle.dr_laws_recovery.proofs.drains_leave_nothing_out_of_sync.Goals as goal

pub returns-clause-empties : goal.returns-clause-empties
returns-clause-empties c = λ w x sound. drain-empties w sound x

pub returns-clause-equals : goal.returns-clause-equals
returns-clause-equals c = λ w x y sound. drain-equals w sound x y
