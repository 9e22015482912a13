use Rattle.dr_laws_sessions.proofs.Orders.{order-finishes, silent-passes, silent-finishes, silent-stays}
use Rattle.dr_laws_sessions.proofs.Silent.{silent-begins, silent-next, silent-ends}
use Rattle.dr_laws_sessions.proofs.a_server_falls_silent.Goals as goal

pub returns-clause-order : goal.returns-clause-order
returns-clause-order c = order-finishes

pub returns-clause-begins : goal.returns-clause-begins
returns-clause-begins c = silent-begins

pub returns-clause-passes : goal.returns-clause-passes
returns-clause-passes c = silent-passes

pub returns-clause-finishes : goal.returns-clause-finishes
returns-clause-finishes c = silent-finishes

pub returns-clause-next : goal.returns-clause-next
returns-clause-next c = silent-next

pub returns-clause-stays : goal.returns-clause-stays
returns-clause-stays c = silent-stays

pub returns-clause-ends : goal.returns-clause-ends
returns-clause-ends c = silent-ends
