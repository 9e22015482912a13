use Rattle.dr_laws_sessions.proofs.Orders.{holding-begins, holding-comes, holding-opens, holding-on, holding-stays, holding-begun}
use Rattle.dr_laws_sessions.proofs.one_member_after_another_is_held.Goals as goal

pub returns-clause-begins : goal.returns-clause-begins
returns-clause-begins c = holding-begins

pub returns-clause-comes : goal.returns-clause-comes
returns-clause-comes c = holding-comes

pub returns-clause-opens : goal.returns-clause-opens
returns-clause-opens c = holding-opens

pub returns-clause-holds : goal.returns-clause-holds
returns-clause-holds c = holding-on

pub returns-clause-stays : goal.returns-clause-stays
returns-clause-stays c = holding-stays

pub returns-clause-begun : goal.returns-clause-begun
returns-clause-begun c = holding-begun
