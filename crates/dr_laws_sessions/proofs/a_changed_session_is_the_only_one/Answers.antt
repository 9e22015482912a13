use Rattle.dr_laws_sessions.proofs.Changes.{changed-in, changed-stays, changed-becomes, changed-found}
use Rattle.dr_laws_sessions.proofs.a_changed_session_is_the_only_one.Goals as goal

pub returns-clause-comes : goal.returns-clause-comes
returns-clause-comes c = changed-in

pub returns-clause-stays : goal.returns-clause-stays
returns-clause-stays c = changed-stays

pub returns-clause-becomes : goal.returns-clause-becomes
returns-clause-becomes c = changed-becomes

pub returns-clause-found : goal.returns-clause-found
returns-clause-found c = changed-found
