use Rattle.dr_laws_sessions.proofs.Changes.{session-found, same-session}
use Rattle.dr_laws_sessions.proofs.Silent.{member-found}
use Rattle.dr_laws_sessions.proofs.a_session_that_is_found_is_listed.Goals as goal

pub returns-clause-found : goal.returns-clause-found
returns-clause-found c = session-found

pub returns-clause-member : goal.returns-clause-member
returns-clause-member c = member-found

pub returns-clause-same : goal.returns-clause-same
returns-clause-same c = λ k x y groups. same-session k.sessions x y groups.once
