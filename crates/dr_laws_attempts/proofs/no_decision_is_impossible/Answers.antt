use Rattle.dr_laws_attempts.proofs.Tables.{session-possible, reports-possible, reported-last, reported-other}
use Rattle.dr_laws_attempts.proofs.no_decision_is_impossible.Goals as goal

pub returns-clause-members : goal.returns-clause-members
returns-clause-members c = session-possible

pub returns-clause-reports : goal.returns-clause-reports
returns-clause-reports c = λ k x r a b groups law listed. reports-possible k groups law x listed r a b

pub returns-clause-last : goal.returns-clause-last
returns-clause-last c = reported-last

pub returns-clause-other : goal.returns-clause-other
returns-clause-other c = reported-other
