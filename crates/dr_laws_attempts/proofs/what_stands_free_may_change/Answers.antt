use Rattle.dr_laws_attempts.proofs.Checks.{uncounted-goes, settled-goes, unflashed-follows}
use Rattle.dr_laws_attempts.proofs.what_stands_free_may_change.Goals as goal

pub returns-clause-uncounted : goal.returns-clause-uncounted
returns-clause-uncounted c = uncounted-goes

pub returns-clause-settled : goal.returns-clause-settled
returns-clause-settled c = λ k v x groups law. settled-goes k groups law v x

pub returns-clause-follows : goal.returns-clause-follows
returns-clause-follows c = λ k b groups law. unflashed-follows k groups law b
