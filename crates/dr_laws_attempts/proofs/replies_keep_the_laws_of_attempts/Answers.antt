use Rattle.dr_laws_attempts.proofs.Tables.{with-done, with-replied, with-waits, with-reported, with-told, with-answered}
use Rattle.dr_laws_attempts.proofs.replies_keep_the_laws_of_attempts.Goals as goal

pub returns-clause-done : goal.returns-clause-done
returns-clause-done c = λ k s server x groups law. with-done k groups law s server x

pub returns-clause-has_done : goal.returns-clause-has_done
returns-clause-has_done c = λ k s server x groups law. with-replied k groups law s server x

pub returns-clause-waits : goal.returns-clause-waits
returns-clause-waits c = λ k s server groups law. with-waits k groups law s server

pub returns-clause-reported : goal.returns-clause-reported
returns-clause-reported c = λ k s server xs x groups law. with-reported k groups law s server xs x

pub returns-clause-told : goal.returns-clause-told
returns-clause-told c = λ k s server xs x groups law. with-told k groups law s server xs x

pub returns-clause-answered : goal.returns-clause-answered
returns-clause-answered c = with-answered
