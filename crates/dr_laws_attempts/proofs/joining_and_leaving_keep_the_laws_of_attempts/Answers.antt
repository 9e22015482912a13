use Rattle.dr_laws_attempts.proofs.Tables.{with-joined, with-left}
use Rattle.dr_laws_attempts.proofs.joining_and_leaving_keep_the_laws_of_attempts.Goals as goal

pub returns-clause-joined : goal.returns-clause-joined
returns-clause-joined c = λ k s l groups law. with-joined k groups law s l

pub returns-clause-left : goal.returns-clause-left
returns-clause-left c = λ k s l x groups law. with-left k groups law s l x
