use Rattle.dr_laws_attempts.proofs.Tables.{with-mirrored, with-unmirrored, with-paused, with-aborted, with-lost, attempts-begun}
use Rattle.dr_laws_attempts.proofs.masters_keep_the_laws_of_attempts.Goals as goal

pub returns-clause-mirrored : goal.returns-clause-mirrored
returns-clause-mirrored c = λ k s server x groups law. with-mirrored k groups law s server x

pub returns-clause-unmirrored : goal.returns-clause-unmirrored
returns-clause-unmirrored c = λ k s x groups law. with-unmirrored k groups law s x

pub returns-clause-paused : goal.returns-clause-paused
returns-clause-paused c = λ k s on groups law. with-paused k groups law s on

pub returns-clause-aborted : goal.returns-clause-aborted
returns-clause-aborted c = λ k s groups law. with-aborted k groups law s

pub returns-clause-lost : goal.returns-clause-lost
returns-clause-lost c = λ k before now groups law. with-lost k groups law before now

pub returns-clause-begun : goal.returns-clause-begun
returns-clause-begun c = attempts-begun
