use Rattle.dr_laws_attempts.proofs.Recover.{quiet-plain, nothing-plain, nobody-plain, rest-begins, rest-commits, rest-stays, taken-begins, taken-passes, taken-over, reverts-begin, rest-reverts, reverts-stay}
use Rattle.dr_laws_attempts.proofs.a_recovery_commits_or_reverts.Goals as goal

pub returns-clause-quiet : goal.returns-clause-quiet
returns-clause-quiet c = λ k s x groups law found. quiet-plain k groups law s x found

pub returns-clause-nothing : goal.returns-clause-nothing
returns-clause-nothing c = λ k s x n groups law found. nothing-plain k groups law s x found n

pub returns-clause-nobody : goal.returns-clause-nobody
returns-clause-nobody c = λ k s x groups law found. nobody-plain k groups law s x found

pub returns-clause-rest : goal.returns-clause-rest
returns-clause-rest c = λ k s x n groups law found. rest-begins k groups law s x found n

pub returns-clause-commits : goal.returns-clause-commits
returns-clause-commits c = λ k s x m groups law found. rest-commits k groups law s x found m

pub returns-clause-committed : goal.returns-clause-committed
returns-clause-committed c = rest-stays

pub returns-clause-begins : goal.returns-clause-begins
returns-clause-begins c = taken-begins

pub returns-clause-passes : goal.returns-clause-passes
returns-clause-passes c = taken-passes

pub returns-clause-takes : goal.returns-clause-takes
returns-clause-takes c = taken-over

pub returns-clause-taken : goal.returns-clause-taken
returns-clause-taken c = λ k s x groups law found. reverts-begin k groups law s x found

pub returns-clause-reverts : goal.returns-clause-reverts
returns-clause-reverts c = λ k s x m groups law found. rest-reverts k groups law s x found m

pub returns-clause-reverted : goal.returns-clause-reverted
returns-clause-reverted c = reverts-stay
