use Rattle.dr_laws_attempts.proofs.Orders.{done-begins, done-calm, done-held, done-past, done-flashed, done-committed, done-reverted, done-passes, done-holds, done-finishes, done-flashes, done-commits, done-reverts, done-raises, done-ends, done-asked}
use Rattle.dr_laws_attempts.proofs.a_server_does_its_order.Goals as goal

pub returns-clause-begins : goal.returns-clause-begins
returns-clause-begins c = done-begins

pub returns-clause-calm : goal.returns-clause-calm
returns-clause-calm c = done-calm

pub returns-clause-held : goal.returns-clause-held
returns-clause-held c = done-held

pub returns-clause-past : goal.returns-clause-past
returns-clause-past c = done-past

pub returns-clause-flashed : goal.returns-clause-flashed
returns-clause-flashed c = done-flashed

pub returns-clause-committed : goal.returns-clause-committed
returns-clause-committed c = done-committed

pub returns-clause-reverted : goal.returns-clause-reverted
returns-clause-reverted c = λ k s x m n groups law found here. done-reverted k s x m n groups law found here

pub returns-clause-passes : goal.returns-clause-passes
returns-clause-passes c = done-passes

pub returns-clause-holds : goal.returns-clause-holds
returns-clause-holds c = done-holds

pub returns-clause-finishes : goal.returns-clause-finishes
returns-clause-finishes c = done-finishes

pub returns-clause-flashes : goal.returns-clause-flashes
returns-clause-flashes c = done-flashes

pub returns-clause-commits : goal.returns-clause-commits
returns-clause-commits c = done-commits

pub returns-clause-reverts : goal.returns-clause-reverts
returns-clause-reverts c = done-reverts

pub returns-clause-raises : goal.returns-clause-raises
returns-clause-raises c = done-raises

pub returns-clause-ends : goal.returns-clause-ends
returns-clause-ends c = done-ends

pub returns-clause-asked : goal.returns-clause-asked
returns-clause-asked c = done-asked
