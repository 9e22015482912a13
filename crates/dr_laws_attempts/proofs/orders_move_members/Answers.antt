use Rattle.dr_laws_attempts.proofs.Orders.{order-holds, order-frees, order-seals, order-flashes, order-commits, order-reverts, order-raises, order-finishes, expelled-leaves, added-raises, order-is, reports-lost}
use Rattle.dr_laws_attempts.proofs.orders_move_members.Goals as goal

pub returns-clause-holds : goal.returns-clause-holds
returns-clause-holds c = order-holds

pub returns-clause-frees : goal.returns-clause-frees
returns-clause-frees c = λ k s x m groups law found here. order-frees k groups law s x found m here

pub returns-clause-seals : goal.returns-clause-seals
returns-clause-seals c = λ k s x m n groups law found here. order-seals k groups law s x found m here n

pub returns-clause-flashes : goal.returns-clause-flashes
returns-clause-flashes c = λ k s x m n groups law found here. order-flashes k groups law s x found m here n

pub returns-clause-commits : goal.returns-clause-commits
returns-clause-commits c = λ k s x m n groups law flights found here. order-commits k groups law s x found m here flights n

pub returns-clause-reverts : goal.returns-clause-reverts
returns-clause-reverts c = λ k s x m n groups law flights found here. order-reverts k groups law s x found m here flights n

pub returns-clause-raises : goal.returns-clause-raises
returns-clause-raises c = λ k s x m n groups law found here. order-raises k groups law s x found m here n

pub returns-clause-finishes : goal.returns-clause-finishes
returns-clause-finishes c = λ k s x m n groups law found here. order-finishes k groups law s x found m here n

pub returns-clause-leaves : goal.returns-clause-leaves
returns-clause-leaves c = λ k s x m groups law found here. expelled-leaves k groups law s x found m here

pub returns-clause-added : goal.returns-clause-added
returns-clause-added c = added-raises

pub returns-clause-works : goal.returns-clause-works
returns-clause-works c = order-is

pub returns-clause-reports : goal.returns-clause-reports
returns-clause-reports c = reports-lost
