use Rattle.dr_laws_examples.proofs.Orders as orders
use Rattle.dr_laws_examples.proofs.an_example_of_a_settled_loss.Goals as goal

pub returns-clause-lost : goal.returns-clause-lost
returns-clause-lost c = orders.lost

pub returns-clause-before : goal.returns-clause-before
returns-clause-before c = orders.epochs

pub returns-clause-settled : goal.returns-clause-settled
returns-clause-settled c = orders.stays_settled

pub returns-clause-fenced : goal.returns-clause-fenced
returns-clause-fenced c = orders.fenced_off

pub returns-clause-fence : goal.returns-clause-fence
returns-clause-fence c = orders.fence
