use Rattle.dr_laws_examples.proofs.Orders as orders
use Rattle.dr_laws_examples.proofs.an_example_of_old_orders.Goals as goal

pub returns-clause-session : goal.returns-clause-session
returns-clause-session c = orders.session

pub returns-clause-before : goal.returns-clause-before
returns-clause-before c = orders.before

pub returns-clause-refused : goal.returns-clause-refused
returns-clause-refused c = orders.refused

pub returns-clause-stays : goal.returns-clause-stays
returns-clause-stays c = orders.stays

pub returns-clause-still : goal.returns-clause-still
returns-clause-still c = orders.still

pub returns-clause-done : goal.returns-clause-done
returns-clause-done c = orders.done

pub returns-clause-older : goal.returns-clause-older
returns-clause-older c = orders.older

pub returns-clause-leaves : goal.returns-clause-leaves
returns-clause-leaves c = orders.leaves

pub returns-clause-records : goal.returns-clause-records
returns-clause-records c = orders.records

pub returns-clause-records_on : goal.returns-clause-records_on
returns-clause-records_on c = orders.records_on

pub returns-clause-shows_on : goal.returns-clause-shows_on
returns-clause-shows_on c = orders.shows_on
