use Rattle.dr_laws_examples.proofs.WayHome as home
use Rattle.dr_laws_examples.proofs.an_example_of_a_way_home.Goals as goal

pub returns-clause-turned : goal.returns-clause-turned
returns-clause-turned c = home.says_back

pub returns-clause-sent : goal.returns-clause-sent
returns-clause-sent c = home.says_sent

pub returns-clause-returned : goal.returns-clause-returned
returns-clause-returned c = home.returned

pub returns-clause-contain : goal.returns-clause-contain
returns-clause-contain c = home.contain
