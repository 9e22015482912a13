use Rattle.dr_laws_sites.proofs.Example as example
use Rattle.dr_laws_sites.proofs.an_example_of_a_second_site.Goals as goal

pub returns-clause-even : goal.returns-clause-even
returns-clause-even c = example.even

pub returns-clause-less : goal.returns-clause-less
returns-clause-less c = example.less

pub returns-clause-out : goal.returns-clause-out
returns-clause-out c = example.out

pub returns-clause-out_elsewhere : goal.returns-clause-out_elsewhere
returns-clause-out_elsewhere c = example.out-elsewhere

pub returns-clause-landed : goal.returns-clause-landed
returns-clause-landed c = example.landed

pub returns-clause-ahead : goal.returns-clause-ahead
returns-clause-ahead c = example.ahead
