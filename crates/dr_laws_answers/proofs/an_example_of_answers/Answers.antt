use Rattle.dr_laws_answers.proofs.Answers as example
use Rattle.dr_laws_answers.proofs.an_example_of_answers.Goals as goal

pub returns-clause-thaws : goal.returns-clause-thaws
returns-clause-thaws c = example.thaws-ok

pub returns-clause-busy : goal.returns-clause-busy
returns-clause-busy c = example.busy

pub returns-clause-thawed : goal.returns-clause-thawed
returns-clause-thawed c = example.thawed

pub returns-clause-cuts : goal.returns-clause-cuts
returns-clause-cuts c = example.cuts-ok

pub returns-clause-arms : goal.returns-clause-arms
returns-clause-arms c = example.arms-ok

pub returns-clause-destages : goal.returns-clause-destages
returns-clause-destages c = example.destages-ok
