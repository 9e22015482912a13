use Rattle.dr_laws_losses.proofs.Example as example
use Rattle.dr_laws_losses.proofs.an_example_loses_a_write.Goals as goal

pub returns-clause-meets : goal.returns-clause-meets
returns-clause-meets c = example.meets

pub returns-clause-holds : goal.returns-clause-holds
returns-clause-holds c = example.holds

pub returns-clause-loses : goal.returns-clause-loses
returns-clause-loses c = example.loses

pub returns-clause-keeps : goal.returns-clause-keeps
returns-clause-keeps c = example.keeps
