use Rattle.dr_laws_sites.proofs.Example as example
use Rattle.dr_laws_sites.proofs.an_example_of_three_sites.Goals as goal

pub returns-clause-among : goal.returns-clause-among
returns-clause-among c = example.among

pub returns-clause-just : goal.returns-clause-just
returns-clause-just c = example.just

pub returns-clause-first : goal.returns-clause-first
returns-clause-first c = example.first

pub returns-clause-cascaded : goal.returns-clause-cascaded
returns-clause-cascaded c = example.cascaded

pub returns-clause-duplex : goal.returns-clause-duplex
returns-clause-duplex c = example.duplex

pub returns-clause-clean : goal.returns-clause-clean
returns-clause-clean c = example.clean
