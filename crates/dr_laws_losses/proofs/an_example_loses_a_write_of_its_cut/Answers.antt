use Rattle.dr_laws_losses.proofs.Uncopied as example
use Rattle.dr_laws_losses.proofs.an_example_loses_a_write_of_its_cut.Goals as goal

pub returns-clause-answers : goal.returns-clause-answers
returns-clause-answers c = example.answers

pub returns-clause-members : goal.returns-clause-members
returns-clause-members c = example.members

pub returns-clause-counts : goal.returns-clause-counts
returns-clause-counts c = example.counts

pub returns-clause-loses : goal.returns-clause-loses
returns-clause-loses c = example.loses

pub returns-clause-cut : goal.returns-clause-cut
returns-clause-cut c = example.cut
