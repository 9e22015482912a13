use Rattle.dr_laws_examples.proofs.Compared as compared
use Rattle.dr_laws_examples.proofs.an_example_of_a_comparison.Goals as goal

pub returns-clause-says_same : goal.returns-clause-says_same
returns-clause-says_same c = compared.says_same

pub returns-clause-same : goal.returns-clause-same
returns-clause-same c = compared.same

pub returns-clause-says_apart : goal.returns-clause-says_apart
returns-clause-says_apart c = compared.says_apart

pub returns-clause-apart : goal.returns-clause-apart
returns-clause-apart c = compared.apart
