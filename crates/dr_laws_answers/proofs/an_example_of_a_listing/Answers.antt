use Rattle.dr_laws_answers.proofs.Example as example
use Rattle.dr_laws_answers.proofs.an_example_of_a_listing.Goals as goal

pub returns-clause-says : goal.returns-clause-says
returns-clause-says c = example.says

pub returns-clause-tells : goal.returns-clause-tells
returns-clause-tells c = example.tells

pub returns-clause-prints : goal.returns-clause-prints
returns-clause-prints c = example.prints
