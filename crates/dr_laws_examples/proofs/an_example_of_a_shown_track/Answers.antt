use Rattle.dr_laws_examples.proofs.Shown as shown
use Rattle.dr_laws_examples.proofs.an_example_of_a_shown_track.Goals as goal

pub returns-clause-says : goal.returns-clause-says
returns-clause-says c = shown.says

pub returns-clause-tells : goal.returns-clause-tells
returns-clause-tells c = shown.tells

pub returns-clause-reads : goal.returns-clause-reads
returns-clause-reads c = shown.reads
