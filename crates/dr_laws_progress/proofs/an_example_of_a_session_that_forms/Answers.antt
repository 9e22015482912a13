use Rattle.dr_laws_progress.proofs.CanForm as example
use Rattle.dr_laws_progress.proofs.an_example_of_a_session_that_forms.Goals as goal

pub returns-clause-forms : goal.returns-clause-forms
returns-clause-forms c = example.forms

pub returns-clause-free : goal.returns-clause-free
returns-clause-free c = example.free
