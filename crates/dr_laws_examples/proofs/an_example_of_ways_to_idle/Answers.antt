use Rattle.dr_laws_examples.proofs.ToIdle as idle
use Rattle.dr_laws_examples.proofs.an_example_of_ways_to_idle.Goals as goal

pub returns-clause-ends : goal.returns-clause-ends
returns-clause-ends c = idle.ends

pub returns-clause-asked : goal.returns-clause-asked
returns-clause-asked c = idle.asked

pub returns-clause-leads : goal.returns-clause-leads
returns-clause-leads c = idle.leads

pub returns-clause-idle : goal.returns-clause-idle
returns-clause-idle c = idle.idle

pub returns-clause-begun : goal.returns-clause-begun
returns-clause-begun c = idle.can_give_up

pub returns-clause-again : goal.returns-clause-again
returns-clause-again c = idle.idle_again

pub returns-clause-given : goal.returns-clause-given
returns-clause-given c = idle.given_up
