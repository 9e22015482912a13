use Rattle.dr_laws_progress.proofs.HomeExample as example
use Rattle.dr_laws_progress.proofs.an_example_of_the_way_home.Goals as goal

pub returns-clause-added : goal.returns-clause-added
returns-clause-added c = example.added-leads

pub returns-clause-added_follows : goal.returns-clause-added_follows
returns-clause-added_follows c = example.added-follows

pub returns-clause-taken : goal.returns-clause-taken
returns-clause-taken c = example.taken-leads

pub returns-clause-taken_back : goal.returns-clause-taken_back
returns-clause-taken_back c = example.taken-back

pub returns-clause-turned : goal.returns-clause-turned
returns-clause-turned c = example.turned-leads

pub returns-clause-turned_follows : goal.returns-clause-turned_follows
returns-clause-turned_follows c = example.turned-follows

pub returns-clause-may : goal.returns-clause-may
returns-clause-may c = example.may

pub returns-clause-unarmed : goal.returns-clause-unarmed
returns-clause-unarmed c = example.unarmed

pub returns-clause-first : goal.returns-clause-first
returns-clause-first c = example.first-says

pub returns-clause-goes : goal.returns-clause-goes
returns-clause-goes c = example.goes

pub returns-clause-goes_back : goal.returns-clause-goes_back
returns-clause-goes_back c = example.goes-back

pub returns-clause-paused : goal.returns-clause-paused
returns-clause-paused c = example.paused

pub returns-clause-goes_on : goal.returns-clause-goes_on
returns-clause-goes_on c = example.goes-on

pub returns-clause-cascaded : goal.returns-clause-cascaded
returns-clause-cascaded c = example.cascaded-says
