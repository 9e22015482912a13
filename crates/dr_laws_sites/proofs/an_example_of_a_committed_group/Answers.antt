use Rattle.dr_laws_sites.proofs.Committed as committed
use Rattle.dr_laws_sites.proofs.an_example_of_a_committed_group.Goals as goal

pub returns-clause-session : goal.returns-clause-session
returns-clause-session c = committed.session

pub returns-clause-group : goal.returns-clause-group
returns-clause-group c = committed.group

pub returns-clause-newest : goal.returns-clause-newest
returns-clause-newest c = committed.newest

pub returns-clause-cut : goal.returns-clause-cut
returns-clause-cut c = committed.cut

pub returns-clause-last : goal.returns-clause-last
returns-clause-last c = committed.last

pub returns-clause-moment : goal.returns-clause-moment
returns-clause-moment c = committed.moment

pub returns-clause-just : goal.returns-clause-just
returns-clause-just c = committed.just

pub returns-clause-first : goal.returns-clause-first
returns-clause-first c = committed.first

pub returns-clause-clean : goal.returns-clause-clean
returns-clause-clean c = committed.clean

pub returns-clause-unsent : goal.returns-clause-unsent
returns-clause-unsent c = committed.unsent

pub returns-clause-due_then : goal.returns-clause-due_then
returns-clause-due_then c = committed.due_then

pub returns-clause-shows : goal.returns-clause-shows
returns-clause-shows c = committed.shows

pub returns-clause-later : goal.returns-clause-later
returns-clause-later c = committed.later
