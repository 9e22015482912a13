use Rattle.dr_laws_freezes.proofs.LostSite as lost
use Rattle.dr_laws_freezes.proofs.an_example_of_a_lost_site.Goals as goal

pub returns-clause-even : goal.returns-clause-even
returns-clause-even c = lost.even

pub returns-clause-ahead : goal.returns-clause-ahead
returns-clause-ahead c = lost.ahead

pub returns-clause-on_another : goal.returns-clause-on_another
returns-clause-on_another c = lost.on-another

pub returns-clause-less : goal.returns-clause-less
returns-clause-less c = lost.less

pub returns-clause-dropped : goal.returns-clause-dropped
returns-clause-dropped c = lost.dropped

pub returns-clause-two : goal.returns-clause-two
returns-clause-two c = lost.two
