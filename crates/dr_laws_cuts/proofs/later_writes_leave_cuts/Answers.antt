use Rattle.dr_laws_cuts.proofs.Writes.{laws-issue, laws-rows, below-next}
use Rattle.dr_laws_cuts.proofs.later_writes_leave_cuts.Goals as goal

pub returns-clause-issue : goal.returns-clause-issue
returns-clause-issue c = laws-issue

pub returns-clause-numbers : goal.returns-clause-numbers
returns-clause-numbers c = below-next

pub returns-clause-rows : goal.returns-clause-rows
returns-clause-rows c = laws-rows
