use Rattle.dr_laws_attempts.proofs.Barred.{over-begins, over-unflashed, over-moved, over-opened, over-flown, over-sent, over-apart, over-answered, over-taken, over-aborted, over-lost, over-paused, over-mirrored, over-unmirrored, over-raised, over-added, over-removed}
use Rattle.dr_laws_attempts.proofs.what_was_recovered_stays_barred.Goals as goal

pub returns-clause-begins : goal.returns-clause-begins
returns-clause-begins c = over-begins

pub returns-clause-unflashed : goal.returns-clause-unflashed
returns-clause-unflashed c = over-unflashed

pub returns-clause-moved : goal.returns-clause-moved
returns-clause-moved c = over-moved

pub returns-clause-opened : goal.returns-clause-opened
returns-clause-opened c = over-opened

pub returns-clause-taken : goal.returns-clause-taken
returns-clause-taken c = over-taken

pub returns-clause-aborted : goal.returns-clause-aborted
returns-clause-aborted c = over-aborted

pub returns-clause-lost : goal.returns-clause-lost
returns-clause-lost c = over-lost

pub returns-clause-paused : goal.returns-clause-paused
returns-clause-paused c = over-paused

pub returns-clause-mirrored : goal.returns-clause-mirrored
returns-clause-mirrored c = over-mirrored

pub returns-clause-unmirrored : goal.returns-clause-unmirrored
returns-clause-unmirrored c = over-unmirrored

pub returns-clause-raised : goal.returns-clause-raised
returns-clause-raised c = over-raised

pub returns-clause-added : goal.returns-clause-added
returns-clause-added c = over-added

pub returns-clause-removed : goal.returns-clause-removed
returns-clause-removed c = over-removed

pub returns-clause-flown : goal.returns-clause-flown
returns-clause-flown c = over-flown

pub returns-clause-sent : goal.returns-clause-sent
returns-clause-sent c = over-sent

pub returns-clause-apart : goal.returns-clause-apart
returns-clause-apart c = over-apart

pub returns-clause-answered : goal.returns-clause-answered
returns-clause-answered c = over-answered
