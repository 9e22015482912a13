use Rattle.dr_laws_sessions.proofs.Tables.{groups-done, groups-waits, groups-answered, groups-taken, groups-reported, groups-settled}
use Rattle.dr_laws_sessions.proofs.replies_keep_the_laws_of_sessions.Goals as goal

pub returns-clause-done : goal.returns-clause-done
returns-clause-done c = groups-done

pub returns-clause-waits : goal.returns-clause-waits
returns-clause-waits c = groups-waits

pub returns-clause-answered : goal.returns-clause-answered
returns-clause-answered c = groups-answered

pub returns-clause-reported : goal.returns-clause-reported
returns-clause-reported c = groups-reported

pub returns-clause-settled : goal.returns-clause-settled
returns-clause-settled c = groups-settled

pub returns-clause-taken : goal.returns-clause-taken
returns-clause-taken c = groups-taken
