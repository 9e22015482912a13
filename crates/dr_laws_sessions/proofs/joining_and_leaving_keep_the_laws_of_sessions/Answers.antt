use Rattle.dr_laws_sessions.proofs.Tables.{groups-joined, groups-left}
use Rattle.dr_laws_sessions.proofs.joining_and_leaving_keep_the_laws_of_sessions.Goals as goal

pub returns-clause-joined : goal.returns-clause-joined
returns-clause-joined c = groups-joined

pub returns-clause-left : goal.returns-clause-left
returns-clause-left c = groups-left
