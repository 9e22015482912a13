use Rattle.dr_laws_sessions.proofs.Tables.{groups-mirrored, groups-unmirrored, groups-paused, groups-aborted, groups-lost}
use Rattle.dr_laws_sessions.proofs.Volumes.{groups-begun}
use Rattle.dr_laws_sessions.proofs.masters_keep_the_laws_of_sessions.Goals as goal

pub returns-clause-mirrored : goal.returns-clause-mirrored
returns-clause-mirrored c = groups-mirrored

pub returns-clause-unmirrored : goal.returns-clause-unmirrored
returns-clause-unmirrored c = groups-unmirrored

pub returns-clause-paused : goal.returns-clause-paused
returns-clause-paused c = groups-paused

pub returns-clause-aborted : goal.returns-clause-aborted
returns-clause-aborted c = groups-aborted

pub returns-clause-lost : goal.returns-clause-lost
returns-clause-lost c = groups-lost

pub returns-clause-begun : goal.returns-clause-begun
returns-clause-begun c = groups-begun
