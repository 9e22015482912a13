use Rattle.dr_laws_sessions.proofs.Volumes.{groups-still, groups-same, groups-held, groups-opened}
use Rattle.dr_laws_sessions.proofs.Quieting.{groups-move}
use Rattle.dr_laws_sessions.proofs.each_move_keeps_the_laws_of_sessions.Goals as goal

pub returns-clause-still : goal.returns-clause-still
returns-clause-still c = groups-still

pub returns-clause-same : goal.returns-clause-same
returns-clause-same c = groups-same

pub returns-clause-held : goal.returns-clause-held
returns-clause-held c = groups-held

pub returns-clause-opened : goal.returns-clause-opened
returns-clause-opened c = groups-opened

pub returns-clause-moved : goal.returns-clause-moved
returns-clause-moved c = groups-move
