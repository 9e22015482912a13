use Rattle.dr_laws_sessions.proofs.Volumes.{groups-none, groups-defined}
use Rattle.dr_laws_sessions.proofs.the_laws_of_sessions_begin.Goals as goal

pub returns-clause-none : goal.returns-clause-none
returns-clause-none c = groups-none

pub returns-clause-defined : goal.returns-clause-defined
returns-clause-defined c = groups-defined
