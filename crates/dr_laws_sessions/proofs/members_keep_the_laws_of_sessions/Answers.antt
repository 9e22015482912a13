use Rattle.dr_laws_sessions.proofs.Members.{groups-raised, groups-added, places-differ, groups-removed, members-few}
use Rattle.dr_laws_sessions.proofs.members_keep_the_laws_of_sessions.Goals as goal

pub returns-clause-raised : goal.returns-clause-raised
returns-clause-raised c = groups-raised

pub returns-clause-added : goal.returns-clause-added
returns-clause-added c = groups-added

pub returns-clause-differ : goal.returns-clause-differ
returns-clause-differ c = places-differ

pub returns-clause-removed : goal.returns-clause-removed
returns-clause-removed c = groups-removed

pub returns-clause-few : goal.returns-clause-few
returns-clause-few c = members-few
