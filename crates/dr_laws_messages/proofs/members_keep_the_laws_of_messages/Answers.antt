use Rattle.dr_laws_messages.proofs.Members.{flights-raised, flights-added, flights-removed}
use Rattle.dr_laws_messages.proofs.members_keep_the_laws_of_messages.Goals as goal

pub returns-clause-raised : goal.returns-clause-raised
returns-clause-raised c = flights-raised

pub returns-clause-added : goal.returns-clause-added
returns-clause-added c = flights-added

pub returns-clause-removed : goal.returns-clause-removed
returns-clause-removed c = flights-removed
