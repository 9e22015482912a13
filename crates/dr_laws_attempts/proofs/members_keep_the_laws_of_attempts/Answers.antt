use Rattle.dr_laws_attempts.proofs.Members.{attempts-raised, attempts-added, attempts-removed}
use Rattle.dr_laws_attempts.proofs.members_keep_the_laws_of_attempts.Goals as goal

pub returns-clause-raised : goal.returns-clause-raised
returns-clause-raised c = attempts-raised

pub returns-clause-added : goal.returns-clause-added
returns-clause-added c = attempts-added

pub returns-clause-removed : goal.returns-clause-removed
returns-clause-removed c = attempts-removed
