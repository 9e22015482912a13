use Rattle.dr_laws_targets.proofs.Held.{held-stored, acknowledged-kept}
use Rattle.dr_laws_targets.proofs.lists_have_what_was_acknowledged.Goals as goal

pub returns-clause-stored : goal.returns-clause-stored
returns-clause-stored c = held-stored

pub returns-clause-kept : goal.returns-clause-kept
returns-clause-kept c = acknowledged-kept
