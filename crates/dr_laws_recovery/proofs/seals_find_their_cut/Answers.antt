use Rattle.dr_laws_recovery.proofs.SealsFound.{cuts-found, sends-found}
use Rattle.dr_laws_recovery.proofs.seals_find_their_cut.Goals as goal

pub returns-clause-cuts : goal.returns-clause-cuts
returns-clause-cuts c = cuts-found

pub returns-clause-sends : goal.returns-clause-sends
returns-clause-sends c = λ w x m sound listed here. sends-found w x m sound listed here
