use Rattle.dr_laws_cuts.proofs.Journal.{past-history, cuts-quiet}
use Rattle.dr_laws_cuts.proofs.Told.{cuts-told, cuts-stopped}
use Rattle.dr_laws_cuts.proofs.holds_alone_cut.Goals as goal

pub returns-clause-history : goal.returns-clause-history
returns-clause-history c = past-history

pub returns-clause-done : goal.returns-clause-done
returns-clause-done c = cuts-told

pub returns-clause-stopped : goal.returns-clause-stopped
returns-clause-stopped c = cuts-stopped

pub returns-clause-quiet : goal.returns-clause-quiet
returns-clause-quiet c = cuts-quiet
