use Rattle.dr_laws_progress.proofs.Twice.{recovers-twice}
use Rattle.dr_laws_progress.proofs.a_second_recovery_finds_nothing_to_do.Goals as goal

pub returns : goal.returns
returns c = recovers-twice
