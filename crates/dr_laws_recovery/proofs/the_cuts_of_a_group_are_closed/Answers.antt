use Rattle.std.proofs.Common.{refl}
use Rattle.dr_model.specs.Runs.{run}
use Rattle.dr_laws_recovery.proofs.ClosesAlong.{closed-run}
use Rattle.dr_laws_recovery.proofs.TakenAt.{holds-run}
use Rattle.dr_laws_recovery.proofs.the_cuts_of_a_group_are_closed.Goals as goal

pub returns-clause-closed : goal.returns-clause-closed
returns-clause-closed c = closed-run

pub returns-clause-hold : goal.returns-clause-hold
returns-clause-hold c = λ tasks s n. holds-run tasks (run tasks) refl s n
