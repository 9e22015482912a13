-- proofs/sealed_secondaries_hold_their_cut/Answers.antt
use Rattle.std.proofs.Common.{refl}
use Rattle.dr_model.specs.Runs.{run}
use Rattle.dr_laws_recovery.proofs.SealsAlong.{seals-run}
use Rattle.dr_laws_recovery.proofs.Seals.{seals-hold-on}
use Rattle.dr_laws_recovery.proofs.sealed_secondaries_hold_their_cut.Goals as goal

pub returns-clause-hold : goal.returns-clause-hold
returns-clause-hold c = seals-run

pub returns-clause-devices : goal.returns-clause-devices
returns-clause-devices c = λ tasks on fuse device fits. seals-hold-on tasks (run tasks) on fuse device refl fits
