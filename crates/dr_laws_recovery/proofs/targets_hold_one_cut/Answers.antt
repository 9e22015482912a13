use Rattle.std.proofs.Common.{refl}
use Rattle.dr_model.specs.Runs.{run}
use Rattle.dr_laws_recovery.proofs.HeadlineAlong.{headline-run}
use Rattle.dr_laws_recovery.proofs.targets_hold_one_cut.Goals as goal

pub returns : goal.returns
returns c = λ tasks on fuse device fits holds. headline-run tasks (run tasks) on fuse device refl fits holds
