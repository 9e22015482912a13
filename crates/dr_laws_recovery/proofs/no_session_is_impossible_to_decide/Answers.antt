use Rattle.std.proofs.Common.{refl}
use Rattle.dr_model.specs.Runs.{run}
use Rattle.dr_laws_recovery.proofs.Decided.{decides-on}
use Rattle.dr_laws_recovery.proofs.no_session_is_impossible_to_decide.Goals as goal

pub returns : goal.returns
returns c = λ tasks on fuse device fits. decides-on tasks (run tasks) on fuse device refl fits
