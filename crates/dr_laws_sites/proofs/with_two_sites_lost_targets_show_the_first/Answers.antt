use Rattle.std.proofs.Common.{refl}
use Rattle.dr_model.specs.Runs.{run}
use Rattle.dr_laws_sites.proofs.BothLost.{lost-run}
use Rattle.dr_laws_sites.proofs.with_two_sites_lost_targets_show_the_first.Goals as goal

pub returns : goal.returns
returns c = λ tasks on fuse device. lost-run tasks (run tasks) on fuse device refl
