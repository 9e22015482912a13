use Rattle.dr_laws_sound.proofs.Steps.{sound-run}
use Rattle.dr_laws_return.proofs.Sites.{alike-on}
use Rattle.dr_model.specs.Runs.{run}
use Rattle.dr_laws_return.proofs.sites_are_equal_where_nothing_is_left.Goals as goal

pub returns : goal.returns
returns c = λ tasks on fuse device fits. alike-on (run tasks) on fuse device (sound-run tasks) fits
