use Rattle.dr_laws_images.proofs.Unbuilt.{run-unbuilt}
use Rattle.dr_laws_images.proofs.no_step_is_unbuilt.Goals as goal

pub returns : goal.returns
returns c = run-unbuilt
