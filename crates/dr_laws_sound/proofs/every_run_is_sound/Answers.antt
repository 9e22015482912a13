use Rattle.dr_laws_sound.proofs.Steps.{sound-run}
use Rattle.dr_laws_sound.proofs.every_run_is_sound.Goals as goal

pub returns : goal.returns
returns c = sound-run
