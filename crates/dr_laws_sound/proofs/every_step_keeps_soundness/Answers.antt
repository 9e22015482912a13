use Rattle.dr_laws_sound.proofs.Steps.{sound-tasks}
use Rattle.dr_laws_sound.proofs.every_step_keeps_soundness.Goals as goal

pub returns : goal.returns
returns c = sound-tasks
