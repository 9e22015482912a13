use Rattle.dr_laws_sound.proofs.Steps.{sound-run}
use Rattle.dr_laws_images.proofs.Servers.{run-one}
use Rattle.dr_laws_images.proofs.subsystems_are_on_one_server.Goals as goal

pub returns : goal.returns
returns c = record { once = λ tasks. (sound-run tasks).targets.once; server = run-one }
