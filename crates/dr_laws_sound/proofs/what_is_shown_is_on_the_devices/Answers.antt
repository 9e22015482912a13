use Rattle.dr_laws_sound.proofs.Shows.{shown-run}
use Rattle.dr_laws_sound.proofs.what_is_shown_is_on_the_devices.Goals as goal

pub returns : goal.returns
returns c = shown-run
