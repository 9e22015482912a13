use Rattle.dr_laws_sound.proofs.Limits.{within-run}
use Rattle.dr_laws_sound.proofs.runs_stay_within_limits.Goals as goal

pub returns : goal.returns
returns c = within-run
