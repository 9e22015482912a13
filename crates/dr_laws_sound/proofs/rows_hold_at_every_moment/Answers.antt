use Rattle.dr_laws_sound.proofs.Steps.{rows-moment}
use Rattle.dr_laws_sound.proofs.rows_hold_at_every_moment.Goals as goal

pub returns : goal.returns
returns c = rows-moment
