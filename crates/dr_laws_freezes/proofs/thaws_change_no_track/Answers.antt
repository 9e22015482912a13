use Rattle.dr_laws_freezes.proofs.Thaws.{thaw-leaves}
use Rattle.dr_laws_freezes.proofs.thaws_change_no_track.Goals as goal

pub returns : goal.returns
returns c = thaw-leaves
