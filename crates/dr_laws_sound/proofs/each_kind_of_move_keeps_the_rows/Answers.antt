use Rattle.dr_laws_sound.proofs.KeepsSound.{rows-after}
use Rattle.dr_laws_sound.proofs.each_kind_of_move_keeps_the_rows.Goals as goal

pub returns : goal.returns
returns c = rows-after
