use Rattle.dr_laws_cuts.proofs.Kept.{kept-cuts}
use Rattle.dr_laws_cuts.proofs.each_kind_of_move_keeps_the_cuts.Goals as goal

pub returns : goal.returns
returns c = kept-cuts
