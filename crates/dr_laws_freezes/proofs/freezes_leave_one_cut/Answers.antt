use Rattle.dr_laws_freezes.proofs.WindowSteps.{cut-run}
use Rattle.dr_laws_freezes.proofs.freezes_leave_one_cut.Goals as goal

pub returns : goal.returns
returns c = cut-run
