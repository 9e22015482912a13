use Rattle.dr_laws_closed.proofs.ClosedCuts.{closed-cuts}
use Rattle.dr_laws_closed.proofs.one_moment_closes_the_cuts.Goals as goal

pub returns : goal.returns
returns c = closed-cuts
