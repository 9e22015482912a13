use Rattle.dr_laws_sites.proofs.CutMoments.{cuts-run}
use Rattle.dr_laws_sites.proofs.each_cut_has_its_moment.Goals as goal

pub returns : goal.returns
returns c = cuts-run
