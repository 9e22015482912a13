use Rattle.dr_laws_freezes.proofs.Secondaries.{lacking-run}
use Rattle.dr_laws_freezes.proofs.secondaries_lack_no_write.Goals as goal

pub returns : goal.returns
returns c = lacking-run
