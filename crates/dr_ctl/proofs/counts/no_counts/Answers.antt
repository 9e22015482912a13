use Rattle.dr_ctl.proofs.Rows.{none-counted}
use Rattle.dr_ctl.proofs.counts.no_counts.Goals as goal

pub returns : goal.returns
returns c = λ i s. none-counted 256 s i
