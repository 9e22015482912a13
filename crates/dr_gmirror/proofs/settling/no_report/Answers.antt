use Rattle.std.proofs.Common.{false}
use Rattle.dr_gmirror.proofs.ReportLemmas.{all-same}
use Rattle.dr_gmirror.proofs.settling.no_report.Goals as goal

pub returns-clause-trimmed : goal.returns-clause-trimmed
returns-clause-trimmed c = record { numbers = λ i past low. all-same 64 i 0 low; flags = λ i past low. all-same 64 i false low }
