use Rattle.dr_laws_progress.proofs.ToIdle.{leads-to-idle}
use Rattle.dr_laws_progress.proofs.exchanges_lead_to_idle.Goals as goal

pub returns : goal.returns
returns c = leads-to-idle
