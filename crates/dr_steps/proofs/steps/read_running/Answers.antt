use Rattle.dr_plant.proofs.StateLemmas.{read_kept}
use Rattle.dr_steps.proofs.steps.read_running.Goals as goal

pub returns-clause-same : goal.returns-clause-same
returns-clause-same g c = read_kept _ _ _ c.read_target.ensures.state c.in-Ok.ensures.done
