use Rattle.dr_plant.proofs.StateLemmas.{read_kept}
use Rattle.dr_record.proofs.record.read_choice.Goals as goal

pub returns-clause-same : goal.returns-clause-same
returns-clause-same g c = read_kept _ _ c.args.dev.0 c.in_ok-read.ensures.state c.in_ok-read.ensures.done
