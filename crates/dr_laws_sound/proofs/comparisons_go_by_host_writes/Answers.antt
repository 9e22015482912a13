use Rattle.dr_laws_sound.proofs.Compares.{compare-same, compare-image}
use Rattle.dr_laws_sound.proofs.comparisons_go_by_host_writes.Goals as goal

pub returns-clause-same : goal.returns-clause-same
returns-clause-same c = compare-same

pub returns-clause-images : goal.returns-clause-images
returns-clause-images c = λ w v u sound plain other. compare-image w sound v u plain other
