use Rattle.dr_laws_attempts.proofs.Moves.{unrelated-uncounted, reversing-uncounted}
use Rattle.dr_laws_attempts.proofs.only_targets_count.Goals as goal

pub returns-clause-unrelated : goal.returns-clause-unrelated
returns-clause-unrelated c = λ k v law. unrelated-uncounted k law v

pub returns-clause-reversing : goal.returns-clause-reversing
returns-clause-reversing c = λ k v law. reversing-uncounted k law v

pub returns-clause-counted : goal.returns-clause-counted
returns-clause-counted c = λ k v law. law.volumes v
