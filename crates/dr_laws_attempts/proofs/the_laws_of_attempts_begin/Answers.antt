use Rattle.dr_laws_attempts.proofs.Volumes.{attempts-none, attempts-still, attempts-defined}
use Rattle.dr_laws_attempts.proofs.the_laws_of_attempts_begin.Goals as goal

pub returns-clause-none : goal.returns-clause-none
returns-clause-none c = attempts-none

pub returns-clause-still : goal.returns-clause-still
returns-clause-still c = attempts-still

pub returns-clause-defined : goal.returns-clause-defined
returns-clause-defined c = attempts-defined
