use Rattle.dr_laws_sound.proofs.RefusedExamples.{write-waits, write-dropped, copy-unknown, recovery-none}
use Rattle.dr_laws_sound.proofs.examples_are_refused.Goals as goal

pub returns-clause-waits : goal.returns-clause-waits
returns-clause-waits c = write-waits

pub returns-clause-dropped : goal.returns-clause-dropped
returns-clause-dropped c = write-dropped

pub returns-clause-unknown : goal.returns-clause-unknown
returns-clause-unknown c = copy-unknown

pub returns-clause-none : goal.returns-clause-none
returns-clause-none c = recovery-none
