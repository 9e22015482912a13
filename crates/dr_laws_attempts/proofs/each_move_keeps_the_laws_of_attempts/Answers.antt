use Rattle.dr_laws_attempts.proofs.Moves.{attempts-move}
use Rattle.dr_laws_attempts.proofs.Tables.{attempts-opened}
use Rattle.dr_laws_attempts.proofs.each_move_keeps_the_laws_of_attempts.Goals as goal

pub returns-clause-moved : goal.returns-clause-moved
returns-clause-moved c = attempts-move

pub returns-clause-opened : goal.returns-clause-opened
returns-clause-opened c = attempts-opened
