use Rattle.dr_laws_messages.proofs.Moves.{flights-move, flights-opened}
use Rattle.dr_laws_messages.proofs.each_move_keeps_the_laws_of_messages.Goals as goal

pub returns-clause-moved : goal.returns-clause-moved
returns-clause-moved c = flights-move

pub returns-clause-opened : goal.returns-clause-opened
returns-clause-opened c = flights-opened
