use Rattle.dr_moves.proofs.MoveRows.{told-seen, stop-seen}
use Rattle.dr_moves.proofs.told.sight_of.Goals as goal

pub returns-clause-done : goal.returns-clause-done
returns-clause-done c m n = told-seen m n c.args.f.now

pub returns-clause-in_stop : goal.returns-clause-in_stop
returns-clause-in_stop c m n = stop-seen m n c.args.f.now
