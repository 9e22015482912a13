use Rattle.std.proofs.Common.{arith}
use Rattle.dr_moves.proofs.TurnLemmas.{ok-along}
use Rattle.dr_cascade.proofs.leaving.leave.Goals as goal

pub returns-clause-room_left : goal.returns-clause-room_left
returns-clause-room_left g c = ok-along c.make_move.result c.make_move.ensures.room_left (λ is. omega (arith, is))
