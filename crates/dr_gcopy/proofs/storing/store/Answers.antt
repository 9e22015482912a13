use Rattle.std.proofs.Common.{ℕ, List, arith, ap, sym, Some}
use Rattle.dr_moves.proofs.TurnLemmas.{ok-along}
use Rattle.dr_gcopy.proofs.storing.store.Goals as goal

pub make_move_by-requires-clause-carries : goal.make_move_by-requires-clause-carries
make_move_by-requires-clause-carries g c = ap (λ (b : List ℕ). Some (c.args.t, b)) (sym c.requires.bytes)

pub returns-clause-room_left : goal.returns-clause-room_left
returns-clause-room_left g c = ok-along c.make_move_by.result c.make_move_by.ensures.room_left (λ is. omega (arith, is))
