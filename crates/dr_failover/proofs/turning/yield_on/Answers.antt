use Rattle.std.proofs.Common.{ap}
use Rattle.dr_model.specs.Moves.{Yield}
use Rattle.dr_volume.specs.declared.head.Head.{Head}
use Rattle.dr_failover.proofs.turning.yield_on.Goals as goal

pub returns : goal.returns
returns g c = ap (λ (h : Head). Yield c.args.y.0 c.args.x.0 h.primary h.primary_state) c.peek_head-head.ensures
