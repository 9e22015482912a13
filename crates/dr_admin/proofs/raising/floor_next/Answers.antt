use Rattle.std.proofs.Common.{◌≤◌, ◌<◌, ap, subst}
use Rattle.dr_moves.specs.Checks.{is_stop}
use Rattle.dr_volume.specs.declared.head.Head.{Head}
use Rattle.dr_coord.proofs.RaiseLemmas.{floor-skips, floor-comes}
use Rattle.dr_admin.proofs.raising.floor_next.Goals as goal

pub returns-then-n-peek_head-clause-comes : goal.returns-then-n-peek_head-clause-comes
returns-then-n-peek_head-clause-comes g c r events =
    floor-skips (g.P.Plant.state c.args.plant.now) c.args.config.now r events c.args.v.0 c.args.n (subst (λ (f : Head). c.args.n ≤ f.floor) c.peek_head.ensures c.if-n-peek_head.true)

pub returns-clause-comes : goal.returns-clause-comes
returns-clause-comes g c r events =
    floor-comes (g.P.Plant.state c.args.plant.now) c.args.config.now r events c.args.v.0 c.args.n (subst (λ (f : Head). f.floor < c.args.n) c.peek_head.ensures c.if-n-peek_head.false)

pub returns-clause-stops : goal.returns-clause-stops
returns-clause-stops g c r is = ap is_stop is
