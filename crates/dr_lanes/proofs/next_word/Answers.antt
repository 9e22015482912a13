use Rattle.std.proofs.Common.{◌≤◌, ◌+◌, length, arith}
use Rattle.dr_lanes.proofs.Vectors.{four_is}
use Rattle.dr_lanes.proofs.Lowest.{all_zero, zeros-four}
use Rattle.dr_lanes.proofs.next_word.Goals as goal

pub lanes-preserved : goal.lanes-preserved
lanes-preserved c =
    let long : c.lanes.at + 4 ≤ length c.args.a.now = omega arith in
    let together = rw (four_is c.args.a.now c.lanes.at long) at c.if-a-at-eq0.true in
    record {
      past = omega arith;
      within = omega arith;
      zeros = zeros-four c.args.a.now c.args.from c.lanes.at long (all_zero _ _ _ _ together) c.lanes.invariant.zeros;
    }
