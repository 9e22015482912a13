use Rattle.std.proofs.Common.{bit_or, arith, refl}
use Rattle.dr_lanes.proofs.Merges.{merged-four, merged-all, or_is_union}
use Rattle.dr_lanes.proofs.or_into.Goals as goal

pub lanes-preserved : goal.lanes-preserved
lanes-preserved c =
    let m = merged-four bit_or c.args.a.now c.args.b.now c.lanes.a c.lanes.at (omega arith) (omega arith) c.lanes.invariant.merged in
    record { within = omega (arith, m.sized); merged = m }

pub returns : goal.returns
returns c =
    let each = merged-all bit_or c.args.a.now c.args.b.now c.rest.a c.rest.at refl c.requires (omega arith) c.rest.invariant.merged in
    record { words = each; bits = or_is_union _ _ _ each }
