use Rattle.std.proofs.Common.{arith}
use Rattle.dr_lanes.proofs.Members.{len-bits_of_le}
use Rattle.dr_bits.proofs.TrackSet.len.Goals as goal

pub overflow_cast-result : goal.overflow_cast-result
overflow_cast-result c =
    let few = len-bits_of_le c.self.inside.words in
    let four = c.self.invariant.four in
    let is = c.count.ensures in
    record { fits = omega arith }
