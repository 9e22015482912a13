use Rattle.std.proofs.Common.{arith, get_or}
use Rattle.std.proofs.lemmas.Nat.{or_lt}
use Rattle.dr_bits.proofs.TrackSet.union.Goals as goal

pub invariant_of-self : goal.invariant_of-self
invariant_of-self c =
    let four = c.self.invariant.four in
    record {
      four = omega arith;
      fit = λ k.
          let is = c.or_into.ensures.words k in
          let low = or_lt 64 (get_or c.self.inside.words k 0) (get_or c.other.inside.words k 0) (c.self.invariant.fit k) (c.other.invariant.fit k) in
          omega arith;
    }
