use Rattle.std.proofs.Common.{arith, get_or, w64}
use Rattle.std.specs.Int.{bit_not}
use Rattle.std.proofs.lemmas.Nat.{and_le_l}
use Rattle.dr_bits.proofs.TrackSet.minus.Goals as goal

pub invariant_of-self : goal.invariant_of-self
invariant_of-self c =
    let four = c.self.invariant.four in
    record {
      four = omega arith;
      fit = λ k.
          let is = c.and_not_into.ensures.words k in
          let low = and_le_l (get_or c.self.inside.words k 0) (bit_not w64 (get_or c.other.inside.words k 0)) in
          let fit = c.self.invariant.fit k in
          omega arith;
    }
