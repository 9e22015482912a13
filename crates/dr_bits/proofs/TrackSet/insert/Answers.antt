use Rattle.std.proofs.Common.{arith}
use Rattle.std.proofs.lemmas.Nat.{or_lt}
use Rattle.dr_bits.proofs.WordLaws.{insert_bit, are_set}
use Rattle.dr_bits.proofs.TrackSet.insert.Goals as goal

pub invariant_of-self : goal.invariant_of-self
invariant_of-self c = are_set c.self.inside.words _ _ (or_lt 64 _ _ (c.self.invariant.fit _) (omega arith)) c.self.invariant

pub returns : goal.returns
returns c = rw (← c.self.view_is) (insert_bit c.self.inside.words c.args.t c.self.invariant.four c.requires)
