use Rattle.dr_bits.proofs.WordLaws.{keep_bits}
use Rattle.dr_bits.proofs.TrackSet.keep.Goals as goal

pub returns : goal.returns
returns c = rw (← c.self.view_is, ← c.other.view_is) (keep_bits c.self.inside.words c.other.inside.words c.self.invariant.four c.other.invariant.four)
