use Rattle.dr_bits.proofs.WordLaws.{in_range-bits_of}
use Rattle.dr_bits.proofs.TrackSet.tell_in_range.Goals as goal

pub returns : goal.returns
returns c = rw (← c.self.view_is) (in_range-bits_of c.self.inside.words c.self.invariant.four)
