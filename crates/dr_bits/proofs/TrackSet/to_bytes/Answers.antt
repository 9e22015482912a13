use Rattle.dr_bits.proofs.WordLaws.{bytes_of_words}
use Rattle.dr_bits.proofs.TrackSet.to_bytes.Goals as goal

pub returns : goal.returns
returns c = rw (← c.self.view_is) (bytes_of_words c.self.inside.words c.self.invariant)
