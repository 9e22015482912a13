use Rattle.dr_bits.proofs.WordLaws.{no_words}
use Rattle.dr_bits.proofs.TrackSet.clear.Goals as goal

pub returns : goal.returns
returns c = no_words
