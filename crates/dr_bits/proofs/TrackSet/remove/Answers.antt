use Rattle.std.proofs.Common.{arith}
use Rattle.dr_bits.proofs.Laws.{remove_past}
use Rattle.dr_bits.proofs.WordLaws.{remove_bit, in_range-bits_of}
use Rattle.dr_bits.proofs.TrackSet.remove.Goals as goal

pub returns-then-at-lt-WORDS : goal.returns-then-at-lt-WORDS
returns-then-at-lt-WORDS c = let low = c.if-at-lt-WORDS.true in rw (← c.self.view_is) (remove_bit c.self.inside.words c.args.t c.self.invariant.four (omega arith))

pub returns-else-at-lt-WORDS : goal.returns-else-at-lt-WORDS
returns-else-at-lt-WORDS c = let past = c.if-at-lt-WORDS.false in rw (← c.self.view_is) (remove_past _ c.args.t (in_range-bits_of c.self.inside.words c.self.invariant.four) (omega arith))
