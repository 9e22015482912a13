use Rattle.std.proofs.Common.{arith}
use Rattle.dr_bits.proofs.WordLaws.{first_words}
use Rattle.dr_bits.proofs.TrackSet.first.Goals as goal

pub returns : goal.returns
returns c = first_words _ c.args.n c.loop-k.invariant.are.four (λ k i low few. c.loop-k.invariant.so_far k i (omega arith) few)
