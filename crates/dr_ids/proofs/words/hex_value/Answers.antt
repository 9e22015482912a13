use Rattle.std.proofs.Common.{arith, sym}
use Rattle.dr_ids.proofs.Digits.{digit_in-none, digit_in-some, hex_values}
use Rattle.dr_ids.proofs.words.hex_value.Goals as goal

-- the table of the code is that of the lemmas, by computing both
pub returns-then-value : goal.returns-then-value
unfolding hex_values
returns-then-value c = rw (sym c.from.ensures) (digit_in-none c.from.result (omega arith) c.if-value.true)

pub returns-else-value : goal.returns-else-value
unfolding hex_values
returns-else-value c = rw (sym c.from.ensures) (digit_in-some c.from.result (omega arith) c.if-value.false)
