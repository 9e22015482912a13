use Rattle.std.proofs.Common.{ℕ, ◌≡◌, List, Option, Some, None, arith}
use Rattle.std.specs.List.{position}
use Rattle.memchr.specs.Find.{IsFirstByte, is_byte}
use Rattle.dr_logic.proofs.Lists.{position-first, position-none}
use Rattle.dr_io.proofs.line_reader.line_end_at.Goals as goal

-- the first byte that is this one, as a position in the list
first-byte : (n : ℕ) (xs : List ℕ) (r : Option ℕ) → IsFirstByte (is_byte n) xs r → r ≡ position (is_byte n) xs
first-byte n xs None none = position-none (is_byte n) xs (λ j. none j (omega arith))
first-byte n xs (Some k) first = position-first (is_byte n) xs k first.0.high (λ j. first.0.before j (omega arith)) first.1

pub returns : goal.returns
returns c = first-byte 10 c.args.bytes.now c.memchr.result c.memchr.ensures
