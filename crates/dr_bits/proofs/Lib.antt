-- Read first: `Laws.antt`: members of each operation's set, sets with the same members are one; `WordLaws.antt`: the same
-- of four words that stand for a set; `Bytes.antt`, `Numbers.antt` (in `specs`): the 32 bytes.
-- - A bit of a word is `nat_eq (bit_at w i) 1`; std's lemmas on `bit_at` (`std/lemmas/Nat/Bits.md`) give equations of
--   numbers below 2, and `grind (arith, nat_tests)` makes truth values of them (`or_bit`, `and_not_bit`).
-- - Words as bytes and back are one operation of vectors, `to_le_bytes` and `from_le_bytes`, with `get_or_narrower` and
--   `get_or_wider` of std.
pub mod Laws
pub mod Bytes
pub mod WordLaws
