-- A count that rose has still risen when it rises further, or was lower before.
use Rattle.std.proofs.Common.{ℕ, ◌≤◌, arith}
use Rattle.dr_logic.specs.Counts.{Rose}

pub rose_further : (a b c : ℕ) → Rose a b → b ≤ c → Rose a c
rose_further a b c rose further = omega arith

pub rose_from_lower : (a b c : ℕ) → a ≤ b → Rose b c → Rose a c
rose_from_lower a b c lower rose = omega arith
