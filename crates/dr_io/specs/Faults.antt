-- When a call is a fault.
use Rattle.std.specs.Prelude.{ℕ, Bool, true, ◌&&◌, nat_eq, nat_lt, Result, Ok, Err}

-- Some bytes were wanted, and none were taken.
abbrev pub takes_none : ℕ → ℕ → Bool
takes_none wanted taken = nat_lt 0 wanted && nat_eq taken 0

-- Putting a piece of this length is a fault: it fails, or takes none of a piece that isn't empty.
abbrev pub is_fault : {E : Type 0} → Result ℕ E → ℕ → Bool
is_fault (Ok taken) wanted = takes_none wanted taken
is_fault (Err _) wanted = true
