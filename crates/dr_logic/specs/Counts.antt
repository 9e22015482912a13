-- Counts of faults.
use Rattle.std.specs.Prelude.{◌≡◌, ℕ, ◌≤◌, ◌+◌, ◌-◌, ◌^◌, min, Bool, true, false}

-- the count after one more: it stands still at the end of 64 bits
abbrev pub risen : ℕ → ℕ
risen n = min (n + 1) (2 ^ 64 - 1)

-- the count now shows at least one fault more than before
abbrev pub Rose : ℕ → ℕ → Type 0
Rose before now = risen before ≤ now

-- a count rose, or is as it was
abbrev pub Counted : Bool → ℕ → ℕ → Type 0
Counted true before now = Rose before now
Counted false before now = now ≡ before
