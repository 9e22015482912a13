-- What the numbers of some members are while they are gone through.
use Rattle.std.specs.Prelude.{ℕ, ◌==◌, if◌then◌else◌}
use Rattle.dr_model.specs.Decisions as known
use Rattle.dr_decide.specs.declared.numbers.Numbers.{Numbers}
use Rattle.dr_decide.specs.declared.numbers.Numbers.TheVariants.{NoNumber, Same, Differ}

-- the numbers of the code as the model has them
abbrev pub numbers_seen : Numbers → known.Numbers
numbers_seen NoNumber = known.NoNumber
numbers_seen (Same n) = known.Same n
numbers_seen (Differ a b) = known.Differ a b

-- these numbers and one more
abbrev pub with_number : known.Numbers → ℕ → known.Numbers
with_number known.NoNumber n = known.Same n
with_number (known.Same a) n = if a == n then known.Same a else known.Differ a n
with_number (known.Differ a b) n = known.Differ a b
