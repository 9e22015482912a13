-- What is in a set of numbers.
use Rattle.std.proofs.Common.{ℕ, ◌≡◌, true, rules, not, ◌&&◌}
use Rattle.std.proofs.lemmas.Bool.Decides.{nat_tests}
use Rattle.std.specs.Cmp.{unsigned_tied, nat_cmp_total}
use Rattle.std.specs.FinSet.{FinSet, contains, insert, members, difference, contains-difference}
use Rattle.std.specs.Ordering.{nat_cmp}

pub in_insert : (s : FinSet nat_cmp) (t : ℕ) → contains (insert s t) t ≡ true
in_insert s t = grind (members, rules, nat_tests, unsigned_tied)

pub still_in : (s : FinSet nat_cmp) (t q : ℕ) → contains s q ≡ true → contains (insert s t) q ≡ true
still_in s t q h = grind (members, rules, nat_tests, unsigned_tied)

pub in_difference : (s u : FinSet nat_cmp) (q : ℕ) → contains (difference s u) q ≡ (contains s q && not (contains u q))
in_difference s u q = contains-difference nat_cmp_total s u q
