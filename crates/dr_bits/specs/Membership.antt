-- What is a member of a set that a test gives.
use Rattle.std.proofs.Common.{ℕ, zero, suc, ◌≡◌, ◌<◌, ◌≤◌, Bool, true, false, ◌||◌, ◌&&◌, arith, sym, ◌∙◌, ap, refl, nat_eq, nat_lt, cond}
use Rattle.std.specs.Ordering.{nat_cmp}
use Rattle.std.specs.Cmp.{nat_cmp_total, unsigned_tied}
use Rattle.std.specs.FinSet.{contains, insert, contains-empty, contains-insert}
use Rattle.std.proofs.lemmas.Bool.Decides.{nat_tests}
use Rattle.dr_bits.specs.Tracks.{passing, of_test}

-- a test of two numbers, where the first is lower
pub lt_true : (a b : ℕ) → a < b → nat_lt a b ≡ true
lt_true a b h = grind (arith, nat_tests)

-- and where it isn't
pub lt_false : (a b : ℕ) → b ≤ a → nat_lt a b ≡ false
lt_false a b h = grind (arith, nat_tests)

-- the test's last answer was yes: n is a member beside those below it
last_in : (f : ℕ → Bool) (n q : ℕ) → f n ≡ true → (nat_eq q n || (nat_lt q n && f q)) ≡ (nat_lt q (suc n) && f q)
last_in f n q passes = grind (arith, nat_tests)

-- it was no
last_out : (f : ℕ → Bool) (n q : ℕ) → f n ≡ false → (nat_lt q n && f q) ≡ (nat_lt q (suc n) && f q)
last_out f n q fails = grind (arith, nat_tests)

-- a number is in the set of those that pass a test where it is below the end and passes
pub contains-passing : (f : ℕ → Bool) (n q : ℕ) → contains (passing f n) q ≡ (nat_lt q n && f q)
unfolding passing
contains-passing f zero q = contains-empty nat_cmp q ∙ sym (ap (λ b. b && f q) (lt_false q 0 (omega arith)))
contains-passing f (suc n) q =
    elim (f n) as (λ b. f n ≡ b → contains (cond b (insert (passing f n) n) (passing f n)) q ≡ (nat_lt q (suc n) && f q)) [
      | true ↦ λ passes.
          contains-insert nat_cmp_total (passing f n) n q
          ∙ (λ i. unsigned_tied q n i || contains-passing f n q i)
          ∙ last_in f n q passes
      | false ↦ λ fails. contains-passing f n q ∙ last_out f n q fails
    ] refl

-- the same of the tracks, which are below 256
pub contains-of_test : (f : ℕ → Bool) (q : ℕ) → contains (of_test f) q ≡ (nat_lt q 256 && f q)
unfolding of_test
contains-of_test f q = contains-passing f 256 q

-- of a track it is the test alone
pub contains-of_test_below : (f : ℕ → Bool) (q : ℕ) → q < 256 → contains (of_test f) q ≡ f q
contains-of_test_below f q low = contains-of_test f q ∙ ap (λ b. b && f q) (lt_true q 256 low)

-- and of no other number
pub contains-of_test_past : (f : ℕ → Bool) (q : ℕ) → 256 ≤ q → contains (of_test f) q ≡ false
contains-of_test_past f q high = contains-of_test f q ∙ ap (λ b. b && f q) (lt_false q 256 high)
