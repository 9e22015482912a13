-- Tests of numbers either way round, and tests that no element passes.
use Rattle.std.proofs.Common.{◌≡◌, ℕ, ◌≤◌, Bool, true, false, not, ◌||◌, cond, ◌+◌, List, [], ◌∷◌, length, None, refl, arith, eqb}
use Rattle.std.specs.List.{position, position_or_len, list_any}
use Rattle.std.proofs.lemmas.Bool.Decides.{nat_tests}

-- two numbers are compared either way round
pub eqb-turned : (m n : ℕ) → eqb m n ≡ eqb n m
eqb-turned m n = grind (arith, nat_tests)

none-before : {X : Type 0} (p : X → Bool) (xs : List X) → length xs ≤ position_or_len p xs → list_any p xs ≡ false
none-before p [] h = refl
none-before p (x ∷ xs) h =
    elim (p x) as (λ b. length (x ∷ xs) ≤ cond (not b) (1 + position_or_len p xs) 0 → (b || list_any p xs) ≡ false) [
      | true ↦ λ past. absurd (omega arith)
      | false ↦ λ past. none-before p xs (omega arith)
    ] h

-- where there is no position, no element passes
pub none-any : {X : Type 0} (p : X → Bool) (xs : List X) → position p xs ≡ None → list_any p xs ≡ false
none-any p xs h = let past : length xs ≤ position_or_len p xs = grind (arith, nat_tests) in none-before p xs past
