-- A vector of four words that is loaded from a list.
use Rattle.std.proofs.Common.{ℕ, suc, ◌≡◌, ◌<◌, ◌≤◌, ◌+◌, List, [], ◌∷◌, length, get_or, take, drop, arith, ◌∙◌, ap, drop-cons}

-- the four words from `at` on
abbrev pub four : ℕ → List ℕ → List ℕ
four at xs = take 4 (drop at xs)

next : (xs : List ℕ) (i j : ℕ) → suc i ≡ j → i < length xs → drop i xs ≡ get_or xs i 0 ∷ drop j xs
next xs i j e within = drop-cons xs i 0 within ∙ ap (λ k. get_or xs i 0 ∷ drop k xs) e

pub four_is : (xs : List ℕ) (at : ℕ) → at + 4 ≤ length xs → four at xs ≡ get_or xs at 0 ∷ get_or xs (at + 1) 0 ∷ get_or xs (at + 2) 0 ∷ get_or xs (at + 3) 0 ∷ []
four_is xs at within =
    ap (take 4) (next xs at (at + 1) (omega arith) (omega arith))
    ∙ ap (λ l. get_or xs at 0 ∷ take 3 l) (next xs (at + 1) (at + 2) (omega arith) (omega arith))
    ∙ ap (λ l. get_or xs at 0 ∷ get_or xs (at + 1) 0 ∷ take 2 l) (next xs (at + 2) (at + 3) (omega arith) (omega arith))
    ∙ ap (λ l. get_or xs at 0 ∷ get_or xs (at + 1) 0 ∷ get_or xs (at + 2) 0 ∷ take 1 l) (next xs (at + 3) (at + 4) (omega arith) (omega arith))
