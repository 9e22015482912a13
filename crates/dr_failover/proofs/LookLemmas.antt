-- The first target of a volume that passes a test.
use Rattle.std.proofs.Common.{ℕ, ◌≡◌, Bool, true, false, ◌&&◌, cond, List, [], ◌∷◌, filter, refl, ◌∙◌, ap, Some}
use Rattle.std.specs.List.{find}

-- the first that passes both tests
pub found-among : (f h : ℕ → Bool) (xs : List ℕ) → find (λ u. h u && f u) xs ≡ find f (filter h xs)
found-among f h [] = refl
found-among f h (x ∷ xs) = ap (λ o. cond (h x && f x) (Some x) o) (found-among f h xs) ∙ by (h x) (filter h xs)
  where
    by : (a : Bool) (rest : List ℕ) → cond (a && f x) (Some x) (find f rest) ≡ find f (cond a (x ∷ rest) rest)
    by true rest = refl
    by false rest = refl
