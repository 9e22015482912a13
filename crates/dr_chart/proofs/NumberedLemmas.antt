-- What is said of the things that are left, by their numbers.
use Rattle.std.proofs.Common.{ℕ, ◌≡◌, ◌+◌, ◌<◌, ◌≤◌, List, [], ◌∷◌, ◌++◌, map, drop, length, get_or, refl, ap, sym, ◌∙◌, append_assoc, append-nil}
use Rattle.std.specs.Prelude.{fold, max}
use Rattle.std.specs.List.{range_with_len}
use Rattle.std.proofs.lemmas.List.{drop_more, drop_all}
use Rattle.std.proofs.lemmas.List.FromFn.{map-range_with_len_more}
use Rattle.std.proofs.lemmas.List.Sums.{fold-append}
use Rattle.dr_chart.specs.Picture.{numbered}

-- one more was said, by a number
pub said-by : {X : Type 0} (says : ℕ → X → List ℕ) (n m i : ℕ) (xs : List X) (x : X) (text longer : List ℕ) → m ≡ n + 1 → i < length xs → longer ≡ text ++ says n (get_or xs i x)
    → longer ++ numbered says m (drop (i + 1) xs) ≡ text ++ numbered says n (drop i xs)
said-by says n m i xs x text longer next within is =
    let left : List ℕ = numbered says (n + 1) (drop (i + 1) xs) in
    ap (λ k. longer ++ numbered says k (drop (i + 1) xs)) next ∙ ap (λ t. t ++ left) is ∙ append_assoc text (says n (get_or xs i x)) left ∙ ap (λ ys. text ++ numbered says n ys) (sym (drop_more xs i x within))

-- the same by its place
pub said : {X : Type 0} (says : ℕ → X → List ℕ) (i : ℕ) (xs : List X) (x : X) (text longer : List ℕ) → i < length xs → longer ≡ text ++ says i (get_or xs i x)
    → longer ++ numbered says (i + 1) (drop (i + 1) xs) ≡ text ++ numbered says i (drop i xs)
said says i xs x text longer within is = said-by says i (i + 1) i xs x text longer refl within is

-- none is left
pub none_left_by : {X : Type 0} (says : ℕ → X → List ℕ) (n i : ℕ) (xs : List X) (text : List ℕ) → length xs ≤ i → text ++ numbered says n (drop i xs) ≡ text
none_left_by says n i xs text all = ap (λ left. text ++ numbered says n left) (drop_all i xs all) ∙ append-nil text

-- the same by places
pub none_left : {X : Type 0} (says : ℕ → X → List ℕ) (i : ℕ) (xs : List X) (text : List ℕ) → length xs ≤ i → text ++ numbered says i (drop i xs) ≡ text
none_left says i xs text all = none_left_by says i i xs text all

-- the most of a number for each of some in a row, one number more, which is k
pub most-more : (f : ℕ → ℕ) (n k : ℕ) → 0 + n ≡ k → fold max 0 (map f (range_with_len 0 (n + 1))) ≡ max (fold max 0 (map f (range_with_len 0 n))) (f k)
most-more f n k is = ap (fold max 0) (map-range_with_len_more f 0 n k is) ∙ fold-append max 0 (map f (range_with_len 0 n)) (f k ∷ [])
