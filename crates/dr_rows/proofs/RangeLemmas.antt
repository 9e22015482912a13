-- What is said of numbers in a row, one number more.
use Rattle.std.proofs.Common.{◌≡◌, ℕ, ◌+◌, List, [], ◌∷◌, ◌++◌, map, ap, sym, ◌∙◌, append-nil, append_assoc}
use Rattle.std.specs.List.{flat_map, range_with_len}
use Rattle.std.proofs.lemmas.List.Concat.{flat_map-append}
use Rattle.std.proofs.lemmas.List.Folds.{flat_map-map}
use Rattle.std.proofs.lemmas.List.FromFn.{map-range_with_len_more}

-- a text with what is said of one number more, which is k
pub said-more : {X : Type 0} (f : ℕ → List X) (text : List X) (a n k : ℕ) → a + n ≡ k → (text ++ flat_map f (range_with_len a n)) ++ f k ≡ text ++ flat_map f (range_with_len a (n + 1))
said-more {X} f text a n k is =
    let id : ℕ → ℕ = λ x. x in
    let before : List X = flat_map f (range_with_len a n) in
    let more : flat_map f (range_with_len a (n + 1)) ≡ before ++ f k =
    sym (flat_map-map f id (range_with_len a (n + 1)))
    ∙ (ap (flat_map f) (map-range_with_len_more id a n k is)
    ∙ (flat_map-append f (map id (range_with_len a n)) (k ∷ [])
    ∙ (ap (λ xs. xs ++ (f k ++ [])) (flat_map-map f id (range_with_len a n)) ∙ ap (λ xs. before ++ xs) (append-nil (f k))))) in
    append_assoc text before (f k) ∙ ap (λ ys. text ++ ys) (sym more)

-- values of numbers in a row, with that of one number more, which is k
pub each-more : {X : Type 0} (f : ℕ → X) (before : List X) (a n k : ℕ) → a + n ≡ k → (before ++ map f (range_with_len a n)) ++ f k ∷ [] ≡ before ++ map f (range_with_len a (n + 1))
each-more f before a n k is = append_assoc before (map f (range_with_len a n)) (f k ∷ []) ∙ ap (λ ys. before ++ ys) (sym (map-range_with_len_more f a n k is))
