-- A text, piece by piece.
use Rattle.std.proofs.Common.{◌≡◌, List, ℕ, ◌∷◌, [], ◌++◌, map, ap, ◌∙◌, append_assoc}
use Rattle.std.proofs.lemmas.List.{map-append}

-- a piece behind a piece
pub pieces : (t0 a t1 b t2 : List ℕ) → t1 ≡ t0 ++ a → t2 ≡ t1 ++ b → t2 ≡ t0 ++ (a ++ b)
pieces t0 a t1 b t2 first second = second ∙ ap (λ t. t ++ b) first ∙ append_assoc t0 a b

-- a value that is pushed, read through a reference, before others
pub pushed-before : {X Y : Type 0} (f : X → Y) (items more : List X) (x : X) (y : Y) (rest : List Y) → more ≡ items ++ x ∷ [] → f x ≡ y → map f more ++ rest ≡ map f items ++ y ∷ rest
pushed-before f items more x y rest e is =
    ap (λ xs. map f xs ++ rest) e ∙ ap (λ ys. ys ++ rest) (map-append f items (x ∷ [])) ∙ append_assoc (map f items) (f x ∷ []) rest ∙ ap (λ z. map f items ++ z ∷ rest) is
