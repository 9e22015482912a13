-- Texts without their zeros at the end, and lines with their ends.
use Rattle.std.proofs.Common.{◌≡◌, ℕ, List, [], ◌∷◌, ◌++◌, refl, ap, false, ◌∙◌, nat_eq, sym, append_assoc}
use Rattle.std.specs.Prelude.{if◌then◌else◌}
use Rattle.dr_model.specs.Text.{trimmed, before_trimmed}
use Rattle.dr_model.specs.PlantImage.{ended}

-- a zero at the end is trimmed
pub trimmed-zero : (bs : List ℕ) → trimmed (bs ++ 0 ∷ []) ≡ trimmed bs
trimmed-zero [] = refl
trimmed-zero (b ∷ bs) = ap (before_trimmed b) (trimmed-zero bs)

-- a byte goes before the others
onto-push : (x b : ℕ) (xs : List ℕ) → before_trimmed x (xs ++ b ∷ []) ≡ x ∷ xs ++ b ∷ []
onto-push x b [] = refl
onto-push x b (y ∷ ys) = refl

-- and nothing where the last byte isn't zero
pub trimmed-kept : (bs : List ℕ) (b : ℕ) → nat_eq b 0 ≡ false → trimmed (bs ++ b ∷ []) ≡ bs ++ b ∷ []
trimmed-kept [] b e = ap (λ v. if v then [] else b ∷ []) e
trimmed-kept (x ∷ xs) b e = ap (before_trimmed x) (trimmed-kept xs b e) ∙ onto-push x b xs

pub ended-append : (a b : List (List ℕ)) → ended (a ++ b) ≡ ended a ++ ended b
ended-append [] b = refl
ended-append (l ∷ ls) b = ap (λ t. l ++ 10 ∷ t) (ended-append ls b) ∙ sym (append_assoc l (10 ∷ ended ls) (ended b))
