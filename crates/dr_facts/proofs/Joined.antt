-- A place in two lists that are joined.
use Rattle.std.proofs.Common.{◌≡◌, ◌⊎◌, inl, inr, refl, ap, sym, ◌∙◌, List, [], ◌∷◌, ◌++◌}
use Rattle.dr_logic.proofs.Lists.{cons-parts}

-- it lies in the first one, or in the other
pub record InFirst {X : Type 0} (xs before : List X) (e : X) : Type 0 where
  pub behind : List X
  pub is : xs ≡ before ++ e ∷ behind

pub record InOther {X : Type 0} (xs ys before : List X) (e : X) (behind : List X) : Type 0 where
  pub middle : List X
  pub first : before ≡ xs ++ middle
  pub other : ys ≡ middle ++ e ∷ behind

pub place-in : {X : Type 0} (xs ys before : List X) (e : X) (behind : List X) → xs ++ ys ≡ before ++ e ∷ behind → InFirst xs before e ⊎ InOther xs ys before e behind
place-in [] ys before e behind is = inr (record { middle = before; first = refl; other = is })
place-in (x ∷ xs) ys [] e behind is = inl (record { behind = xs; is = ap (λ y. y ∷ xs) (cons-parts is).0 })
place-in (x ∷ xs) ys (b ∷ before) e behind is = by (place-in xs ys before e behind (cons-parts is).1)
  where
    by : InFirst xs before e ⊎ InOther xs ys before e behind → InFirst (x ∷ xs) (b ∷ before) e ⊎ InOther (x ∷ xs) ys (b ∷ before) e behind
    by (inl p) = inl (record { behind = p.behind; is = ap (λ y. y ∷ xs) (cons-parts is).0 ∙ ap (λ zs. b ∷ zs) p.is })
    by (inr p) = inr (record { middle = p.middle; first = ap (λ zs. b ∷ zs) p.first ∙ ap (λ y. y ∷ (xs ++ p.middle)) (sym (cons-parts is).0); other = p.other })
