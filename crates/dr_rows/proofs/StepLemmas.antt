-- The steps of a line, one step more.
use Rattle.std.proofs.Common.{◌≡◌, ℕ, ◌+◌, ◌<◌, Bool, false, ◌||◌, List, length, take, get_or, ap, sym, ◌∙◌, Some, slice_get}
use Rattle.std.specs.List.{list_any}
use Rattle.std.proofs.lemmas.List.Folds.{list_any_more}
use Rattle.std.proofs.lemmas.Option.{slice_get_within, get_or_from_slice_get}

-- one element more that doesn't pass
pub none-further : {X : Type 0} (p : X → Bool) (xs : List X) (i : ℕ) (x : X) → i < length xs → x ≡ get_or xs i x → p x ≡ false → list_any p (take i xs) ≡ false → list_any p (take (i + 1) xs) ≡ false
none-further p xs i x within here fails before = list_any_more p xs i x within ∙ ap (λ b. b || p (get_or xs i x)) before ∙ ap p (sym here) ∙ fails

-- one step more of which none passes
pub none-more : {X : Type 0} (p : X → Bool) (xs : List X) (i : ℕ) (x : X) → slice_get xs i ≡ Some x → p x ≡ false → list_any p (take i xs) ≡ false → list_any p (take (i + 1) xs) ≡ false
none-more p xs i x here = none-further p xs i x (slice_get_within xs i x here) (sym (get_or_from_slice_get xs i x x here))
