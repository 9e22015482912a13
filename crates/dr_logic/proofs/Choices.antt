-- A choice between something and nothing.
use Rattle.std.proofs.Common.{◌≡◌, refl, Bool, true, false, cond, Some, None, ap}

pub not_chosen : {A : Type 0} (b : Bool) (n : A) → cond b (Some n) None ≡ None → b ≡ false
not_chosen true n e = cc
not_chosen false n e = refl

pub chosen : {A : Type 0} (b : Bool) (n i : A) → cond b (Some n) None ≡ Some i → (b ≡ true) × (n ≡ i)
chosen true n i e = (refl, cc)
chosen false n i e = cc

pub choose_some : {A : Type 0} (related : Bool) (s : A) → related ≡ true → cond related (Some s) None ≡ Some s
choose_some related s h = ap (λ b. cond b (Some s) None) h

pub choose_none : {A : Type 0} (related : Bool) (s : A) → related ≡ false → cond related (Some s) None ≡ None
choose_none related s h = ap (λ b. cond b (Some s) None) h
