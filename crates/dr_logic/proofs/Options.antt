-- Facts on optional values that the library lacks.
use Rattle.std.proofs.Common.{◌≡◌, false, Option, Some, None, is_some, refl, subst}
use Rattle.std.specs.Prelude.{IfSome}

pub none_there : {A : Type 0} (o : Option A) → is_some o ≡ false → o ≡ None
none_there None h = refl
none_there (Some x) h = absurd (cc)

pub if-some : {A : Type 0} (P : A → Type 0) (o : Option A) (a : A) → o ≡ Some a → IfSome o P → P a
if-some P o a is h = subst (λ o. IfSome o P) is h

pub none_some : {P X : Type 0} {o : Option X} {x : X} → o ≡ None → o ≡ Some x → P
none_some n h = cc
