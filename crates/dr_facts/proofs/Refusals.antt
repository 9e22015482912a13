-- What checks say that passed.
use Rattle.std.proofs.Common.{◌≡◌, refl, Option, Some, None, Bool, true, false, cond, not}
use Rattle.std.specs.Option.{option_or}
use Rattle.dr_ids.specs.declared.refusal.Refusal.{Refusal}

pub none-both : (a b : Option Refusal) → option_or a b ≡ None → (a ≡ None) × (b ≡ None)
none-both None b is = (refl, is)
none-both (Some e) b is = absurd cc

-- what a check that passed says
pub met : (b : Bool) (r : Refusal) → cond b None (Some r) ≡ None → b ≡ true
met true r h = refl
met false r h = absurd cc

pub passed : (b : Bool) (r : Refusal) (o : Option Refusal) → cond (not b) (Some r) o ≡ None → (b ≡ true) × (o ≡ None)
passed true r o h = (refl, h)
passed false r o h = absurd cc

pub chosen : (b : Bool) (p q : Option Refusal) → b ≡ true → cond b p q ≡ None → p ≡ None
chosen true p q is h = h
chosen false p q is h = absurd cc

pub second-none : (a b : Option Refusal) → option_or a b ≡ None → b ≡ None
second-none None b h = h
second-none (Some r) b h = absurd cc
