-- Slots that are the same, or not.
use Rattle.std.proofs.Common.{◌≡◌, Bool, true, false, refl, not}
use Rattle.dr_model.specs.Carry.{equal}

-- where the slot is the same one, nothing has begun
pub equal-same : (b : Bool) → equal b b ≡ true
equal-same true = refl
equal-same false = refl

pub equal-not : (b : Bool) → equal b (not b) ≡ false
equal-not true = refl
equal-not false = refl
