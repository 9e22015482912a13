-- Facts on truth values that the library lacks.
use Rattle.std.proofs.Common.{◌≡◌, Bool, true, false, ◌||◌, refl, ◌&&◌}

-- no truth value is both
pub false_true : {P : Type 0} {b : Bool} → b ≡ false → b ≡ true → P
false_true n h = cc

pub or-none : (a b : Bool) → b ≡ false → (a || b) ≡ a
or-none true b none = refl
or-none false b none = none

pub either-of : (a b : Bool) {P : Type 0} → (a || b) ≡ true → (a ≡ true → P) → (b ≡ true → P) → P
either-of true b h f g = f refl
either-of false b h f g = g h

pub and-second-false : (on pass : Bool) → (on && pass) ≡ false → on ≡ true → pass ≡ false
and-second-false true pass h on = h
and-second-false false pass h on = absurd (cc)

pub contrary : (b c : Bool) → (b ≡ true → c ≡ true) → c ≡ false → b ≡ false
contrary true c more h = false_true h (more refl)
contrary false c more h = refl
