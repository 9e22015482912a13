-- What each kind of move leaves of the fields that say who records, who is held, and who is sealed.
use Rattle.std.proofs.Common.{ℕ, ◌≡◌, ◌≢◌, refl, sym, true, false, Some}
use Rattle.dr_model.specs.Layout.{Fields}
use Rattle.dr_model.specs.Control.{Volume}
use Rattle.dr_model.specs.Pairs.{primary_of}
use Rattle.dr_model.specs.Moves.{Move, Overwrite, Keep, Relate, Withdraw, Fetch, Reverse, Release, Flash, Commit, Revert, Store, Suspend, MakeSecondary, MakePrimary, DropPrimary, DropSecondary, TakeOver, LeavePrimary, FallBack, Yield, Lift, Restart, Hold, Free, Seal, Finish, RaiseAttempt, fields_left}
use Rattle.dr_laws_cuts.proofs.Told.{TellsNoCut}
use Rattle.dr_laws_attempts.proofs.Facts.{stood}
use Rattle.dr_logic.proofs.Truth.{false_true}

-- what records has recorded before, for the same attempt; and what is held was held before
pub record Goes (f g : Fields) : Type 0 where
  pub recorded : g.recording ≡ true → f.recording ≡ true
  pub attempt : g.recording ≡ true → g.attempt ≡ f.attempt
  pub held : g.coordination ≡ true → f.coordination ≡ true

abbrev pub Idles : Move → Fields → Type 0
Idles (RaiseAttempt v n) f = f.recording ≡ false
Idles m f = Unit {0}

pub goes : (m : Move) (u : Volume) → TellsNoCut m → Idles m u.fields → Goes u.fields (fields_left m u)
goes (Hold v s n first) u other idle = absurd cc
goes (Suspend v busy) u other idle = record { recorded = λ h. absurd cc; attempt = λ h. refl; held = λ h. absurd cc }
goes (MakePrimary v a kind state full) u other idle = record { recorded = λ h. absurd cc; attempt = λ h. refl; held = λ h. absurd cc }
goes (DropPrimary v) u other idle = record { recorded = λ h. absurd cc; attempt = λ h. refl; held = λ h. absurd cc }
goes (TakeOver v) u other idle = record { recorded = λ h. absurd cc; attempt = λ h. refl; held = λ h. absurd cc }
goes (FallBack v more state) u other idle = record { recorded = λ h. absurd cc; attempt = λ h. refl; held = λ h. absurd cc }
goes (Yield v a kind state) u other idle = record { recorded = λ h. absurd cc; attempt = λ h. refl; held = λ h. absurd cc }
goes (Lift v) u other idle = record { recorded = λ h. (stood u.fields.coordination u.fields.recording h).1; attempt = λ h. refl; held = λ h. absurd cc }
goes (Restart v) u other idle = record { recorded = λ h. absurd cc; attempt = λ h. refl; held = λ h. absurd cc }
goes (Finish v n) u other idle = record { recorded = λ h. absurd cc; attempt = λ h. absurd cc; held = λ h. absurd cc }
goes (RaiseAttempt v n) u other idle = record { recorded = λ h. h; attempt = λ h. false_true idle h; held = λ h. h }
goes (Free v) u other idle = record { recorded = λ h. h; attempt = λ h. refl; held = λ h. absurd cc }
goes m u other idle = record { recorded = λ h. h; attempt = λ h. refl; held = λ h. h }

-- a target that may go back could before, but where it is flashed
abbrev pub IsNoFlash : Move → Type 0
IsNoFlash (Flash v u a s n) = ⊥
IsNoFlash m = Unit {0}

pub was-revertible : (m : Move) (u : Volume) → IsNoFlash m → (fields_left m u).revertible ≡ true → u.fields.revertible ≡ true
was-revertible (Flash v p a s n) u other h = absurd other
was-revertible (Overwrite n v t) u other h = (stood _ u.fields.revertible h).1
was-revertible (Keep v t) u other h = (stood _ u.fields.revertible h).1
was-revertible (Fetch v t) u other h = (stood _ u.fields.revertible h).1
was-revertible (Relate v s choices) u other h = absurd cc
was-revertible (Withdraw v) u other h = absurd cc
was-revertible (Reverse v left) u other h = (stood _ u.fields.revertible h).1
was-revertible (Release v t) u other h = (stood _ u.fields.revertible h).1
was-revertible (Commit v a s n) u other h = absurd cc
was-revertible (Revert v a s n) u other h = absurd cc
was-revertible m u other h = h

-- a sealed secondary was sealed for the same number and primary, but where it is sealed
abbrev pub IsNoSeal : Move → Type 0
IsNoSeal (Seal v u s n) = ⊥
IsNoSeal m = Unit {0}

pub was-sealed : (m : Move) (u : Volume) → IsNoSeal m → (a n : ℕ) → n ≢ 0 → primary_of (fields_left m u) ≡ Some a → (fields_left m u).seal ≡ n → (primary_of u.fields ≡ Some a) × (u.fields.seal ≡ n)
was-sealed (Seal v p s n) u other a k some to is = absurd other
was-sealed (Store v t p last) u other a k some to is = absurd (some (sym is))
was-sealed (MakeSecondary v p kind state) u other a k some to is = absurd (some (sym is))
was-sealed (Yield v p kind state) u other a k some to is = absurd (some (sym is))
was-sealed (DropSecondary v) u other a k some to is = absurd (some (sym is))
was-sealed (LeavePrimary v) u other a k some to is = absurd (some (sym is))
was-sealed (TakeOver v) u other a k some to is = absurd (some (sym is))
was-sealed m u other a k some to is = (to, is)
