-- Sets of tracks that are low, and how much a suspension tells.
use Rattle.std.proofs.Common.{ℕ, ◌≤◌, Bool, true, false, [], ◌∷◌, length, sym, ◌∙◌, arith}
use Rattle.std.specs.Prelude.{if◌then◌else◌}
use Rattle.std.specs.FinSet.{contains, union}
use Rattle.dr_bits.proofs.Laws.{contains-union_tracks}
use Rattle.dr_model.specs.declared.event.Event.{Event}
use Rattle.dr_model.specs.Layout.{Tracks}
use Rattle.dr_model.specs.Lawful.{Low}
use Rattle.dr_logic.proofs.Truth.{either-of}

pub low-union : (n : ℕ) (x y : Tracks) → Low n x → Low n y → Low n (union x y)
low-union n x y h k q member = either-of (contains x q) (contains y q) (sym (contains-union_tracks x y q) ∙ member) (h q) (k q)

-- a primary that was Suspended tells nothing
pub few-if : (b : Bool) (e : Event) → length (if b then [] else e ∷ []) ≤ 1
few-if true e = omega arith
few-if false e = omega arith
