-- What secondaries of Metro Mirror stored, as each volume is cut.
use Rattle.std.specs.Prelude.{◌≡◌, ℕ, List, ◌∷◌, ◌++◌}
use Rattle.dr_model.specs.declared.event.Event.{Event}
use Rattle.dr_model.specs.declared.event.Event.TheVariants.{Mirrored, Cut}
use Rattle.dr_model.specs.Groups.{In}
use Rattle.dr_model.specs.HeldWrites.{IsStored}

-- each write that a secondary stored was acknowledged, or a server stopped in that step
abbrev pub MirroredIsStored : List Event → Type 0
MirroredIsStored events = (u x : ℕ) → In (Mirrored u x) events → IsStored events u

-- after a journal, and wherever it tells that a volume was cut
pub record StoredAtCuts (events : List Event) : Type 0 where
  pub now : MirroredIsStored events
  pub cut : (before behind : List Event) (s n v : ℕ) → events ≡ before ++ Cut s n v ∷ behind → MirroredIsStored before
