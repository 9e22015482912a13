-- Whether a write that is held depends on a lost one.
use Rattle.std.specs.Prelude.{◌≡◌, ℕ, ◌<◌, ◌≤◌, Bool, if◌then◌else◌, IsTrue, List, slice_get, Option, Some, None}
use Rattle.std.specs.Option.{option_and_then}
use Rattle.dr_model.specs.declared.event.Event.{Event}
use Rattle.dr_model.specs.declared.event.Event.TheVariants.{Ack, Issue}
use Rattle.dr_model.specs.Dependence.{DependsOn}

-- the write that an event acknowledges, if it is one of some writes
abbrev pub acknowledged_in : (ℕ → Bool) → Event → Option ℕ
acknowledged_in among (Ack w) = if among w then Some w else None
acknowledged_in among _ = None

-- the write that an event issues, if it is one of some writes
abbrev pub issued_in : (ℕ → Bool) → Event → Option ℕ
issued_in among (Issue w volume track offset len bytes) = if among w then Some w else None
issued_in among _ = None

-- what the event at a place tells, if there is one
abbrev pub told_at : (Event → Option ℕ) → List Event → ℕ → Option ℕ
told_at tells events i = option_and_then tells (slice_get events i)

-- of the events from a place on, the one at `place` is the first that tells a number, and it tells w
pub record IsFirstTold (tells : Event → Option ℕ) (events : List Event) (from place w : ℕ) : Type 0 where
  pub behind : from ≤ place
  pub told : told_at tells events place ≡ Some w
  pub none : (i : ℕ) → from ≤ i → i < place → told_at tells events i ≡ None

-- The first of the pairs of a held write and a lost one on which it depends: of the lost writes u was acknowledged first, and w is the first by
-- issue of the held writes that depend on any lost one.
pub record IsFirstBroken (events : List Event) (held lost : ℕ → Bool) (w u : ℕ) : Type 0 where
  pub depends : DependsOn events w u
  pub is_held : IsTrue (held w)
  pub is_lost : IsTrue (lost u)
  pub first_lost : (i v : ℕ) → slice_get events i ≡ Some (Ack v) → IsTrue (lost v) → depends.acknowledged ≤ i
  pub first_held : (x v : ℕ) → IsTrue (held x) → IsTrue (lost v) → (d : DependsOn events x v) → depends.issued ≤ d.issued
