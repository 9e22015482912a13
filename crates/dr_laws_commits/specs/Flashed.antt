-- By the journal a member was flashed for a number in the attempt that its session began last.
use Rattle.std.specs.Prelude.{◌≡◌, ℕ, List, ◌∷◌, ◌++◌}
use Rattle.dr_ids.specs.declared.names.Member.{Member}
use Rattle.dr_model.specs.declared.event.Event.{Event}
use Rattle.dr_model.specs.declared.event.Event.TheVariants.{Begin, Flashed}
use Rattle.dr_model.specs.Groups.{In}
use Rattle.dr_model.specs.Sessions.{Session}

-- The journal has it that the target of the member of session s whose primary a is was flashed with number n; and no attempt of the session began
-- behind that.
pub record FlashedIn (events : List Event) (s n a : ℕ) : Type 0 where
  pub before : List Event
  pub behind : List Event
  pub from : ℕ
  pub target : ℕ
  pub is : events ≡ before ++ Flashed s n a from target ∷ behind
  pub last : (k : ℕ) → In (Begin s k) behind → ⊥

-- so was each member of session x, with n
abbrev pub AllFlashedIn : List Event → Session → ℕ → Type 0
AllFlashedIn events x n = (m : Member) → In m x.members → FlashedIn events x.number n m.a.0
