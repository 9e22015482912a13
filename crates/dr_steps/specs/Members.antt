-- Lines on the members of a session.
use Rattle.std.specs.Prelude.{◌≡◌, ℕ, Some, IsSome}
use Rattle.dr_config.specs.Table.{ConfigTable, lss_owner, entry_of, IsSoundConfig}
use Rattle.dr_model.specs.Control.{Control}
use Rattle.dr_model.specs.PlanParts.{Plan, on_owner, on_session, owner_of}
use Rattle.dr_model.specs.SessionPlans.{on_volume}
use Rattle.dr_model.specs.Sessions.{Session, session_in}
use Rattle.dr_steps.specs.declared.tables.Tables.{Tables}

-- the logical subsystem has a server, and the volume and the session are defined
pub record AreThere (t : ConfigTable) (h : Tables) (l a s owner : ℕ) : Type 0 where
  pub sound : IsSoundConfig t
  pub owned : lss_owner t l ≡ Some owner
  pub volume : IsSome (entry_of t a)
  pub session : IsSome (session_in h.sessions.sessions s)

-- what needs these
abbrev pub member_plan : Control → ℕ → ℕ → ℕ → (ℕ → Session → Plan) → Plan
member_plan k l a s plan = on_owner (owner_of k l) (λ owner. on_volume k a (on_session (session_in k.sessions s) (plan owner)))
