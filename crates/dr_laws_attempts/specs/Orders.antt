-- What holds while a server carries out an order over its members, and while a recovery goes over those of its session.
use Rattle.std.specs.Prelude.{◌≡◌, ◌⊎◌, ◌≤◌, ℕ, true, false, List}
use Rattle.dr_ids.specs.declared.names.Member.{Member}
use Rattle.dr_ids.specs.declared.refusal.PhaseName.{PhaseName}
use Rattle.dr_ids.specs.declared.refusal.PhaseName.TheVariants as phase
use Rattle.dr_model.specs.Phases as phases
use Rattle.dr_model.specs.Control.{Control}
use Rattle.dr_model.specs.Sessions.{Session}
use Rattle.dr_model.specs.Groups.{In}
use Rattle.dr_model.specs.Attempts.{Seen, All, NoneRevertible, NoneCommitted, SomeCommitted, AllAt, Barred, WasFlashed, roles, seen, seen_in, IsDone}

-- each of these members on that server is left to do, or the work is done with it for attempt n
abbrev pub DoneBut : Control → List Member → ℕ → phases.Work → ℕ → List Member → Type 0
DoneBut k ms server work n rest = (m : Member) → In m ms → m.server.0 ≡ server → In m rest ⊎ IsDone work n (seen (roles k) m)

-- work after which members needn't show anything
abbrev pub LeavesTargetsAlone : phases.Work → Type 0
LeavesTargetsAlone phases.Release = Unit {0}
LeavesTargetsAlone phases.Seal = Unit {0}
LeavesTargetsAlone work = ⊥

-- each member of the session is left to do, or its secondary is taken
abbrev pub TakenBut : Control → Session → List Member → Type 0
TakenBut k x rest = (m : Member) → In m x.members → In m rest ⊎ ((seen (roles k) m).paired ≡ false)

-- what lets a recovery commit the rest: all that count have the last number, and one is committed
pub record RestCommits (k : Control) (x : Session) : Type 0 where
  pub all : AllAt x.last (seen_in k x)
  pub some : SomeCommitted x.last (seen_in k x)

-- and what lets it revert: none is committed, or none is left that is revertible; and all secondaries are taken
pub record RestReverts (k : Control) (x : Session) : Type 0 where
  pub way : NoneCommitted x.last (seen_in k x) ⊎ NoneRevertible (seen_in k x)
  pub taken : All (λ u. u.paired ≡ false) (seen_in k x)

-- each member of a server
abbrev pub OnServer : ℕ → (Seen → Type 0) → List Seen → Type 0
OnServer server P = All (λ v. v.server ≡ server → P v)

-- What a server leaves of its members that has done what the phase asks of it, also some time after; no work is done where reports are
-- asked for.
abbrev pub IsDoneFor : PhaseName → ℕ → ℕ → List Seen → Type 0
IsDoneFor phase.None n server vs = Unit {0}
IsDoneFor phase.Idle n server vs = Unit {0}
IsDoneFor phase.Coordinating n server vs = OnServer server (λ v. n ≤ v.attempt) vs
IsDoneFor phase.Releasing n server vs = Unit {0}
IsDoneFor phase.Draining n server vs = Unit {0}
IsDoneFor phase.Flashing n server vs = (Barred n vs ⊎ OnServer server (λ v. v.revertible ≡ true) vs) × OnServer server (WasFlashed n) vs
IsDoneFor phase.Committing n server vs = OnServer server (λ v. v.revertible ≡ false) vs
IsDoneFor phase.Reverting n server vs = OnServer server (λ v. (v.revertible ≡ false) × (n ≤ v.floor)) vs
IsDoneFor phase.Finishing n server vs = OnServer server (λ v. n ≤ v.attempt) vs
IsDoneFor phase.Lost n server vs = OnServer server (λ v. ⊥) vs
