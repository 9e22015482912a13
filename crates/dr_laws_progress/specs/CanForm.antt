-- When groups can be formed: by the pairs, the targets and the links, and by nothing of an attempt. And what may refuse an exchange then.
use Rattle.std.specs.Prelude.{◌≡◌, ◌≢◌, ℕ, true, false, List, [], ◌∷◌, Option, Some, None}
use Rattle.std.specs.Option.{option_or}
use Rattle.dr_ids.specs.declared.names.Member.{Member}
use Rattle.dr_ids.specs.declared.refusal.PhaseName.{PhaseName}
use Rattle.dr_ids.specs.declared.refusal.PhaseName.TheVariants as phase
use Rattle.dr_ids.specs.declared.refusal.Refusal.{Refusal}
use Rattle.dr_model.specs.Control.{Control}
use Rattle.dr_model.specs.Entries.{fields_at, is_running, copies_from}
use Rattle.dr_model.specs.PairEntries.{reach_refusal}
use Rattle.dr_model.specs.Sessions.{Session, Mirror, session_in}
use Rattle.dr_model.specs.SessionEntries.{members_on, stale_refusal, void_refusal, flash_refusal, commit_refusal}
use Rattle.dr_model.specs.SessionPlans.{apart_refusal, phase_refusal}
use Rattle.dr_model.specs.Groups.{In}
use Rattle.dr_model.specs.Runs.{Task, run}
use Rattle.dr_laws_progress.specs.Home.{InPlace}
use Rattle.dr_laws_progress.specs.Exchanges.{asking_refusal}

-- The servers of a member's three volumes are on. Its secondary is reached from its primary, by a path and by a link that is up.
pub record IsReached (k : Control) (m : Member) : Type 0 where
  pub primary : is_running m.a.0 k ≡ true
  pub secondary : is_running m.b.0 k ≡ true
  pub target : is_running m.c.0 k ≡ true
  pub there : reach_refusal m.a.0 m.b.0 k ≡ None

-- A member's target copies from its secondary, its changes are recorded, and the host may not write on it. It isn't reversing, and may be revertible.
pub record FitTarget (k : Control) (m : Member) : Type 0 where
  pub copies : copies_from m.b.0 (fields_at k m.c.0) ≡ true
  pub recorded : (fields_at k m.c.0).recorded ≡ true
  pub inhibited : (fields_at k m.c.0).inhibited ≡ true
  pub forward : (fields_at k m.c.0).reversing ≡ false

-- it is reached, its pair is in place, and its target is fit
pub record MemberForms (k : Control) (m : Member) : Type 0 where
  pub reached : IsReached k m
  pub place : InPlace k m.a.0 m.b.0
  pub target : FitTarget k m

-- Session s has a member and a master, whose server is on and linked to each other primary server; and each member is reached, in place, and with a fit
-- target. Nothing is said of a pause, of fuses and holds, of the phase, or of what the attempt has left in records and messages.
pub record CanForm (k : Control) (s : ℕ) : Type 0 where
  pub session : Session
  pub found : session_in k.sessions s ≡ Some session
  pub mirror : Mirror
  pub has_master : session.mirror ≡ Some mirror
  pub some : session.members ≢ []
  pub master_on : k.on mirror.server ≡ true
  pub linked : (m : Member) → In m session.members → apart_refusal k mirror.server m.server.0 ≡ None
  pub members : (m : Member) → In m session.members → MemberForms k m

-- ---- what may refuse an exchange then

-- What the order of a phase asks of attempt n, for a member that is reached and in place: a primary was held for it, and lost it; a primary doesn't
-- record it; a target can't be flashed for it, or wasn't. In Idle and in phases that end an attempt there is nothing.
abbrev pub attempt_refusal : PhaseName → ℕ → Member → Control → Option Refusal
attempt_refusal phase.Coordinating n m k = stale_refusal m.a.0 n k
attempt_refusal phase.Releasing n m k = void_refusal m.a.0 n k
attempt_refusal phase.Draining n m k = void_refusal m.a.0 n k
attempt_refusal phase.Flashing n m k = flash_refusal m.b.0 m.c.0 n k
attempt_refusal phase.Committing n m k = commit_refusal m.c.0 n k
attempt_refusal p n m k = None

-- the first of some members for which it is
abbrev pub first_in_attempt : PhaseName → ℕ → List Member → Control → Option Refusal
first_in_attempt p n [] k = None
first_in_attempt p n (m ∷ ms) k = option_or (attempt_refusal p n m k) (first_in_attempt p n ms k)

-- After any run, if groups can be formed, an exchange with a member's server that may be asked by phase is refused for nothing else.
abbrev pub RefusedByAttempt : List Task → Type 0
RefusedByAttempt tasks =
    let k : Control = (run tasks).control in
    (s : ℕ) (c : CanForm k s) (m : Member) → In m c.session.members → phase_refusal c.mirror m.server.0 c.session.members ≡ None
    → asking_refusal k c.session c.mirror m.server.0 ≡ first_in_attempt c.mirror.master.phase c.mirror.master.number (members_on m.server.0 c.session.members) k
