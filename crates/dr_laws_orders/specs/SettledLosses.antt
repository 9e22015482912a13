-- Losses that are settled: a master was Lost, and goes on with its attempt.
use Rattle.std.specs.Prelude.{◌≡◌, ◌≢◌, ℕ, List, ◌∷◌, ◌++◌, Some}
use Rattle.dr_ids.specs.declared.names.Member.{Member}
use Rattle.dr_ids.specs.declared.refusal.PhaseName.{PhaseName}
use Rattle.dr_ids.specs.declared.refusal.PhaseName.TheVariants as phase
use Rattle.dr_model.specs.Control.{Control, World}
use Rattle.dr_model.specs.Sessions.{Session, session_in}
use Rattle.dr_model.specs.Groups.{In}
use Rattle.dr_model.specs.Forming.{phase_in}
use Rattle.dr_model.specs.Runs.{Task, after_task, after_tasks, run}

-- Session s is defined, and the fence of each of its primary servers is its epoch: each of them has reported since its master was lost last,
-- and carries out no order from before.
pub record IsFencedOff (k : Control) (s : ℕ) : Type 0 where
  pub session : Session
  pub found : session_in k.sessions s ≡ Some session
  pub fences : (m : Member) → In m session.members → k.flight.fence s m.server.0 ≡ k.flight.epoch s

-- A master that was lost has gone on with its attempt, and hasn't come to its end: it is neither Lost nor Idle.
pub record IsSettled (p : PhaseName) : Type 0 where
  pub kept : p ≢ phase.Lost
  pub busy : p ≢ phase.Idle

-- the master of session s is settled at each moment, from world w on over these steps
abbrev pub StaysSettled : World → List Task → ℕ → Type 0
StaysSettled w more s = (first rest : List Task) → more ≡ first ++ rest → IsSettled (phase_in (after_tasks w first).control s)

-- The master of session s is Lost as step t of a run begins. If it is settled as that ends, since it commits or reverts, or an `@run` has led it
-- on from there, all primary servers of the session are fenced off. So they stay over the steps to come, until the master is Idle or Lost again.
abbrev pub SettledLossesAreFenced : List Task → Type 0
SettledLossesAreFenced tasks = (before more after : List Task) (t : Task) (s : ℕ) → tasks ≡ before ++ t ∷ more ++ after → phase_in (run before).control s ≡ phase.Lost
    → StaysSettled (after_task (run before) t) more s → IsFencedOff (after_tasks (after_task (run before) t) more).control s
