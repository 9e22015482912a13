-- What holds at each moment of the steps of a run, and of the recoveries that may begin there.
use Rattle.std.specs.Prelude.{◌≡◌, ℕ, List, ◌++◌, Some}
use Rattle.dr_model.specs.Sessions.{Session, session_in}
use Rattle.dr_model.specs.RecoveryPlans.{recover_plan}
use Rattle.dr_model.specs.Runs.{Task, run}
use Rattle.dr_laws_recovery.specs.Recovered.{KeepsRecovery}
use Rattle.dr_laws_recovery.specs.TakenOver.{TakesOverFirst}

-- A law holds of each first part of the steps: of none, of the first one, of the first two, and so on.
abbrev pub AtEachMoment : (List Task → Type 0) → List Task → Type 0
AtEachMoment Law tasks = (before after : List Task) → tasks ≡ before ++ after → Law before

-- Each moment of a recovery that begins after these steps, stopped anywhere, leaves of each session what recovery makes of it; and it commits
-- or reverts no target before the secondaries of all members are taken over.
pub record RecoveriesRepeat (tasks : List Task) : Type 0 where
  pub keeps : (r s : ℕ) → KeepsRecovery (run tasks) (recover_plan (run tasks).control r) s
  pub takes_over : (s : ℕ) (x : Session) → session_in (run tasks).control.sessions s ≡ Some x → TakesOverFirst (run tasks) (recover_plan (run tasks).control s) x
