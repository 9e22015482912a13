-- How an abort is answered, by the state in which it begins.
use Rattle.std.specs.Prelude.{◌≡◌, ℕ, true, List, [], Option, Some, None, Ok, if◌then◌else◌}
use Rattle.dr_ids.specs.declared.refusal.Kind.TheVariants.{Session as OfSession}
use Rattle.dr_ids.specs.declared.refusal.PhaseName.{PhaseName}
use Rattle.dr_ids.specs.declared.refusal.PhaseName.TheVariants as phase
use Rattle.dr_ids.specs.declared.refusal.Refusal.TheVariants.{OutOfOrder, JournalFull}
use Rattle.dr_model.specs.declared.said.Addition.TheVariants.{InPhase}
use Rattle.dr_model.specs.declared.said.Said.{Said}
use Rattle.dr_model.specs.declared.said.Said.TheVariants.{Done, Refused}
use Rattle.dr_model.specs.declared.step.Step.TheVariants.{Abort}
use Rattle.dr_model.specs.Refusals.{unknown, server_off}
use Rattle.dr_model.specs.Phases.{aborted_phase}
use Rattle.dr_model.specs.Control.{Control, World}
use Rattle.dr_model.specs.Sessions.{Session, Mirror, session_in}
use Rattle.dr_model.specs.Forming.{master_in}
use Rattle.dr_model.specs.Plans.{has_room}
use Rattle.dr_model.specs.Runs.{Task, run, after_task}
use Rattle.dr_laws_sound.specs.Acknowledged.{said_in}

-- E15 with its phase if that can't be aborted; E05 if its server is off; else ok with the phase in which the attempt is given up
abbrev pub abort_by_phase : Control → Mirror → Option PhaseName → Said
abort_by_phase k r None = Refused (OutOfOrder r.master.phase)
abort_by_phase k r (Some p) = if k.on r.server then Done (InPhase p r.master.number) else Refused (server_off r.server)

-- E15 if the session has no master
abbrev pub abort_by_master : Control → Option Mirror → Said
abort_by_master k None = Refused (OutOfOrder phase.None)
abort_by_master k (Some r) = abort_by_phase k r (aborted_phase r.master.phase)

-- E02 if no session has that number
abbrev pub abort_by_session : Control → Option Session → Said
abort_by_session k None = Refused (unknown OfSession)
abort_by_session k (Some x) = abort_by_master k x.mirror

-- E23 if the journal has no room for a step; no fuse counts, since no device is written
abbrev pub abort_says : World → ℕ → Said
abort_says w s = if has_room w.events then abort_by_session w.control (session_in w.control.sessions s) else Refused JournalFull

-- From w to u the attempt of session s is given up. Its master was r, and is in phase p with its number; all its servers are owed the order of that
-- phase, and nothing is reported.
pub record IsAborted (w u : World) (s : ℕ) (r : Mirror) (p : PhaseName) : Type 0 where
  pub is : master_in u.control s ≡ Some (record r { master = record r.master { phase = p; owed = r.master.servers; reports = [] } })
  pub same : u.control ≡ record w.control { sessions = u.control.sessions; flight = u.control.flight }

-- Step t, an abort of session s that begins in w, is answered by the state; and if nothing refuses it, that is what it leaves.
pub record AbortAnswers (w : World) (t : Task) (s : ℕ) : Type 0 where
  pub says : said_in w t ≡ abort_says w s
  pub leaves : (r : Mirror) (p : PhaseName) → has_room w.events ≡ true → master_in w.control s ≡ Some r → aborted_phase r.master.phase ≡ Some p → w.control.on r.server ≡ true → IsAborted w (after_task w t) s r p

-- so is each abort after any run
abbrev pub AbortsAnswer : List Task → Type 0
AbortsAnswer tasks = (t : Task) (s : ℕ) → t.asked ≡ Ok (Abort s) → AbortAnswers (run tasks) t s
