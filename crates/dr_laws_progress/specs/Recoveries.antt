-- What recoveries answer along a run, each answer with its cause.
use Rattle.std.specs.Prelude.{◌≡◌, ℕ, Bool, true, false, List, ◌∷◌, ◌++◌, Some, None, Ok}
use Rattle.dr_ids.specs.declared.names.Member.{Member}
use Rattle.dr_ids.specs.declared.refusal.Decision.{Decision}
use Rattle.dr_ids.specs.declared.refusal.Decision.TheVariants.{NoMember, RevertAll}
use Rattle.dr_ids.specs.declared.refusal.Kind.TheVariants.{Session as OfSession}
use Rattle.dr_ids.specs.declared.refusal.Refusal.{Refusal}
use Rattle.dr_ids.specs.declared.refusal.Refusal.TheVariants.{NoGroup, JournalFull}
use Rattle.dr_model.specs.declared.said.Addition.TheVariants.{InGroup}
use Rattle.dr_model.specs.declared.said.Said.{Said}
use Rattle.dr_model.specs.declared.said.Said.TheVariants.{Done, Refused}
use Rattle.dr_model.specs.declared.step.Step.TheVariants.{Recover}
use Rattle.dr_model.specs.Refusals.{unknown, server_off}
use Rattle.dr_model.specs.Control.{World}
use Rattle.dr_model.specs.Entries.{fields_at}
use Rattle.dr_model.specs.Sessions.{Session, session_in}
use Rattle.dr_model.specs.Groups.{In}
use Rattle.dr_model.specs.Plans.{has_room}
use Rattle.dr_model.specs.Recovery.{decided_over}
use Rattle.dr_model.specs.Runs.{Task, after_task, run, said}
use Rattle.dr_laws_sound.specs.Acknowledged.{said_in}
use Rattle.dr_laws_recovery.specs.RecoveryAnswers.{secondary_server, FirstOff, Stops}
use Rattle.dr_laws_recovery.specs.Formed.{FindsNewest, FindsNone}

-- what is decided over the volumes that count in session s
abbrev pub decided_for : World → ℕ → Decision
decided_for w s = decided_over (fields_at w.control) w.control.volumes s

-- the decisions that can leave no group: no volume counts, or all that count are to be reverted
abbrev pub can_leave_none : Decision → Bool
can_leave_none NoMember = true
can_leave_none (RevertAll n) = true
can_leave_none d = false

-- A step that begins in w leaves it as it was, and tells the journal its answer.
abbrev pub OnlyAnswers : World → Task → Type 0
OnlyAnswers w t = after_task w t ≡ said w t.line (said_in w t)

-- Nothing refuses a recovery of session s as it begins in w: the journal has room for a step, x is the session of that number, and the
-- server of each member's secondary is on.
pub record CanBegin (w : World) (s : ℕ) (x : Session) : Type 0 where
  pub room : has_room w.events ≡ true
  pub found : session_in w.control.sessions s ≡ Some x
  pub on : (m : Member) → In m x.members → w.control.on (secondary_server w.control m) ≡ true

-- What step t, a recovery of session s that begins in w, answers: one row for each answer, with its cause.
pub data RecoveryAnswers (w : World) (t : Task) (s : ℕ) : Said → Type 0 where
  -- E23: the journal has no room for a step
  HasNoRoom : has_room w.events ≡ false → OnlyAnswers w t → RecoveryAnswers w t s (Refused JournalFull)
  -- E02: no session has that number
  HasNoSession : has_room w.events ≡ true → session_in w.control.sessions s ≡ None → OnlyAnswers w t → RecoveryAnswers w t s (Refused (unknown OfSession))
  -- E05: the server of a member's secondary is off; the first such member's is named
  HasServerOff : (x : Session) → has_room w.events ≡ true → session_in w.control.sessions s ≡ Some x → (first : FirstOff w.control x.members) → OnlyAnswers w t
      → RecoveryAnswers w t s (Refused (server_off (secondary_server w.control first.member)))
  -- E21: the server of a member's secondary stopped in it, on which a fuse was armed as it began
  HasStopped : (x : Session) → CanBegin w s x → (r : Refusal) → Stops w (after_task w t) x (Some r) → RecoveryAnswers w t s (Refused r)
  -- ok: n is the session's newest group, before it and after it
  HasGroup : (x : Session) → CanBegin w s x → (n : ℕ) → FindsNewest w (after_task w t) s n → RecoveryAnswers w t s (Done (InGroup n (decided_for w s)))
  -- E22: the session has no group, neither before it nor after it
  HasNone : (x : Session) → CanBegin w s x → FindsNone w (after_task w t) s → can_leave_none (decided_for w s) ≡ true → RecoveryAnswers w t s (Refused (NoGroup (decided_for w s)))

-- each `@recover` of a run is answered so
abbrev pub RecoveriesAnswer : List Task → Type 0
RecoveriesAnswer tasks = (before after : List Task) (t : Task) (s : ℕ) → tasks ≡ before ++ t ∷ after → t.asked ≡ Ok (Recover s) → RecoveryAnswers (run before) t s (said_in (run before) t)
