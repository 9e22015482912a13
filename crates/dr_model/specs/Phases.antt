-- The phases of a session's master: what it asks of which servers, and what comes next.
use Rattle.std.specs.Prelude.{ℕ, slice_get, Bool, true, false, not, ◌&&◌, max, ◌+◌, ◌==◌, List, [], ◌∷◌, ◌++◌, filter, Option, Some, None, if◌then◌else◌}
use Rattle.std.specs.List.{list_any, range_with_len}
use Rattle.dr_ids.specs.declared.refusal.PhaseName.{PhaseName}
use Rattle.dr_ids.specs.declared.refusal.PhaseName.TheVariants as phase
use Rattle.dr_ids.specs.declared.refusal.Refusal.{Refusal}
use Rattle.dr_ids.specs.declared.refusal.Refusal.TheVariants.{OutOfOrder, NumbersSpent}
use Rattle.dr_ids.specs.declared.refusal.Decision.{Decision}
use Rattle.dr_ids.specs.declared.refusal.Decision.TheVariants.{CommitRest}
use Rattle.dr_model.specs.Decisions.{Shown, decision}

-- the servers that pass a test, in order of definition; there are eight at most
unfoldable pub servers_where : (ℕ → Bool) → List ℕ
servers_where p = filter p (range_with_len 0 8)

-- whether server s is in the list
abbrev pub is_among : ℕ → List ℕ → Bool
is_among s servers = list_any (λ k. k == s) servers

-- the list without server s
abbrev pub without : ℕ → List ℕ → List ℕ
without s servers = filter (λ k. not (k == s)) servers

-- what a master asks a server to do with its members; Report asks what they show
pub data Work : Type 0 where
  Hold : Work
  Release : Work
  Seal : Work
  Flash : Work
  Commit : Work
  Revert : Work
  Finish : Work
  Report : Work

-- work, with the number of its attempt
pub record Order : Type 0 where
  pub work : Work
  pub number : ℕ

-- what a server says: its members are done; the seal has to wait; this is what they show
pub data Reply : Type 0 where
  Done : Reply
  NotYet : Reply
  Reported : (xs : List Shown) → Reply

-- A master: its phase, the number of the last attempt, the servers of the session's primary volumes and those of them that
-- are still owed the phase's order, in order of definition, and what was reported since it was lost.
pub record Master : Type 0 where
  pub phase : PhaseName
  pub number : ℕ
  pub servers : List ℕ
  pub owed : List ℕ
  pub reports : List Shown

-- the work of each phase
abbrev pub work_in : PhaseName → Option Work
work_in phase.Coordinating = Some Hold
work_in phase.Releasing = Some Release
work_in phase.Draining = Some Seal
work_in phase.Flashing = Some Flash
work_in phase.Committing = Some Commit
work_in phase.Reverting = Some Revert
work_in phase.Finishing = Some Finish
work_in phase.Lost = Some Report
work_in phase.Idle = None
work_in phase.None = None

-- the phase that follows where each server has done its work; what follows Lost depends on the reports
abbrev pub next_phase : PhaseName → PhaseName
next_phase phase.Coordinating = phase.Releasing
next_phase phase.Releasing = phase.Draining
next_phase phase.Draining = phase.Flashing
next_phase phase.Flashing = phase.Committing
next_phase phase.Committing = phase.Finishing
next_phase phase.Reverting = phase.Finishing
next_phase phase.Finishing = phase.Idle
next_phase phase.Lost = phase.Lost
next_phase phase.Idle = phase.Idle
next_phase phase.None = phase.None

-- the phase after an abort, where the phase can be aborted
abbrev pub aborted_phase : PhaseName → Option PhaseName
aborted_phase phase.Coordinating = Some phase.Finishing
aborted_phase phase.Releasing = Some phase.Finishing
aborted_phase phase.Draining = Some phase.Finishing
aborted_phase phase.Flashing = Some phase.Reverting
aborted_phase phase.Committing = Some phase.Lost
aborted_phase p = None

-- the phase after all reports: the rest is committed where that is the decision, else what is revertible is reverted
abbrev pub phase_by : Decision → PhaseName
phase_by (CommitRest n) = phase.Committing
phase_by d = phase.Reverting

-- the phase after a stop of the master's server
abbrev pub phase_lost : List ℕ → PhaseName
phase_lost [] = phase.Idle
phase_lost (s ∷ servers) = phase.Lost

-- a number without its order: Report has none
abbrev pub numbered : Work → ℕ → Order
numbered Report n = record { work = Report; number = 0 }
numbered w n = record { work = w; number = n }

-- the order of some work, where it is owed
abbrev pub order_if : Bool → Option Work → ℕ → Option Order
order_if true (Some w) n = Some (numbered w n)
order_if true None n = None
order_if false w n = None

-- the order that a server is owed, if it is owed one
abbrev pub order_for : Master → ℕ → Option Order
order_for m s = order_if (is_among s m.owed) (work_in m.phase) m.number

-- the servers of which something is asked: in Idle all, since any may begin the next attempt, else those that are owed their order
abbrev pub asked_in : PhaseName → Master → List ℕ
asked_in phase.Idle m = m.servers
asked_in p m = m.owed

-- the first of them
abbrev pub first_asked : Master → Option ℕ
first_asked m = slice_get (asked_in m.phase m) 0

-- whether a reply is one to such work
abbrev pub answers : Reply → Work → Bool
answers Done Report = false
answers Done w = true
answers NotYet Seal = true
answers NotYet w = false
answers (Reported xs) Report = true
answers (Reported xs) w = false

-- whether a reply is one to the work, if there is any
abbrev pub is_reply : Reply → Option Work → Bool
is_reply r (Some w) = answers r w
is_reply r None = false

-- whether the server is owed an order, and this is a reply to it
abbrev pub awaits : Master → ℕ → Reply → Bool
awaits m s r = is_among s m.owed && is_reply r (work_in m.phase)

-- who is owed a phase's order as it begins: all, but in Idle nobody
abbrev pub owed_first : PhaseName → List ℕ → List ℕ
owed_first phase.Idle servers = []
owed_first p servers = servers

-- a phase begins: each server is owed its order, and in Idle none is
abbrev pub enters : PhaseName → Master → Master
enters p m = record m { phase = p; owed = owed_first p m.servers; reports = [] }

-- a master as it is appointed
abbrev pub idle : List ℕ → ℕ → Master
idle servers last = record { phase = phase.Idle; number = last; servers = servers; owed = []; reports = [] }

-- the phase goes on where no server is left that is owed its order
abbrev pub left_with : Master → List ℕ → Master
left_with m [] = enters (next_phase m.phase) m
left_with m (s ∷ rest) = record m { owed = s ∷ rest }

-- a server has replied
abbrev pub replied : Master → ℕ → Reply → Master
replied m s Done = left_with m (without s m.owed)
replied m s NotYet = m
replied m s (Reported xs) = record m { owed = without s m.owed; reports = m.reports ++ xs }

-- an attempt begins
abbrev pub begun : Master → Master
begun m = enters phase.Coordinating (record m { number = m.number + 1 })

-- why none can begin: one is going on, or the next number would be 2^32
abbrev pub begin_refusal : PhaseName → ℕ → Option Refusal
begin_refusal phase.Idle number = if number + 1 == 4294967296 then Some NumbersSpent else None
begin_refusal p number = Some (OutOfOrder p)

-- out of order, unless there is a next phase
abbrev pub refusal_unless : PhaseName → Option PhaseName → Option Refusal
refusal_unless p None = Some (OutOfOrder p)
refusal_unless p (Some next) = None

-- why an attempt can't be aborted
abbrev pub abort_refusal : PhaseName → Option Refusal
abort_refusal p = refusal_unless p (aborted_phase p)

-- the next phase begins, if there is one
abbrev pub enters_some : Option PhaseName → Master → Master
enters_some None m = m
enters_some (Some p) m = enters p m

-- the master after an abort
abbrev pub aborted : Master → Master
aborted m = enters_some (aborted_phase m.phase) m

-- the master's server has stopped: what was answered and reported is gone, and without members it is Idle
abbrev pub lost : Master → Master
lost m = enters (phase_lost m.servers) m

-- all have reported
abbrev pub settled : Master → Master
settled m = enters (phase_by (decision m.reports)) m

-- a lost master goes on where no server is left that has to report
abbrev pub settled_where : List ℕ → Master → Master
settled_where [] m = settled m
settled_where (s ∷ rest) m = m

-- a master takes a server's reply; after the last report it settles what was left open
abbrev pub taken : Master → ℕ → Reply → Master
taken m s (Reported xs) = settled_where (without s m.owed) (replied m s (Reported xs))
taken m s r = replied m s r

-- the last number is at least n
abbrev pub raised : Master → ℕ → Master
raised m n = record m { number = max m.number n }

-- the session's members have other servers
abbrev pub with_servers : Master → List ℕ → Master
with_servers m servers = record m { servers = servers }
