-- How many orders lead an attempt to Idle that is given up: exchanges that ask for them, and an abort before those.
use Rattle.std.specs.Prelude.{◌≡◌, ◌≢◌, ◌⊎◌, ◌+◌, ℕ, Bool, true, false, List, [], ◌∷◌, filter, length, Some, None, Ok}
use Rattle.dr_ids.specs.declared.names.Member.{Member}
use Rattle.dr_ids.specs.declared.refusal.PhaseName.{PhaseName}
use Rattle.dr_ids.specs.declared.refusal.PhaseName.TheVariants as phase
use Rattle.dr_model.specs.declared.said.Addition.TheVariants.{InPhase}
use Rattle.dr_model.specs.declared.said.Said.{Said}
use Rattle.dr_model.specs.declared.said.Said.TheVariants.{Done, Refused}
use Rattle.dr_model.specs.declared.step.Name.{Name}
use Rattle.dr_model.specs.declared.step.Step.TheVariants.{Abort, Exchange}
use Rattle.dr_model.specs.Phases.{Master, is_among, aborted_phase}
use Rattle.dr_model.specs.Control.{Control, World}
use Rattle.dr_model.specs.Refusals.{stopped}
use Rattle.dr_model.specs.Forming.{master_in}
use Rattle.dr_model.specs.PairEntries.{send_refusal}
use Rattle.dr_model.specs.PlanParts.{server_named, name_bytes}
use Rattle.dr_model.specs.Sessions.{Session, Mirror, session_in}
use Rattle.dr_model.specs.SessionPlans.{apart_refusal}
use Rattle.dr_model.specs.Groups.{In}
use Rattle.dr_model.specs.Plans.{has_room}
use Rattle.dr_model.specs.Runs.{Task, run, after_task, after_tasks}
use Rattle.dr_laws_sound.specs.Acknowledged.{said_in}

-- the phases whose orders end an attempt: a report, a revert, a finish
abbrev pub is_ending : PhaseName → Bool
is_ending phase.Lost = true
is_ending phase.Reverting = true
is_ending phase.Finishing = true
is_ending p = false

-- ---- how many lead to Idle

-- the phases from which an attempt ends only if servers reach secondaries
abbrev pub asks_secondaries : PhaseName → Bool
asks_secondaries phase.Flashing = true
asks_secondaries phase.Committing = true
asks_secondaries phase.Reverting = true
asks_secondaries phase.Lost = true
asks_secondaries p = false

-- Session s has a master. Its server is on, and so are the session's primary servers, each linked to it; and if the phase asks for it, each member's
-- secondary can be reached, and is the primary's. Pairs may be Suspended, and targets may be gone.
pub record CanEnd (k : Control) (s : ℕ) : Type 0 where
  pub session : Session
  pub found : session_in k.sessions s ≡ Some session
  pub mirror : Mirror
  pub has_master : session.mirror ≡ Some mirror
  pub master_on : k.on mirror.server ≡ true
  pub servers : (m : Member) → In m session.members → (k.on m.server.0 ≡ true) × (apart_refusal k mirror.server m.server.0 ≡ None)
  pub secondaries : asks_secondaries mirror.master.phase ≡ true → (m : Member) → In m session.members → send_refusal m.a.0 m.b.0 k ≡ None

-- how many of a master's servers are owed its order
abbrev pub owed_servers : Master → ℕ
owed_servers m = length (filter (λ k. is_among k m.owed) m.servers)

-- how many orders are left to Idle, by how many servers are owed the order of a phase, and how many there are: it, and those of the phases to come
abbrev pub orders_in : PhaseName → ℕ → ℕ → ℕ
orders_in phase.Lost owed all = owed + all + all
orders_in phase.Committing owed all = owed + all
orders_in phase.Reverting owed all = owed + all
orders_in phase.Finishing owed all = owed
orders_in p owed all = 0

-- to a master
abbrev pub orders_left : Master → ℕ
orders_left m = orders_in m.phase (owed_servers m) (length m.servers)

-- Step t, which begins in w, is an exchange of the master of session s with a server that is owed a report, a revert or a finish; the journal has room
-- for a step, and no server stops in it. Commits, which may follow reports, are none of these.
pub record AsksOwed (w : World) (t : Task) (s : ℕ) : Type 0 where
  pub name : Name
  pub asked : t.asked ≡ Ok (Exchange s name true)
  pub server : ℕ
  pub named : server_named w.control (name_bytes name) ≡ Some server
  pub mirror : Mirror
  pub has_master : master_in w.control s ≡ Some mirror
  pub ending : is_ending mirror.master.phase ≡ true
  pub owed : is_among server mirror.master.owed ≡ true
  pub room : has_room w.events ≡ true
  pub kept : (q : ℕ) → said_in w t ≢ Refused (stopped q)

-- so are all of these steps, one after another
abbrev pub AllAskOwed : World → List Task → ℕ → Type 0
AllAskOwed w [] s = Unit {0}
AllAskOwed w (t ∷ more) s = AsksOwed w t s × AllAskOwed (after_task w t) more s

-- an answer is ok, with the phase then
pub record IsOk (said : Said) : Type 0 where
  pub phase : PhaseName
  pub number : ℕ
  pub is : said ≡ Done (InPhase phase number)

-- all are answered ok
abbrev pub AllAreOk : World → List Task → Type 0
AllAreOk w [] = Unit {0}
AllAreOk w (t ∷ more) = IsOk (said_in w t) × AllAreOk (after_task w t) more

-- These steps are all answered ok, and the session can still be ended then. Its master was m, and has one order less left for each of them; if none
-- is left it is Idle.
pub record LeadsOn (w : World) (more : List Task) (s : ℕ) (m : Master) : Type 0 where
  pub answers : AllAreOk w more
  pub ends : CanEnd (after_tasks w more).control s
  pub left : orders_left ends.mirror.master + length more ≡ orders_left m
  pub idle : (ends.mirror.master.phase ≡ phase.Idle) ⊎ (orders_left ends.mirror.master ≢ 0)

-- so do any such steps after any run
abbrev pub ExchangesLeadToIdle : List Task → Type 0
ExchangesLeadToIdle tasks = (s : ℕ) (more : List Task) → (c : CanEnd (run tasks).control s) → is_ending c.mirror.master.phase ≡ true → AllAskOwed (run tasks) more s → LeadsOn (run tasks) more s c.mirror.master

-- ---- an abort before them

-- Step t gives up the attempt of session s, which can be ended, in phase p. It is answered ok, and the session can still be ended. For each of the
-- master's servers one order is left of that phase and of each to come: so one of Finishing, two of Reverting, and three of Lost.
pub record GivesUp (w : World) (t : Task) (s : ℕ) (c : CanEnd w.control s) (p : PhaseName) : Type 0 where
  pub says : said_in w t ≡ Done (InPhase p c.mirror.master.number)
  pub ends : CanEnd (after_task w t).control s
  pub phase : ends.mirror.master.phase ≡ p
  pub left : orders_left ends.mirror.master ≡ orders_in p (length c.mirror.master.servers) (length c.mirror.master.servers)

-- so does each abort after any run, in a phase that can be aborted, if the journal has room for a step
abbrev pub AbortsLeadOn : List Task → Type 0
AbortsLeadOn tasks =
    (t : Task) (s : ℕ) (p : PhaseName) → t.asked ≡ Ok (Abort s) → has_room (run tasks).events ≡ true → (c : CanEnd (run tasks).control s) → aborted_phase c.mirror.master.phase ≡ Some p → GivesUp (run tasks) t s c p
