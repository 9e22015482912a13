-- How an exchange is answered, by the state in which it begins: in each phase what refuses it, by master and server, or for a member.
use Rattle.std.specs.Prelude.{◌≡◌, ℕ, true, List, [], ◌∷◌, Option, Some, None, Ok, is_some}
use Rattle.std.specs.Option.{option_or}
use Rattle.dr_ids.specs.declared.names.Member.{Member}
use Rattle.dr_ids.specs.declared.refusal.PhaseName.{PhaseName}
use Rattle.dr_ids.specs.declared.refusal.PhaseName.TheVariants as phase
use Rattle.dr_ids.specs.declared.refusal.Refusal.{Refusal}
use Rattle.dr_ids.specs.declared.refusal.Refusal.TheVariants.{Stopped}
use Rattle.dr_model.specs.declared.said.Addition.TheVariants.{InPhase}
use Rattle.dr_model.specs.declared.said.Said.{Said}
use Rattle.dr_model.specs.declared.said.Said.TheVariants.{Done, Refused}
use Rattle.dr_model.specs.declared.step.Name.{Name}
use Rattle.dr_model.specs.declared.step.Step.TheVariants.{Exchange}
use Rattle.dr_model.specs.Phases.{Master, Reply, taken}
use Rattle.dr_model.specs.Phases as phases
use Rattle.dr_model.specs.Control.{Control, World}
use Rattle.dr_model.specs.Pairs.{is_secondary_of, secondary_seen}
use Rattle.dr_model.specs.Entries.{fields_at}
use Rattle.dr_model.specs.PairEntries.{reach_refusal, send_refusal}
use Rattle.dr_model.specs.PlanParts.{server_named, name_bytes}
use Rattle.dr_model.specs.Sessions.{Session, Mirror, session_in, with_master, begun}
use Rattle.dr_model.specs.SessionEntries.{members_on, shown_by_members, reply_after, hold_refusal, stale_refusal, void_refusal, seal_refusal, flash_refusal, commit_refusal}
use Rattle.dr_model.specs.SessionPlans.{exchange_refusal}
use Rattle.dr_model.specs.Plans.{has_room}
use Rattle.dr_model.specs.Runs.{Task, run, after_task}
use Rattle.dr_laws_sound.specs.Acknowledged.{said_in}

-- Why the order of a phase, for attempt n, is refused for a member. In Idle it is the first hold of the next attempt, which no primary has seen: only
-- its pair may refuse that. A seal asks for the secondary only if nothing is left to send. A finish isn't refused.
abbrev pub member_refusal : PhaseName → ℕ → Member → Control → Option Refusal
member_refusal phase.Idle n m k = hold_refusal m.a.0 m.b.0 k
member_refusal phase.Coordinating n m k = option_or (hold_refusal m.a.0 m.b.0 k) (stale_refusal m.a.0 n k)
member_refusal phase.Releasing n m k = void_refusal m.a.0 n k
member_refusal phase.Draining n m k = option_or (void_refusal m.a.0 n k) (seal_refusal m.a.0 m.b.0 k)
member_refusal phase.Flashing n m k = option_or (send_refusal m.a.0 m.b.0 k) (flash_refusal m.b.0 m.c.0 n k)
member_refusal phase.Committing n m k = option_or (send_refusal m.a.0 m.b.0 k) (commit_refusal m.c.0 n k)
member_refusal phase.Lost n m k = reach_refusal m.a.0 m.b.0 k
member_refusal phase.Reverting n m k = send_refusal m.a.0 m.b.0 k
member_refusal phase.Finishing n m k = None
member_refusal phase.None n m k = None

-- the first of some members for which it is
abbrev pub first_refusal : PhaseName → ℕ → List Member → Control → Option Refusal
first_refusal p n [] k = None
first_refusal p n (m ∷ ms) k = option_or (member_refusal p n m k) (first_refusal p n ms k)

-- why an exchange of master r with server q is refused: by master and server, or for a member on that server
abbrev pub asking_refusal : Control → Session → Mirror → ℕ → Option Refusal
asking_refusal k x r q = option_or (exchange_refusal k r q x.members) (first_refusal r.master.phase r.master.number (members_on q x.members) k)

-- what the server replies: in Lost what its members show, and in Draining that the seal has to wait if a member of its still has tracks to send
abbrev pub reply_in : PhaseName → ℕ → List Member → Control → Reply
reply_in phase.Lost s ms k = phases.Reported (shown_by_members s ms k)
reply_in phase.Draining s ms k = reply_after s phases.Seal ms k
reply_in p s ms k = phases.Done

-- the session as the reply comes: in Idle the next attempt has begun by then
abbrev pub session_begun : PhaseName → Session → Session
session_begun phase.Idle x = begun x
session_begun p x = x

-- and its master
abbrev pub master_begun : PhaseName → Master → Master
master_begun phase.Idle m = phases.begun m
master_begun p m = m

-- the master then
abbrev pub master_after : Control → ℕ → Session → Mirror → ℕ → Master
master_after k s x r q = taken (master_begun r.master.phase r.master) q (reply_in r.master.phase s (members_on q x.members) k)

-- the answer: the refusal, or ok with the phase then
abbrev pub said_by : Option Refusal → Master → Said
said_by (Some e) m = Refused e
said_by None m = Done (InPhase m.phase m.number)

-- From k to j servers, links, paths and secondaries are as they were: which server is on, on which server a volume is, and how it stands as a
-- secondary.
pub record SamePlaces (k j : Control) : Type 0 where
  pub names : j.servers ≡ k.servers
  pub on : j.on ≡ k.on
  pub link : j.link ≡ k.link
  pub paths : j.paths ≡ k.paths
  pub homes : (v : ℕ) → (j.volume v).server ≡ (k.volume v).server
  pub secondaries : (a v : ℕ) → is_secondary_of a (fields_at j v) ≡ is_secondary_of a (fields_at k v)
  pub seen : (v : ℕ) → secondary_seen (fields_at j v) ≡ secondary_seen (fields_at k v)

-- An exchange that led from w to u was answered by the state. If it wasn't refused the master has taken the server's reply, and places are as they
-- were.
pub record ExchangeEnds (w u : World) (s : ℕ) (x : Session) (r : Mirror) (q : ℕ) (said : Said) : Type 0 where
  pub answer : said ≡ said_by (asking_refusal w.control x r q) (master_after w.control s x r q)
  pub taken : asking_refusal w.control x r q ≡ None → session_in u.control.sessions s ≡ Some (with_master (λ m. master_after w.control s x r q) (session_begun r.master.phase x))
  pub places : asking_refusal w.control x r q ≡ None → SamePlaces w.control u.control

-- Or it was refused because a server stopped, on which a fuse was armed as it began. It is answered in no other way.
abbrev pub ExchangeEndsOrStops : World → World → ℕ → Session → Mirror → ℕ → Said → Type 0
ExchangeEndsOrStops w u s x r q (Refused (Stopped z)) = is_some (w.control.fuse z.0) ≡ true
ExchangeEndsOrStops w u s x r q said = ExchangeEnds w u s x r q said

-- so is each exchange after any run, of a session's master with a server that is defined, if the journal has room for a step
abbrev pub ExchangesAnswer : List Task → Type 0
ExchangesAnswer tasks =
    (t : Task) (s q : ℕ) (name : Name) (x : Session) (r : Mirror) → t.asked ≡ Ok (Exchange s name true) → has_room (run tasks).events ≡ true
    → session_in (run tasks).control.sessions s ≡ Some x → x.mirror ≡ Some r → server_named (run tasks).control (name_bytes name) ≡ Some q
    → ExchangeEndsOrStops (run tasks) (after_task (run tasks) t) s x r q (said_in (run tasks) t)
