-- What a control state keeps of another one.
use Rattle.std.specs.Prelude.{◌≡◌, ◌≤◌, ◌⊎◌, ◌+◌, ℕ, Bool, true, false, List, length, Some}
use Rattle.dr_logic.specs.Tables.{at}
use Rattle.dr_ids.specs.declared.names.Member.{Member}
use Rattle.dr_ids.specs.declared.refusal.PhaseName.TheVariants as phase
use Rattle.dr_model.specs.Layout.{Fields}
use Rattle.dr_model.specs.Decisions.{Shown}
use Rattle.dr_model.specs.Phases as phases
use Rattle.dr_model.specs.SessionEntries.{members_on}
use Rattle.dr_model.specs.Control.{Control, is_volume}
use Rattle.dr_model.specs.Moves.{Move, Hold, RaiseAttempt, Carried, moved_keeping}
use Rattle.dr_model.specs.Entries.{fields_at}
use Rattle.dr_model.specs.Sessions.{Session, Mirror, session_in}
use Rattle.dr_model.specs.Messages.{Flight}
use Rattle.dr_model.specs.Groups.{In, IsAt, Due, HoldsMember}

-- each volume that was there is there, on its server and of its size
pub record Grows (k j : Control) : Type 0 where
  pub defined : (v : ℕ) → is_volume k v ≡ true → is_volume j v ≡ true
  pub server : (v : ℕ) → is_volume k v ≡ true → (j.volume v).server ≡ (k.volume v).server
  pub tracks : (v : ℕ) → is_volume k v ≡ true → (j.volume v).tracks ≡ (k.volume v).tracks

-- what records then has recorded before, for the same attempt and with the same partner
pub record Quieter (k j : Control) : Type 0 where
  pub recorded : (v : ℕ) → (fields_at j v).recording ≡ true → (fields_at k v).recording ≡ true
  pub attempt : (v : ℕ) → (fields_at j v).recording ≡ true → (fields_at j v).attempt ≡ (fields_at k v).attempt
  pub partner : (v : ℕ) → (fields_at j v).recording ≡ true → (fields_at j v).primary_partner ≡ (fields_at k v).primary_partner

-- sessions, volumes, their servers and their sizes stay
pub record Framed (j k : Control) : Type 0 where
  pub sessions : k.sessions ≡ j.sessions
  pub volumes : k.volumes ≡ j.volumes
  pub server : (v : ℕ) → (k.volume v).server ≡ (j.volume v).server
  pub tracks : (v : ℕ) → (k.volume v).tracks ≡ (j.volume v).tracks

-- a volume that records now recorded before, for the same attempt and with the same partner
abbrev pub RecordedBefore : Control → Control → ℕ → Type 0
RecordedBefore j k v = ((fields_at j v).recording ≡ true) × (((fields_at k v).attempt ≡ (fields_at j v).attempt) × ((fields_at k v).primary_partner ≡ (fields_at j v).primary_partner))

-- or it is v, for attempt n and with its partner as before
abbrev pub RecordedOr : Control → Control → ℕ → ℕ → ℕ → Type 0
RecordedOr j k v n u = ((u ≡ v) × (((fields_at k u).attempt ≡ n) × ((fields_at k u).primary_partner ≡ (fields_at j u).primary_partner))) ⊎ RecordedBefore j k u

-- volume v has other fields, whatever is staged on it, and nothing else of a volume changed
pub record Moves (k j : Control) (v : ℕ) (f : Fields) (c : Carried) : Type 0 where
  pub volumes : j.volumes ≡ k.volumes
  pub keeps : Bool
  pub volume : j.volume ≡ at k.volume v (moved_keeping keeps (k.volume v) f c)

-- a session without a master, or whose master is Idle
abbrev pub Quiet : Session → Type 0
Quiet x = (r : Mirror) → x.mirror ≡ Some r → r.master.phase ≡ phase.Idle

-- a member's server has done the last order: its primary doesn't record
abbrev pub ServerSilent : Control → Session → ℕ → Type 0
ServerSilent k x server = (m : Member) → In m x.members → m.server.0 ≡ server → (fields_at k m.a.0).recording ≡ false

-- what a server reports that still owes it: no more than it has members
pub record MayReport (m : phases.Master) (ms : List Member) (server : ℕ) (xs : List Shown) : Type 0 where
  pub owes : phases.is_among server m.owed ≡ true
  pub few : length xs ≤ length (members_on server ms)

-- a reply that is a report is one of those
abbrev pub OwesReport : phases.Master → List Member → ℕ → phases.Reply → Type 0
OwesReport m ms server (phases.Reported xs) = MayReport m ms server xs
OwesReport m ms server reply = Unit {0}

-- no volume of a member has a place in a session
abbrev pub NoPlace : List Session → Member → Type 0
NoPlace ss m = (v : ℕ) (x : Session) (q : Member) → In x ss → In q x.members → IsAt v m → IsAt v q → ⊥

-- what a move asks of the sessions: a hold is one of its session, and an attempt is raised only where nothing is recorded
abbrev pub Suits : Control → Move → Type 0
Suits k (Hold v s n first) = HoldsMember k v s n
Suits k (RaiseAttempt v n) = (fields_at k v).recording ≡ false
Suits k m = Unit {0}

-- each member of the session on that server is left to do, or doesn't record
abbrev pub SilentBut : Control → Session → ℕ → List Member → Type 0
SilentBut k x server rest = (m : Member) → In m x.members → m.server.0 ≡ server → In m rest ⊎ ((fields_at k m.a.0).recording ≡ false)

-- y is what a session of that number became
pub record Became (s : ℕ) (f : Session → Session) (ss : List Session) (y : Session) : Type 0 where
  pub from : Session
  pub listed : In from ss
  pub number : from.number ≡ s
  pub is : y ≡ f from

-- attempt n of a session is about to begin: its master is Idle, with the servers of its members
pub record Begins (x : Session) (n : ℕ) : Type 0 where
  pub mirror : Mirror
  pub has_master : x.mirror ≡ Some mirror
  pub idle : mirror.master.phase ≡ phase.Idle
  pub next : n ≡ x.last + 1
  pub among : (m : Member) → In m x.members → phases.is_among m.server.0 mirror.master.servers ≡ true

-- or it is the last one, of which a hold is due on that server
pub record HoldsOn (f : Flight) (x : Session) (server n : ℕ) : Type 0 where
  pub last : n ≡ x.last
  pub due : Due f x server phases.Hold n

-- session s has these members, and attempt n begins in it or goes on with holds on that server
pub record Holding (k : Control) (s server n : ℕ) (ms : List Member) : Type 0 where
  pub session : Session
  pub found : session_in k.sessions s ≡ Some session
  pub members : session.members ≡ ms
  pub stage : Begins session n ⊎ HoldsOn k.flight session server n
