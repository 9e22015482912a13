-- What the sessions and the records of volumes say together.
use Rattle.std.specs.Prelude.{◌≡◌, ◌≢◌, ◌⊎◌, ◌<◌, ◌≤◌, ◌+◌, ℕ, true, false, List, [], ◌∷◌, length, map, filter, Some}
use Rattle.dr_ids.specs.declared.names.Member.{Member}
use Rattle.dr_ids.specs.declared.refusal.PhaseName.TheVariants as phase
use Rattle.dr_model.specs.Phases as phases
use Rattle.dr_model.specs.Sessions.{Session, Mirror, IsSoundSession}
use Rattle.dr_model.specs.Messages.{Flight, Message, Asks}
use Rattle.dr_model.specs.Layout.{is_part}
use Rattle.dr_model.specs.Control.{Control, is_volume}
use Rattle.dr_model.specs.Entries.{fields_at}
use Rattle.dr_model.specs.Tables.{Once}

-- x is one of a list
abbrev pub In : {A : Type 0} → A → List A → Type 0
In x [] = ⊥
In x (y ∷ ys) = (x ≡ y) ⊎ In x ys

-- the three volumes of a member are there, on the servers of a primary with its secondary and of a target with its source, and
-- of one size
pub record MemberStands (k : Control) (m : Member) : Type 0 where
  pub a : is_volume k m.a.0 ≡ true
  pub b : is_volume k m.b.0 ≡ true
  pub c : is_volume k m.c.0 ≡ true
  pub server : m.server.0 ≡ (k.volume m.a.0).server
  pub apart : (k.volume m.b.0).server ≢ (k.volume m.a.0).server
  pub target_server : (k.volume m.c.0).server ≡ (k.volume m.b.0).server
  pub tracks : (k.volume m.b.0).tracks ≡ (k.volume m.a.0).tracks
  pub target_tracks : (k.volume m.c.0).tracks ≡ (k.volume m.b.0).tracks

-- the server of a member has finished its attempt: its primary records no more
abbrev pub Finished : Control → Mirror → Member → Type 0
Finished k r m = phases.is_among m.server.0 r.master.owed ≡ false → (fields_at k m.a.0).recording ≡ false

-- a master runs on the server of a volume, and is in a phase
pub record MasterStands (k : Control) (r : Mirror) : Type 0 where
  pub volume : ℕ
  pub defined : is_volume k volume ≡ true
  pub server : (k.volume volume).server ≡ r.server
  pub in_phase : r.master.phase ≢ phase.None

-- a lost master has no more reports than members whose servers owe it none any more
abbrev pub FewReports : phases.Master → List Member → Type 0
FewReports m ms = length m.reports + length (filter (λ (q : Member). phases.is_among q.server.0 m.owed) ms) ≤ length ms

-- only servers of its members are owed a master's order, and in Idle none is
pub record OwesServers (m : phases.Master) : Type 0 where
  pub few : length m.owed ≤ length m.servers
  pub among : (s : ℕ) → phases.is_among s m.owed ≡ true → phases.is_among s m.servers ≡ true
  pub idle : m.phase ≡ phase.Idle → m.owed ≡ []

-- a session is sound, no primary is that of two of its members, they and its master stand, and its master owes orders only to
-- servers of theirs
pub record SessionFits (k : Control) (x : Session) : Type 0 where
  pub sound : IsSoundSession x
  pub once : Once (map (λ (m : Member). m.a.0) x.members)
  pub stands : (m : Member) → In m x.members → MemberStands k m
  pub runs : (r : Mirror) → x.mirror ≡ Some r → MasterStands k r
  pub finished : (r : Mirror) → x.mirror ≡ Some r → r.master.phase ≡ phase.Finishing → (m : Member) → In m x.members → Finished k r m
  pub few : (r : Mirror) → x.mirror ≡ Some r → r.master.phase ≡ phase.Lost → FewReports r.master x.members
  pub owes : (r : Mirror) → x.mirror ≡ Some r → OwesServers r.master

-- a volume has one place in one member of one session
abbrev pub IsAt : ℕ → Member → Type 0
IsAt v m = (v ≡ m.a.0) ⊎ ((v ≡ m.b.0) ⊎ (v ≡ m.c.0))

-- a member has three volumes
pub record PlacesDiffer (m : Member) : Type 0 where
  pub a_b : m.a.0 ≢ m.b.0
  pub a_c : m.a.0 ≢ m.c.0
  pub b_c : m.b.0 ≢ m.c.0

-- a volume has one place in one member of one session
pub record Lone (ss : List Session) : Type 0 where
  pub differ : (x : Session) (m : Member) → In x ss → In m x.members → PlacesDiffer m
  pub one : (v : ℕ) (x y : Session) (m q : Member) → In x ss → In y ss → In m x.members → In q y.members → IsAt v m → IsAt v q → (x.number ≡ y.number) × (m ≡ q)

-- v is the primary of a member of a session whose master isn't Idle, that is the session's last attempt, and v's partner is the
-- secondary of the member
pub record IsRecorder (ss : List Session) (v attempt partner : ℕ) : Type 0 where
  pub session : Session
  pub listed : In session ss
  pub mirror : Mirror
  pub has_master : session.mirror ≡ Some mirror
  pub busy : mirror.master.phase ≢ phase.Idle
  pub member : Member
  pub here : In member session.members
  pub is : member.a.0 ≡ v
  pub last : attempt ≡ session.last
  pub to : partner ≡ member.b.0

-- No number is that of two sessions. Only the primaries of members record, and the last attempt of their session, while it goes
-- on; and the partner of one that records is the secondary of its member.
pub record Groups (k : Control) : Type 0 where
  pub once : Once (map (λ (x : Session). x.number) k.sessions)
  pub each : (x : Session) → In x k.sessions → SessionFits k x
  pub lone : Lone k.sessions
  pub recorders : (v : ℕ) → (fields_at k v).recording ≡ true → IsRecorder k.sessions v (fields_at k v).attempt (fields_at k v).primary_partner

-- the secondary of a member isn't cascaded
abbrev pub SecondariesUncascaded : Control → Type 0
SecondariesUncascaded k =
    (x : Session) (m : Member) → In x k.sessions → In m x.members → is_part (fields_at k m.b.0).primary ≡ true → is_part (fields_at k m.b.0).secondary ≡ false

-- v is the primary of a member of the session of that number, whose master is in that phase
pub record IsMember (k : Control) (v s : ℕ) : Type 0 where
  pub session : Session
  pub listed : In session k.sessions
  pub number : session.number ≡ s
  pub mirror : Mirror
  pub has_master : session.mirror ≡ Some mirror
  pub member : Member
  pub here : In member session.members
  pub is : member.a.0 ≡ v

-- the session's master owes an order of that work to that server, for attempt n
pub record IsOwed (x : Session) (server : ℕ) (work : phases.Work) (n : ℕ) : Type 0 where
  pub mirror : Mirror
  pub has_master : x.mirror ≡ Some mirror
  pub owed : phases.is_among server mirror.master.owed ≡ true
  pub works : phases.work_in mirror.master.phase ≡ Some work
  pub number : n ≡ x.last

-- an order of session s is in flight
pub record IsOrder (f : Flight) (s : ℕ) (m : Message) : Type 0 where
  pub here : In m f.messages
  pub session : m.session ≡ s
  pub starts : ℕ
  pub asks : m.body ≡ Asks starts

-- no fence is above a message: its server would still carry it out
abbrev pub IsLoose : Flight → Message → Type 0
IsLoose f m = f.fence m.session m.server ≤ m.epoch

-- it is one of that work, for attempt n
pub record IsOrderFor (f : Flight) (s : ℕ) (work : phases.Work) (n : ℕ) (m : Message) : Type 0 where
  pub order : IsOrder f s m
  pub works : m.order.work ≡ work
  pub number : m.order.number ≡ n

-- such an order is on its way to that server, which would still carry it out
pub record IsComing (f : Flight) (s server : ℕ) (work : phases.Work) (n : ℕ) : Type 0 where
  pub message : Message
  pub order : IsOrderFor f s work n message
  pub to : message.server ≡ server
  pub loose : IsLoose f message

-- an order of that work is due for attempt n: the master owes it, or it is on its way
abbrev pub Due : Flight → Session → ℕ → phases.Work → ℕ → Type 0
Due f x server work n = IsOwed x server work n ⊎ IsComing f x.number server work n

-- A hold of a session's last attempt is due while that goes on, also for the member's server, which hasn't finished it; v's partner is
-- the member's secondary.
pub record HoldsMember (k : Control) (v s n : ℕ) : Type 0 where
  pub place : IsMember k v s
  pub due : Due k.flight place.session place.member.server.0 phases.Hold n
  pub last : n ≡ place.session.last
  pub busy : place.mirror.master.phase ≢ phase.Idle
  pub unfinished : place.mirror.master.phase ≡ phase.Finishing → phases.is_among place.member.server.0 place.mirror.master.owed ≡ true
  pub to : (fields_at k v).primary_partner ≡ place.member.b.0

-- or the first of the next one, while it is Idle
pub record OpensAttempt (k : Control) (v s n : ℕ) : Type 0 where
  pub place : IsMember k v s
  pub idle : place.mirror.master.phase ≡ phase.Idle
  pub next : n ≡ place.session.last + 1
  pub to : (fields_at k v).primary_partner ≡ place.member.b.0

-- there are eight servers at most, and each volume is on one of them
abbrev pub Housed : Control → Type 0
Housed k = (length k.servers ≤ 8) × ((v : ℕ) → is_volume k v ≡ true → (k.volume v).server < length k.servers)
