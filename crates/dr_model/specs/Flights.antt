-- What the messages in flight say together with the sessions that they belong to.
use Rattle.std.specs.Prelude.{◌≡◌, ◌≢◌, ◌⊎◌, ◌<◌, ◌≤◌, ℕ, Bool, true, false, ◌==◌, List, [], ◌∷◌, ◌++◌, filter, length, Some, is_some}
use Rattle.dr_ids.specs.declared.refusal.PhaseName.{PhaseName}
use Rattle.dr_ids.specs.declared.refusal.PhaseName.TheVariants as phase
use Rattle.dr_model.specs.Decisions.{Shown}
use Rattle.dr_model.specs.Phases as phases
use Rattle.dr_model.specs.Sessions.{Session, session_in}
use Rattle.dr_model.specs.Messages.{Flight, Message, Body, Replies}
use Rattle.dr_model.specs.Control.{Control}
use Rattle.dr_model.specs.Groups.{In, IsOrder, IsOrderFor, IsLoose}
use Rattle.dr_model.specs.Attempts.{Seen, All, Any, NoneRevertible, NoneCommitted, AllAt, Blocked, AllHeld, AllFlashed, IsReported, is_owed, InPhase, phase_of, owed_of, reports_of, Roles, roles, all_seen}

-- ---- what may be in flight

-- work that only an attempt asks for; the others may settle what a lost master left
abbrev pub IsForAttempt : phases.Work → Type 0
IsForAttempt phases.Hold = Unit {0}
IsForAttempt phases.Release = Unit {0}
IsForAttempt phases.Seal = Unit {0}
IsForAttempt phases.Flash = Unit {0}
IsForAttempt work = ⊥

-- a message of a session whose last attempt is n, in epoch e: of no later epoch or attempt, and a reply is one to its order
pub record IsKnown (e n : ℕ) (m : Message) : Type 0 where
  pub epoch : m.epoch ≤ e
  pub number : m.order.number ≤ n
  pub positive : IsForAttempt m.order.work → 0 < m.order.number
  pub answers : (r : phases.Reply) → m.body ≡ Replies r → phases.answers r m.order.work ≡ true

-- before anything of an attempt is committed or given up, its master was never lost
abbrev pub IsEarly : PhaseName → Type 0
IsEarly phase.Coordinating = Unit {0}
IsEarly phase.Releasing = Unit {0}
IsEarly phase.Draining = Unit {0}
IsEarly phase.Flashing = Unit {0}
IsEarly p = ⊥

-- what a master may have asked in this epoch for the attempt that is in that phase now
abbrev pub may_have_sent : PhaseName → phases.Work → Bool
may_have_sent phase.Coordinating phases.Hold = true
may_have_sent phase.Coordinating work = false
may_have_sent phase.Releasing phases.Hold = true
may_have_sent phase.Releasing phases.Release = true
may_have_sent phase.Releasing work = false
may_have_sent phase.Draining phases.Hold = true
may_have_sent phase.Draining phases.Release = true
may_have_sent phase.Draining phases.Seal = true
may_have_sent phase.Draining work = false
may_have_sent phase.Flashing phases.Hold = true
may_have_sent phase.Flashing phases.Release = true
may_have_sent phase.Flashing phases.Seal = true
may_have_sent phase.Flashing phases.Flash = true
may_have_sent phase.Flashing work = false
may_have_sent phase.Committing phases.Revert = false
may_have_sent phase.Committing phases.Finish = false
may_have_sent phase.Reverting phases.Commit = false
may_have_sent phase.Reverting phases.Finish = false
may_have_sent phase.Lost phases.Report = true
may_have_sent phase.Lost work = false
may_have_sent p work = true

-- an order of the last attempt, in epoch e of its session
pub record IsSentSoFar (p : PhaseName) (e : ℕ) (m : Message) : Type 0 where
  pub early : IsEarly p → m.epoch ≡ e
  pub work : m.epoch ≡ e → may_have_sent p m.order.work ≡ true

-- the phases in which what was sent before the master was lost meets a fence
abbrev pub IsFenced : PhaseName → Type 0
IsFenced phase.Committing = Unit {0}
IsFenced phase.Reverting = Unit {0}
IsFenced phase.Finishing = Unit {0}
IsFenced p = ⊥

-- no attempt goes on
abbrev pub IsQuiet : PhaseName → Type 0
IsQuiet phase.Idle = Unit {0}
IsQuiet phase.None = Unit {0}
IsQuiet p = ⊥

-- nothing is flashed for attempt k any more, where the last one is n: it is an older one, or over
abbrev pub IsPast : PhaseName → ℕ → ℕ → Type 0
IsPast phase.Finishing k n = k ≤ n
IsPast p k n = (k < n) ⊎ IsQuiet p

-- work that is asked for only where all members were held
abbrev pub ComesAfterHolds : phases.Work → Type 0
ComesAfterHolds phases.Release = Unit {0}
ComesAfterHolds phases.Seal = Unit {0}
ComesAfterHolds phases.Flash = Unit {0}
ComesAfterHolds phases.Commit = Unit {0}
ComesAfterHolds work = ⊥

-- ---- replies on their way

-- what a master learns from a reply: nothing where the seal has to wait
abbrev pub IsAnswer : phases.Reply → Type 0
IsAnswer phases.NotYet = ⊥
IsAnswer reply = Unit {0}

-- so in a message, if that is a reply
abbrev pub HasAnswer : Body → Type 0
HasAnswer (Replies reply) = IsAnswer reply
HasAnswer body = ⊥

-- what is reported by it
abbrev pub shown_by : phases.Reply → List Shown
shown_by (phases.Reported xs) = xs
shown_by reply = []

-- by a message
abbrev pub shown_in : Body → List Shown
shown_in (Replies reply) = shown_by reply
shown_in body = []

-- A reply in flight that the master of session s awaits, in phase p of attempt n: it is of this epoch, and answers the order that its server
-- is owed.
pub record IsAwaited (f : Flight) (s : ℕ) (p : PhaseName) (n : ℕ) (owed : List ℕ) (m : Message) : Type 0 where
  pub here : In m f.messages
  pub session : m.session ≡ s
  pub epoch : m.epoch ≡ f.epoch s
  pub works : phases.work_in p ≡ Some m.order.work
  pub number : (m.order.work ≡ phases.Report → ⊥) → m.order.number ≡ n
  pub due : phases.is_among m.server owed ≡ true
  pub answers : HasAnswer m.body

-- the master may take these replies, one after another
abbrev pub MayTake : Flight → ℕ → PhaseName → ℕ → List ℕ → List Message → Type 0
MayTake f s p n owed [] = Unit {0}
MayTake f s p n owed (m ∷ ms) = IsAwaited f s p n owed m × MayTake f s p n (phases.without m.server owed) ms

-- who is owed after that
abbrev pub owed_after : List Message → List ℕ → List ℕ
owed_after [] owed = owed
owed_after (m ∷ ms) owed = owed_after ms (phases.without m.server owed)

-- and what was reported
abbrev pub reports_after : List Message → List Shown → List Shown
reports_after [] reports = reports
reports_after (m ∷ ms) reports = reports_after ms (reports ++ shown_in m.body)

-- ---- what holds of all of a session's

-- how many members a server has
abbrev pub members_at : ℕ → List Seen → ℕ
members_at server vs = length (filter (λ v. v.server == server) vs)

-- the server is that of a member
abbrev pub HasServer : ℕ → List Seen → Type 0
HasServer server = Any (λ v. v.server ≡ server)

-- one that a member's server would still carry out
pub record IsThreat (f : Flight) (s : ℕ) (work : phases.Work) (n : ℕ) (vs : List Seen) (m : Message) : Type 0 where
  pub order : IsOrderFor f s work n m
  pub loose : IsLoose f m
  pub to : HasServer m.server vs

-- one message is older than another, whose server's fence the other has come to: that server carries it out no more
pub record IsOutdated (f : Flight) (s : ℕ) (old new : Message) : Type 0 where
  pub older : old.epoch < new.epoch
  pub fenced : new.epoch ≤ f.fence s old.server

-- The messages of session number s, which is in phase p of attempt n, by who is owed, what was reported, and the members.
pub record FlightFits (f : Flight) (s : ℕ) (p : PhaseName) (n : ℕ) (owed : List ℕ) (reports : List Shown) (vs : List Seen) : Type 0 where
  pub known : (m : Message) → In m f.messages → m.session ≡ s → IsKnown (f.epoch s) n m
  -- what the master has asked so far, and where what it asked before it was lost meets a fence
  pub so_far : (m : Message) → In m f.messages → m.session ≡ s → m.order.number ≡ n → IsSentSoFar p (f.epoch s) m
  pub fenced : IsFenced p → (m : Message) → IsOrder f s m → m.order.number ≡ n → m.epoch < f.epoch s → HasServer m.server vs → f.epoch s ≤ f.fence s m.server
  pub heard : p ≡ phase.Lost → All (λ v. is_owed owed v ≡ false → f.epoch s ≤ f.fence s v.server) vs
  pub reached : p ≡ phase.Lost → (m : Message) → IsAwaited f s p n owed m → f.epoch s ≤ f.fence s m.server
  -- what was done before an order was sent, or before the attempt was over
  pub holds : (k : ℕ) (m : Message) → IsOrderFor f s phases.Hold k m → (k < n) ⊎ IsQuiet p → AllHeld k vs
  pub after_holds : (m : Message) → IsOrder f s m → m.order.number ≡ n → ComesAfterHolds m.order.work → AllHeld n vs
  pub flashes : (k : ℕ) (m : Message) → IsOrderFor f s phases.Flash k m → IsPast p k n → All (λ v. k ≤ v.floor) vs
  pub commits : (m : Message) → IsOrderFor f s phases.Commit n m → AllFlashed n vs
  -- what a commit and a revert would meet; and not both are carried out
  pub commit_way : (m : Message) → IsThreat f s phases.Commit n vs m → AllAt n vs ⊎ Blocked vs
  pub revert_way : (m : Message) → IsThreat f s phases.Revert n vs m → NoneCommitted n vs ⊎ NoneRevertible vs
  pub one_way : Any (λ v. v.revertible ≡ true) vs → (c r : Message) → IsOrderFor f s phases.Commit n c → IsOrderFor f s phases.Revert n r → HasServer c.server vs → HasServer r.server vs
      → IsOutdated f s c r ⊎ IsOutdated f s r c
  -- where a lost master was told of another number, a commit would find no secondary that is its primary's
  pub others : p ≡ phase.Lost → (k : ℕ) → IsReported k false reports → k ≢ n → (m : Message) → IsThreat f s phases.Commit n vs m → Blocked vs
  pub others_come : p ≡ phase.Lost → (q : Message) → IsAwaited f s p n owed q → (k : ℕ) → IsReported k false (shown_in q.body) → k ≢ n → (m : Message) → IsThreat f s phases.Commit n vs m → Blocked vs
  -- Whichever replies its master takes, one after another, the attempt is as its phase says. A report shows no more than the server has
  -- members, and those of one that has finished don't record.
  pub replies : (ms : List Message) → MayTake f s p n owed ms → InPhase p n (owed_after ms owed) (reports_after ms reports) vs
  pub few : (m : Message) → IsAwaited f s p n owed m → length (shown_in m.body) ≤ members_at m.server vs
  pub finished : p ≡ phase.Finishing → (m : Message) → IsAwaited f s p n owed m → All (λ v. v.server ≡ m.server → v.recording ≡ false) vs

-- the messages of session x, where they are those of f, and volumes say T
abbrev pub FlightIn : Flight → Roles → Session → Type 0
FlightIn f T x = FlightFits f x.number (phase_of x.mirror) x.last (owed_of x.mirror) (reports_of x.mirror) (all_seen T x.members)

-- in a control state
abbrev pub FlightOf : Control → Session → Type 0
FlightOf k x = FlightIn k.flight (roles k) x

-- Each message is one of a session, and each session's messages fit. No fence is above the epoch of its number, whether that has a session
-- now or not.
pub record FlightsIn (f : Flight) (ss : List Session) (T : Roles) : Type 0 where
  pub homes : (m : Message) → In m f.messages → is_some (session_in ss m.session) ≡ true
  pub fences : (s server : ℕ) → f.fence s server ≤ f.epoch s
  pub each : (x : Session) → In x ss → FlightIn f T x

-- those of all sessions
abbrev pub Flights : Control → Type 0
Flights k = FlightsIn k.flight k.sessions (roles k)
