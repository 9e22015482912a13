-- The way home of a pair whose volumes lead to each other: what its lines answer, and that the pair is in place after them.
use Rattle.std.specs.Prelude.{◌≡◌, ◌⊎◌, ℕ, true, false, List, Some, None, Ok, is_some}
use Rattle.dr_ids.specs.declared.names.Member.{Member}
use Rattle.dr_ids.specs.declared.refusal.Decision.{Decision}
use Rattle.dr_ids.specs.declared.refusal.Decision.TheVariants.{NoMember, Nothing}
use Rattle.std.specs.FinSet.{len}
use Rattle.dr_model.specs.Refusals.{stopped}
use Rattle.dr_model.specs.declared.said.Addition.TheVariants.{Alone, Counted}
use Rattle.dr_model.specs.declared.said.Said.{Said}
use Rattle.dr_model.specs.declared.said.Said.TheVariants.{Done, Refused}
use Rattle.dr_model.specs.declared.step.Devs.{Devs}
use Rattle.dr_model.specs.declared.step.Step.TheVariants.{ResumePair, Failback, Failover, Drain}
use Rattle.dr_model.specs.declared.state.PairState.TheVariants.{CopyPending}
use Rattle.dr_model.specs.Layout.{Fields, is_part}
use Rattle.dr_model.specs.Control.{Control, World}
use Rattle.dr_model.specs.Entries.{fields_at, is_running, is_settled, secondary_state}
use Rattle.dr_model.specs.Pairs.{is_suspended, is_cascaded}
use Rattle.dr_model.specs.Sessions.{Session, session_in}
use Rattle.dr_model.specs.SessionEntries.{may_hold}
use Rattle.dr_model.specs.RecoveryPlans.{decided_in}
use Rattle.dr_model.specs.Groups.{In}
use Rattle.dr_model.specs.PairEntries.{reach_refusal, leads_to, belongs_to, is_copying}
use Rattle.dr_model.specs.Plans.{has_room, yield_refusal}
use Rattle.dr_model.specs.Runs.{Task, run, after_task}
use Rattle.dr_laws_sound.specs.Acknowledged.{said_in}
use Rattle.dr_laws_progress.specs.PairWays.{CopiesWith}

-- a and b are Global Copy primaries of each other, and neither is a secondary
pub record LeadEachOther (k : Control) (a b : ℕ) : Type 0 where
  pub leads : CopiesWith (fields_at k a).primary (fields_at k a).primary_partner b
  pub back : CopiesWith (fields_at k b).primary (fields_at k b).primary_partner a
  pub a_second : is_part (fields_at k a).secondary ≡ false
  pub b_second : is_part (fields_at k b).secondary ≡ false

-- Both servers are on, and each volume can be reached from the other: by a path, and by a link that is up. Neither volume is the source of a
-- relationship that is reversing or revertible. If a target of it is a member's, the servers of all secondaries of that one's session are on, and
-- it is decided there that nothing is to be done.
pub record HomeIsOpen (k : Control) (a b : ℕ) : Type 0 where
  pub a_on : is_running a k ≡ true
  pub b_on : is_running b k ≡ true
  pub there : reach_refusal a b k ≡ None
  pub back : reach_refusal b a k ≡ None
  pub a_settled : is_settled a k ≡ true
  pub b_settled : is_settled b k ≡ true
  pub a_yields : yield_refusal a k ≡ None
  pub b_yields : yield_refusal b k ≡ None

-- a line that names no server
abbrev pub unnamed : Devs
unnamed = record { dev = None; remotedev = None }

-- the lines of the way home, in their order
pub record HomeLines (a b : ℕ) : Type 0 where
  pub turn : Task
  pub turn_is : turn.asked ≡ Ok (Failback unnamed b a 2)
  pub send : Task
  pub send_is : send.asked ≡ Ok (Drain b None)
  pub over : Task
  pub over_is : over.asked ≡ Ok (Failover unnamed a b 2)
  pub home : Task
  pub home_is : home.asked ≡ Ok (Failback unnamed a b 2)
  pub last : Task
  pub last_is : last.asked ≡ Ok (Drain a None)

-- step t, which begins in w, is refused because a server stopped on which a fuse was armed at the start
pub record IsStopped (start w : World) (t : Task) : Type 0 where
  pub server : ℕ
  pub is : said_in w t ≡ Refused (stopped server)
  pub armed : is_some (start.control.fuse server) ≡ true

-- If the journal has room for a step, t is so stopped; or it answers a, and the rest holds of the world that it leads to.
abbrev pub AnswersThen : World → World → Task → Said → (World → Type 0) → Type 0
AnswersThen start w t a rest = has_room w.events ≡ true → IsStopped start w t ⊎ ((said_in w t ≡ a) × rest (after_task w t))

-- a drain of v sends as many tracks as v has out of sync
abbrev pub sends_all : World → ℕ → Said
sends_all w v = Done (Counted (len (fields_at w.control v).out_of_sync))

-- a is a Global Copy primary of b in Copy Pending, and b is its secondary
pub record InPlace (k : Control) (a b : ℕ) : Type 0 where
  pub leads : may_hold a b k ≡ true
  pub follows : belongs_to a b k ≡ true

-- by these records x is a Global Copy primary of y in Copy Pending, and no secondary, and y is the secondary of x, and no primary
pub record TurnedPair (x y : ℕ) (f g : Fields) : Type 0 where
  pub leads : CopiesWith f.primary f.primary_partner y
  pub pending : f.primary_state ≡ CopyPending
  pub x_second : is_part f.secondary ≡ false
  pub follows : CopiesWith g.secondary g.secondary_partner x
  pub y_first : is_part g.primary ≡ false

-- in a control state
abbrev pub IsTurnedTo : Control → ℕ → ℕ → Type 0
IsTurnedTo k x y = TurnedPair x y (fields_at k x) (fields_at k y)

-- The last two lines, from two volumes that lead to each other: each is answered ok, one after the other, until one is stopped; and then the pair
-- is in place.
abbrev pub EndsHome : World → World → (a b : ℕ) → HomeLines a b → Type 0
EndsHome start w a b l = AnswersThen start w l.home (Done Alone) (λ u. AnswersThen start u l.last (sends_all u a) (λ v. InPlace v.control a b))

-- the last three, from a pair that is turned round
abbrev pub LeadsOver : World → World → (a b : ℕ) → HomeLines a b → Type 0
LeadsOver start w a b l = AnswersThen start w l.over (Done Alone) (λ u. EndsHome start u a b l)

-- the last four, from there
abbrev pub LeadsBack : World → World → (a b : ℕ) → HomeLines a b → Type 0
LeadsBack start w a b l = AnswersThen start w l.send (sends_all w b) (λ u. LeadsOver start u a b l)

-- and all five, from two volumes that lead to each other
abbrev pub LeadsHome : World → World → (a b : ℕ) → HomeLines a b → Type 0
LeadsHome start w a b l = AnswersThen start w l.turn (Done Alone) (λ u. LeadsBack start u a b l)

-- by its record x is Suspended
abbrev pub IsSuspended : Control → ℕ → Type 0
IsSuspended k x = is_suspended (fields_at k x).primary_state ≡ true

-- by the records x is a Suspended Global Copy primary of y, and no secondary, and y is the secondary of x, and no primary
pub record IsSuspendedTo (k : Control) (x y : ℕ) : Type 0 where
  pub leads : CopiesWith (fields_at k x).primary (fields_at k x).primary_partner y
  pub suspended : IsSuspended k x
  pub x_second : is_part (fields_at k x).secondary ≡ false
  pub follows : CopiesWith (fields_at k y).secondary (fields_at k y).secondary_partner x
  pub y_first : is_part (fields_at k y).primary ≡ false

-- a line that lets a Suspended pair go on, of primary x and its secondary y
pub record ResumeLine (x y : ℕ) : Type 0 where
  pub task : Task
  pub is : task.asked ≡ Ok (ResumePair unnamed x y 2)

-- After any run: the way home from two volumes that lead to each other, and the short way, which gives up what was written at b. And the way home
-- from a pair that is turned round, which goes on first if it is Suspended.
pub record GoesHome (tasks : List Task) (a b : ℕ) (l : HomeLines a b) : Type 0 where
  pub all : LeadEachOther (run tasks).control a b → HomeIsOpen (run tasks).control a b → LeadsHome (run tasks) (run tasks) a b l
  pub short_way : LeadEachOther (run tasks).control a b → HomeIsOpen (run tasks).control a b → EndsHome (run tasks) (run tasks) a b l
  pub turned : IsTurnedTo (run tasks).control b a → HomeIsOpen (run tasks).control a b → LeadsBack (run tasks) (run tasks) a b l
  pub suspended : IsSuspendedTo (run tasks).control b a → HomeIsOpen (run tasks).control a b → (r : ResumeLine b a) → AnswersThen (run tasks) (run tasks) r.task (Done Alone) (λ u. LeadsBack (run tasks) u a b l)

-- the decisions after which nothing is to be done with a session's targets
abbrev pub IsDone : Decision → Type 0
IsDone (Nothing n) = Unit {0}
IsDone NoMember = Unit {0}
IsDone d = ⊥

-- The same of member m of session x, of number s. The servers of its primary and of all secondaries of the session are on, and each of its primary and
-- secondary can be reached from the other. Neither is the source of a relationship that is reversing or revertible. It is decided over the session
-- that nothing is to be done, as after a recovery. And the member's primary isn't cascaded.
pub record MayGoHome (k : Control) (s : ℕ) (x : Session) (m : Member) : Type 0 where
  pub found : session_in k.sessions s ≡ Some x
  pub here : In m x.members
  pub on : is_running m.a.0 k ≡ true
  pub secondaries : (q : Member) → In q x.members → is_running q.b.0 k ≡ true
  pub there : reach_refusal m.a.0 m.b.0 k ≡ None
  pub back : reach_refusal m.b.0 m.a.0 k ≡ None
  pub a_settled : is_settled m.a.0 k ≡ true
  pub b_settled : is_settled m.b.0 k ≡ true
  pub decided : IsDone (decided_in s k)
  pub uncascaded : is_cascaded (fields_at k m.a.0) ≡ false

-- so each member is led home by these lines, whichever of the two ways it stands in that aren't the first
pub record MemberGoesHome (tasks : List Task) (m : Member) (l : HomeLines m.a.0 m.b.0) : Type 0 where
  pub all : leads_to m.a.0 m.b.0 (run tasks).control ≡ true → leads_to m.b.0 m.a.0 (run tasks).control ≡ true → LeadsHome (run tasks) (run tasks) m.a.0 m.b.0 l
  pub short_way : leads_to m.a.0 m.b.0 (run tasks).control ≡ true → leads_to m.b.0 m.a.0 (run tasks).control ≡ true → EndsHome (run tasks) (run tasks) m.a.0 m.b.0 l
  pub turned : belongs_to m.b.0 m.a.0 (run tasks).control ≡ true → is_copying m.b.0 (run tasks).control ≡ true → LeadsBack (run tasks) (run tasks) m.a.0 m.b.0 l
  pub suspended : belongs_to m.b.0 m.a.0 (run tasks).control ≡ true → IsSuspended (run tasks).control m.b.0 → (r : ResumeLine m.b.0 m.a.0) → AnswersThen (run tasks) (run tasks) r.task (Done Alone) (λ u. LeadsBack (run tasks) u m.a.0 m.b.0 l)

-- so does each member that may, after any run
abbrev pub MembersGoHome : List Task → Type 0
MembersGoHome tasks = (s : ℕ) (x : Session) (m : Member) → MayGoHome (run tasks).control s x m → (l : HomeLines m.a.0 m.b.0) → MemberGoesHome tasks m l

-- Each is a primary of the other, and the member's primary is cascaded: then the first line of the way home is refused, since that one is a secondary.
abbrev pub RefusesCascaded : List Task → Type 0
RefusesCascaded tasks =
    let k : Control = (run tasks).control in
    (x : Session) (m : Member) (t : Task) → In x k.sessions → In m x.members → t.asked ≡ Ok (Failback unnamed m.b.0 m.a.0 2) → has_room (run tasks).events ≡ true
    → leads_to m.a.0 m.b.0 k ≡ true → leads_to m.b.0 m.a.0 k ≡ true → is_cascaded (fields_at k m.a.0) ≡ true → is_running m.b.0 k ≡ true → reach_refusal m.b.0 m.a.0 k ≡ None
    → said_in (run tasks) t ≡ Refused (secondary_state k m.a.0)
