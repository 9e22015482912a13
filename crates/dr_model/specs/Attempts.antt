-- The attempts of sessions: what the records of members' volumes and the masters say together in all phases, and what each kind of
-- move asks of them. Who records is said in Groups; which primary has which cut isn't said here.
use Rattle.std.specs.Prelude.{◌≡◌, ◌≢◌, ◌⊎◌, ◌<◌, ◌≤◌, ℕ, Bool, true, false, not, ◌&&◌, ◌||◌, List, [], map, nat_eq, Option, Some, None, if◌then◌else◌}
use Rattle.dr_ids.specs.declared.names.Member.{Member}
use Rattle.dr_ids.specs.declared.refusal.PhaseName.{PhaseName}
use Rattle.dr_ids.specs.declared.refusal.PhaseName.TheVariants as phase
use Rattle.dr_model.specs.Decisions.{Shown}
use Rattle.dr_model.specs.Phases.{is_among}
use Rattle.dr_model.specs.Phases as phases
use Rattle.dr_model.specs.Layout.{Fields, is_part}
use Rattle.dr_model.specs.Control.{Control}
use Rattle.dr_model.specs.Views.{source_of}
use Rattle.dr_model.specs.Pairs.{primary_of, is_secondary_of, records}
use Rattle.dr_model.specs.Moves.{Move, Overwrite, Keep, Relate, Withdraw, Fetch, Resync, Reverse, Release, MakeSecondary, MakePrimary, Yield, Hold, Free, Seal, Finish, RaiseAttempt, RaiseFloor, Leave, Flash, Commit, Revert}
use Rattle.dr_model.specs.Entries.{fields_at, is_at}
use Rattle.dr_model.specs.Sessions.{Session, Mirror, has_subsystem, subsystem_of}
use Rattle.dr_model.specs.SessionEntries.{may_flash}
use Rattle.dr_model.specs.Messages.{Flight, Message}
use Rattle.dr_model.specs.Groups.{In, IsOrderFor, Due, HoldsMember}

-- ---- what is seen

-- what a volume's record says of attempts: the last one that it has as a primary, and whether it records and is held; the primary of a
-- secondary, and its seal; the source of a target, its numbers and flags, and the session in which it counts
pub record Role : Type 0 where
  pub attempt : ℕ
  pub recording : Bool
  pub held : Bool
  pub primary : Option ℕ
  pub seal : ℕ
  pub source : Option ℕ
  pub recorded : Bool
  pub inhibited : Bool
  pub reversing : Bool
  pub sequence : ℕ
  pub previous : ℕ
  pub revertible : Bool
  pub member : Bool
  pub session : ℕ
  pub floor : ℕ

-- of a volume with these fields
abbrev pub role_of : Fields → Role
role_of f = record {
  attempt = f.attempt;
  recording = f.recording;
  held = f.coordination;
  primary = primary_of f;
  seal = f.seal;
  source = source_of f;
  recorded = f.recorded;
  inhibited = f.inhibited;
  reversing = f.reversing;
  sequence = f.sequence;
  previous = f.previous_sequence;
  revertible = f.revertible;
  member = f.member;
  session = f.session;
  floor = f.floor;
}

-- the roles of all volumes
abbrev pub Roles : Type 0
Roles = ℕ → Role

-- in a control state
abbrev pub roles : Control → Roles
roles k v = role_of (fields_at k v)

-- A member as its session sees it: its server; of its primary the last attempt, and whether it records and is held; of its secondary
-- whether it is that primary's, and the seal; of its target the numbers and flags.
pub record Seen : Type 0 where
  pub server : ℕ
  pub attempt : ℕ
  pub recording : Bool
  pub held : Bool
  pub paired : Bool
  pub seal : ℕ
  pub sequence : ℕ
  pub previous : ℕ
  pub revertible : Bool
  pub member : Bool
  pub floor : ℕ

-- by the server, and the roles of its three volumes
abbrev pub seen_of : ℕ → ℕ → Role → Role → Role → Seen
seen_of server a x y z = record {
  server = server;
  attempt = x.attempt;
  recording = x.recording;
  held = x.held;
  paired = is_at y.primary a;
  seal = y.seal;
  sequence = z.sequence;
  previous = z.previous;
  revertible = z.revertible;
  member = z.member;
  floor = z.floor;
}

-- a member in a table of roles
abbrev pub seen : Roles → Member → Seen
seen T m = seen_of m.server.0 m.a.0 (T m.a.0) (T m.b.0) (T m.c.0)

-- all members of a session
abbrev pub all_seen : Roles → List Member → List Seen
all_seen T ms = map (seen T) ms

-- the members of a session
abbrev pub seen_in : Control → Session → List Seen
seen_in k x = all_seen (roles k) x.members

-- a target counts where it is a member's, or revertible; it is committed with n; and it shows a number, which is the one before
-- the flash as long as that can be taken back
abbrev pub counts : Seen → Bool
counts v = v.member || v.revertible

-- its target has number n, is a member's and can't go back
abbrev pub committed : ℕ → Seen → Bool
committed n v = v.member && (nat_eq v.sequence n && not v.revertible)

-- the number that it has, or goes back to
abbrev pub number_shown : Seen → ℕ
number_shown v = if v.revertible then v.previous else v.sequence

-- ---- lists of members

-- each of a list
abbrev pub All : {X : Type 0} → (X → Type 0) → List X → Type 0
All {X} P xs = (x : X) → In x xs → P x

-- one of a list
pub record Any {X : Type 0} (P : X → Type 0) (xs : List X) : Type 0 where
  pub one : X
  pub here : In one xs
  pub is : P one

-- none of them can go back
abbrev pub NoneRevertible : List Seen → Type 0
NoneRevertible = All (λ v. v.revertible ≡ false)

-- none of them is committed with n
abbrev pub NoneCommitted : ℕ → List Seen → Type 0
NoneCommitted n = All (λ v. committed n v ≡ false)

-- one of them is committed with n
abbrev pub SomeCommitted : ℕ → List Seen → Type 0
SomeCommitted n = Any (λ v. committed n v ≡ true)

-- each target that counts has number n
abbrev pub AllAt : ℕ → List Seen → Type 0
AllAt n = All (λ v. counts v ≡ true → v.sequence ≡ n)

-- the secondary of each that is revertible is taken: it is its primary's no more
abbrev pub Blocked : List Seen → Type 0
Blocked = All (λ v. v.revertible ≡ true → v.paired ≡ false)

-- And no other can be flashed with n: not with its secondary taken, nor with a floor that isn't below n; and else it isn't sealed for n,
-- nor can it be, since its primary doesn't record.
pub record Bars (n : ℕ) (revertible paired recording : Bool) (seal floor : ℕ) : Type 0 where
  pub taken : revertible ≡ true → paired ≡ false
  pub spent : revertible ≡ false → paired ≡ true → floor < n → (seal ≢ n) × (recording ≡ false)

-- no member can be flashed for number n any more
abbrev pub Barred : ℕ → List Seen → Type 0
Barred n = All (λ v. Bars n v.revertible v.paired v.recording v.seal v.floor)

-- each primary was held for n
abbrev pub AllHeld : ℕ → List Seen → Type 0
AllHeld n = All (λ v. n ≤ v.attempt)

-- a target was flashed with n, and that may stand or be over: it can go back, or its floor has reached n
abbrev pub WasFlashed : ℕ → Seen → Type 0
WasFlashed n v = (v.revertible ≡ true) ⊎ (n ≤ v.floor)

-- each was
abbrev pub AllFlashed : ℕ → List Seen → Type 0
AllFlashed n = All (WasFlashed n)

-- What comes late in attempt n comes after all that comes before: where a primary records and isn't held, where a target can go back and
-- where one is committed, all primaries were held; and where one is committed, all targets were flashed. A secondary is sealed for n
-- after its own primary was held.
pub record Follows (n : ℕ) (vs : List Seen) : Type 0 where
  pub free : All (λ v. v.recording ≡ true → v.held ≡ false → AllHeld n vs) vs
  pub turned : All (λ v. v.revertible ≡ true → AllHeld n vs) vs
  pub settled : All (λ v. committed n v ≡ true → AllHeld n vs × AllFlashed n vs) vs
  pub sealed : All (λ v. v.paired ≡ true → v.seal ≡ n → n ≤ v.attempt) vs

-- ---- numbers

-- A member, where n is the last number of its session: nothing of it has gone past n. A revertible target has number n, and its
-- floor is below; and one that is a member's shows a number that its floor has reached.
pub record Numbered (n : ℕ) (v : Seen) : Type 0 where
  pub attempt : v.attempt ≤ n
  pub seal : v.seal ≤ n
  pub floor : v.floor ≤ n
  pub sequence : counts v ≡ true → v.sequence ≤ n
  pub last : v.revertible ≡ true → v.sequence ≡ n
  pub above : v.revertible ≡ true → v.floor < n
  pub reached : v.member ≡ true → number_shown v ≤ v.floor

-- those that are members' show one number, which isn't n
pub record OneShown (n : ℕ) (vs : List Seen) : Type 0 where
  pub number : ℕ
  pub apart : number ≢ n
  pub same : All (λ v. v.member ≡ true → number_shown v ≡ number) vs

-- where some is committed, all that count have number n; and where none is, they show another one
pub record NumbersAgree (n : ℕ) (vs : List Seen) : Type 0 where
  pub each : All (Numbered n) vs
  pub some : NoneCommitted n vs ⊎ AllAt n vs
  pub none : SomeCommitted n vs ⊎ OneShown n vs

-- ---- phases

-- the server of a member is still owed its order
abbrev pub is_owed : List ℕ → Seen → Bool
is_owed owed v = is_among v.server owed

-- each member whose server has answered
abbrev pub Answered : List ℕ → (Seen → Type 0) → List Seen → Type 0
Answered owed P = All (λ v. is_owed owed v ≡ false → P v)

-- before the first flash
pub record Before (n : ℕ) (vs : List Seen) : Type 0 where
  pub positive : 0 < n
  pub unflashed : NoneRevertible vs
  pub uncommitted : NoneCommitted n vs

-- Coordinating: nothing of attempt n was sealed or flashed yet; those that have answered were held
pub record InCoordinating (n : ℕ) (owed : List ℕ) (vs : List Seen) : Type 0 where
  pub before : Before n vs
  pub unsealed : All (λ v. v.seal ≢ n) vs
  pub held : Answered owed (λ v. n ≤ v.attempt) vs

-- Releasing and Draining: all were held
pub record InForming (n : ℕ) (vs : List Seen) : Type 0 where
  pub before : Before n vs
  pub held : AllHeld n vs

-- those that have answered were flashed, and can go back unless none can be flashed any more
pub record InFlashing (n : ℕ) (owed : List ℕ) (vs : List Seen) : Type 0 where
  pub positive : 0 < n
  pub uncommitted : NoneCommitted n vs
  pub held : AllHeld n vs
  pub done : Barred n vs ⊎ Answered owed (λ v. v.revertible ≡ true) vs
  pub flashed : Answered owed (WasFlashed n) vs

-- each was flashed, and each can be committed, or no order can commit or revert one
pub record InCommitting (n : ℕ) (owed : List ℕ) (vs : List Seen) : Type 0 where
  pub way : AllAt n vs ⊎ Blocked vs
  pub held : AllHeld n vs
  pub flashed : AllFlashed n vs
  pub done : Answered owed (λ v. v.revertible ≡ false) vs

-- Reverting: none is committed with n, or none can go back any more; those that have answered can't, and their floors have reached n
pub record InReverting (n : ℕ) (owed : List ℕ) (vs : List Seen) : Type 0 where
  pub way : NoneCommitted n vs ⊎ NoneRevertible vs
  pub done : Answered owed (λ v. (v.revertible ≡ false) × (n ≤ v.floor)) vs

-- Finishing: none can go back; those that have answered make nothing of attempt n any more
pub record InFinishing (n : ℕ) (owed : List ℕ) (vs : List Seen) : Type 0 where
  pub unflashed : NoneRevertible vs
  pub done : Answered owed (λ v. n ≤ v.attempt) vs

-- a member's number and flag have been reported
abbrev pub IsReported : ℕ → Bool → List Shown → Type 0
IsReported k r reports = In (record { sequence = k; revertible = r }) reports

-- What was reported of targets that aren't revertible agrees: it is n, the number of all that count, and some is committed or none is
-- revertible; or it is another number, which those show that are members'.
pub record AgreesOnLast (n : ℕ) (reports : List Shown) (vs : List Seen) : Type 0 where
  pub told : (k : ℕ) → IsReported k false reports → k ≡ n
  pub all : AllAt n vs
  pub settled : SomeCommitted n vs ⊎ NoneRevertible vs

-- all show one number that isn't n, and so do the reports of targets that can't go back
pub record AgreesOnOther (n : ℕ) (reports : List Shown) (vs : List Seen) : Type 0 where
  pub shown : OneShown n vs
  pub told : (k : ℕ) → IsReported k false reports → k ≡ shown.number

-- what is known where one is committed: none is revertible, or one that isn't revertible was reported with n, or the server of a
-- committed one is still to report
abbrev pub Known : ℕ → List ℕ → List Shown → List Seen → Type 0
Known n owed reports vs = NoneRevertible vs ⊎ (IsReported n false reports ⊎ Any (λ w. (committed n w ≡ true) × (is_owed owed w ≡ true)) vs)

-- Recoveries may commit and revert members while reports come in, so what was reported needn't be what members show now. A revertible
-- one had number n; the others agree; those revertible now whose servers have answered were reported so; and where one that isn't was
-- reported with n, all were held and flashed.
pub record InLost (n : ℕ) (owed : List ℕ) (reports : List Shown) (vs : List Seen) : Type 0 where
  pub last : (k : ℕ) → IsReported k true reports → k ≡ n
  pub agrees : AgreesOnLast n reports vs ⊎ AgreesOnOther n reports vs
  pub known : All (λ v. committed n v ≡ true → Known n owed reports vs) vs
  pub told : Answered owed (λ v. v.revertible ≡ true → IsReported n true reports) vs
  pub after : IsReported n false reports → AllHeld n vs × AllFlashed n vs

-- what holds in each phase
abbrev pub InPhase : PhaseName → ℕ → List ℕ → List Shown → List Seen → Type 0
InPhase phase.None n owed reports vs = NoneRevertible vs
InPhase phase.Idle n owed reports vs = NoneRevertible vs
InPhase phase.Coordinating n owed reports vs = InCoordinating n owed vs
InPhase phase.Releasing n owed reports vs = InForming n vs
InPhase phase.Draining n owed reports vs = InForming n vs
InPhase phase.Flashing n owed reports vs = InFlashing n owed vs
InPhase phase.Committing n owed reports vs = InCommitting n owed vs
InPhase phase.Reverting n owed reports vs = InReverting n owed vs
InPhase phase.Finishing n owed reports vs = InFinishing n owed vs
InPhase phase.Lost n owed reports vs = InLost n owed reports vs

-- out of Idle some server is owed its order, and each that is has a member
pub record Waits (owed : List ℕ) (vs : List Seen) : Type 0 where
  pub some : owed ≢ []
  pub members : (s : ℕ) → In s owed → Any (λ v. v.server ≡ s) vs

-- in each phase but Idle, and of a session with a master
abbrev pub Owes : PhaseName → List ℕ → List Seen → Type 0
Owes phase.None owed vs = Unit {0}
Owes phase.Idle owed vs = Unit {0}
Owes p owed vs = Waits owed vs

-- a session without a master is Idle
abbrev pub phase_of : Option Mirror → PhaseName
phase_of None = phase.Idle
phase_of (Some r) = r.master.phase

-- the servers that are owed its order, none without a master
abbrev pub owed_of : Option Mirror → List ℕ
owed_of None = []
owed_of (Some r) = r.master.owed

-- what was reported to it, nothing without a master
abbrev pub reports_of : Option Mirror → List Shown
reports_of None = []
reports_of (Some r) = r.master.reports

-- a session, by its phase, its last number, who is owed, what was reported, and its members
pub record IsAttempt (p : PhaseName) (n : ℕ) (owed : List ℕ) (reports : List Shown) (vs : List Seen) : Type 0 where
  pub numbers : NumbersAgree n vs
  pub follows : Follows n vs
  pub phase : InPhase p n owed reports vs
  pub owes : Owes p owed vs

-- the laws of session x
abbrev pub AttemptOf : Roles → Session → Type 0
AttemptOf T x = IsAttempt (phase_of x.mirror) x.last (owed_of x.mirror) (reports_of x.mirror) (all_seen T x.members)

-- ---- volumes

-- v is the target of a member of the session of that number: a recorded, inhibited target of the member's secondary, and not
-- reversing
pub record IsTarget (ss : List Session) (v s : ℕ) (from : Option ℕ) (recorded inhibited reversing : Bool) : Type 0 where
  pub session : Session
  pub listed : In session ss
  pub number : session.number ≡ s
  pub member : Member
  pub here : In member session.members
  pub is : member.c.0 ≡ v
  pub source : from ≡ Some member.b.0
  pub records : recorded ≡ true
  pub inhibits : inhibited ≡ true
  pub forward : reversing ≡ false

-- a volume that counts is the target of a member of the session that it names; another one names none; and only a revertible one
-- has a number to go back to
pub record Claim (ss : List Session) (v : ℕ) (r : Role) : Type 0 where
  pub counted : (r.member || r.revertible) ≡ true → IsTarget ss v r.session r.source r.recorded r.inhibited r.reversing
  pub uncounted : (r.member || r.revertible) ≡ false → r.session ≡ 0
  pub previous : r.revertible ≡ false → r.previous ≡ 0

-- ---- the laws

-- all sessions, all volumes, and that members' primaries lie in their session's subsystems
pub record AttemptsIn (ss : List Session) (T : Roles) : Type 0 where
  pub sessions : (x : Session) → In x ss → AttemptOf T x
  pub volumes : (v : ℕ) → Claim ss v (T v)
  pub inside : (x : Session) (m : Member) → In x ss → In m x.members → has_subsystem (subsystem_of m.a.0) x ≡ true

-- The numbers and flags of each session's members agree, as its phase says. Each volume that counts is the target of a member of its
-- session. And members' primaries lie in their session's logical subsystems.
abbrev pub Attempts : Control → Type 0
Attempts k = AttemptsIn k.sessions (roles k)

-- ---- what moves ask

-- a is the primary of a member of the session of that number
pub record MemberOf (k : Control) (s a : ℕ) : Type 0 where
  pub session : Session
  pub listed : In session k.sessions
  pub number : session.number ≡ s
  pub member : Member
  pub here : In member session.members
  pub is : member.a.0 ≡ a

-- n isn't past the last number of a session whose member has v as its primary
abbrev pub UpToLast : Control → ℕ → ℕ → Type 0
UpToLast k v n = (x : Session) (m : Member) → In x k.sessions → In m x.members → m.a.0 ≡ v → n ≤ x.last

-- and it isn't below v's last attempt
pub record RaisesAttempt (attempt n last : ℕ) : Type 0 where
  pub higher : attempt ≤ n
  pub low : n ≤ last

-- what raising an attempt asks, of whichever member has the primary
abbrev pub MayRaiseAttempt : Control → ℕ → ℕ → Type 0
MayRaiseAttempt k v n = (x : Session) (m : Member) → In x k.sessions → In m x.members → m.a.0 ≡ v → RaisesAttempt (fields_at k v).attempt n x.last

-- a relationship whose changes are recorded is persistent
abbrev pub Persists : Fields → Type 0
Persists f = f.recorded ≡ true → f.persistent ≡ true

-- a target with these fields counts in no session
abbrev pub DoesNotCount : Fields → Type 0
DoesNotCount f = (f.member || f.revertible) ≡ false

-- a member's target goes only where none of its session is revertible
pub record MayGo (k : Control) (v : ℕ) : Type 0 where
  pub plain : (fields_at k v).revertible ≡ false
  pub settled : (fields_at k v).member ≡ true → (x : Session) (m : Member) → In x k.sessions → In m x.members → m.c.0 ≡ v → NoneRevertible (seen_in k x)

-- v is the target of the member of session s whose primary a is
pub record TargetOf (k : Control) (v a s : ℕ) : Type 0 where
  pub place : MemberOf k s a
  pub target : place.member.c.0 ≡ v

-- And as that of its member: where it is a member's, what is told of it names the member's primary and session; and it names no other
-- member.
pub record GoesAs (k : Control) (v : ℕ) (a : Option ℕ) (s : ℕ) : Type 0 where
  pub counted : (fields_at k v).member ≡ true → (x : Session) (m : Member) → In x k.sessions → In m x.members → m.c.0 ≡ v → (a ≡ Some m.a.0) × (s ≡ x.number)
  pub named : (p : ℕ) → a ≡ Some p → TargetOf k v p s

-- no target of a member whose secondary v is is revertible
abbrev pub MayFollow : Control → ℕ → Type 0
MayFollow k v = (x : Session) (m : Member) → In x k.sessions → In m x.members → m.b.0 ≡ v → (fields_at k m.c.0).revertible ≡ false

-- a volume is the secondary of no member
abbrev pub SecondaryOfNone : Control → ℕ → Type 0
SecondaryOfNone k v = (x : Session) (m : Member) → In x k.sessions → In m x.members → m.b.0 ≢ v

-- a primary doesn't record
abbrev pub IsSilent : Control → ℕ → Type 0
IsSilent k v = (fields_at k v).recording ≡ false

-- a member is let go where that is due
pub record MayFree (k : Control) (v : ℕ) : Type 0 where
  pub session : ℕ
  pub place : MemberOf k session v
  pub due : Due k.flight place.session place.member.server.0 phases.Release place.session.last

-- so is a secondary sealed for the last number, for which its primary records
pub record SealsMember (k : Control) (v u s n : ℕ) : Type 0 where
  pub place : MemberOf k s u
  pub secondary : place.member.b.0 ≡ v
  pub due : Due k.flight place.session place.member.server.0 phases.Seal n
  pub last : n ≡ place.session.last
  pub records : records n (fields_at k u) ≡ true

-- and a target flashed that isn't revertible, and whose floor the last number is above, while its source is sealed for that
pub record FlashesMember (k : Control) (v u a s n : ℕ) : Type 0 where
  pub place : MemberOf k s a
  pub secondary : place.member.b.0 ≡ u
  pub target : place.member.c.0 ≡ v
  pub due : Due k.flight place.session place.member.server.0 phases.Flash n
  pub last : n ≡ place.session.last
  pub paired : is_secondary_of a (fields_at k u) ≡ true
  pub sealed : (fields_at k u).seal ≡ n
  pub free : may_flash u (fields_at k v) ≡ true
  pub low : (fields_at k v).floor < n

-- a revertible target is committed where all that count have its number, and that is due while its source is its primary's secondary, or
-- another one is committed
pub record CommitsMember (k : Control) (v a s n : ℕ) : Type 0 where
  pub place : MemberOf k s a
  pub target : place.member.c.0 ≡ v
  pub last : n ≡ place.session.last
  pub revertible : (fields_at k v).revertible ≡ true
  pub all : AllAt n (seen_in k place.session)
  pub way : (Due k.flight place.session place.member.server.0 phases.Commit n × (is_secondary_of a (fields_at k place.member.b.0) ≡ true)) ⊎ SomeCommitted n (seen_in k place.session)

-- one is reverted where none is committed, and that is due while its source is its primary's secondary, or all secondaries are taken
pub record RevertsMember (k : Control) (v a s n : ℕ) : Type 0 where
  pub place : MemberOf k s a
  pub target : place.member.c.0 ≡ v
  pub last : n ≡ place.session.last
  pub revertible : (fields_at k v).revertible ≡ true
  pub none : NoneCommitted n (seen_in k place.session)
  pub way : (Due k.flight place.session place.member.server.0 phases.Revert n × (is_secondary_of a (fields_at k place.member.b.0) ≡ true)) ⊎ All (λ u. u.paired ≡ false) (seen_in k place.session)

-- a floor is raised where a revert is due for that number, but not past the last number of a session whose member has v as its target;
-- and while that is revertible, not up to that number
pub record Raises (k : Control) (x : Session) (m : Member) (v n : ℕ) : Type 0 where
  pub due : Due k.flight x m.server.0 phases.Revert n
  pub under : (fields_at k v).revertible ≡ true → n < x.last
  pub higher : (fields_at k v).floor ≤ n
  pub low : n ≤ x.last

-- what raising a floor asks, of whichever member has the target
abbrev pub MayRaiseFloor : Control → ℕ → ℕ → Type 0
MayRaiseFloor k v n = (x : Session) (m : Member) → In x k.sessions → In m x.members → m.c.0 ≡ v → Raises k x m v n

-- what each kind asks of sessions and phases, beside what its row gives; the first hold of an attempt is no such move, but opens it
abbrev pub InAttempt : Control → Move → Type 0
InAttempt k (Overwrite w v t) = Persists (fields_at k v) × DoesNotCount (fields_at k v)
InAttempt k (Keep v t) = Persists (fields_at k v)
InAttempt k (Fetch v t) = Persists (fields_at k v)
InAttempt k (Relate v s choices) = DoesNotCount (fields_at k v)
InAttempt k (Withdraw v) = DoesNotCount (fields_at k v)
InAttempt k (Resync v sequence) = DoesNotCount (fields_at k v)
InAttempt k (Reverse v left) = MayGo k v × GoesAs k v left (fields_at k v).session
InAttempt k (Release v t) = (fields_at k v).reversing ≡ true
InAttempt k (MakeSecondary v u kind state) = MayFollow k v × IsSilent k u
InAttempt k (MakePrimary v u kind state full) = is_part (fields_at k v).secondary ≡ true → SecondaryOfNone k v
InAttempt k (Yield v u kind state) = MayFollow k v × IsSilent k u
InAttempt k (Hold v s n first) = HoldsMember k v s n × (((fields_at k v).attempt < n) × (first ≡ false))
InAttempt k (Free v) = MayFree k v
InAttempt k (Seal v u s n) = SealsMember k v u s n
InAttempt k (Finish v n) = UpToLast k v n
InAttempt k (RaiseAttempt v n) = MayRaiseAttempt k v n
InAttempt k (RaiseFloor v n) = MayRaiseFloor k v n
InAttempt k (Leave v u s) = MayGo k v × GoesAs k v (Some u) s
InAttempt k (Flash v u a s n) = FlashesMember k v u a s n
InAttempt k (Commit v a s n) = CommitsMember k v a s n
InAttempt k (Revert v a s n) = RevertsMember k v a s n
InAttempt k m = Unit {0}

-- ---- what an order has done

-- what a member shows with which a server has done its work for attempt n; a report isn't done, but given
abbrev pub IsDone : phases.Work → ℕ → Seen → Type 0
IsDone phases.Hold n v = n ≤ v.attempt
IsDone phases.Flash n v = v.revertible ≡ true
IsDone phases.Commit n v = v.revertible ≡ false
IsDone phases.Revert n v = (v.revertible ≡ false) × (n ≤ v.floor)
IsDone phases.Finish n v = n ≤ v.attempt
IsDone phases.Report n v = ⊥
IsDone work n v = Unit {0}

-- a server has done that work with each of its members
abbrev pub WorkDone : Control → List Member → ℕ → phases.Work → ℕ → Type 0
WorkDone k ms server work n = (m : Member) → In m ms → m.server.0 ≡ server → IsDone work n (seen (roles k) m)

-- and what the phase asks of it
abbrev pub ServerDone : Control → Session → ℕ → Type 0
ServerDone k x server = (work : phases.Work) → phases.work_in (phase_of x.mirror) ≡ Some work → WorkDone k x.members server work x.last

-- ---- what a recovery leaves

-- an attempt from its first flash on
abbrev pub IsLate : PhaseName → Type 0
IsLate phase.Coordinating = ⊥
IsLate phase.Releasing = ⊥
IsLate phase.Draining = ⊥
IsLate p = Unit {0}

-- no member of session s can be flashed with its last number any more, and no hold for that can come to one
pub record IsOver (f : Flight) (s : ℕ) (p : PhaseName) (n : ℕ) (vs : List Seen) : Type 0 where
  pub late : IsLate p
  pub positive : 0 < n
  pub barred : Barred n vs
  pub held : (m : Message) → IsOrderFor f s phases.Hold n m → AllHeld n vs

-- of session x
abbrev pub OverIn : Flight → Roles → Session → Type 0
OverIn f T x = IsOver f x.number (phase_of x.mirror) x.last (all_seen T x.members)
