-- What holds of a world's cuts by sessions: the cuts of an attempt are of one moment, and a group that was flashed has such cuts.
use Rattle.std.specs.Prelude.{◌≡◌, ◌<◌, ◌≤◌, ◌⊎◌, ℕ, true, false, List, Some, if◌then◌else◌}
use Rattle.dr_ids.specs.declared.names.Member.{Member}
use Rattle.dr_model.specs.Layout.{Fields}
use Rattle.dr_model.specs.Histories.{Lists, lists}
use Rattle.dr_model.specs.Control.{Pending, World}
use Rattle.dr_model.specs.Pairs.{primary_of}
use Rattle.dr_model.specs.Entries.{fields_at}
use Rattle.dr_model.specs.Phases as phases
use Rattle.dr_model.specs.Sessions.{Session}
use Rattle.dr_model.specs.Messages.{Flight, Message}
use Rattle.dr_model.specs.Groups.{In, IsOrderFor}
use Rattle.dr_model.specs.Attempts.{Any, phase_of}
use Rattle.dr_model.specs.Flights.{IsEarly}
use Rattle.dr_model.specs.Laws.{AllPending}
use Rattle.dr_model.specs.Cuts.{Cuts, cuts}
use Rattle.dr_laws_closed.specs.Moments.{Moments, Standing, moments, standing}

-- session s cut volume a for number n, and what a held there is what it held at the last cut of that attempt
pub record Whole (c : Cuts) (M : Moments) (s n a : ℕ) : Type 0 where
  pub by : c.by n a ≡ Some s
  pub lists : (t : ℕ) → c.held n a t ≡ M s n a t

-- the fields of each volume
abbrev pub AllFields : Type 0
AllFields = ℕ → Fields

-- a law on each member of each session
abbrev pub Members : List Session → (Session → Member → Type 0) → Type 0
Members ss P = (x : Session) (m : Member) → In x ss → In m x.members → P x m

-- while coordination holds it, a volume that records holds what it held at its cut
abbrev pub HeldAsCut : Lists → Cuts → ℕ → Fields → Type 0
HeldAsCut now c v f = f.recording ≡ true → f.coordination ≡ true → (t : ℕ) → now v t ≡ c.held f.attempt v t

-- a write that landed in a stop isn't one of a volume that is held
abbrev pub LandedFree : AllFields → List Pending → Type 0
LandedFree f = AllPending (λ p. p.landed ≡ true → (f p.volume).coordination ≡ false)

-- the cut of a member that records is of the moment of its session's last attempt
abbrev pub RecordsWhole : AllFields → Cuts → Moments → Session → Member → Type 0
RecordsWhole f c M x m = (f m.a.0).recording ≡ true → Whole c M x.number x.last m.a.0

-- a flash of a session's last attempt may come yet: its attempt is early, or such a message is in flight
abbrev pub AwaitsFlash : Flight → Session → Type 0
AwaitsFlash flight x = IsEarly (phase_of x.mirror) ⊎ Any (λ (m : Message). IsOrderFor flight x.number phases.Flash x.last m) flight.messages

-- While one may, the cut of a member whose secondary is sealed for it is whole, unless the target's floor forbids a flash.
abbrev pub SealedWhole : AllFields → Flight → Cuts → Moments → Session → Member → Type 0
SealedWhole f flight c M x m = AwaitsFlash flight x → (f m.c.0).floor < x.last → primary_of (f m.b.0) ≡ Some m.a.0 → (f m.b.0).seal ≡ x.last → Whole c M x.number x.last m.a.0

-- that of a member whose target may still go back
abbrev pub RevertibleWhole : AllFields → Cuts → Moments → Session → Member → Type 0
RevertibleWhole f c M x m = (f m.c.0).revertible ≡ true → Whole c M x.number x.last m.a.0

-- and that of each that stands in the group of a number
abbrev pub StandsWhole : Cuts → Moments → Standing → Type 0
StandsWhole c M g = (s n a : ℕ) → g s n a ≡ true → Whole c M s n a

-- a target counts for a number: it was flashed with it and may still go back, or it was committed with it or a later one
abbrev pub number_kept : Fields → ℕ
number_kept f = if f.revertible then f.previous_sequence else f.sequence

-- a target with these fields counts for number n, or for a later one
abbrev pub CountsFor : ℕ → Fields → Type 0
CountsFor n f = ((f.revertible ≡ true) × (f.sequence ≡ n)) ⊎ ((f.member ≡ true) × (n ≤ number_kept f))

-- volume a is the primary of a member of session s, whose target counts for number n
pub record MemberCounts (ss : List Session) (f : AllFields) (s n a : ℕ) : Type 0 where
  pub session : Session
  pub listed : In session ss
  pub number : session.number ≡ s
  pub member : Member
  pub here : In member session.members
  pub is : member.a.0 ≡ a
  pub counts : CountsFor n (f member.c.0)

-- whoever stands in a group is one
abbrev pub StandsAsMember : List Session → AllFields → Standing → Type 0
StandsAsMember ss f g = (s n a : ℕ) → g s n a ≡ true → MemberCounts ss f s n a

-- all laws on the cuts of attempts, by sessions, messages in flight, fields, pending writes, lists, cuts, moments and who stands
pub record ClosingIn (ss : List Session) (flight : Flight) (f : AllFields) (ps : List Pending) (now : Lists) (c : Cuts) (M : Moments) (g : Standing) : Type 0 where
  pub held : (v : ℕ) → HeldAsCut now c v (f v)
  pub free : LandedFree f ps
  pub records : Members ss (RecordsWhole f c M)
  pub sealed : Members ss (SealedWhole f flight c M)
  pub revertible : Members ss (RevertibleWhole f c M)
  pub whole : StandsWhole c M g
  pub members : StandsAsMember ss f g

-- in a world
abbrev pub Closing : World → Type 0
Closing w = ClosingIn w.control.sessions w.control.flight (fields_at w.control) w.control.pending (lists w.events) (cuts w.events) (moments w.events) (standing w.events)
