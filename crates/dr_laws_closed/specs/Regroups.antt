-- How the table of sessions changes, but by a hold: members stay in their session and its attempt, in a phase that isn't an earlier one,
-- or their session is Idle.
use Rattle.std.specs.Prelude.{◌≡◌, ◌⊎◌, List}
use Rattle.dr_ids.specs.declared.names.Member.{Member}
use Rattle.dr_ids.specs.declared.refusal.PhaseName.{PhaseName}
use Rattle.dr_ids.specs.declared.refusal.PhaseName.TheVariants as phase
use Rattle.dr_model.specs.Phases as phases
use Rattle.dr_model.specs.Sessions.{Session}
use Rattle.dr_model.specs.Messages.{Flight, Message}
use Rattle.dr_model.specs.Groups.{In, IsOrderFor}
use Rattle.dr_model.specs.Attempts.{phase_of}
use Rattle.dr_model.specs.Flights.{IsEarly}
use Rattle.dr_laws_closed.specs.Closing.{AwaitsFlash}

-- phase q follows on p: it is Coordinating, or one up to the last flash, only where p is
pub record Eases (p q : PhaseName) : Type 0 where
  pub coordinating : q ≡ phase.Coordinating → p ≡ phase.Coordinating
  pub early : IsEarly q → IsEarly p

-- a member was one of a session
pub record WasIn (ss : List Session) (m : Member) : Type 0 where
  pub session : Session
  pub listed : In session ss
  pub here : In m session.members

-- it was one of the same session, in the same attempt
pub record Stays (ss : List Session) (y : Session) (m : Member) : Type 0 where
  pub was : WasIn ss m
  pub number : y.number ≡ was.session.number
  pub last : y.last ≡ was.session.last
  pub phase : Eases (phase_of was.session.mirror) (phase_of y.mirror)

-- or its session is Idle then; its target was no other member's
pub record Rests (ss : List Session) (y : Session) (m : Member) : Type 0 where
  pub idle : phase_of y.mirror ≡ phase.Idle
  pub target : WasIn ss m ⊎ ((x : Session) (q : Member) → In x ss → In q x.members → q.c.0 ≡ m.c.0 → ⊥)

-- each member of the new table stays in its session and attempt
abbrev pub AllStay : List Session → List Session → Type 0
AllStay ss us = (y : Session) (m : Member) → In y us → In m y.members → Stays ss y m

-- or its session is Idle
abbrev pub Regroups : List Session → List Session → Type 0
Regroups ss us = (y : Session) (m : Member) → In y us → In m y.members → Stays ss y m ⊎ Rests ss y m

-- other messages are in flight, and no flash of an attempt that wasn't awaited
abbrev pub EasesFlight : List Session → Flight → Flight → Type 0
EasesFlight ss flight later = (x : Session) (m : Message) → In x ss → IsOrderFor later x.number phases.Flash x.last m → AwaitsFlash flight x
