-- What the flashes of a journal have to do with the sessions of a world.
use Rattle.std.proofs.Common.{ℕ, ◌≡◌, ◌≤◌, ◌⊎◌, Bool, true, false, List}
use Rattle.dr_ids.specs.declared.names.Member.{Member}
use Rattle.dr_ids.specs.declared.refusal.PhaseName.TheVariants as phase
use Rattle.dr_model.specs.declared.event.Event.{Event}
use Rattle.dr_model.specs.Layout.{Fields}
use Rattle.dr_model.specs.Phases as phases
use Rattle.dr_model.specs.Messages.{Flight, Message}
use Rattle.dr_model.specs.Sessions.{Session}
use Rattle.dr_model.specs.Control.{World}
use Rattle.dr_model.specs.Entries.{fields_at}
use Rattle.dr_model.specs.Groups.{In, IsOrderFor}
use Rattle.dr_model.specs.Attempts.{Seen, Any, SomeCommitted, role_of, all_seen, phase_of}
use Rattle.dr_model.specs.Flights.{IsEarly}
use Rattle.dr_laws_sound.proofs.GoesOn.{IsTold}
use Rattle.dr_laws_commits.specs.Flashed.{FlashedIn, AllFlashedIn}

-- the fields of all volumes
abbrev pub AllFields : Type 0
AllFields = ℕ → Fields

-- the members of a session, where volumes have these fields
abbrev pub members_seen : AllFields → Session → List Seen
members_seen F x = all_seen (λ v. role_of (F v)) x.members

-- a lost master was told of a member with the last number that can go back, or that can't, or a reply in flight tells of it
abbrev pub ToldOf : Flight → Session → Bool → Type 0
ToldOf f x b = IsTold f x (record { sequence = x.last; revertible = b })

-- a member can go back, or was reported so
abbrev pub IsOpen : Flight → AllFields → Session → Type 0
IsOpen f F x = Any (λ (v : Seen). v.revertible ≡ true) (members_seen F x) ⊎ ToldOf f x true

-- an order to commit the last number is in flight
abbrev pub CommitFlies : Flight → Session → Type 0
CommitFlies f x = Any (λ (m : Message). IsOrderFor f x.number phases.Commit x.last m) f.messages

-- beside members: one that can't go back was reported with the last number, or an order to commit that is in flight
abbrev pub IsBound : Flight → Session → Type 0
IsBound f x = ToldOf f x false ⊎ CommitFlies f x

-- a member is committed with the last number, or was reported so, or may be by an order
abbrev pub IsSettling : Flight → AllFields → Session → Type 0
IsSettling f F x = SomeCommitted x.last (members_seen F x) ⊎ IsBound f x

-- Each member of session x whose target can go back was flashed in its last attempt; up to the last flash so was each whose floor has reached its
-- number; and so were all where the master commits, and where some can go back and some can't any more.
pub record WereFlashed (f : Flight) (F : AllFields) (events : List Event) (x : Session) : Type 0 where
  pub turned : (m : Member) → In m x.members → (F m.c.0).revertible ≡ true → FlashedIn events x.number x.last m.a.0
  pub reached : IsEarly (phase_of x.mirror) → (m : Member) → In m x.members → x.last ≤ (F m.c.0).floor → FlashedIn events x.number x.last m.a.0
  pub commits : phase_of x.mirror ≡ phase.Committing → AllFlashedIn events x x.last
  pub settles : IsOpen f F x → IsSettling f F x → AllFlashedIn events x x.last

-- so in a world
abbrev pub AllWereFlashed : World → Type 0
AllWereFlashed w = (x : Session) → In x w.control.sessions → WereFlashed w.control.flight (fields_at w.control) w.events x
