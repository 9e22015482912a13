-- What a recovery of a session that is defined answers, and why it is refused.
use Rattle.std.specs.Prelude.{◌≡◌, ◌⊎◌, ℕ, true, false, List, ◌∷◌, ◌++◌, Option, Some, None, is_some}
use Rattle.dr_ids.specs.declared.names.Member.{Member}
use Rattle.dr_ids.specs.declared.refusal.Refusal.{Refusal}
use Rattle.dr_model.specs.Refusals.{server_off, stopped}
use Rattle.dr_model.specs.Control.{Control, World}
use Rattle.dr_model.specs.Entries.{fields_at}
use Rattle.dr_model.specs.Sessions.{Session}
use Rattle.dr_model.specs.Groups.{In}
use Rattle.dr_model.specs.PlanParts.{Plan, refuses}
use Rattle.dr_model.specs.RecoveryPlans.{recover_plan, says_group}
use Rattle.dr_model.specs.Carry.{carry}
use Rattle.dr_model.specs.Carried.{begun}
use Rattle.dr_model.specs.Recovery.{decided_over}
use Rattle.dr_laws_recovery.specs.Recovered.{recovered_in}

-- the server of a member's secondary
abbrev pub secondary_server : Control → Member → ℕ
secondary_server k m = (k.volume m.b.0).server

-- the first of some members whose secondary's server is off
pub record FirstOff (k : Control) (ms : List Member) : Type 0 where
  pub before : List Member
  pub member : Member
  pub behind : List Member
  pub is : ms ≡ before ++ member ∷ behind
  pub running : (m : Member) → In m before → k.on (secondary_server k m) ≡ true
  pub off : k.on (secondary_server k member) ≡ false

-- From w to u the server of a member's secondary stopped: it was on, its fuse was armed, and it is off.
pub record Stops (w u : World) (x : Session) (r : Option Refusal) : Type 0 where
  pub member : Member
  pub here : In member x.members
  pub was_on : w.control.on (secondary_server w.control member) ≡ true
  pub armed : is_some (w.control.fuse (secondary_server w.control member)) ≡ true
  pub off : u.control.on (secondary_server w.control member) ≡ false
  pub is : r ≡ Some (stopped (secondary_server w.control member))

-- Where the servers of all secondaries are on, its acts end with the stop of one of them, or they end well, and then it answers the
-- group that recovery makes of the session, with what was decided, or that there is no group.
pub record IsCarriedOut (w : World) (x : Session) : Type 0 where
  pub on : (m : Member) → In m x.members → w.control.on (secondary_server w.control m) ≡ true
  pub ends : let p : Plan = recover_plan w.control x.number in let u : World = (carry (begun w p) p.entries).0 in
      Stops w u x (carry (begun w p) p.entries).1
      ⊎ (((carry (begun w p) p.entries).1 ≡ None) × (p.says u.control ≡ says_group (decided_over (fields_at w.control) w.control.volumes x.number) (recovered_in w x.number).group))

-- Or it is refused since the first server that is off is off, and does nothing.
pub record FirstServerIsOff (w : World) (x : Session) : Type 0 where
  pub first : FirstOff w.control x.members
  pub is : recover_plan w.control x.number ≡ refuses (server_off (secondary_server w.control first.member))

-- a recovery of session x is refused for a server that is off, or runs
abbrev pub AnswersForCause : World → Session → Type 0
AnswersForCause w x = FirstServerIsOff w x ⊎ IsCarriedOut w x
