-- What a takeover does for the targets of members: no exchange touches that of a member whose secondary was taken over, and a recovery
-- touches none before all secondaries are.
use Rattle.std.specs.Prelude.{◌≡◌, ◌≢◌, ℕ, Bool, false, take, Option}
use Rattle.dr_ids.specs.declared.names.Member.{Member}
use Rattle.dr_ids.specs.declared.refusal.Refusal.{Refusal}
use Rattle.dr_model.specs.Layout.{is_part}
use Rattle.dr_model.specs.Control.{World}
use Rattle.dr_model.specs.Pairs.{is_secondary_of}
use Rattle.dr_model.specs.Entries.{fields_at}
use Rattle.dr_model.specs.Sessions.{Session}
use Rattle.dr_model.specs.Groups.{In}
use Rattle.dr_model.specs.PlanParts.{Plan}
use Rattle.dr_model.specs.Carry.{carry}
use Rattle.dr_model.specs.Carried.{begun, after_plan}
use Rattle.dr_model.specs.ReadStops.{Ends}

-- the record of a member's target is as it was, so it was neither flashed nor committed nor reverted
abbrev pub IsLeft : World → World → Member → Type 0
IsLeft w u m = fields_at u.control m.c.0 ≡ fields_at w.control m.c.0

-- A plan leaves it so: after each of its entries, where servers go off by themselves between them, and as its step is answered.
pub record LeavesTarget (w : World) (p : Plan) (m : Member) : Type 0 where
  pub moments : (n : ℕ) → IsLeft w (carry (begun w p) (take n p.entries)).0 m
  pub reads : (armed : ℕ → Bool) (u : World) (r : Option Refusal) → Ends armed u r (begun w p) p.entries → IsLeft w u m
  pub after : (line : ℕ) → IsLeft w (after_plan w line p) m

-- Where a target of a session's members isn't as it was as the plan began, none of their secondaries is one any more.
abbrev pub TakenBefore : World → World → Session → Type 0
TakenBefore w u x = (m q : Member) → In m x.members → In q x.members → fields_at u.control m.c.0 ≢ fields_at w.control m.c.0 → is_part (fields_at u.control q.b.0).secondary ≡ false

-- at each moment of a plan, also where servers go off by themselves, and as its step is answered
pub record TakesOverFirst (w : World) (p : Plan) (x : Session) : Type 0 where
  pub moments : (n : ℕ) → TakenBefore w (carry (begun w p) (take n p.entries)).0 x
  pub reads : (armed : ℕ → Bool) (u : World) (r : Option Refusal) → Ends armed u r (begun w p) p.entries → TakenBefore w u x
  pub after : (line : ℕ) → TakenBefore w (after_plan w line p) x

-- no member's secondary is its primary's, as after the takeovers of a recovery
abbrev pub AreTaken : World → Session → Type 0
AreTaken w x = (m : Member) → In m x.members → is_secondary_of m.a.0 (fields_at w.control m.b.0) ≡ false
