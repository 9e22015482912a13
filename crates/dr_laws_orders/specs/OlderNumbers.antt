-- What an order of an older attempt leaves as it was.
use Rattle.std.specs.Prelude.{◌≡◌, ◌≤◌, ◌<◌, ℕ, max, Bool, List, take, Option, Some}
use Rattle.dr_ids.specs.declared.refusal.Refusal.{Refusal}
use Rattle.dr_model.specs.Control.{Control, World}
use Rattle.dr_model.specs.Entries.{fields_at}
use Rattle.dr_model.specs.Sessions.{Session, session_in}
use Rattle.dr_model.specs.Messages.{Message}
use Rattle.dr_model.specs.MessagePlans.{deliver_plan}
use Rattle.dr_model.specs.PlanParts.{Plan}
use Rattle.dr_model.specs.Carry.{carry}
use Rattle.dr_model.specs.Carried.{begun, after_plan}
use Rattle.dr_model.specs.ReadStops.{Ends}
use Rattle.dr_model.specs.Table.{table}
use Rattle.dr_model.specs.Laws.{shown}
use Rattle.dr_model.specs.Runs.{Task, run}
use Rattle.dr_laws_recovery.specs.BothViews.{set_aside}
use Rattle.dr_laws_orders.specs.Arrivals.{IsOrderAt}

-- a number is as it was, or has risen, but not past n
pub record RisesTo (n old new : ℕ) : Type 0 where
  pub higher : old ≤ new
  pub low : new ≤ max old n

-- Volume v is in world u as it was in w. Each of its tracks contains and shows the same, and what is set aside for a target that goes back is
-- the same. So is all that its record says, as whether it records, what has changed since and whether it is held, its seal, its number
-- and whether it is revertible or a member's, but for two numbers: the last attempt of a primary and the floor of a target may have risen,
-- but not past n.
pub record IsUnchanged (n : ℕ) (w u : World) (v : ℕ) : Type 0 where
  pub contains : (t : ℕ) → u.contents v t ≡ w.contents v t
  pub shows : (t : ℕ) → shown (table u) v t ≡ shown (table w) v t
  pub aside : (t : ℕ) → set_aside (table u) v t ≡ set_aside (table w) v t
  pub says : fields_at u.control v ≡ record (fields_at w.control v) { attempt = (fields_at u.control v).attempt; floor = (fields_at u.control v).floor }
  pub attempt : RisesTo n (fields_at w.control v).attempt (fields_at u.control v).attempt
  pub floor : RisesTo n (fields_at w.control v).floor (fields_at u.control v).floor

-- A plan leaves each volume so: after each of its entries, where servers go off by themselves between them, and as its step is answered.
pub record LeavesVolumes (n : ℕ) (w : World) (p : Plan) : Type 0 where
  pub moments : (i v : ℕ) → IsUnchanged n w (carry (begun w p) (take i p.entries)).0 v
  pub reads : (armed : ℕ → Bool) (u : World) (r : Option Refusal) → Ends armed u r (begun w p) p.entries → (v : ℕ) → IsUnchanged n w u v
  pub after : (line v : ℕ) → IsUnchanged n w (after_plan w line p) v

-- The message of number n is an order of an older attempt: one with a number below its session's last.
pub record IsOlder (k : Control) (n : ℕ) (m : Message) : Type 0 where
  pub order : IsOrderAt k n m
  pub session : Session
  pub found : session_in k.sessions m.session ≡ Some session
  pub number : m.order.number < session.last

-- where a run leads, the delivery of each order of an older attempt does
abbrev pub OlderOrdersLeaveVolumes : List Task → Type 0
OlderOrdersLeaveVolumes tasks = (n : ℕ) (m : Message) → IsOlder (run tasks).control n m → LeavesVolumes m.order.number (run tasks) (deliver_plan (run tasks).control n)
