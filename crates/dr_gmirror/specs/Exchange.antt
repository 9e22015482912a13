-- Exchanges between a session's master and a server.
use Rattle.std.specs.Prelude.{◌≡◌, ◌≢◌, ℕ, ◌<◌, ◌+◌, Bool, true, false, ◌&&◌, List, [], ◌∷◌, length, nat_le, Option, Some, None, option_map, Result, Ok, Err}
use Rattle.std.specs.Option.{option_or}
use Rattle.dr_ids.specs.declared.names.Member.{Member}
use Rattle.dr_ids.specs.declared.refusal.PhaseName.{PhaseName}
use Rattle.dr_ids.specs.declared.refusal.PhaseName.TheVariants as phase
use Rattle.dr_ids.specs.declared.refusal.Refusal.{Refusal}
use Rattle.dr_ids.specs.declared.refusal.Refusal.TheVariants.{OutOfOrder}
use Rattle.dr_master.specs.Seen.{order_of as order_seen, work_of}
use Rattle.dr_master.specs.declared.orders.OrderKind.{OrderKind}
use Rattle.dr_model.specs.declared.said.Said.{Said}
use Rattle.dr_model.specs.declared.said.Said.TheVariants.{Refused}
use Rattle.dr_model.specs.Messages.{Message, Flight, heard}
use Rattle.dr_model.specs.MessagePlans.{order_done, deliver_plan}
use Rattle.dr_model.specs.Phases as phases
use Rattle.dr_model.specs.Sessions.{Mirror, Session, session_in, mirror_in, members_in}
use Rattle.dr_model.specs.Control.{Control, World}
use Rattle.dr_model.specs.PlanParts.{Plan}
use Rattle.dr_model.specs.Runs.{begun, finish, stop_place, answered}
use Rattle.dr_model.specs.ReadStops.{Ends}
use Rattle.dr_model.specs.SessionEntries.{order_entries, members_on, reply_after}
use Rattle.dr_model.specs.SessionPlans.{exchange_refusal, off_refusal, phase_refusal, order_of, says_phase}
use Rattle.dr_volume.specs.View.{Rest, with_flight}
use Rattle.dr_moves.specs.Turns.{Leads}
use Rattle.dr_gmirror.specs.declared.looks.Look.{Look}
use Rattle.dr_gmirror.specs.Orders.{MayOrder, with_sessions}

-- A plan is carried out from w, where reads may fail: how its entries ended, what follows, and what is answered.
pub record PlanEnds (armed : ℕ → Bool) (w : World) (p : Plan) (u : World) (answer : Said) : Type 0 where
  pub middle : World
  pub refusal : Option Refusal
  pub ends : Ends armed middle refusal (begun w p) p.entries
  pub world : u ≡ finish p (stop_place w p) middle refusal
  pub answers : answer ≡ answered p u.control refusal

-- what an exchange answers: its session's phase after it, or why it failed
abbrev pub exchange_answer : Result OrderKind Refusal → ℕ → Control → Said
exchange_answer (Ok kind) s k = says_phase s k
exchange_answer (Err why) s k = Refused why

-- the messages in flight behind it: where the order that was carried out is a report, the server's fence has risen to the session's epoch
abbrev pub exchange_flight : Result OrderKind Refusal → ℕ → ℕ → Flight → Flight
exchange_flight (Ok kind) s server f = heard s server (f.epoch s) (work_of kind) f
exchange_flight (Err why) s server f = f

-- what else a run knows behind it, with these sessions
abbrev pub exchange_rest : Result OrderKind Refusal → ℕ → ℕ → List Session → Rest → Rest
exchange_rest result s server ss r = with_flight (exchange_flight result s server r.flight) (with_sessions ss r)

-- why the master has no order for the server: there is no master, or its server is off, or its phase says so
abbrev pub asking_refusal_in : Control → Option Mirror → ℕ → List Member → Option Refusal
asking_refusal_in k None server ms = Some (OutOfOrder phase.None)
asking_refusal_in k (Some r) server ms = option_or (off_refusal k r.server) (phase_refusal r server ms)

-- why there is no exchange: there is no master, or the master and the server say so
abbrev pub refusal_in : Control → Option Mirror → ℕ → List Member → Option Refusal
refusal_in k None server ms = Some (OutOfOrder phase.None)
refusal_in k (Some r) server ms = exchange_refusal k r server ms

-- the message of number j is this order of session s, which its server carries out over its members as it is delivered
abbrev pub Delivers : Control → ℕ → ℕ → ℕ → phases.Order → List Member → Type 0
Delivers k j s server o ms = (m : Message) × (m.session ≡ s) × (m.order ≡ o) × (deliver_plan k j ≡ order_done m (members_on server ms))

-- the order that is carried out
abbrev pub order_in : Option Mirror → ℕ → Option phases.Order
order_in None server = None
order_in (Some r) server = order_of r server

-- what an exchange looks at of a master
pub record Looks (x : Look) (r : Mirror) (server : ℕ) : Type 0 where
  pub runs : x.server.0 ≡ r.server
  pub paused : x.paused ≡ r.paused
  pub phase : x.phase ≡ r.master.phase
  pub number : x.number ≡ r.master.number
  pub owed : option_map order_seen x.owed ≡ phases.order_for r.master server

-- of a session with a master or without one
abbrev pub LooksAt : Option Look → Option Mirror → ℕ → Type 0
LooksAt None None server = Unit {0}
LooksAt (Some x) (Some r) server = Looks x r server
LooksAt _ _ server = ⊥

-- of how many members a reply speaks
abbrev pub members_in_reply : phases.Reply → ℕ
members_in_reply (phases.Reported xs) = length xs
members_in_reply y = 0

-- whether it says what members show
abbrev pub says_shown : phases.Reply → Bool
says_shown (phases.Reported xs) = true
says_shown y = false

-- whether there is a master that is Lost, and all have reported to it
abbrev pub is_lost : PhaseName → Bool
is_lost phase.Lost = true
is_lost p = false

-- nobody is left
abbrev pub is_none : List ℕ → Bool
is_none [] = true
is_none (s ∷ rest) = false

-- the master is lost, and all have reported to it
abbrev pub can_settle : Option Mirror → Bool
can_settle None = false
can_settle (Some r) = is_lost r.master.phase && is_none r.master.owed

-- whether there is a master, and it awaits this reply, and all reports to it speak of 64 members at most
abbrev pub is_awaited : Option Mirror → ℕ → phases.Reply → Bool
is_awaited None server y = false
is_awaited (Some r) server y = phases.awaits r.master server y && nat_le (length r.master.reports + members_in_reply y) 64

-- The master runs on a server that is defined, and is in a phase.
pub record IsNear (names : ℕ) (r : Mirror) : Type 0 where
  pub low : r.server < 8
  pub known : r.server < names
  pub in_phase : r.master.phase ≢ phase.None

-- The order that the server carries out may come, and where the entries lead on, the master awaits the reply.
pub record MayExchange (w : World) (s server : ℕ) (o : phases.Order) : Type 0 where
  pub may : MayOrder o.work w.control.sessions s o.number
  pub awaited : (v : World) → Leads w (order_entries o.work s o.number (members_on server (members_in (session_in w.control.sessions s)))) v
      → is_awaited (mirror_in (session_in v.control.sessions s)) server (reply_after s o.work (members_on server (members_in (session_in w.control.sessions s))) v.control) ≡ true
