-- What a refused step leaves: the world as it was, with its answer, but for what stands here by step and refusal. Where a server stops in
-- a step, its refusal says so, and none of this is meant.
use Rattle.std.specs.Prelude.{◌≡◌, ◌⊎◌, ℕ, ◌+◌, Bool, true, false, ◌||◌, List, [], ◌∷◌, ◌++◌, take, drop, Option, Some, None, Result, Ok, if◌then◌else◌}
use Rattle.std.specs.Option.{option_or}
use Rattle.dr_ids.specs.declared.refusal.Refusal.{Refusal}
use Rattle.dr_ids.specs.declared.refusal.Refusal.TheVariants.{ServerOff, NotPrimary, Inhibited, RelationState, NoGroup}
use Rattle.dr_model.specs.declared.event.Event.TheVariants.{Issue}
use Rattle.dr_model.specs.declared.said.Said.TheVariants.{Refused}
use Rattle.dr_model.specs.declared.step.Name.{Name}
use Rattle.dr_model.specs.declared.step.Step.{Step}
use Rattle.dr_model.specs.declared.step.Step.TheVariants.{Write, Apply, Drain, Exchange, Deliver, Recover, Run}
use Rattle.dr_model.specs.Phases as phases
use Rattle.dr_model.specs.Control.{World}
use Rattle.dr_model.specs.Sessions.{Mirror, session_in, mirror_in, members_in}
use Rattle.dr_model.specs.Messages.{Message, message_in}
use Rattle.dr_model.specs.Carry.{Entry, carry, dropped, entries_in}
use Rattle.dr_model.specs.Entries.{fields_at}
use Rattle.dr_model.specs.PairEntries.{drain_stretches, suspend_where, send_refusal, flashed_refusal, held_refusal, tracks_to_send}
use Rattle.dr_model.specs.SessionEntries.{members_on, order_entries}
use Rattle.dr_model.specs.SessionPlans.{order_of, asking}
use Rattle.dr_model.specs.RecoveryPlans.{decided_in, recover_entries}
use Rattle.dr_model.specs.PlanParts.{server_named, name_bytes}
use Rattle.dr_model.specs.Plans.{with_pending, drain_plan}
use Rattle.dr_model.specs.Forming.{part_refusal, after_part, formed}
use Rattle.dr_model.specs.Runs.{Task, course, after_task, run, said}
use Rattle.dr_laws_sound.specs.Stops.{refused_stop}

-- the volume is no place for a host write: a secondary, an inhibited target, or one in a revertible or reversing relationship
abbrev pub is_by_volume : Refusal → Bool
is_by_volume (NotPrimary v) = true
is_by_volume (Inhibited v) = true
is_by_volume (RelationState v seen) = true
is_by_volume _ = false

-- its server is off
abbrev pub is_off : Refusal → Bool
is_off (ServerOff s) = true
is_off _ = false

-- a write was with_issued: it has its number, and waits
abbrev pub with_issued : World → ℕ → ℕ → ℕ → ℕ → List ℕ → World
with_issued w v t offset len bytes = record w { control = with_pending v t w.control; events = w.events ++ Issue (w.control.issued + 1) v t offset len bytes ∷ [] }

-- write n waits no more where its volume refused it, and else stays as it was
abbrev pub let_go : World → ℕ → Refusal → World
let_go w n r = if is_by_volume r then dropped w n else w

-- entries were carried out to their end
abbrev pub CarriesTo : World → List Entry → World → Type 0
CarriesTo w entries u = carry w entries ≡ (u, None)

-- A drain has sent so many of its tracks, and the next one is refused with r; where that is since it can't be sent, the primary is suspended.
pub record HasSent (w : World) (a : ℕ) (most : Option ℕ) (r : Refusal) (u : World) : Type 0 where
  pub tracks : ℕ
  pub leads :
      let b : ℕ = (fields_at w.control a).primary_partner in
      let ts : List ℕ = tracks_to_send most (w.control.volume a).tracks (fields_at w.control a).out_of_sync in
      CarriesTo w (entries_in (drain_stretches w.control a (take tracks ts)) ++ suspend_where (send_refusal a b) a ∷ []) u
  pub refuses :
      let b : ℕ = (fields_at w.control a).primary_partner in
      option_or (send_refusal a b u.control) (option_or (flashed_refusal b u.control) (held_refusal b u.control)) ≡ Some r

-- an order was carried out for so many members of session s on a server, and the others refuse it with r
pub record HasCarriedOrder (w : World) (s server : ℕ) (order : phases.Order) (r : Refusal) (u : World) : Type 0 where
  pub members : ℕ
  pub leads : CarriesTo w (order_entries order.work s order.number (take members (members_on server (members_in (session_in w.control.sessions s))))) u
  pub refuses : carry u (order_entries order.work s order.number (drop members (members_on server (members_in (session_in w.control.sessions s))))) ≡ (u, Some r)

-- so was the order that the server was owed, or the first of the next attempt
pub record HasOrdered (w : World) (s server : ℕ) (r : Refusal) (u : World) : Type 0 where
  pub master : Mirror
  pub found : mirror_in (session_in w.control.sessions s) ≡ Some master
  pub order : phases.Order
  pub owed : order_of master server ≡ Some order
  pub carried : HasCarriedOrder w s server order r u

-- and one that came as message n
pub record HasDelivered (w : World) (n : ℕ) (r : Refusal) (u : World) : Type 0 where
  pub message : Message
  pub found : message_in w.control.flight n ≡ Some message
  pub carried : HasCarriedOrder w message.session message.server message.order r u

-- by the server of that name
pub record NamedOrdered (w : World) (s : ℕ) (name : Name) (r : Refusal) (u : World) : Type 0 where
  pub server : ℕ
  pub named : server_named w.control (name_bytes name) ≡ Some server
  pub order : HasOrdered w s server r u

-- An `@run` goes by drains and by exchanges of session s that aren't refused, until there is nothing more to do or one is refused with r,
-- which leaves what it leaves by itself.
pub data HasFormed (s : ℕ) (r : Refusal) : World → World → Type 0 where
  Stays : (w : World) → HasFormed s r w w
  Drains : (w u : World) → (a : ℕ) → part_refusal w (drain_plan w.control a None) ≡ None → HasFormed s r (after_part w (drain_plan w.control a None)) u → HasFormed s r w u
  Asks : (w u : World) → (server : ℕ) → part_refusal w (asking w.control s server true) ≡ None → HasFormed s r (after_part w (asking w.control s server true)) u → HasFormed s r w u
  DrainEnds : (w u : World) → (a : ℕ) → HasSent w a None r u → HasFormed s r w u
  AskEnds : (w u : World) → (server : ℕ) → HasOrdered w s server r u → HasFormed s r w u

-- a recovery has taken all secondaries over, and has done with all targets what was decided
abbrev pub HasCarriedRecovery : World → ℕ → World → Type 0
HasCarriedRecovery w s u = CarriesTo w (recover_entries s (decided_in s w.control) (members_in (session_in w.control.sessions s))) u

-- What a step that is refused so leaves of a world: of a write that its number is with_issued, but not where it is refused before; of one that its
-- volume refuses that it waits no more; and what a drain, an order, also one that came by a message, a recovery that finds no group, and
-- the plans of an `@run` had done.
abbrev pub Leaves : World → Result Step ℕ → Refusal → World → Type 0
Leaves w (Ok (Write v t offset len bytes)) r u = u ≡ (if is_by_volume r || is_off r then let_go (with_issued w v t offset len bytes) (w.control.issued + 1) r else w)
Leaves w (Ok (Apply n)) r u = u ≡ let_go w n r
Leaves w (Ok (Drain a most)) r u = (u ≡ w) ⊎ HasSent w a most r u
Leaves w (Ok (Exchange s name reply)) r u = (u ≡ w) ⊎ NamedOrdered w s name r u
Leaves w (Ok (Deliver n)) r u = (u ≡ w) ⊎ HasDelivered w n r u
Leaves w (Ok (Recover s)) (NoGroup d) u = HasCarriedRecovery w s u
Leaves w (Ok (Run s n)) r u = (u ≡ (formed w s n).world) × HasFormed s r w u
Leaves w asked r u = u ≡ w

-- the refusal that a step answers, if it is refused
abbrev pub refused_by : World → Task → Option Refusal
refused_by w t = part_refusal (course w t).last.world (course w t).last.plan

-- a refused step leaves what it may, with its answer, and nothing else
pub record LeavesItsDue (w : World) (t : Task) (r : Refusal) : Type 0 where
  pub left : World
  pub leaves : Leaves w t.asked r left
  pub after : after_task w t ≡ said left t.line (Refused r)

-- so does a step where it is refused, but by the stop of a server
abbrev pub StaysRefused : World → Task → Type 0
StaysRefused w t = (r : Refusal) → refused_by w t ≡ Some r → refused_stop (Some r) ≡ None → LeavesItsDue w t r

-- and each step of a run
abbrev pub RefusedStay : List Task → Type 0
RefusedStay tasks = (before rest : List Task) (t : Task) → tasks ≡ before ++ t ∷ rest → StaysRefused (run before) t
