-- Control messages in flight: orders on their way to servers, and replies on theirs to masters. Nothing says when one arrives, or that
-- it does: a script sends, delivers and loses them.
use Rattle.std.specs.Prelude.{ℕ, Bool, true, false, not, max, ◌+◌, ◌==◌, ◌&&◌, List, [], ◌∷◌, ◌++◌, filter, length, nat_le, Option, Some, None, if◌then◌else◌}
use Rattle.std.specs.List.{find, list_any}
use Rattle.dr_logic.specs.Tables.{at, at2}
use Rattle.dr_ids.specs.declared.refusal.PhaseName.{PhaseName}
use Rattle.dr_ids.specs.declared.refusal.PhaseName.TheVariants as phase
use Rattle.dr_model.specs.Limits.{most_messages}
use Rattle.dr_model.specs.Phases.{Work, Order, Reply, aborted_phase}
use Rattle.dr_model.specs.Phases as phases
use Rattle.dr_model.specs.Sessions.{Session, Mirror, is_only}

-- what a message is: an order, sent when its server had been started so often; or what a server replied to an order
pub data Body : Type 0 where
  Asks : (starts : ℕ) → Body
  Replies : (reply : Reply) → Body

-- a message: its number, counted from 1; the number of its session, and the epoch of that when the order was sent; the server that the
-- order goes to, or that replied; and that order
pub record Message : Type 0 where
  pub number : ℕ
  pub session : ℕ
  pub epoch : ℕ
  pub server : ℕ
  pub order : Order
  pub body : Body

-- The messages in flight, in the order in which they were made, and how many ever were; how often each server was started; and of each
-- number of a session, whether it has one now or not, its epoch, and the fence of each server. The epoch rises where a master of that
-- number is appointed, and where one is lost. A server's fence is the latest epoch for which it has carried out a report: it carries
-- out no order of an earlier one.
pub record Flight : Type 0 where
  pub messages : List Message
  pub made : ℕ
  pub starts : ℕ → ℕ
  pub epoch : ℕ → ℕ
  pub fence : ℕ → ℕ → ℕ

-- nothing was sent, and no server started
abbrev pub no_flight : Flight
no_flight = record { messages = []; made = 0; starts = λ x. 0; epoch = λ s. 0; fence = λ s x. 0 }

-- ---- what is asked of it

-- the message of that number, if it is in flight
abbrev pub message_in : Flight → ℕ → Option Message
message_in f n = find (λ m. m.number == n) f.messages

-- no more messages have room
abbrev pub is_full : Flight → Bool
is_full f = nat_le most_messages (length f.messages)

-- An order that was sent when its server had been started so often is still one to carry out: the server wasn't started since, and has
-- reported for no later epoch.
abbrev pub is_current : Flight → Message → ℕ → Bool
is_current f m starts = starts == f.starts m.server && nat_le (f.fence m.session m.server) m.epoch

-- ---- what becomes of it

-- one message more, which has the next number
abbrev pub with_message : ℕ → ℕ → ℕ → Order → Body → Flight → Flight
with_message s epoch server o body f = record f {
  messages = f.messages ++ (record { number = f.made + 1; session = s; epoch = epoch; server = server; order = o; body = body }) ∷ [];
  made = f.made + 1;
}

-- an order of session s is sent to a server
abbrev pub sent : ℕ → ℕ → Order → Flight → Flight
sent s server o f = with_message s (f.epoch s) server o (Asks (f.starts server)) f

-- the server replies to the order that came as m
abbrev pub answered : Message → Reply → Flight → Flight
answered m reply f = with_message m.session m.epoch m.server m.order (Replies reply) f

-- the message of that number is gone
abbrev pub lost : ℕ → Flight → Flight
lost n f = record f { messages = filter (λ m. not (m.number == n)) f.messages }

-- all messages of session s are gone
abbrev pub forgotten : ℕ → Flight → Flight
forgotten s f = record f { messages = filter (λ m. not (m.session == s)) f.messages }

-- a server is started once more
abbrev pub started : ℕ → Flight → Flight
started server f = record f { starts = at f.starts server (f.starts server + 1) }

-- a new epoch begins for session s
abbrev pub raised : ℕ → Flight → Flight
raised s f = record f { epoch = at f.epoch s (f.epoch s + 1) }

-- a server has reported for that epoch: its fence is no lower
abbrev pub fenced : ℕ → ℕ → ℕ → Flight → Flight
fenced s server epoch f = record f { fence = at2 f.fence s server (max (f.fence s server) epoch) }

-- ---- what masters and orders do to it

-- an order that is carried out is a report: the server's fence rises to that epoch
abbrev pub heard : ℕ → ℕ → ℕ → Work → Flight → Flight
heard s server epoch phases.Report f = fenced s server epoch f
heard s server epoch work f = f

-- the next phase, if there is one, is Lost
abbrev pub is_lost : Option PhaseName → Bool
is_lost (Some phase.Lost) = true
is_lost p = false

-- an abort of session s that makes its master Lost begins an epoch
abbrev pub aborted : ℕ → Option Mirror → Flight → Flight
aborted s None f = f
aborted s (Some r) f = if is_lost (aborted_phase r.master.phase) then raised s f else f

-- with the last logical subsystem that leaves it a session's messages are gone
abbrev pub left : ℕ → ℕ → Session → Flight → Flight
left s l x f = if is_only l x then forgotten s f else f

-- a master whose server was on, by the first test, and is off now, by the second, is lost: without members it stays Idle
abbrev pub loses : (ℕ → Bool) → (ℕ → Bool) → Mirror → Bool
loses before now r = before r.server && (not (now r.server) && is_lost (Some (phases.phase_lost r.master.servers)))

-- so is that of a session, if it has one
abbrev pub loses_master : (ℕ → Bool) → (ℕ → Bool) → Option Mirror → Bool
loses_master before now None = false
loses_master before now (Some r) = loses before now r

-- session s is one of those that lose their master
abbrev pub loses_in : (ℕ → Bool) → (ℕ → Bool) → ℕ → List Session → Bool
loses_in before now s ss = list_any (λ x. x.number == s && loses_master before now x.mirror) ss

-- an epoch begins for each session that loses its master as servers go off
abbrev pub lost_since : (ℕ → Bool) → (ℕ → Bool) → List Session → Flight → Flight
lost_since before now ss f = record f { epoch = λ s. if loses_in before now s ss then f.epoch s + 1 else f.epoch s }
