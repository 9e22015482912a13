-- The step table for lines on control messages.
use Rattle.std.specs.Prelude.{ℕ, Bool, true, false, ◌==◌, ◌&&◌, List, [], ◌∷◌, Option, Some, None, if◌then◌else◌}
use Rattle.std.specs.Option.{option_or}
use Rattle.dr_ids.specs.declared.names.Member.{Member}
use Rattle.dr_ids.specs.declared.refusal.PhaseName.TheVariants as phase
use Rattle.dr_ids.specs.declared.refusal.Kind.TheVariants.{Message as OfMessage}
use Rattle.dr_ids.specs.declared.refusal.Which.TheVariants as limit
use Rattle.dr_ids.specs.declared.refusal.Refusal.{Refusal}
use Rattle.dr_ids.specs.declared.refusal.Refusal.TheVariants.{OutOfOrder, OldMessage}
use Rattle.dr_model.specs.declared.event.Event.{Event}
use Rattle.dr_model.specs.declared.event.Event.TheVariants.{Begin}
use Rattle.dr_model.specs.declared.said.Addition.TheVariants.{Alone, Posted}
use Rattle.dr_model.specs.declared.said.Said.{Said}
use Rattle.dr_model.specs.declared.said.Said.TheVariants.{Done}
use Rattle.dr_model.specs.declared.step.Name.{Name}
use Rattle.dr_model.specs.Refusals.{unknown, over}
use Rattle.dr_model.specs.Control.{Control}
use Rattle.dr_model.specs.Phases as phases
use Rattle.dr_model.specs.Messages.{Message, Asks, Replies, Body, Flight, message_in, is_full, is_current, sent, answered, lost, heard}
use Rattle.dr_model.specs.Sessions.{Session, Mirror, session_in, changed, begun, with_master}
use Rattle.dr_model.specs.PlanParts.{Plan, same, none_follow, tables_plan, refuses, unless, on_server, on_session}
use Rattle.dr_model.specs.SessionEntries.{order_entries, members_on, reply_after}
use Rattle.dr_model.specs.SessionPlans.{with_sessions, off_refusal, apart_refusal, phase_refusal, is_idle, order_of, says_phase}

-- what becomes of the messages in flight
abbrev pub with_flight : (Flight → Flight) → Control → Control
with_flight f k = record k { flight = f k.flight }

-- what needs a message, if it is in flight
abbrev pub on_message : Option Message → (Message → Plan) → Plan
on_message None plan = refuses (unknown OfMessage)
on_message (Some m) plan = plan m

-- there are as many messages in flight as may be
abbrev pub full_refusal : Flight → Option Refusal
full_refusal f = if is_full f then Some (over limit.Messages) else None

-- a step that makes a message says its number
abbrev pub says_posted : Control → Said
says_posted k = Done (Posted k.flight.made)

-- ---- an order is sent

-- an order of session s is sent to a server; it may begin the attempt
abbrev pub sending : ℕ → Bool → ℕ → phases.Order → Control → Control
sending s begins server o k = record k { sessions = if begins then changed s begun k.sessions else k.sessions; flight = sent s server o k.flight }

-- the journal is told of an attempt that begins
abbrev pub told_begun : Bool → ℕ → ℕ → List Event
told_begun begins s n = if begins then Begin s n ∷ [] else []

-- What refuses an exchange for its master and the order that is owed refuses a send, too; and there may be no room for a message. The
-- server that it is sent to may be off, and the link to it down.
abbrev pub send_refusal : Control → Mirror → ℕ → List Member → Option Refusal
send_refusal k r server ms = option_or (off_refusal k r.server) (option_or (phase_refusal r server ms) (full_refusal k.flight))

-- the order that is owed; in Idle the first one of the next attempt, which begins with it
abbrev pub send_order : ℕ → Bool → ℕ → Option phases.Order → Plan
send_order s begins server None = refuses (OutOfOrder phase.None)
send_order s begins server (Some o) = record {
  first = sending s begins server o;
  told = told_begun begins s o.number;
  entries = [];
  follows = none_follow;
  last = same;
  says = says_posted;
}

-- by the session's master, refused where there is none
abbrev pub send_on : Control → ℕ → Option Mirror → ℕ → List Member → Plan
send_on k s None server ms = refuses (OutOfOrder phase.None)
send_on k s (Some r) server ms = unless (send_refusal k r server ms) (send_order s (is_idle r.master.phase) server (order_of r server))

-- `@send`
abbrev pub send_plan : Control → ℕ → Name → Plan
send_plan k s name = on_session (session_in k.sessions s) (λ x. on_server k name (λ server. send_on k s x.mirror server x.members))

-- ---- an order arrives

-- the order is an old one: it isn't carried out any more
abbrev pub old_refusal : Message → Bool → Option Refusal
old_refusal m current = if current then None else Some (OldMessage m.number)

-- the master's server and the one that the order goes to can't reach each other; there is no room for the reply; it is an old one
abbrev pub order_refusal : Control → Mirror → Message → ℕ → Option Refusal
order_refusal k r m starts = option_or (apart_refusal k r.server m.server) (option_or (full_refusal k.flight) (old_refusal m (is_current k.flight m starts)))

-- a server has carried out the order that came as m over these members: it replies, and a report raises its fence
abbrev pub replying : Message → List Member → Control → Control
replying m ms k = with_flight (λ f. answered m (reply_after m.session m.order.work ms k) (heard m.session m.server m.epoch m.order.work f)) k

-- its server carries it out over its members, and replies
abbrev pub order_done : Message → List Member → Plan
order_done m ms = record {
  first = same;
  told = [];
  entries = order_entries m.order.work m.session m.order.number ms;
  follows = none_follow;
  last = replying m ms;
  says = says_posted;
}

-- where the session has a master
abbrev pub order_on : Control → Message → ℕ → List Member → Option Mirror → Plan
order_on k m starts ms None = refuses (OutOfOrder phase.None)
order_on k m starts ms (Some r) = unless (order_refusal k r m starts) (order_done m (members_on m.server ms))

-- ---- a reply arrives

-- two kinds of work are one
abbrev pub is_same_work : phases.Work → phases.Work → Bool
is_same_work phases.Hold phases.Hold = true
is_same_work phases.Release phases.Release = true
is_same_work phases.Seal phases.Seal = true
is_same_work phases.Flash phases.Flash = true
is_same_work phases.Commit phases.Commit = true
is_same_work phases.Revert phases.Revert = true
is_same_work phases.Finish phases.Finish = true
is_same_work phases.Report phases.Report = true
is_same_work v w = false

-- the order that is owed, if one is, is that one
abbrev pub is_owed_order : Option phases.Order → phases.Order → Bool
is_owed_order None o = false
is_owed_order (Some p) o = is_same_work p.work o.work && p.number == o.number

-- the master awaits that reply: it is one of its epoch, to just the order that the server is owed
abbrev pub is_awaited : Flight → Mirror → Message → Bool
is_awaited f r m = m.epoch == f.epoch m.session && is_owed_order (phases.order_for r.master m.server) m.order

-- the master's server is off, or can't reach the one that replied; the reply is an old one
abbrev pub reply_refusal : Control → Mirror → Message → Option Refusal
reply_refusal k r m = option_or (off_refusal k r.server) (option_or (apart_refusal k r.server m.server) (old_refusal m (is_awaited k.flight r m)))

-- the master takes the reply that came as m
abbrev pub taking : Message → phases.Reply → Control → Control
taking m reply = with_sessions (changed m.session (with_master (λ q. phases.taken q m.server reply)))

-- where the session has a master
abbrev pub reply_on : Control → Message → phases.Reply → Option Mirror → Plan
reply_on k m reply None = refuses (OutOfOrder phase.None)
reply_on k m reply (Some r) = unless (reply_refusal k r m) (record (tables_plan (taking m reply) [] (Done Alone)) { says = says_phase m.session })

-- ---- a message arrives, or is lost

-- an order at its server, which has to be on; a reply at its master
abbrev pub deliver_on : Control → Message → Session → Body → Plan
deliver_on k m x (Asks starts) = unless (off_refusal k m.server) (order_on k m starts x.members x.mirror)
deliver_on k m x (Replies reply) = reply_on k m reply x.mirror

-- `@deliver`: the message stays in flight, and may come again
abbrev pub deliver_plan : Control → ℕ → Plan
deliver_plan k n = on_message (message_in k.flight n) (λ m. on_session (session_in k.sessions m.session) (λ x. deliver_on k m x m.body))

-- `@lose`: the message is gone
abbrev pub lose_plan : Control → ℕ → Plan
lose_plan k n = on_message (message_in k.flight n) (λ m. tables_plan (with_flight (lost n)) [] (Done Alone))
