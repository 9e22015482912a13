-- Messages that arrive, and what they are refused for.
use Rattle.std.specs.Prelude.{ℕ, Option, Some, None, Result, Ok, Err}
use Rattle.std.specs.Option.{option_or}
use Rattle.dr_ids.specs.declared.refusal.Refusal.{Refusal}
use Rattle.dr_ids.specs.declared.refusal.Kind.TheVariants.{Session as OfSession}
use Rattle.dr_master.specs.Seen.{order_of}
use Rattle.dr_model.specs.declared.said.Addition.TheVariants.{Posted}
use Rattle.dr_model.specs.declared.said.Said.{Said}
use Rattle.dr_model.specs.declared.said.Said.TheVariants.{Done, Refused}
use Rattle.dr_model.specs.Control.{Control}
use Rattle.dr_model.specs.Messages.{Message, Body, Asks}
use Rattle.dr_model.specs.MessagePlans as plans
use Rattle.dr_model.specs.PlanParts.{Plan, on_session}
use Rattle.dr_model.specs.Refusals.{unknown}
use Rattle.dr_model.specs.SessionPlans.{off_refusal}
use Rattle.dr_model.specs.Sessions.{Session, Mirror, session_in, no_master}
use Rattle.dr_steps.specs.declared.delivering.Arrived.{Arrived}

-- the message that arrives, with that body
abbrev pub message_at : Arrived → Body → Message
message_at x body = record { number = x.number; session = x.session.0; epoch = x.epoch; server = x.server.0; order = order_of x.order; body = body }

-- by the session's master: an order that was sent when its server had been started so often
abbrev pub order_refusal_by : Control → Arrived → ℕ → Option Mirror → Option Refusal
order_refusal_by k x starts None = no_master
order_refusal_by k x starts (Some r) = plans.order_refusal k r (message_at x (Asks starts)) starts

-- by its session
abbrev pub order_refusal_of : Control → Arrived → ℕ → Option Session → Option Refusal
order_refusal_of k x starts None = Some (unknown OfSession)
order_refusal_of k x starts (Some y) = option_or (off_refusal k x.server.0) (order_refusal_by k x starts y.mirror)

-- why an order isn't carried out
abbrev pub order_refusal_in : Control → Arrived → ℕ → Option Refusal
order_refusal_in k x starts = order_refusal_of k x starts (session_in k.sessions x.session.0)

-- by the session's master: a reply, with what it says
abbrev pub reply_refusal_by : Control → Message → Option Mirror → Option Refusal
reply_refusal_by k m None = no_master
reply_refusal_by k m (Some r) = plans.reply_refusal k r m

-- by its session
abbrev pub reply_refusal_of : Control → Message → Option Session → Option Refusal
reply_refusal_of k m None = Some (unknown OfSession)
reply_refusal_of k m (Some y) = reply_refusal_by k m y.mirror

-- why a reply isn't taken
abbrev pub reply_refusal_in : Control → Message → Option Refusal
reply_refusal_in k m = reply_refusal_of k m (session_in k.sessions m.session)

-- what is said of a message that is made: its number, or why there is none
abbrev pub posted_by : Result ℕ Refusal → Said
posted_by (Ok m) = Done (Posted m)
posted_by (Err why) = Refused why

-- what a message that is in flight comes to as it arrives
abbrev pub arrives : Control → Message → Plan
arrives k m = on_session (session_in k.sessions m.session) (λ y. plans.deliver_on k m y m.body)
