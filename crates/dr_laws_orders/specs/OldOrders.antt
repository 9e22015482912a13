-- Orders that were sent before a master was lost, once it has gone on.
use Rattle.std.specs.Prelude.{◌≡◌, ◌<◌, ℕ, List}
use Rattle.dr_ids.specs.declared.names.Member.{Member}
use Rattle.dr_model.specs.Control.{Control, World}
use Rattle.dr_model.specs.Sessions.{Session}
use Rattle.dr_model.specs.Messages.{Message}
use Rattle.dr_model.specs.MessagePlans.{deliver_plan}
use Rattle.dr_model.specs.Groups.{In, IsOrder}
use Rattle.dr_model.specs.Attempts.{phase_of}
use Rattle.dr_model.specs.Flights.{IsFenced}
use Rattle.dr_model.specs.Runs.{Task, after_tasks, run}
use Rattle.dr_laws_orders.specs.Arrivals.{IsRefused}

-- An order of session x's last attempt that was sent before its master was lost: it is in flight, of an earlier epoch than the session's,
-- and to the server of one of its members.
pub record IsFromBefore (k : Control) (x : Session) (m : Message) : Type 0 where
  pub order : IsOrder k.flight x.number m
  pub number : m.order.number ≡ x.last
  pub earlier : m.epoch < k.flight.epoch x.number
  pub member : Member
  pub here : In member x.members
  pub to : member.server.0 ≡ m.server

-- the delivery of message n is refused, now and after any further steps
abbrev pub StaysRefused : World → ℕ → Type 0
StaysRefused w n = (more : List Task) → IsRefused (deliver_plan (after_tasks w more).control n)

-- where a run leads to a session that commits, reverts or finishes, each such order is
abbrev pub OldOrdersStayRefused : List Task → Type 0
OldOrdersStayRefused tasks = (x : Session) (m : Message) → In x (run tasks).control.sessions → IsFenced (phase_of x.mirror) → IsFromBefore (run tasks).control x m → StaysRefused (run tasks) m.number
