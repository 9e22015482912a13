-- A send puts an order to commit into flight only where each member of its session was flashed with its number.
use Rattle.std.proofs.Common.{ℕ, ◌≡◌, ◌+◌, ◌⊎◌, inl, inr, refl, sym, subst, Bool, [], ◌∷◌, ◌++◌, Option, Some, None}
use Rattle.dr_ids.specs.declared.refusal.PhaseName.TheVariants as phase
use Rattle.dr_ids.specs.declared.refusal.Kind.TheVariants.{Server as OfServer, Session as OfSession}
use Rattle.dr_ids.specs.declared.refusal.Refusal.{Refusal}
use Rattle.dr_ids.specs.declared.refusal.Refusal.TheVariants.{OutOfOrder}
use Rattle.dr_model.specs.declared.step.Name.{Name}
use Rattle.dr_model.specs.Refusals.{unknown}
use Rattle.dr_model.specs.Phases as phases
use Rattle.dr_model.specs.Sessions.{Session, Mirror, session_in}
use Rattle.dr_model.specs.Messages.{Message, Asks}
use Rattle.dr_model.specs.Control.{World}
use Rattle.dr_model.specs.PlanParts.{Plan, refuses, unless, name_bytes, server_named, on_named, on_session, on_server}
use Rattle.dr_model.specs.SessionPlans.{order_of, is_idle}
use Rattle.dr_model.specs.MessagePlans.{send_refusal, send_order, send_on, send_plan}
use Rattle.dr_model.specs.Carry.{carry}
use Rattle.dr_model.specs.Carried.{carried_out}
use Rattle.dr_model.specs.Groups.{In}
use Rattle.dr_facts.proofs.Lists.{in-joined}
use Rattle.dr_laws_sessions.proofs.Changes.{session-found}
use Rattle.dr_laws_commits.specs.Flashed.{AllFlashedIn}
use Rattle.dr_laws_commits.specs.Commits.{SessionFlashed, FliesFlashed}

-- what is in flight behind a plan that refuses, and behind one that sends
refused-messages : (w : World) (r : Refusal) → (carried_out w (refuses r)).0.control.flight.messages ≡ w.control.flight.messages
unfolding carry
refused-messages w r = refl

-- the order that is sent
abbrev new_message : World → ℕ → ℕ → phases.Order → Message
new_message w s server o = record { number = w.control.flight.made + 1; session = s; epoch = w.control.flight.epoch s; server = server; order = o; body = Asks (w.control.flight.starts server) }

sent-messages : (w : World) (s : ℕ) (begins : Bool) (server : ℕ) (o : phases.Order) → (carried_out w (send_order s begins server (Some o))).0.control.flight.messages ≡ w.control.flight.messages ++ new_message w s server o ∷ []
unfolding carry
sent-messages w s begins server o = refl

-- orders to commit are for the last number of their session, with which all were flashed
module _ (w : World) (asked : (x : Session) (r : Mirror) (server : ℕ) (o : phases.Order) → In x w.control.sessions → x.mirror ≡ Some r → order_of r server ≡ Some o → o.work ≡ phases.Commit → (o.number ≡ x.last) × AllFlashedIn w.events x o.number) (s : ℕ) (name : Name) where
  abbrev Sends : Plan → Type 0
  Sends p = (m : Message) → In m (carried_out w p).0.control.flight.messages → In m w.control.flight.messages ⊎ (m.order.work ≡ phases.Commit → SessionFlashed w m.session m.order.number)

  none-sent : (r : Refusal) → Sends (refuses r)
  none-sent r m here = inl (subst (In m) (refused-messages w r) here)

  one-sent : (x : Session) (r : Mirror) (server : ℕ) → session_in w.control.sessions s ≡ Some x → x.mirror ≡ Some r → (o : Option phases.Order) → order_of r server ≡ o → Sends (send_order s (is_idle r.master.phase) server o)
  one-sent x r server found has None is m here = none-sent (OutOfOrder phase.None) m here
  one-sent x r server found has (Some o) is m here = by (in-joined w.control.flight.messages (new_message w s server o ∷ []) m (subst (In m) (sent-messages w s (is_idle r.master.phase) server o) here))
    where
      there : In x w.control.sessions × (x.number ≡ s)
      there = session-found w.control.sessions s x found

      new : o.work ≡ phases.Commit → SessionFlashed w s o.number
      new work = let c = asked x r server o there.0 has is work in record { one = x; here = there.0; is = (there.1, (sym c.0, c.1)) }

      by : In m w.control.flight.messages ⊎ In m (new_message w s server o ∷ []) → In m w.control.flight.messages ⊎ (m.order.work ≡ phases.Commit → SessionFlashed w m.session m.order.number)
      by (inl old) = inl old
      by (inr (inl is)) = inr (subst (λ (m : Message). m.order.work ≡ phases.Commit → SessionFlashed w m.session m.order.number) (sym is) new)
      by (inr (inr never)) = absurd never

  -- by the session's master, if it isn't refused
  sent-by : (x : Session) (server : ℕ) → session_in w.control.sessions s ≡ Some x → (o : Option Mirror) → x.mirror ≡ o → Sends (send_on w.control s o server x.members)
  sent-by x server found None is = none-sent (OutOfOrder phase.None)
  sent-by x server found (Some r) is = unless-sent _ (send_refusal w.control r server x.members) (one-sent x r server found is (order_of r server) refl)
    where
      unless-sent : (p : Plan) (o : Option Refusal) → Sends p → Sends (unless o p)
      unless-sent p None sends = sends
      unless-sent p (Some why) sends = none-sent why

  sent-to : (x : Session) → session_in w.control.sessions s ≡ Some x → (o : Option ℕ) → Sends (on_named o (λ server. send_on w.control s x.mirror server x.members))
  sent-to x found None = none-sent (unknown OfServer)
  sent-to x found (Some server) = sent-by x server found x.mirror refl

  pub plan-sends : FliesFlashed w (send_plan w.control s name)
  plan-sends = by (session_in w.control.sessions s) refl
    where
      by : (o : Option Session) → session_in w.control.sessions s ≡ o → Sends (on_session o (λ x. on_server w.control name (λ server. send_on w.control s x.mirror server x.members)))
      by None is = none-sent (unknown OfSession)
      by (Some x) is = sent-to x is (server_named w.control (name_bytes name))
