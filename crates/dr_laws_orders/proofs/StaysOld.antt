-- What was sent before a master was lost is refused, and stays so.
use Rattle.std.proofs.Common.{ℕ, ◌≡◌, ◌≤◌, ◌<◌, ◌⊎◌, inl, inr, refl, ap, sym, ◌∙◌, subst, arith, List, Option, Some, None}
use Rattle.std.proofs.lemmas.Bool.{eqb-true}
use Rattle.std.specs.Prelude.{nat_eq}
use Rattle.dr_ids.specs.declared.refusal.Kind.TheVariants.{Message as OfMessage}
use Rattle.dr_model.specs.Refusals.{unknown}
use Rattle.dr_model.specs.Control.{Control, World}
use Rattle.dr_model.specs.Sessions.{Session, session_in}
use Rattle.dr_model.specs.Messages.{Flight, Message, Asks, message_in}
use Rattle.dr_model.specs.PlanParts.{on_session}
use Rattle.dr_model.specs.MessagePlans.{on_message, deliver_on, deliver_plan}
use Rattle.dr_model.specs.Groups.{In}
use Rattle.dr_model.specs.Attempts.{roles, seen, seen_in, phase_of}
use Rattle.dr_model.specs.Flights.{IsFenced, HasServer, FlightOf}
use Rattle.dr_model.specs.Runs.{Task, after_tasks, run}
use Rattle.dr_model.specs.Laws.{Sound, FlightCounted}
use Rattle.dr_facts.proofs.Lists.{found, once-same, to-map}
use Rattle.dr_laws_sound.proofs.Steps.{sound-run}
use Rattle.dr_laws_sound.proofs.FlightCounts.{counted-run}
use Rattle.dr_laws_orders.specs.Arrivals.{IsBelowFence, IsRefused}
use Rattle.dr_laws_orders.specs.FlightGoesOn.{FlightGoesOn}
use Rattle.dr_laws_orders.specs.OldOrders.{IsFromBefore, StaysRefused, OldOrdersStayRefused}
use Rattle.dr_laws_orders.proofs.Arrivals.{below-refused}
use Rattle.dr_laws_orders.proofs.FlightGoesOn.{tasks-go}

-- an order from before is below the fence of its server
first-fence : (w : World) (x : Session) (m : Message) → Sound w → In x w.control.sessions → IsFenced (phase_of x.mirror) → IsFromBefore w.control x m → IsBelowFence w.control.flight m
first-fence w x m sound listed going old =
    let f : Flight = w.control.flight in
    let to : HasServer m.server (seen_in w.control x) = record { one = seen (roles w.control) old.member; here = to-map (seen (roles w.control)) x.members old.member old.here; is = old.to } in
    let fits : FlightOf w.control x = sound.flights.each x listed in
    let high : f.epoch x.number ≤ f.fence x.number m.server = fits.fenced going m old.order old.number old.earlier to in
    subst (λ s. m.epoch < f.fence s m.server) (sym old.order.session) (let low : m.epoch < f.epoch x.number = old.earlier in omega arith)

module _ (w : World) (counted : FlightCounted w) (m : Message) (here : In m w.control.flight.messages) (starts : ℕ) (asks : m.body ≡ Asks starts) (below : IsBelowFence w.control.flight m) where
  -- no other message has its number
  is-same : (g : Flight) → FlightGoesOn w.control.flight g → (q : Message) → In q g.messages → q.number ≡ m.number → q ≡ m
  is-same g goes q there number = by (goes.messages q there)
    where
      by : In q w.control.flight.messages ⊎ (w.control.flight.made < q.number) → q ≡ m
      by (inl old) = once-same (λ (m : Message). m.number) w.control.flight.messages q m counted.once old here number
      by (inr new) = absurd (let low : m.number ≤ w.control.flight.made = (counted.numbers m here).1 in omega arith)

  -- in a flight that comes after, it is below its fence, too
  refused-by : (k : Control) → FlightGoesOn w.control.flight k.flight → (o : Option Message) → message_in k.flight m.number ≡ o → IsRefused (deliver_plan k m.number)
  refused-by k goes None none = record { refusal = unknown OfMessage; is = ap (λ o. on_message o (λ m. on_session (session_in k.sessions m.session) (λ x. deliver_on k m x m.body))) none }
  refused-by k goes (Some q) some =
      let f : Flight = w.control.flight in
      let at = found (λ (q : Message). nat_eq q.number m.number) k.flight.messages q some in
      let same : q ≡ m = is-same k.flight goes q at.0 (eqb-true q.number m.number at.1) in
      let high : f.fence m.session m.server ≤ k.flight.fence m.session m.server = goes.fences m.session m.server in
      below-refused k m.number m (record { there = some ∙ ap Some same; starts = starts; asks = asks }) (let low : m.epoch < f.fence m.session m.server = below in omega arith)

  -- so its delivery stays refused
  pub below-stays : StaysRefused w m.number
  below-stays more = let u : World = after_tasks w more in refused-by u.control (tasks-go w more) (message_in u.control.flight m.number) refl

-- in any sound world, and where a run leads
pub before-stays : (w : World) (x : Session) (m : Message) → Sound w → FlightCounted w → In x w.control.sessions → IsFenced (phase_of x.mirror) → IsFromBefore w.control x m → StaysRefused w m.number
before-stays w x m sound counted listed going old = below-stays w counted m old.order.here old.order.starts old.order.asks (first-fence w x m sound listed going old)

pub before-run : (tasks : List Task) → OldOrdersStayRefused tasks
before-run tasks x m listed going old = before-stays (run tasks) x m (sound-run tasks) (counted-run tasks) listed going old
