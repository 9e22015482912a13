-- Other messages in flight keep the laws of closed cuts, as long as no flash comes that wasn't awaited.
use Rattle.std.proofs.Common.{ℕ, ◌≡◌, ◌⊎◌, inl, inr, ap, sym, ◌∙◌, ◌+◌, List, [], ◌∷◌, Some, subst}
use Rattle.dr_ids.specs.declared.refusal.PhaseName.{PhaseName}
use Rattle.dr_ids.specs.declared.refusal.PhaseName.TheVariants as phase
use Rattle.dr_model.specs.Histories.{Lists}
use Rattle.dr_model.specs.Control.{Pending}
use Rattle.dr_model.specs.Phases as phases
use Rattle.dr_model.specs.Messages.{Flight, Message, Body, Asks, Replies, with_message, sent, answered}
use Rattle.dr_model.specs.Sessions.{Session, Mirror}
use Rattle.dr_model.specs.Groups.{In, Due}
use Rattle.dr_model.specs.Attempts.{phase_of}
use Rattle.dr_model.specs.Flights.{IsEarly}
use Rattle.dr_model.specs.Tables.{Once}
use Rattle.dr_model.specs.Cuts.{Cuts}
use Rattle.dr_facts.proofs.Lists.{in-joined}
use Rattle.dr_laws_sessions.proofs.Changes.{numbers, same-session}
use Rattle.dr_laws_attempts.proofs.Dues.{owed-works, order-works}
use Rattle.dr_laws_closed.specs.Moments.{Moments, Standing}
use Rattle.dr_laws_closed.specs.Closing.{AllFields, AwaitsFlash, ClosingIn}
use Rattle.dr_laws_closed.specs.Regroups.{EasesFlight}

-- ---- a flash that is due

pub early-in : (p : PhaseName) → phases.work_in p ≡ Some phases.Flash → IsEarly p
early-in phase.Flashing e = tt
early-in p e = absurd cc

pub awaits-due : (flight : Flight) (x : Session) (server : ℕ) → Due flight x server phases.Flash x.last → AwaitsFlash flight x
awaits-due flight x server (inl owes) = inl (early-in (phase_of x.mirror) (owed-works x server phases.Flash x.last owes))
awaits-due flight x server (inr coming) = inr (record { one = coming.message; here = coming.order.order.here; is = coming.order })

-- ---- other messages

awaits-eased : (ss : List Session) (flight later : Flight) (x : Session) → EasesFlight ss flight later → In x ss → AwaitsFlash later x → AwaitsFlash flight x
awaits-eased ss flight later x eases i (inl early) = inl early
awaits-eased ss flight later x eases i (inr flies) = eases x flies.one i flies.is

pub closing-flown : (ss : List Session) (flight later : Flight) (f : AllFields) (ps : List Pending) (now : Lists) (c : Cuts) (M : Moments) (g : Standing) → EasesFlight ss flight later → ClosingIn ss flight f ps now c M g → ClosingIn ss later f ps now c M g
closing-flown ss flight later f ps now c M g eases old = record {
  held = old.held;
  free = old.free;
  records = old.records;
  sealed = λ x m i here awaited low to is. old.sealed x m i here (awaits-eased ss flight later x eases i awaited) low to is;
  revertible = old.revertible;
  whole = old.whole;
  members = old.members;
}

-- some of those that were
pub eases-fewer : (ss : List Session) (flight later : Flight) → ((m : Message) → In m later.messages → In m flight.messages) → EasesFlight ss flight later
eases-fewer ss flight later fewer x m i order = inr (record {
  one = m;
  here = fewer m order.order.here;
  is = record { order = record { here = fewer m order.order.here; session = order.order.session; starts = order.order.starts; asks = order.order.asks }; works = order.works; number = order.number };
})

pub eases-same : (ss : List Session) (flight later : Flight) → later.messages ≡ flight.messages → EasesFlight ss flight later
eases-same ss flight later same = eases-fewer ss flight later (λ m here. subst (In m) same here)

-- one more
eases-more : (ss : List Session) (flight : Flight) (s epoch server : ℕ) (o : phases.Order) (body : Body) → ((x : Session) → In x ss → s ≡ x.number → (starts : ℕ) → body ≡ Asks starts → o.work ≡ phases.Flash → IsEarly (phase_of x.mirror))
    → EasesFlight ss flight (with_message s epoch server o body flight)
eases-more ss flight s epoch server o body early x m i order = by (in-joined flight.messages (new ∷ []) m order.order.here)
  where
    new : Message
    new = record { number = flight.made + 1; session = s; epoch = epoch; server = server; order = o; body = body }

    by : In m flight.messages ⊎ In m (new ∷ []) → AwaitsFlash flight x
    by (inl old) = inr (record { one = m; here = old; is = record { order = record { here = old; session = order.order.session; starts = order.order.starts; asks = order.order.asks }; works = order.works; number = order.number } })
    by (inr (inl is)) = inl (early x i
        (ap (λ (m : Message). m.session) (sym is) ∙ order.order.session)
        order.order.starts
        (ap (λ (m : Message). m.body) (sym is) ∙ order.order.asks)
        (ap (λ (m : Message). m.order.work) (sym is) ∙ order.works))
    by (inr (inr none)) = absurd none

-- an order that a master owes, or the first one of an attempt; and a reply
pub eases-sent : (ss : List Session) (flight : Flight) (x : Session) (r : Mirror) (server : ℕ) (o : phases.Order) → Once (numbers ss) → In x ss → x.mirror ≡ Some r → phases.order_for r.master server ≡ Some o → EasesFlight ss flight (sent x.number server o flight)
eases-sent ss flight x r server o once listed has is = eases-more ss flight x.number (flight.epoch x.number) server o (Asks (flight.starts server)) (λ y i same starts body flashes.
    subst (λ (z : Session). IsEarly (phase_of z.mirror)) (same-session ss x y once listed i same)
    (subst (λ o. IsEarly (phase_of o)) (sym has) (early-in r.master.phase (order-works (phases.is_among server r.master.owed) (phases.work_in r.master.phase) r.master.number o is ∙ ap Some flashes))))

pub eases-held : (ss : List Session) (flight : Flight) (s server n : ℕ) → EasesFlight ss flight (sent s server (phases.numbered phases.Hold n) flight)
eases-held ss flight s server n = eases-more ss flight s (flight.epoch s) server (phases.numbered phases.Hold n) (Asks (flight.starts server)) (λ y i same starts body flashes. absurd cc)

pub eases-answered : (ss : List Session) (flight : Flight) (m : Message) (reply : phases.Reply) → EasesFlight ss flight (answered m reply flight)
eases-answered ss flight m reply = eases-more ss flight m.session m.epoch m.server m.order (Replies reply) (λ y i same starts body flashes. absurd cc)
