-- What comes into flight: replies, and orders that the phase of their session asks for.
use Rattle.std.proofs.Common.{ℕ, ◌≡◌, ◌≢◌, ◌+◌, ◌⊎◌, inl, inr, ap, sym, ◌∙◌, subst, List, [], ◌∷◌, Some}
use Rattle.dr_model.specs.Tables.{Once}
use Rattle.dr_model.specs.Phases as phases
use Rattle.dr_model.specs.Sessions.{Session}
use Rattle.dr_model.specs.Messages.{Flight, Message, Asks, Replies, sent, answered}
use Rattle.dr_model.specs.Groups.{In}
use Rattle.dr_model.specs.Attempts.{phase_of}
use Rattle.dr_model.specs.Flights.{IsEarly}
use Rattle.dr_facts.proofs.Lists.{in-joined}
use Rattle.dr_laws_sessions.proofs.Changes.{numbers, same-session}
use Rattle.dr_laws_closed.specs.Closing.{AwaitsFlash}
use Rattle.dr_laws_closed.specs.Regroups.{EasesFlight}
use Rattle.dr_laws_closed.proofs.Flown.{early-in}

-- an order is what the phase of its session asks for, and but for a report of its last attempt
pub record IsAskedIn (ss : List Session) (m : Message) : Type 0 where
  pub session : Session
  pub listed : In session ss
  pub number : session.number ≡ m.session
  pub asks : phases.work_in (phase_of session.mirror) ≡ Some m.order.work
  pub last : m.order.work ≢ phases.Report → m.order.number ≡ session.last

-- each message was in flight before, or it is a reply, or such an order
abbrev pub Adds : List Session → Flight → Flight → Type 0
Adds ss f g = (m : Message) → In m g.messages → In m f.messages ⊎ ((starts : ℕ) → m.body ≡ Asks starts → IsAskedIn ss m)

-- none is new
pub adds-fewer : (ss : List Session) (f g : Flight) → ((m : Message) → In m g.messages → In m f.messages) → Adds ss f g
adds-fewer ss f g fewer m here = inl (fewer m here)

pub adds-same : (ss : List Session) (f g : Flight) → g.messages ≡ f.messages → Adds ss f g
adds-same ss f g same = adds-fewer ss f g (λ m here. subst (In m) same here)

-- a reply
pub adds-answered : (ss : List Session) (f g : Flight) (m : Message) (reply : phases.Reply) → g.messages ≡ f.messages → Adds ss f (answered m reply g)
adds-answered ss f g m reply same q here = by (in-joined g.messages (new ∷ []) q here)
  where
    new : Message
    new = record { number = g.made + 1; session = m.session; epoch = m.epoch; server = m.server; order = m.order; body = Replies reply }

    by : In q g.messages ⊎ In q (new ∷ []) → In q f.messages ⊎ ((starts : ℕ) → q.body ≡ Asks starts → IsAskedIn ss q)
    by (inl old) = inl (subst (In q) same old)
    by (inr (inl is)) = inr (λ starts asks. let no : Replies reply ≡ Asks starts = ap (λ (m : Message). m.body) (sym is) ∙ asks in absurd cc)
    by (inr (inr none)) = absurd none

-- an order
pub adds-sent : (ss : List Session) (f : Flight) (s server : ℕ) (o : phases.Order) (x : Session) → In x ss → x.number ≡ s → phases.work_in (phase_of x.mirror) ≡ Some o.work → (o.work ≢ phases.Report → o.number ≡ x.last) → Adds ss f (sent s server o f)
adds-sent ss f s server o x listed number asks last q here = by (in-joined f.messages (new ∷ []) q here)
  where
    new : Message
    new = record { number = f.made + 1; session = s; epoch = f.epoch s; server = server; order = o; body = Asks (f.starts server) }

    by : In q f.messages ⊎ In q (new ∷ []) → In q f.messages ⊎ ((starts : ℕ) → q.body ≡ Asks starts → IsAskedIn ss q)
    by (inl old) = inl old
    by (inr (inl is)) = inr (λ starts body. subst (IsAskedIn ss) (sym is) (record { session = x; listed = listed; number = number; asks = asks; last = last }))
    by (inr (inr none)) = absurd none

-- so a flash comes only where one was awaited
pub eases-added : (ss : List Session) (f g : Flight) → Once (numbers ss) → Adds ss f g → EasesFlight ss f g
eases-added ss f g once adds x m listed order = by (adds m order.order.here)
  where
    by : In m f.messages ⊎ ((starts : ℕ) → m.body ≡ Asks starts → IsAskedIn ss m) → AwaitsFlash f x
    by (inl old) = inr (record { one = m; here = old; is = record { order = record { here = old; session = order.order.session; starts = order.order.starts; asks = order.order.asks }; works = order.works; number = order.number } })
    by (inr new) =
        let asked = new order.order.starts order.order.asks in
        let same : asked.session ≡ x = same-session ss asked.session x once asked.listed listed (asked.number ∙ order.order.session) in
        inl (subst (λ (z : Session). IsEarly (phase_of z.mirror)) same (early-in (phase_of asked.session.mirror) (asked.asks ∙ ap Some order.works)))
