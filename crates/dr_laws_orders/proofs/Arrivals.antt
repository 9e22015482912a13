-- Orders as they arrive: one below its server's fence is refused, whatever else is so.
use Rattle.std.proofs.Common.{ℕ, ◌≡◌, ◌<◌, refl, ap, ◌∙◌, Bool, true, false, cond, ◌&&◌, nat_eq, nat_le, arith, Option, Some, None}
use Rattle.std.proofs.lemmas.Bool.{eqb-true}
use Rattle.std.proofs.lemmas.Bool.Decides.{nat_tests}
use Rattle.std.specs.Option.{option_or}
use Rattle.dr_ids.specs.declared.refusal.PhaseName.TheVariants as phase
use Rattle.dr_ids.specs.declared.refusal.Kind.TheVariants.{Session as OfSession}
use Rattle.dr_ids.specs.declared.refusal.Refusal.{Refusal}
use Rattle.dr_ids.specs.declared.refusal.Refusal.TheVariants.{OldMessage, OutOfOrder}
use Rattle.dr_ids.specs.declared.refusal.Which.TheVariants as limit
use Rattle.dr_model.specs.Refusals.{unknown, over, server_off}
use Rattle.dr_model.specs.Control.{Control}
use Rattle.dr_model.specs.Sessions.{Session, Mirror, session_in}
use Rattle.dr_model.specs.Messages.{Flight, Message, is_current, message_in}
use Rattle.dr_model.specs.PlanParts.{Plan, unless, on_session}
use Rattle.dr_model.specs.SessionPlans.{off_refusal, apart_refusal}
use Rattle.dr_model.specs.SessionEntries.{members_on}
use Rattle.dr_model.specs.MessagePlans.{on_message, full_refusal, old_refusal, order_done, order_on, deliver_on, deliver_plan}
use Rattle.dr_facts.proofs.Lists.{found}
use Rattle.dr_laws_orders.specs.Arrivals.{IsOrderAt, IsBelowFence, IsRefused, FencesHold, MayArrive}

-- a message that is found has that number
number-is : (k : Control) (n : ℕ) (m : Message) → message_in k.flight n ≡ Some m → m.number ≡ n
number-is k n m there = eqb-true m.number n (found (λ (m : Message). nat_eq m.number n) k.flight.messages m there).1

-- what the delivery of an order is
pub order-plan : (k : Control) (n : ℕ) (m : Message) → (o : IsOrderAt k n m)
    → deliver_plan k n ≡ on_session (session_in k.sessions m.session) (λ x. unless (off_refusal k m.server) (order_on k m o.starts x.members x.mirror))
order-plan k n m o =
    ap (λ o. on_message o (λ m. on_session (session_in k.sessions m.session) (λ x. deliver_on k m x m.body))) o.there
    ∙ ap (λ b. on_session (session_in k.sessions m.session) (λ x. deliver_on k m x b)) o.asks

-- what tests say
over-false : (a b : ℕ) → b < a → nat_le a b ≡ false
over-false a b h = grind (arith, nat_tests, h)

and-false : (a b : Bool) → b ≡ false → (a && b) ≡ false
and-false true b h = h
and-false false b h = refl

-- an order below a fence isn't a present one
is-old : (f : Flight) (m : Message) (starts : ℕ) → IsBelowFence f m → is_current f m starts ≡ false
is-old f m starts below = and-false (nat_eq starts (f.starts m.server)) (nat_le (f.fence m.session m.server) m.epoch) (over-false (f.fence m.session m.server) m.epoch below)

module _ (k : Control) (m : Message) (starts : ℕ) (below : IsBelowFence k.flight m) where
  -- what refuses it then, behind the link and the room for a reply
  late-refusal : old_refusal m (is_current k.flight m starts) ≡ Some (OldMessage m.number)
  late-refusal = ap (old_refusal m) (is-old k.flight m starts below)

  -- whichever refuses it first
  or-late : (o p q : Option Refusal) (plan : Plan) → q ≡ Some (OldMessage m.number) → IsRefused (unless (option_or o (option_or p q)) plan)
  or-late (Some r) p q plan is = record { refusal = r; is = refl }
  or-late None (Some r) q plan is = record { refusal = r; is = refl }
  or-late None None q plan is = record { refusal = OldMessage m.number; is = ap (λ o. unless o plan) is }

  session-refused : (x : Session) → IsRefused (unless (off_refusal k m.server) (order_on k m starts x.members x.mirror))
  session-refused x = by (off_refusal k m.server) x.mirror
    where
      by : (o : Option Refusal) (r : Option Mirror) → IsRefused (unless o (order_on k m starts x.members r))
      by (Some r) mirror = record { refusal = r; is = refl }
      by None None = record { refusal = OutOfOrder phase.None; is = refl }
      by None (Some r) = or-late (apart_refusal k r.server m.server) (full_refusal k.flight) (old_refusal m (is_current k.flight m starts)) (order_done m (members_on m.server x.members)) late-refusal

  found-refused : (o : Option Session) → IsRefused (on_session o (λ x. unless (off_refusal k m.server) (order_on k m starts x.members x.mirror)))
  found-refused None = record { refusal = unknown OfSession; is = refl }
  found-refused (Some x) = session-refused x

-- whatever else is so
pub below-refused : (k : Control) → FencesHold k
below-refused k n m o below =
    let r = found-refused k m o.starts below (session_in k.sessions m.session) in
    record { refusal = r.refusal; is = order-plan k n m o ∙ r.is }

-- and where nothing else refuses it, as an old one
pub below-old : (k : Control) (n : ℕ) (m : Message) → IsOrderAt k n m → IsBelowFence k.flight m → (may : MayArrive k m) → deliver_plan k n ≡ unless (Some (OldMessage n)) (order_done m (members_on m.server may.session.members))
below-old k n m o below may =
    let ms = may.session.members in
    order-plan k n m o
    ∙ ap (λ y. on_session y (λ x. unless (off_refusal k m.server) (order_on k m o.starts x.members x.mirror))) may.found
    ∙ ap (λ on. unless (cond on None (Some (server_off m.server))) (order_on k m o.starts ms may.session.mirror)) may.on
    ∙ ap (λ r. order_on k m o.starts ms r) may.has_master
    ∙ (λ i. unless (option_or (may.near i) (option_or (room i) (late i))) (order_done m (members_on m.server ms)))
  where
    room : full_refusal k.flight ≡ None
    room = ap (λ full. cond full (Some (over limit.Messages)) None) may.room

    late : old_refusal m (is_current k.flight m o.starts) ≡ Some (OldMessage n)
    late = late-refusal k m o.starts below ∙ ap (λ n. Some (OldMessage n)) (number-is k n m o.there)
