-- An order that a server carries out as it arrives, and the reply that this makes.
use Rattle.std.proofs.Common.{ℕ, ◌≡◌, ◌≤◌, ◌<◌, ◌+◌, ◌==◌, refl, ap, sym, ◌∙◌, subst, arith, true, false, nat_le, List, length, Option, Some, None, Result, Ok, Err}
use Rattle.std.specs.Prelude.{option_map, unwrap_or, is_some, IfOk, OnOk, if◌then◌else◌}
use Rattle.std.specs.List.{find}
use Rattle.std.specs.Result.{result_err}
use Rattle.std.proofs.lemmas.Bool.Decides.{nat_tests}
use Rattle.std.proofs.lemmas.List.{append-nil}
use Rattle.dr_logic.proofs.Truth.{false_true}
use Rattle.dr_ids.specs.declared.names.Member.{Member}
use Rattle.dr_ids.specs.declared.refusal.Refusal.{Refusal}
use Rattle.dr_ids.specs.declared.refusal.Which.TheVariants as limit
use Rattle.dr_plant.specs.State.{PlantState}
use Rattle.dr_config.specs.Table.{ConfigTable}
use Rattle.dr_ctl.specs.Kept.{KeptFlight, flight_in, answered_in}
use Rattle.dr_session.specs.Kept.{SessionTable}
use Rattle.dr_model.specs.declared.event.Event.{Event}
use Rattle.dr_model.specs.declared.said.Addition.TheVariants.{Posted}
use Rattle.dr_model.specs.declared.said.Said.TheVariants.{Done, Refused}
use Rattle.dr_model.specs.Carry.{carry}
use Rattle.dr_model.specs.Control.{Control, World}
use Rattle.dr_model.specs.Flights.{Flights}
use Rattle.dr_model.specs.Groups.{In}
use Rattle.dr_model.specs.Limits.{most_messages}
use Rattle.dr_model.specs.Messages.{Flight, Message, message_in, is_full, answered, heard}
use Rattle.dr_model.specs.MessagePlans.{full_refusal, order_done}
use Rattle.dr_model.specs.Phases as phases
use Rattle.dr_model.specs.PlanParts.{Plan}
use Rattle.dr_model.specs.ReadStops.{Ends}
use Rattle.dr_model.specs.Refusals.{over}
use Rattle.dr_model.specs.Runs.{begun}
use Rattle.dr_model.specs.SessionEntries.{order_entries, reply_after}
use Rattle.dr_model.specs.Sessions.{Session, session_in}
use Rattle.dr_facts.proofs.Lists.{found as is-found}
use Rattle.dr_laws_sessions.proofs.Changes.{session-found}
use Rattle.dr_laws_sound.proofs.FitsExchanges.{heard-messages}
use Rattle.dr_volume.specs.View.{ReadsPass}
use Rattle.dr_moves.specs.Here.{armed_in}
use Rattle.dr_gmirror.specs.Orders.{last_in, MayBegin}
use Rattle.dr_gmirror.proofs.ExchangeLemmas.{silent-ends, follow-nothing}
use Rattle.dr_steps.specs.declared.tables.Tables.{Tables}
use Rattle.dr_steps.specs.Arrivals.{posted_by}
use Rattle.dr_steps.specs.Here.{here, IsTold, Carries}
use Rattle.dr_steps.proofs.CarriesLemmas.{carries}
use Rattle.dr_steps.proofs.LandLemmas.{exact, told-through}

-- ---- what it asks for

-- it is no later than its session's last attempt
pub order-low : (k : Control) (m : Message) → Flights k → In m k.flight.messages → m.order.number ≤ last_in k.sessions m.session
order-low k m flights here = by (session_in k.sessions m.session) refl
  where
    by : (o : Option Session) → session_in k.sessions m.session ≡ o → m.order.number ≤ unwrap_or (option_map (λ (x : Session). x.last) o) 0
    by None none = absurd (let some : is_some (session_in k.sessions m.session) ≡ true = flights.homes m here in let no : is_some (session_in k.sessions m.session) ≡ false = ap is_some none in false_true no some)
    by (Some x) there = let at = session-found k.sessions m.session x there in ((flights.each x at.0).known m here (sym at.1)).number

-- so it begins none
pub order-begins : (ss : List Session) (s n : ℕ) → n ≤ last_in ss s → MayBegin ss s n
order-begins ss s n low = record {
  free = λ above. absurd (let late : last_in ss s < n = grind (arith, nat_tests, above) in omega (arith, low, late));
  next = omega (arith, low);
}

-- a message that is in flight
pub in-flight : (f : Flight) (n : ℕ) (m : Message) → message_in f n ≡ Some m → In m f.messages
in-flight f n m is = (is-found (λ (m : Message). m.number == n) f.messages m is).0

-- ---- what it makes

-- the flight and the answer behind a reply that was made
pub record IsPosted (made : Result ℕ Refusal) (m : Message) (reply : phases.Reply) (f g : Flight) : Type 0 where
  pub flight : g ≡ answered m reply f
  pub says : posted_by made ≡ Done (Posted g.made)

posted-so : (made : Result ℕ Refusal) (m : Message) (reply : phases.Reply) (o : Option Message) (f g : Flight) → is_full f ≡ false → o ≡ Some m
    → result_err made ≡ full_refusal f → IfOk made (λ p. p ≡ f.made + 1) → OnOk made (g ≡ answered_in o reply f) → IsPosted made m reply f g
posted-so (Ok p) m reply o f g space there free number flies =
    let flight : g ≡ answered m reply f = flies ∙ ap (λ o. answered_in o reply f) there in
    record { flight = flight; says = ap (λ q. Done (Posted q)) (number ∙ sym (ap (λ (g : Flight). g.made) flight)) }
posted-so (Err why) m reply o f g space there free number flies = absurd (let no : Some why ≡ None = free ∙ ap (λ b. if b then Some (over limit.Messages) else None) space in cc)

-- where the server had heard of the order before
pub reply-posted : (made : Result ℕ Refusal) (m : Message) (n : ℕ) (reply : phases.Reply) (f f' g : Flight) → f' ≡ heard m.session m.server m.epoch m.order.work f → is_full f ≡ false → message_in f n ≡ Some m
    → result_err made ≡ full_refusal f' → IfOk made (λ p. p ≡ f'.made + 1) → OnOk made (g ≡ answered_in (message_in f' n) reply f') → IsPosted made m reply (heard m.session m.server m.epoch m.order.work f) g
reply-posted made m n reply f f' g is space there free number flies =
    let e : f'.messages ≡ f.messages = ap (λ (f : Flight). f.messages) is ∙ heard-messages m.session m.server m.epoch m.order.work f in
    subst (λ q. IsPosted made m reply q g) is
    (posted-so made m reply (message_in f' n) f' g (ap (λ ms. nat_le most_messages (length ms)) e ∙ space) (ap (find (λ (q : Message). q.number == n)) e ∙ there) free number flies)

module _ (s u : PlantState) (t : ConfigTable) (h : Tables) (ev mid : List Event) (ys : SessionTable) (m : Message) (ms : List Member) (pass : ReadsPass s) where
  abbrev w : World
  w = here s t h ev

  -- where its entries ended
  abbrev v : World
  v = here u t (record h { sessions = ys }) mid

  abbrev p : Plan
  p = order_done m ms

  arrived-so : (r : Option Refusal) → Ends (armed_in s) v r w (order_entries m.order.work m.session m.order.number ms) → carry (begun w p) p.entries ≡ (v, r)
  arrived-so r ends = exact s v r (begun w p) p.entries pass (silent-ends (armed_in s) v w r p.entries ends)

  pub order-told : (r : Option Refusal) → Ends (armed_in s) v r w (order_entries m.order.work m.session m.order.number ms) → IsTold h ev → IsTold h mid
  order-told r ends told = told-through h (begun w p) v p.entries r (arrived-so r ends) (subst (IsTold h) (sym (append-nil ev)) told)

  -- it failed
  pub order-fails : (why : Refusal) → Ends (armed_in s) v (Some why) w (order_entries m.order.work m.session m.order.number ms) → Carries w p v (Refused why)
  order-fails why ends = carries w p (v, Some why) v (Refused why) (arrived-so (Some why) ends) (sym (follow-nothing v why)) refl

  -- it was done, and the server replies
  pub order-replies : (f : KeptFlight) (reply : phases.Reply) (made : Result ℕ Refusal) → Ends (armed_in s) v None w (order_entries m.order.work m.session m.order.number ms)
      → reply ≡ reply_after m.session m.order.work ms v.control → IsPosted made m reply (heard m.session m.server m.epoch m.order.work (flight_in h.flight)) (flight_in f)
      → Carries w p (here u t (record h { sessions = ys; flight = f }) mid) (posted_by made)
  order-replies f reply made ends says posted =
      let z : World = here u t (record h { sessions = ys; flight = f }) mid in
      let g : Flight = heard m.session m.server m.epoch m.order.work (flight_in h.flight) in
      let flies : answered m (reply_after m.session m.order.work ms v.control) g ≡ flight_in f = sym (posted.flight ∙ ap (λ y. answered m y g) says) in
      carries w p (v, None) z (posted_by made) (arrived-so None ends) (λ i. record v { control = record v.control { flight = flies i } }) (sym posted.says)
