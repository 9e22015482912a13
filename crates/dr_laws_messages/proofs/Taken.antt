-- A master takes a reply that was delivered, which it awaits: the laws of sessions, of attempts and of messages stay.
use Rattle.std.proofs.Common.{ℕ, ◌≡◌, ◌≤◌, ◌+◌, refl, ap, sym, ◌∙◌, Bool, true, ◌==◌, List, [], ◌∷◌, ◌++◌, length, subst, Option, Some}
use Rattle.std.proofs.lemmas.List.{append-nil}
use Rattle.std.proofs.lemmas.Bool.{and_parts, and_from, eqb-true}
use Rattle.std.proofs.lemmas.Option.{same_Some}
use Rattle.dr_ids.specs.declared.refusal.PhaseName.TheVariants as phase
use Rattle.dr_model.specs.Decisions.{Shown}
use Rattle.dr_model.specs.Phases as phases
use Rattle.dr_model.specs.Control.{Control}
use Rattle.dr_model.specs.Sessions.{Session, Mirror, session_in, servers_of, with_master}
use Rattle.dr_model.specs.Messages.{Flight, Message, Replies}
use Rattle.dr_model.specs.MessagePlans.{is_same_work, is_owed_order, is_awaited, taking}
use Rattle.dr_model.specs.SessionEntries.{members_on}
use Rattle.dr_model.specs.Groups.{In, Groups}
use Rattle.dr_model.specs.Attempts.{Roles, roles, seen, Seen, all_seen, InPhase, InLost, AttemptOf, Attempts}
use Rattle.dr_model.specs.Flights.{IsAnswer, HasAnswer, IsAwaited, shown_by, shown_in, members_at, FlightFits, Flights}
use Rattle.dr_laws_sessions.specs.Frames.{ServerSilent, OwesReport}
use Rattle.dr_facts.proofs.Lists.{to-map}
use Rattle.dr_laws_sessions.proofs.Changes.{session-found}
use Rattle.dr_laws_sessions.proofs.Reports.{reports-few}
use Rattle.dr_laws_sessions.proofs.Tables.{groups-waits, groups-taken}
use Rattle.dr_laws_attempts.proofs.Tables.{serves, master-servers, with-waits, with-after, with-told}
use Rattle.dr_laws_messages.proofs.Taking.{fits-take}
use Rattle.dr_laws_messages.proofs.Masters.{FlightBy, fits-left, fits-told}
use Rattle.dr_laws_messages.proofs.Sends.{own-lost}
use Rattle.dr_laws_messages.proofs.Tables.{flights-own}
use Rattle.dr_laws_messages.proofs.Turns.{own-mirror, flight-by}
use Rattle.dr_laws_attempts.proofs.Orders.{work-lost}
use Rattle.dr_laws_messages.proofs.Messages.{own-numbered, members-at}

-- ---- the order that is owed

same-work : (v w : phases.Work) → is_same_work v w ≡ true → v ≡ w
same-work phases.Hold phases.Hold h = refl
same-work phases.Release phases.Release h = refl
same-work phases.Seal phases.Seal h = refl
same-work phases.Flash phases.Flash h = refl
same-work phases.Commit phases.Commit h = refl
same-work phases.Revert phases.Revert h = refl
same-work phases.Finish phases.Finish h = refl
same-work phases.Report phases.Report h = refl
same-work v w h = absurd cc

-- an order that is just the one that is owed
record OwedOrder (b : Bool) (w : Option phases.Work) (n : ℕ) (o : phases.Order) : Type 0 where
  due : b ≡ true
  works : w ≡ Some o.work
  number : (o.work ≡ phases.Report → ⊥) → o.number ≡ n

owed-order : (b : Bool) (w : Option phases.Work) (n : ℕ) (o : phases.Order) → is_owed_order (phases.order_if b w n) o ≡ true → OwedOrder b w n o
owed-order true (Some w) n o h =
    let p = and_parts (is_same_work (phases.numbered w n).work o.work) ((phases.numbered w n).number == o.number) h in
    let same : (phases.numbered w n).work ≡ o.work = same-work (phases.numbered w n).work o.work p.0 in
    let own = own-numbered w n in
    record { due = refl; works = own.works ∙ ap Some same; number = λ ne. sym (eqb-true (phases.numbered w n).number o.number p.1) ∙ own.number (λ e. ne (sym same ∙ e)) }
owed-order b w n o h = absurd cc

-- only a report answers what asks for one, and nothing else
report-only : (xs : List Shown) (w : phases.Work) → phases.answers (phases.Reported xs) w ≡ true → w ≡ phases.Report
report-only xs phases.Report h = refl
report-only xs w h = absurd cc

done-else : (w : phases.Work) → phases.answers phases.Done w ≡ true → w ≡ phases.Report → ⊥
done-else phases.Report h e = absurd cc
done-else w h e = absurd cc

-- ---- the reply is taken

module _ (k : Control) (groups : Groups k) (law : Attempts k) (flights : Flights k) (m : Message) (reply : phases.Reply) (x : Session) (r : Mirror) (here : In m k.flight.messages) (body : m.body ≡ Replies reply)
    (found : session_in k.sessions m.session ≡ Some x) (has : x.mirror ≡ Some r) (awaits : is_awaited k.flight r m ≡ true) where
  abbrev f : Flight
  f = k.flight

  abbrev T : Roles
  T = roles k

  abbrev vs : List Seen
  vs = all_seen T x.members

  there : In x k.sessions × (x.number ≡ m.session)
  there = session-found k.sessions m.session x found

  own : AttemptOf T x
  own = law.sessions x there.0

  fits : FlightBy f x.number x.last vs r.master
  fits = flight-by f T x r has (flights.each x there.0)

  -- it is a reply to its order
  answers : phases.answers reply m.order.work ≡ true
  answers = (fits.known m here (sym there.1)).answers reply body

  pub awaited-so : HasAnswer m.body → IsAwaited f x.number r.master.phase x.last r.master.owed m
  awaited-so answer =
      let p = and_parts (m.epoch == f.epoch m.session) (is_owed_order (phases.order_for r.master m.server) m.order) awaits in
      let o = owed-order (phases.is_among m.server r.master.owed) (phases.work_in r.master.phase) r.master.number m.order p.1 in
      record {
        here = here;
        session = sym there.1;
        epoch = eqb-true m.epoch (f.epoch m.session) p.0 ∙ ap f.epoch (sym there.1);
        works = o.works;
        number = λ ne. o.number ne ∙ (groups.each x there.0).sound.number r has;
        due = o.due;
        answers = answer;
      }

  -- every mirror of the session is this one
  one : (q : Mirror) → x.mirror ≡ Some q → r ≡ q
  one q h = same_Some _ _ (sym has ∙ h)

  module _ (answer : IsAnswer reply) where
    a : IsAwaited f x.number r.master.phase x.last r.master.owed m
    a = awaited-so (subst HasAnswer (sym body) answer)

    shown-is : shown_in m.body ≡ shown_by reply
    shown-is = ap shown_in body

    -- what the attempt is without the server
    now : InPhase r.master.phase x.last (phases.without m.server r.master.owed) (r.master.reports ++ shown_by reply) vs
    now = subst (λ xs. InPhase r.master.phase x.last (phases.without m.server r.master.owed) (r.master.reports ++ xs) vs) shown-is (fits.replies (m ∷ []) (a, tt))

    after : FlightFits f x.number r.master.phase x.last (phases.without m.server r.master.owed) (r.master.reports ++ shown_by reply) vs
    after = subst (λ xs. FlightFits f x.number r.master.phase x.last (phases.without m.server r.master.owed) (r.master.reports ++ xs) vs) shown-is
        (fits-take f x.number r.master.phase x.last r.master.owed r.master.reports vs m a fits)

    silent : (q : Mirror) → x.mirror ≡ Some q → q.master.phase ≡ phase.Finishing → ServerSilent k x m.server
    silent q h ends c i at = fits.finished (ap (λ (q : Mirror). q.master.phase) (one q h) ∙ ends) m a (seen T c) (to-map (seen T) x.members c i) at

    few : length (shown_by reply) ≤ length (members_on m.server x.members)
    few = subst (λ n. length (shown_by reply) ≤ n) (members-at T m.server x.members) (subst (λ xs. length xs ≤ members_at m.server vs) shown-is (fits.few m a))

  owes-report : (o : phases.Reply) → reply ≡ o → (q : Mirror) → x.mirror ≡ Some q → OwesReport q.master x.members m.server o
  owes-report (phases.Reported xs) is q h =
      let answer : IsAnswer reply = subst IsAnswer (sym is) tt in
      record {
        owes = subst (λ (q : Mirror). phases.is_among m.server q.master.owed ≡ true) (one q h) (a answer).due;
        few = subst (λ o. length (shown_by o) ≤ length (members_on m.server x.members)) is (few answer);
      }
  owes-report phases.Done is q h = tt
  owes-report phases.NotYet is q h = tt

  -- it is one to the order that its server is owed
  owed : OwedOrder (phases.is_among m.server r.master.owed) (phases.work_in r.master.phase) r.master.number m.order
  owed = owed-order (phases.is_among m.server r.master.owed) (phases.work_in r.master.phase) r.master.number m.order (and_parts (m.epoch == f.epoch m.session) _ awaits).1

  pub awaits-taken : phases.awaits r.master m.server reply ≡ true
  awaits-taken = and_from (phases.is_among m.server r.master.owed) (phases.is_reply reply (phases.work_in r.master.phase)) owed.due (ap (phases.is_reply reply) owed.works ∙ answers)

  taken-sessions : (o : phases.Reply) → reply ≡ o → Groups (taking m o k)
  taken-sessions phases.NotYet is = groups-waits k m.session m.server groups
  taken-sessions phases.Done is = groups-taken k m.session m.server phases.Done x groups found (silent (subst IsAnswer (sym is) tt)) (owes-report phases.Done is)
  taken-sessions (phases.Reported xs) is = groups-taken k m.session m.server (phases.Reported xs) x groups found (silent (subst IsAnswer (sym is) tt)) (owes-report (phases.Reported xs) is)

  pub sessions-taken : Groups (taking m reply k)
  sessions-taken = taken-sessions reply refl

  -- a report comes to a lost master alone
  pub lost-by : (xs : List Shown) → reply ≡ phases.Reported xs → r.master.phase ≡ phase.Lost
  lost-by xs is = work-lost r.master.phase ((a (subst IsAnswer (sym is) tt)).works ∙ ap Some (report-only xs m.order.work (subst (λ o. phases.answers o m.order.work ≡ true) is answers)))

  -- with the reports that it has it has none for more than all members
  pub few-taken : (xs : List Shown) → reply ≡ phases.Reported xs → length r.master.reports + length xs ≤ length x.members
  few-taken xs is = reports-few r.master x.members m.server xs (owes-report (phases.Reported xs) is r has) ((groups.each x there.0).few r has (lost-by xs is))

  -- and what is done to another one
  pub done-by : reply ≡ phases.Done → r.master.phase ≡ phase.Lost → ⊥
  done-by is e = done-else m.order.work (subst (λ o. phases.answers o m.order.work ≡ true) is answers) (own-lost r.master.phase m.order.work e (a (subst IsAnswer (sym is) tt)).works)

  now-done : reply ≡ phases.Done → InPhase r.master.phase x.last (phases.without m.server r.master.owed) r.master.reports vs
  now-done is = subst (λ rs. InPhase r.master.phase x.last (phases.without m.server r.master.owed) rs vs) (append-nil r.master.reports)
      (subst (λ o. InPhase r.master.phase x.last (phases.without m.server r.master.owed) (r.master.reports ++ shown_by o) vs) is (now (subst IsAnswer (sym is) tt)))

  now-lost : (xs : List Shown) → reply ≡ phases.Reported xs → InLost x.last (phases.without m.server r.master.owed) (r.master.reports ++ xs) vs
  now-lost xs is = subst (λ q. InPhase q x.last (phases.without m.server r.master.owed) (r.master.reports ++ xs) vs) (lost-by xs is)
      (subst (λ o. InPhase r.master.phase x.last (phases.without m.server r.master.owed) (r.master.reports ++ shown_by o) vs) is (now (subst IsAnswer (sym is) tt)))

  taken-attempts : (o : phases.Reply) → reply ≡ o → Attempts (taking m o k)
  taken-attempts phases.NotYet is = with-waits k groups law m.session m.server
  taken-attempts phases.Done is = with-after k groups law m.session m.server x found
      (λ q h. subst (λ (q : Mirror). InPhase q.master.phase x.last (phases.without m.server q.master.owed) q.master.reports vs) (one q h) (now-done is))
  taken-attempts (phases.Reported xs) is = with-told k groups law m.session m.server xs x found
      (λ q h. subst (λ (q : Mirror). (q.master.phase ≡ phase.Lost) × InLost x.last (phases.without m.server q.master.owed) (q.master.reports ++ xs) vs) (one q h) (lost-by xs is, now-lost xs is))

  pub attempts-taken : Attempts (taking m reply k)
  attempts-taken = taken-attempts reply refl

  taken-by : (o : phases.Reply) → reply ≡ o → FlightBy f x.number x.last vs (phases.taken r.master m.server o)
  taken-by phases.NotYet is = fits
  taken-by phases.Done is = fits-left f x.number x.last vs own.numbers own.follows (servers_of x.members) (serves T k x (groups.each x there.0)) m.server r.master (master-servers k groups law x r there.0 has) (λ none. done-by is)
      (subst (λ o. FlightFits f x.number r.master.phase x.last (phases.without m.server r.master.owed) (r.master.reports ++ shown_by o) vs) is (after (subst IsAnswer (sym is) tt)))
  taken-by (phases.Reported xs) is = fits-told f x.number x.last vs own.numbers own.follows (servers_of x.members) (serves T k x (groups.each x there.0)) m.server r.master (master-servers k groups law x r there.0 has) xs (lost-by xs is)
      (subst (λ o. FlightFits f x.number r.master.phase x.last (phases.without m.server r.master.owed) (r.master.reports ++ shown_by o) vs) is (after (subst IsAnswer (sym is) tt)))

  pub flights-taken : Flights (taking m reply k)
  flights-taken = flights-own k flights groups.once m.session (with_master (λ q. phases.taken q m.server reply)) x found (λ x. refl)
      (own-mirror f f T x (λ q. record q { master = phases.taken q.master m.server reply }) (flights.each x there.0)
      (λ q h was. subst (λ (q : Mirror). FlightBy f x.number x.last vs (phases.taken q.master m.server reply)) (one q h) (taken-by reply refl))
      (λ none was. was))
