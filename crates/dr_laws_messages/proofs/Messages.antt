-- What the messages in flight say stays where a master sends an order, where a server replies to one, and where a message is lost.
use Rattle.std.proofs.Common.{ℕ, ◌≡◌, ◌≢◌, ◌≤◌, ◌⊎◌, inl, inr, refl, ap, sym, ◌∙◌, Bool, true, false, cond, not, arith, List, [], ◌∷◌, ◌++◌, length, filter, suc, subst, Option, None, Some, ◌==◌}
use Rattle.std.specs.List.{list_any}
use Rattle.std.proofs.lemmas.Option.{same_Some}
use Rattle.dr_ids.specs.declared.names.Member.{Member}
use Rattle.dr_ids.specs.declared.refusal.PhaseName.{PhaseName}
use Rattle.dr_ids.specs.declared.refusal.PhaseName.TheVariants as phase
use Rattle.dr_model.specs.Decisions.{Shown}
use Rattle.dr_model.specs.Phases as phases
use Rattle.dr_model.specs.Control.{Control}
use Rattle.dr_model.specs.Sessions.{Session, Mirror, session_in, servers_of}
use Rattle.dr_model.specs.Messages.{Flight, Message, Body, Replies, Asks, sent, answered, lost, heard}
use Rattle.dr_model.specs.MessagePlans.{replying, with_flight}
use Rattle.dr_model.specs.SessionEntries.{members_on, is_drained, shown_by_members, reply_after}
use Rattle.dr_model.specs.Groups.{In, Groups}
use Rattle.dr_model.specs.Attempts.{Roles, roles, Seen, seen, all_seen, All, Blocked, IsReported, InPhase, phase_of, owed_of, reports_of, AttemptOf, Attempts, WorkDone}
use Rattle.dr_model.specs.Flights.{IsThreat, IsAwaited, shown_by, members_at, FlightFits, FlightIn, Flights}
use Rattle.dr_laws_sessions.specs.Frames.{ServerSilent}
use Rattle.dr_facts.proofs.Lists.{from-filter, from-map}
use Rattle.dr_laws_sessions.proofs.Changes.{session-found, same-session}
use Rattle.dr_laws_sessions.proofs.Frames.{groups-flight}
use Rattle.dr_laws_sessions.proofs.Reports.{shown-few}
use Rattle.dr_laws_attempts.specs.Orders.{IsDoneFor}
use Rattle.dr_laws_attempts.proofs.Stages.{Serves, Tells}
use Rattle.dr_laws_attempts.proofs.Tables.{serves, attempt-by, has-done, tells}
use Rattle.dr_laws_attempts.proofs.Orders.{done-asked, work-lost}
use Rattle.dr_laws_messages.proofs.Eased.{Eases, fits-fewer}
use Rattle.dr_laws_messages.proofs.Taking.{new, reply-or, MayReply, fits-replied}
use Rattle.dr_laws_messages.proofs.Masters.{told-others, adds-told, adds-done}
use Rattle.dr_laws_messages.proofs.Sends.{own-lost, sent-aside, fits-sent}
use Rattle.dr_laws_messages.proofs.Tables.{home-of, Aside, flights-told}
use Rattle.dr_laws_messages.proofs.Turns.{flight-by}
use Rattle.dr_laws_messages.proofs.Replies.{flights-heard-at, heard-reaches}

-- ---- lost

lost-eases : (f : Flight) (n s : ℕ) → Eases f (lost n f) s
lost-eases f n s = record { orders = λ m o. record { here = (from-filter (λ (m : Message). not (m.number == n)) f.messages m o.here).0; session = o.session; starts = o.starts; asks = o.asks }; fence = λ x. omega arith }

pub flights-dropped : (k : Control) (n : ℕ) → Flights k → Flights (with_flight (lost n) k)
flights-dropped k n flights = record {
  homes = λ m i. flights.homes m (was m i);
  fences = flights.fences;
  each = λ x i. fits-fewer k.flight (lost n k.flight) x.number (lost-eases k.flight n x.number) (phase_of x.mirror) x.last (owed_of x.mirror) (reports_of x.mirror) (all_seen (roles k) x.members) refl (flights.each x i) (λ m h at. was m h);
}
  where
    was : (m : Message) → In m (lost n k.flight).messages → In m k.flight.messages
    was m i = (from-filter (λ (m : Message). not (m.number == n)) k.flight.messages m i).0

-- ---- a reply

-- a message in flight is of an epoch that has begun
fits-known : (k : Control) → Flights k → (m : Message) → In m k.flight.messages → m.epoch ≤ k.flight.epoch m.session
fits-known k flights m here = let home = home-of k.sessions m.session (flights.homes m here) in
    subst (λ s. m.epoch ≤ k.flight.epoch s) home.number (((flights.each home.session home.listed).known m here (sym home.number)).epoch)

reply-answers : (s : ℕ) (work : phases.Work) (ms : List Member) (k : Control) → phases.answers (reply_after s work ms k) work ≡ true
reply-answers s phases.Seal ms k = by (list_any (λ (m : Member). not (is_drained m.a.0 k)) ms)
  where
    by : (b : Bool) → phases.answers (cond b phases.NotYet phases.Done) phases.Seal ≡ true
    by true = refl
    by false = refl
reply-answers s phases.Report ms k = refl
reply-answers s work ms k = refl

-- it looks at no message
reply-still : (s : ℕ) (work : phases.Work) (ms : List Member) (k : Control) (f : Flight) → reply_after s work ms (record k { flight = f }) ≡ reply_after s work ms k
reply-still s phases.Seal ms k f = refl
reply-still s phases.Report ms k f = refl
reply-still s work ms k f = refl

-- nothing is shown but in a report
reply-shows : (s : ℕ) (work : phases.Work) (ms : List Member) (k : Control) → (work ≡ phases.Report → ⊥) → shown_by (reply_after s work ms k) ≡ []
reply-shows s phases.Seal ms k ne = by (list_any (λ (m : Member). not (is_drained m.a.0 k)) ms)
  where
    by : (b : Bool) → shown_by (cond b phases.NotYet phases.Done) ≡ []
    by true = refl
    by false = refl
reply-shows s phases.Report ms k ne = absurd (ne refl)
reply-shows s work ms k ne = refl

abbrev replied : Body → phases.Reply → phases.Reply
replied (Replies o) r = o
replied (Asks n) r = r

same-reply : (r o : phases.Reply) → Replies r ≡ Replies o → r ≡ o
same-reply r o e = λ i. replied (e i) r

-- how many members a server has
pub members-at : (T : Roles) (server : ℕ) (ms : List Member) → members_at server (all_seen T ms) ≡ length (members_on server ms)
members-at T server [] = refl
members-at T server (m ∷ ms) = by (m.server.0 == server) (members-at T server ms)
  where
    by : (b : Bool) → members_at server (all_seen T ms) ≡ length (members_on server ms) → length (cond b (seen T m ∷ filter (λ (v : Seen). v.server == server) (all_seen T ms)) (filter (λ (v : Seen). v.server == server) (all_seen T ms))) ≡ length (cond b (m ∷ members_on server ms) (members_on server ms))
    by true again = ap suc again
    by false again = again

work-finishes : (p : PhaseName) → p ≡ phase.Finishing → (w : phases.Work) → phases.work_in p ≡ Some w → w ≡ phases.Finish
work-finishes phase.Finishing e phases.Finish asks = refl
work-finishes phase.Finishing e w asks = absurd cc
work-finishes p e w asks = absurd cc

-- a server that has carried out the order of message m over its members, in the state k after that, whose flight is f
module _ (k : Control) (groups : Groups k) (law : Attempts k) (flights : Flights k) (m : Message) (here : In m k.flight.messages) (x : Session) (found : session_in k.sessions m.session ≡ Some x) (work : phases.Work) (is : m.order.work ≡ work)
    (reached : work ≡ phases.Report → m.epoch ≤ k.flight.fence m.session m.server)
    (did : (work ≡ phases.Report → ⊥) → m.order.number ≡ x.last → WorkDone k x.members m.server work m.order.number) (silent : work ≡ phases.Finish → m.order.number ≡ x.last → ServerSilent k x m.server) where
  abbrev f : Flight
  f = k.flight

  abbrev T : Roles
  T = roles k

  abbrev p : PhaseName
  p = phase_of x.mirror

  abbrev n : ℕ
  n = x.last

  abbrev vs : List Seen
  vs = all_seen T x.members

  abbrev reply : phases.Reply
  reply = reply_after m.session work (members_on m.server x.members) k

  abbrev g : Flight
  g = answered m reply f

  abbrev made : Message
  made = new f m.session m.epoch m.server m.order reply

  there : In x k.sessions × (x.number ≡ m.session)
  there = session-found k.sessions m.session x found

  -- what is said of x is said of the session of the message
  at-home : (P : ℕ → Type 0) → P x.number → P m.session
  at-home P h = subst P there.1 h

  fits : FlightFits f m.session p n (owed_of x.mirror) (reports_of x.mirror) vs
  fits = at-home (λ s. FlightFits f s p n (owed_of x.mirror) (reports_of x.mirror) vs) (flights.each x there.0)

  own : AttemptOf T x
  own = law.sessions x there.0

  abbrev ms : List Member
  ms = members_on m.server x.members

  -- a report, or something else
  abbrev IsReport : Type 0
  IsReport = work ≡ phases.Report

  reports-or : (w : phases.Work) → (w ≡ phases.Report) ⊎ (w ≡ phases.Report → ⊥)
  reports-or phases.Report = inl refl
  reports-or w = inr (λ e. cc)

  abbrev shows : List Shown
  shows = shown_by_members m.session ms k

  shown-is : IsReport → shown_by reply ≡ shows
  shown-is e = ap (λ w. shown_by (reply_after m.session w ms k)) e

  abbrev serving : Serves (servers_of x.members) vs
  serving = serves T k x (groups.each x there.0)

  telling : Tells n vs own.numbers own.follows (servers_of x.members) serving m.server shows
  telling = subst (λ s. Tells n vs own.numbers own.follows (servers_of x.members) serving m.server (shown_by_members s ms k)) there.1 (tells k groups law x m.server there.0 own.numbers own.follows)

  -- where the master awaits the reply, it asked for that work
  module _ (a : IsAwaited g m.session p n (owed_of x.mirror) made) where
    asked : phases.work_in p ≡ Some work
    asked = a.works ∙ ap Some is

    numbered : (IsReport → ⊥) → m.order.number ≡ n
    numbered ne = a.number (λ e. ne (sym is ∙ e))

    done-for : (IsReport → ⊥) → IsDoneFor p n m.server vs
    done-for ne = by x.mirror refl
      where
        by : (o : Option Mirror) → x.mirror ≡ o → IsDoneFor (phase_of o) n m.server vs
        by None e = tt
        by (Some r) e = has-done k groups law m.server x there.0 (done-asked k x m.server work m.order.number asked (sym (numbered ne)) (did ne (numbered ne))) r e

    lost-reports : p ≡ phase.Lost → IsReport
    lost-reports e = own-lost p work e asked

    made-reached : p ≡ phase.Lost → f.epoch m.session ≤ f.fence m.session m.server
    made-reached e = let now : m.epoch ≡ f.epoch m.session = a.epoch in let high : m.epoch ≤ f.fence m.session m.server = reached (lost-reports e) in omega arith

    made-others : p ≡ phase.Lost → (q : ℕ) → IsReported q false (shown_by reply) → q ≢ n → (c : Message) → IsThreat f m.session phases.Commit n vs c → Blocked vs
    made-others e q told = told-others f m.session n vs own.numbers own.follows (servers_of x.members) serving m.server shows telling fits.commit_way q (subst (IsReported q false) (shown-is (lost-reports e)) told)

    made-adds : (ks : List ℕ) (rs : List Shown) → InPhase p n ks rs vs → InPhase p n (phases.without m.server ks) (rs ++ shown_by reply) vs
    made-adds ks rs h = by (reports-or work)
      where
        by : IsReport ⊎ (IsReport → ⊥) → InPhase p n (phases.without m.server ks) (rs ++ shown_by reply) vs
        by (inl e) = subst (λ xs. InPhase p n (phases.without m.server ks) (rs ++ xs) vs) (sym (shown-is e))
            (adds-told f m.session n vs own.numbers own.follows (servers_of x.members) serving m.server shows telling p (work-lost p (asked ∙ ap Some e)) ks rs h)
        by (inr ne) = subst (λ xs. InPhase p n (phases.without m.server ks) (rs ++ xs) vs) (sym (reply-shows m.session work ms k ne))
            (adds-done f m.session n vs own.numbers own.follows (servers_of x.members) serving m.server p (done-for ne) ks rs h)

    made-few : length (shown_by reply) ≤ members_at m.server vs
    made-few = by (reports-or work)
      where
        by : IsReport ⊎ (IsReport → ⊥) → length (shown_by reply) ≤ members_at m.server vs
        by (inl e) = subst (λ xs. length xs ≤ members_at m.server vs) (sym (shown-is e)) (subst (λ q. length shows ≤ q) (sym (members-at T m.server x.members)) (shown-few m.session ms k))
        by (inr ne) = subst (λ xs. length xs ≤ members_at m.server vs) (sym (reply-shows m.session work ms k ne)) (omega arith)

    made-finished : p ≡ phase.Finishing → All (λ v. v.server ≡ m.server → v.recording ≡ false) vs
    made-finished e u h at =
        let finish : work ≡ phases.Finish = work-finishes p e work asked in
        let o = from-map (seen T) x.members u h in
        subst (λ (u : Seen). u.recording ≡ false) (sym o.is) (silent finish (numbered (λ r. let no : phases.Finish ≡ phases.Report = sym finish ∙ r in cc)) o.from o.here (ap (λ (u : Seen). u.server) (sym o.is) ∙ at))

  may-reply : MayReply f m.session m.epoch m.server m.order reply p n (owed_of x.mirror) (reports_of x.mirror) vs
  may-reply = let was = fits.known m here refl in record {
    known = record {
      epoch = was.epoch;
      number = was.number;
      positive = was.positive;
      answers = λ o e. subst (λ o. phases.answers o m.order.work ≡ true) (same-reply reply o e) (subst (λ w. phases.answers reply w ≡ true) (sym is) (reply-answers m.session work ms k));
    };
    so_far = λ e. let sent = fits.so_far m here refl e in record { early = sent.early; work = sent.work };
    reached = λ e a. made-reached a e;
    others = λ e a. made-others a e;
    adds = made-adds;
    few = made-few;
    finished = λ e a. made-finished a e;
  }

  aside : Aside f g m.session
  aside = record { messages = λ q i ne. by q ne (reply-or f m.session m.epoch m.server m.order reply q i); epoch = λ t ne. refl; fence = λ t x ne. refl }
    where
      by : (q : Message) → q.session ≢ m.session → In q f.messages ⊎ (q ≡ made) → In q f.messages
      by q ne (inl old) = old
      by q ne (inr is) = absurd (ne (λ i. (is i).session))

  pub flights-made : Flights (record k { flight = g })
  flights-made = flights-told k flights g m.session aside (λ q i is. home-of k.sessions m.session (flights.homes m here)) (flights.fences m.session)
      (λ y i is. subst (FlightIn g T) (same-session k.sessions x y groups.once there.0 i (there.1 ∙ sym is))
      (subst (λ s. FlightFits g s p n (owed_of x.mirror) (reports_of x.mirror) vs) (sym there.1) (fits-replied f m.session m.epoch m.server m.order reply p n (owed_of x.mirror) (reports_of x.mirror) vs fits may-reply)))

-- a server has carried out an order, and replies
pub flights-replied : (k : Control) (m : Message) (x : Session) → Groups k → Attempts k → Flights k → In m k.flight.messages → session_in k.sessions m.session ≡ Some x
    → ((m.order.work ≡ phases.Report → ⊥) → m.order.number ≡ x.last → WorkDone k x.members m.server m.order.work m.order.number) → (m.order.work ≡ phases.Finish → m.order.number ≡ x.last → ServerSilent k x m.server)
    → Flights (replying m (members_on m.server x.members) k)
flights-replied k m x groups law flights here found did silent =
    subst (λ r. Flights (record k { flight = answered m r (heard m.session m.server m.epoch m.order.work k.flight) })) (reply-still m.session m.order.work (members_on m.server x.members) k (heard m.session m.server m.epoch m.order.work k.flight))
    (flights-made (record k { flight = heard m.session m.server m.epoch m.order.work k.flight }) (groups-flight k (heard m.session m.server m.epoch m.order.work k.flight) groups) law
    (flights-heard-at k m.session m.server m.epoch m.order.work flights (fits-known k flights m here)) m (still m.order.work) x found m.order.work refl
    (heard-reaches k.flight m.session m.server m.epoch m.order.work (flights.fences m.session) (fits-known k flights m here)) did silent)
  where
    still : (work : phases.Work) → In m (heard m.session m.server m.epoch work k.flight).messages
    still phases.Report = here
    still work = here

-- ---- an order is sent

-- what is owed is the work of the phase, and but for a report it has the last number
pub record IsOwn (w : Option phases.Work) (n : ℕ) (o : phases.Order) : Type 0 where
  pub works : w ≡ Some o.work
  pub low : o.number ≤ n
  pub number : (o.work ≡ phases.Report → ⊥) → o.number ≡ n

pub own-numbered : (w : phases.Work) (n : ℕ) → IsOwn (Some w) n (phases.numbered w n)
own-numbered phases.Report n = record { works = refl; low = omega arith; number = λ ne. absurd (ne refl) }
own-numbered w n = record { works = refl; low = omega arith; number = λ ne. refl }

own-order : (b : Bool) (w : Option phases.Work) (n : ℕ) (o : phases.Order) → phases.order_if b w n ≡ Some o → IsOwn w n o
own-order true (Some w) n o e = subst (IsOwn (Some w) n) (same_Some _ _ e) (own-numbered w n)
own-order b w n o e = absurd cc

pub flights-sent : (k : Control) (s server : ℕ) (x : Session) (r : Mirror) (o : phases.Order) → Groups k → Attempts k → Flights k → session_in k.sessions s ≡ Some x → x.mirror ≡ Some r → phases.order_for r.master server ≡ Some o → Flights (with_flight (sent s server o) k)
flights-sent k s server x r o groups law flights found has owes =
    let there = session-found k.sessions s x found in
    let own = own-order (phases.is_among server r.master.owed) (phases.work_in r.master.phase) r.master.number o owes in
    let last : r.master.number ≡ x.last = (groups.each x there.0).sound.number r has in
    flights-told k flights (sent s server o k.flight) s (sent-aside k.flight s server o) (λ m i is. record { session = x; listed = there.0; number = there.1 }) (flights.fences s)
    (λ y i is. subst (FlightIn (sent s server o k.flight) (roles k)) (same-session k.sessions x y groups.once there.0 i (there.1 ∙ sym is))
    (subst (λ s. FlightIn (sent s server o k.flight) (roles k) x) there.1
    (subst (λ q. FlightFits (sent x.number server o k.flight) x.number (phase_of q) x.last (owed_of q) (reports_of q) (all_seen (roles k) x.members)) (sym has)
    (fits-sent k.flight x.number server o r.master.phase x.last r.master.owed r.master.reports (all_seen (roles k) x.members) own.works (subst (λ n. o.number ≤ n) last own.low) (λ ne. own.number ne ∙ last)
    (attempt-by (roles k) x r has (law.sessions x there.0)).phase (flight-by k.flight (roles k) x r has (flights.each x there.0))))))
