-- Laws that hold along every exchange and every delivery: what an order's entries do to the members that they are about.
use Rattle.std.proofs.Common.{ℕ, ◌≡◌, refl, Bool, true, false, cond, not, ◌&&◌, nat_eq, nat_lt, List, [], ◌∷◌, Option, Some, None}
use Rattle.dr_ids.specs.declared.names.Member.{Member}
use Rattle.dr_ids.specs.declared.refusal.PhaseName.TheVariants as phase
use Rattle.dr_ids.specs.declared.refusal.Refusal.{Refusal}
use Rattle.dr_ids.specs.declared.refusal.Refusal.TheVariants.{OutOfOrder}
use Rattle.dr_ids.specs.declared.refusal.Kind.TheVariants.{Server as OfServer, Session as OfSession, Message as OfMessage}
use Rattle.dr_model.specs.declared.event.Event.{Event}
use Rattle.dr_model.specs.declared.step.Name.{Name}
use Rattle.dr_model.specs.Refusals.{unknown}
use Rattle.dr_model.specs.Control.{Control, World}
use Rattle.dr_model.specs.Phases as phases
use Rattle.dr_model.specs.Sessions.{Session, Mirror, session_in, mirror_in, members_in}
use Rattle.dr_model.specs.Pairs.{records}
use Rattle.dr_model.specs.Moves.{Hold, Free, Seal, Flash, Commit, Revert, RaiseFloor, Finish}
use Rattle.dr_model.specs.Carry.{Act, Make, OpenAttempt, Next, Pass, Entry}
use Rattle.dr_model.specs.Entries.{fields_at}
use Rattle.dr_model.specs.PairEntries.{send_refusal, reach_refusal, end_if, refuse_if}
use Rattle.dr_model.specs.SessionEntries.{last_of, hold_refusal, stale_refusal, hold_on, void_refusal, free_on, is_drained, seal_refusal, seal_on, is_flashed, flash_refusal, flash_on, is_committed, commit_refusal, commit_on, revert_on, is_past, finish_on, member_entries, members_on, order_entries}
use Rattle.dr_model.specs.Messages.{Flight, Message, Body, Asks, Replies, message_in}
use Rattle.dr_model.specs.MessagePlans.{on_message, order_refusal, order_done, order_on, reply_refusal, taking, reply_on, deliver_on, deliver_plan}
use Rattle.dr_model.specs.SessionPlans.{off_refusal, exchanged, exchange_refusal, order_of, exchange_done, exchange_on, asking, exchange_plan}
use Rattle.dr_model.specs.PlanParts.{Plan, refuses, on_session, on_named, server_named, name_bytes}
use Rattle.dr_model.specs.Carried.{begun}
use Rattle.dr_model.specs.Groups.{In}
use Rattle.dr_model.specs.Laws.{Sound}
use Rattle.dr_laws_sessions.proofs.Silent.{on-members}
use Rattle.dr_laws_sound.proofs.FitsFlash.{as_begun, sound-begun}
use Rattle.dr_laws_sound.proofs.FitsSessions.{Orders}
use Rattle.dr_laws_sound.proofs.FitsExchanges.{orders-ordered}
use Rattle.dr_laws_sound.proofs.FitsMessages.{orders-delivered, sound-taken}
use Rattle.dr_laws_sound.proofs.Cases.{Ordered, Arrives, Reaches, Returns, ordered, taken}
use Rattle.dr_laws_sound.proofs.Rides.{Rides, Both}
use Rattle.dr_facts.proofs.Entries.{any_reason, Fine, FineThen, AllFine, fine-none, fine-then, fine-flat, fine-if}
use Rattle.dr_laws_recovery.proofs.Keeping.{MayFit, keeps-fit, fit-along, Keeping, Goes, refused-goes, goes-unless}
use Rattle.dr_laws_sound.proofs.Along as along

-- ---- the acts of an exchange

-- An order's acts on a member fit: those on its primary and its secondary in any case, those on its target where its primary can send.
pub record FitsMember (Holds : World → Type 0) (Fit : Act → Type 0) (s : ℕ) (q : Member) : Type 0 where
  pub opens : (n : ℕ) → Fit (OpenAttempt q.a.0 s n)
  pub holds : (n : ℕ) → Fit (Make (Hold q.a.0 s n false))
  pub frees : Fit (Make (Free q.a.0))
  pub seals : (n : ℕ) → Fit (Make (Seal q.b.0 q.a.0 s n))
  pub finishes : (n : ℕ) → Fit (Make (Finish q.a.0 n))
  pub flashes : (u : World) → Holds u → send_refusal q.a.0 q.b.0 u.control ≡ None → (n : ℕ) → Fit (Make (Flash q.c.0 q.b.0 q.a.0 s n))
  pub commits : (u : World) → Holds u → send_refusal q.a.0 q.b.0 u.control ≡ None → (n : ℕ) → Fit (Make (Commit q.c.0 q.a.0 s n))
  pub reverts : (u : World) → Holds u → send_refusal q.a.0 q.b.0 u.control ≡ None → (n : ℕ) → Fit (Make (Revert q.c.0 q.a.0 s n))
  pub raises : (u : World) → Holds u → send_refusal q.a.0 q.b.0 u.control ≡ None → (n : ℕ) → Fit (Make (RaiseFloor q.c.0 n))

-- What is to be shown of a law, so that it holds along each exchange: acts that fit keep it, and it says nothing of the tables of
-- sessions and messages where W is read off it.
pub record Exchanging (w : World) (W : World → Type 0) : Type 1 where
  pub law : World → Type 0
  pub fit : Act → Type 0
  pub acts : Rides Sound law (MayFit (λ u. fit))
  pub begins : law (as_begun w)
  pub members : (s : ℕ) (y : Session) → session_in w.control.sessions s ≡ Some y → (q : Member) → In q y.members → FitsMember law fit s q
  pub gives : (v : World) → law v → W v
  pub told : (v : World) (on : ℕ → Bool) (es : List Event) → W v → W (record v { control = record v.control { on = on }; events = es })
  pub regroups : (v : World) (ss : List Session) (f : Flight) → W v → W (record v { control = record v.control { sessions = ss; flight = f } })
  pub retabled : (v : World) (ss : List Session) (f : Flight) → law v → law (record v { control = record v.control { sessions = ss; flight = f } })

module _ (w : World) (sound : Sound w) (W : World → Type 0) (x : Exchanging w W) where
  abbrev I : World → Type 0
  I = Both Sound x.law

  abbrev May : World → Act → Type 0
  May = MayFit (λ u. x.fit)

  -- ---- entries whose acts fit wherever they come

  abbrev AllFit : List Entry → Type 0
  AllFit = AllFine x.law (λ u. x.fit) any_reason

  abbrev FitNext : World → Next → Type 0 → Type 0
  FitNext = FineThen x.law (λ u. x.fit) any_reason

  fits : (d : Entry) (ds : List Entry) → ((u : World) → x.law u → FitNext u (d u.control) (AllFit ds)) → AllFit (d ∷ ds)
  unfolding AllFine
  fits d ds go = go

  -- a check: what follows comes only where it passes
  refused : (why : Control → Option Refusal) (ds : List Entry) → ((u : World) → x.law u → why u.control ≡ None → AllFit ds) → AllFit (refuse_if why ∷ ds)
  refused why ds go = fits (refuse_if why) ds (λ u h. by u (why u.control) (go u h))
    where
      by : (u : World) (o : Option Refusal) → (o ≡ None → AllFit ds) → FitNext u (end_if o) (AllFit ds)
      by u None go = go refl
      by u (Some r) go = tt

  none : AllFit []
  none = fine-none x.law (λ u. x.fit) any_reason

  does : (d : Entry) (ds : List Entry) → ((u : World) → x.law u → Fine x.law (λ u. x.fit) any_reason u (d u.control)) → AllFit ds → AllFit (d ∷ ds)
  does = fine-then x.law (λ u. x.fit) any_reason

  if : (u : World) (b : Bool) (p q : Next) → Fine x.law (λ u. x.fit) any_reason u p → Fine x.law (λ u. x.fit) any_reason u q → Fine x.law (λ u. x.fit) any_reason u (cond b p q)
  if = fine-if x.law (λ u. x.fit) any_reason

  -- ---- the entries of an order

  fit-member : (work : phases.Work) (s n : ℕ) (q : Member) → FitsMember x.law x.fit s q → AllFit (member_entries work s n q)
  fit-member phases.Hold s n q m =
      refused (hold_refusal q.a.0 q.b.0) _ (λ u h free. refused (stale_refusal q.a.0 n) _ (λ u h stale.
      does (hold_on s q.a.0 n) [] (λ u h. if u (records n (fields_at u.control q.a.0)) Pass _ tt (by (nat_lt (last_of u.control s) n))) none))
    where
      by : (b : Bool) → x.fit (cond b (OpenAttempt q.a.0 s n) (Make (Hold q.a.0 s n false)))
      by true = m.opens n
      by false = m.holds n
  fit-member phases.Release s n q m = refused (void_refusal q.a.0 n) _ (λ u h void. does (free_on q.a.0) [] (λ u h. if u (fields_at u.control q.a.0).coordination _ Pass m.frees tt) none)
  fit-member phases.Seal s n q m =
      refused (void_refusal q.a.0 n) _ (λ u h void. refused (seal_refusal q.a.0 q.b.0) _ (λ u h free.
      does (seal_on s q.a.0 q.b.0 n) [] (λ u h. if u (is_drained q.a.0 u.control && not (nat_eq (fields_at u.control q.b.0).seal n)) _ Pass (m.seals n) tt) none))
  fit-member phases.Flash s n q m =
      refused (send_refusal q.a.0 q.b.0) _ (λ u h sends. refused (flash_refusal q.b.0 q.c.0 n) _ (λ v k free.
      does (flash_on s q.a.0 q.b.0 q.c.0 n) [] (λ v k. if v (is_flashed n (fields_at v.control q.c.0)) Pass _ tt (m.flashes u h sends n)) none))
  fit-member phases.Commit s n q m =
      refused (send_refusal q.a.0 q.b.0) _ (λ u h sends. refused (commit_refusal q.c.0 n) _ (λ v k free.
      does (commit_on s q.a.0 q.c.0 n) [] (λ v k. if v (is_committed n (fields_at v.control q.c.0)) Pass _ tt (m.commits u h sends n)) none))
  fit-member phases.Revert s n q m =
      refused (send_refusal q.a.0 q.b.0) _ (λ u h sends.
      does (revert_on s q.a.0 q.c.0 n) [] (λ v k. if v (is_flashed n (fields_at v.control q.c.0)) _ _ (m.reverts u h sends n) (if v (nat_lt (fields_at v.control q.c.0).floor n) _ Pass (m.raises u h sends n) tt)) none)
  fit-member phases.Finish s n q m = does (finish_on q.a.0 n) [] (λ u h. if u (is_past n (fields_at u.control q.a.0)) Pass _ tt (m.finishes n)) none
  fit-member phases.Report s n q m = refused (reach_refusal q.a.0 q.b.0) [] (λ u h near. none)

  fit-order : (work : phases.Work) (s n : ℕ) (qs : List Member) → ((q : Member) → In q qs → FitsMember x.law x.fit s q) → AllFit (order_entries work s n qs)
  fit-order work s n qs each = fine-flat x.law (λ u. x.fit) any_reason (member_entries work s n) qs (λ q here. fit-member work s n q (each q here))

  -- ---- the plans

  abbrev pub keeping : Keeping w W
  keeping = record {
    law = I;
    may = May;
    keeps = keeps-fit x.law (λ u. x.fit) x.acts;
    gives = λ v i. x.gives v i.1;
    told = x.told;
    begins = (sound-begun w sound, x.begins);
  }

  abbrev GoesOn : Plan → Type 0
  GoesOn = Goes w W keeping

  refuse : (r : Refusal) → GoesOn (refuses r)
  refuse = refused-goes w W keeping

  reply-last : (reply : Bool) (s server : ℕ) (work : phases.Work) (ms : List Member) (v : World) → W v → W (record v { control = exchanged s server reply work ms v.control })
  reply-last true s server work ms v h = x.regroups v _ _ h
  reply-last false s server work ms v h = x.regroups v v.control.sessions _ h

  module _ (s server : ℕ) (reply : Bool) (y : Session) (found : session_in w.control.sessions s ≡ Some y) where
    ordered-goes : (r : Mirror) (o : phases.Order) → Ordered w.control s server y r o → GoesOn (ordered s server reply (members_on server y.members) o)
    ordered-goes r o allowed =
        let h : Orders w (ordered s server reply (members_on server y.members) o) = orders-ordered w sound s server y r o allowed reply in
        record {
          begins = keeping.begins;
          entries = fit-along x.law (λ u. x.fit) any_reason h.ends h.complete (order_entries o.work s o.number (members_on server y.members))
              (fit-order o.work s o.number (members_on server y.members) (λ q h. x.members s y found q (on-members server y.members q h).0)) (as_begun w) x.begins h.entries;
          last = reply-last reply s server o.work (members_on server y.members);
          follows = λ q. refl;
        }

    done-goes : (r : Mirror) (o : Option phases.Order) → ((p : phases.Order) → o ≡ Some p → Ordered w.control s server y r p) → GoesOn (exchange_done s server reply (members_on server y.members) o)
    done-goes r None allowed = refuse (OutOfOrder phase.None)
    done-goes r (Some o) allowed = ordered-goes r o (allowed o refl)

    on-goes : (r : Option Mirror) → y.mirror ≡ r → GoesOn (exchange_on w.control s r server reply y.members)
    on-goes None is = refuse (OutOfOrder phase.None)
    on-goes (Some r) is =
        goes-unless w W keeping (exchange_refusal w.control r server y.members) (exchange_done s server reply (members_on server y.members) (order_of r server))
        (λ free. done-goes r (order_of r server) (λ o order. record { found = found; mirror = is; allowed = free; order = order }))

  asking-by : (s server : ℕ) (reply : Bool) → (o : Option Session) → session_in w.control.sessions s ≡ o → GoesOn (exchange_on w.control s (mirror_in o) server reply (members_in o))
  asking-by s server reply None found = refuse (OutOfOrder phase.None)
  asking-by s server reply (Some y) found = on-goes s server reply y found y.mirror refl

  pub goes-asking : (s server : ℕ) (reply : Bool) → Goes w W keeping (asking w.control s server reply)
  goes-asking s server reply = asking-by s server reply (session_in w.control.sessions s) refl

  goes-named : (o : Option ℕ) (p : ℕ → Plan) → ((server : ℕ) → GoesOn (p server)) → GoesOn (on_named o p)
  goes-named None p go = refuse (unknown OfServer)
  goes-named (Some server) p go = go server

  goes-session : (o : Option Session) (p : Session → Plan) → ((y : Session) → o ≡ Some y → GoesOn (p y)) → GoesOn (on_session o p)
  goes-session None p go = refuse (unknown OfSession)
  goes-session (Some y) p go = go y refl

  pub goes-exchange : (s : ℕ) (name : Name) (reply : Bool) → Goes w W keeping (exchange_plan w.control s name reply)
  goes-exchange s name reply =
      goes-session (session_in w.control.sessions s) _ (λ y found.
      goes-named (server_named w.control (name_bytes name)) (λ server. exchange_on w.control s y.mirror server reply y.members) (λ server. on-goes s server reply y found y.mirror refl))

  -- ---- deliveries

  -- an order that came is carried out
  delivered-goes : (n : ℕ) (m : Message) (starts : ℕ) (y : Session) (r : Mirror) → Reaches w.control n m starts y r → GoesOn (order_done m (members_on m.server y.members))
  delivered-goes n m starts y r reaches =
      let ms : List Member = members_on m.server y.members in
      let h : Orders w (order_done m ms) = orders-delivered w sound n m starts y r reaches in
      record {
        begins = keeping.begins;
        entries = fit-along x.law (λ u. x.fit) any_reason h.ends h.complete (order_entries m.order.work m.session m.order.number ms)
            (fit-order m.order.work m.session m.order.number ms (λ q h. x.members m.session y reaches.arrives.found q (on-members m.server y.members q h).0)) (as_begun w) x.begins h.entries;
        last = λ v h. x.regroups v v.control.sessions _ h;
        follows = λ q. refl;
      }

  -- and a reply is taken
  taken-goes : (n : ℕ) (m : Message) (reply : phases.Reply) (y : Session) (r : Mirror) → Returns w.control n m reply y r → GoesOn (taken m reply)
  taken-goes n m reply y r returns =
      let b : I (begun w (taken m reply)) = (sound-taken w sound n m reply y r returns, x.retabled (as_begun w) (taking m reply w.control).sessions w.control.flight x.begins) in
      record { begins = b; entries = along.along-nil I I I May (begun w (taken m reply)) b; last = λ v h. h; follows = λ q. refl }

  order-goes : (n : ℕ) (m : Message) (starts : ℕ) (y : Session) (o : Option Mirror) → ((r : Mirror) → o ≡ Some r → Arrives w.control n m (Asks starts) y r) → off_refusal w.control m.server ≡ None → GoesOn (order_on w.control m starts y.members o)
  order-goes n m starts y None arrives on = refuse (OutOfOrder phase.None)
  order-goes n m starts y (Some r) arrives on =
      goes-unless w W keeping (order_refusal w.control r m starts) (order_done m (members_on m.server y.members)) (λ free. delivered-goes n m starts y r (record { arrives = arrives r refl; on = on; allowed = free }))

  reply-goes : (n : ℕ) (m : Message) (reply : phases.Reply) (y : Session) (o : Option Mirror) → ((r : Mirror) → o ≡ Some r → Arrives w.control n m (Replies reply) y r) → GoesOn (reply_on w.control m reply o)
  reply-goes n m reply y None arrives = refuse (OutOfOrder phase.None)
  reply-goes n m reply y (Some r) arrives = goes-unless w W keeping (reply_refusal w.control r m) (taken m reply) (λ free. taken-goes n m reply y r (record { arrives = arrives r refl; allowed = free }))

  body-goes : (n : ℕ) (m : Message) (y : Session) (b : Body) → ((r : Mirror) → y.mirror ≡ Some r → Arrives w.control n m b y r) → GoesOn (deliver_on w.control m y b)
  body-goes n m y (Asks starts) arrives = goes-unless w W keeping (off_refusal w.control m.server) (order_on w.control m starts y.members y.mirror) (λ on. order-goes n m starts y y.mirror arrives on)
  body-goes n m y (Replies reply) arrives = reply-goes n m reply y y.mirror arrives

  message-goes : (n : ℕ) (o : Option Message) → message_in w.control.flight n ≡ o → GoesOn (on_message o (λ m. on_session (session_in w.control.sessions m.session) (λ y. deliver_on w.control m y m.body)))
  message-goes n None there = refuse (unknown OfMessage)
  message-goes n (Some m) there = goes-session (session_in w.control.sessions m.session) (λ y. deliver_on w.control m y m.body) (λ y found. body-goes n m y m.body (λ r mirror. record { there = there; says = refl; found = found; mirror = mirror }))

  pub goes-deliver : (n : ℕ) → Goes w W keeping (deliver_plan w.control n)
  goes-deliver n = message-goes n (message_in w.control.flight n) refl
