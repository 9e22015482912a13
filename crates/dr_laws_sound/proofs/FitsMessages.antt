-- The plans of lines on messages: an order is sent, and arrives at its server, which carries it out and replies; and a reply arrives at its
-- master, which takes it.
use Rattle.std.proofs.Common.{ℕ, ◌≡◌, ◌≢◌, ◌≤◌, ◌+◌, ◌⊎◌, inl, inr, refl, ap, sym, ◌∙◌, subst, Bool, true, false, cond, not, ◌||◌, List, [], ◌∷◌, ◌++◌, Some, None, option_map}
use Rattle.std.specs.Prelude.{◌==◌}
use Rattle.std.specs.List.{list_any}
use Rattle.std.proofs.lemmas.Bool.{and_parts, or_parts, eqb-true, leb-true, not-false}
use Rattle.std.proofs.lemmas.Option.{same_Some}
use Rattle.dr_ids.specs.declared.names.Member.{Member}
use Rattle.dr_ids.specs.declared.refusal.PhaseName.{PhaseName}
use Rattle.dr_ids.specs.declared.refusal.PhaseName.TheVariants as phase
use Rattle.dr_ids.specs.declared.refusal.Refusal.TheVariants.{OutOfOrder, NumbersSpent}
use Rattle.dr_model.specs.declared.event.Event.TheVariants.{Begin}
use Rattle.dr_model.specs.Refusals.{server_off}
use Rattle.dr_model.specs.Histories.{histories}
use Rattle.dr_model.specs.Phases as phases
use Rattle.dr_model.specs.Sessions.{Session, Mirror, session_in, changed, begun, with_master}
use Rattle.dr_model.specs.Messages.{Flight, Message, is_current, sent, answered, heard}
use Rattle.dr_model.specs.Control.{Control, World}
use Rattle.dr_model.specs.PlanParts.{Plan}
use Rattle.dr_model.specs.Runs.{begun as begun_by}
use Rattle.dr_model.specs.SessionEntries.{members_on, reply_after}
use Rattle.dr_model.specs.SessionPlans.{is_idle, off_refusal, phase_refusal, apart_refusal}
use Rattle.dr_model.specs.MessagePlans.{full_refusal, old_refusal, send_order, sending, told_begun, order_done, replying, is_awaited, taking}
use Rattle.dr_model.specs.Groups.{In, Groups, SessionFits, IsLoose, Due, SecondariesUncascaded}
use Rattle.dr_model.specs.Attempts.{phase_of, owed_of, Attempts}
use Rattle.dr_model.specs.Decisions.{Shown}
use Rattle.dr_model.specs.Flights.{IsAnswer, HasAnswer, IsAwaited, shown_by, shown_in, Flights}
use Rattle.dr_model.specs.Laws.{Sound}
use Rattle.dr_model.proofs.Images.{histories-append}
use Rattle.dr_facts.proofs.Lists.{found as is-found, some-any}
use Rattle.dr_facts.proofs.Refusals.{none-both, met}
use Rattle.dr_laws_sessions.proofs.Changes.{session-found, changed-found}
use Rattle.dr_laws_sessions.proofs.Sound.{among-servers}
use Rattle.dr_laws_sessions.proofs.Volumes.{groups-begun}
use Rattle.dr_laws_attempts.proofs.Tables.{attempts-begun}
use Rattle.dr_laws_attempts.proofs.Orders.{order-is}
use Rattle.dr_laws_messages.proofs.Turns.{flights-begun}
use Rattle.dr_laws_messages.proofs.Messages.{flights-sent, flights-replied}
use Rattle.dr_laws_messages.proofs.Taken.{awaited-so, lost-by, done-by, sessions-taken, attempts-taken, flights-taken}
use Rattle.dr_laws_closed.proofs.Regroups.{regroups-same, stays-taken}
use Rattle.dr_laws_sound.proofs.KeepsGroups.{secondaries-stay, secondaries-begun}
use Rattle.dr_laws_sound.proofs.NewMessages.{Adds, adds-answered, adds-sent}
use Rattle.dr_laws_sound.proofs.GoesOn.{AllGoOn, goes-replied}
use Rattle.dr_laws_sound.proofs.TablesGo.{goes-taken}
use Rattle.dr_laws_sound.proofs.KeepsQueue.{AllQuiet}
use Rattle.dr_laws_sound.proofs.KeepsSound.{StepHolds, holds-moves, sound-told, over}
use Rattle.dr_laws_sound.proofs.Cases.{Posts, Reaches, Returns, taken}
use Rattle.dr_laws_sound.proofs.FitsFlash.{as_begun, sound-begun}
use Rattle.dr_laws_sound.proofs.FitsSessions.{sound-tables, sound-sessions, sound-flight, Orders}
use Rattle.dr_laws_sound.proofs.FitsOrders.{Carried, how-due, carries}
use Rattle.dr_laws_sound.proofs.FitsExchanges.{idle-or, not-lost, heard-messages, heard-epoch}

-- ---- an order is sent

-- in Idle a server of a member is asked for the first hold of the next attempt
record Opens (r : Mirror) (server : ℕ) (o : phases.Order) (ms : List Member) : Type 0 where
  member : Member
  here : In member ms
  on : member.server.0 ≡ server
  order : o ≡ phases.numbered phases.Hold (r.master.number + 1)

-- what refuses it there
first-passed : (b : Bool) (r : Mirror) (server : ℕ) (ms : List Member) → cond b (Some (OutOfOrder phase.Idle)) (cond (r.master.number + 1 == 4294967296) (Some NumbersSpent) None) ≡ None → b ≡ false
first-passed true r server ms h = absurd cc
first-passed false r server ms h = refl

some-member : (server : ℕ) (ms : List Member) → list_any (λ (m : Member). m.server.0 == server) ms ≡ true → (m : Member) × (In m ms × (m.server.0 ≡ server))
some-member server ms any = let one = some-any (λ (m : Member). m.server.0 == server) ms any in (one.0, (one.1.0, eqb-true one.0.server.0 server one.1.1))

opens-by : (p : PhaseName) (r : Mirror) (server : ℕ) (o : phases.Order) (ms : List Member) → p ≡ phase.Idle
    → cond (is_idle p) (cond (r.paused || not (list_any (λ (m : Member). m.server.0 == server) ms)) (Some (OutOfOrder phase.Idle)) (cond (r.master.number + 1 == 4294967296) (Some NumbersSpent) None)) (cond (phases.is_among server r.master.owed) None (Some (OutOfOrder p))) ≡ None
    → cond (is_idle p) (Some (record { work = phases.Hold; number = r.master.number + 1 })) (phases.order_if (phases.is_among server r.master.owed) (phases.work_in p) r.master.number) ≡ Some o → Opens r server o ms
opens-by phase.Idle r server o ms idle free is =
    let any = not-false (list_any (λ (m : Member). m.server.0 == server) ms) (or_parts r.paused _ (first-passed (r.paused || not (list_any (λ (m : Member). m.server.0 == server) ms)) r server ms free)).1 in
    let one = some-member server ms any in
    record { member = one.0; here = one.1.0; on = one.1.1; order = sym (same_Some _ _ is) }
opens-by p r server o ms idle free is = absurd cc

pub idle-is : (p : PhaseName) → p ≡ phase.Idle → is_idle p ≡ true
idle-is phase.Idle e = refl
idle-is p e = absurd cc

pub busy-is : (p : PhaseName) → p ≢ phase.Idle → is_idle p ≡ false
busy-is phase.Idle ne = absurd (ne refl)
busy-is p ne = refl

-- attempt n of session i has begun, and none of its members is held yet
abbrev pub opened : World → ℕ → ℕ → World
opened w i n = record w { control = record w.control { sessions = changed i begun w.control.sessions }; events = w.events ++ Begin i n ∷ [] }

-- an attempt that begins is told to no list
told-quiet : (b : Bool) (s n i : ℕ) → AllQuiet i (told_begun b s n)
told-quiet true s n i = (tt, tt)
told-quiet false s n i = tt

told-lists : (b : Bool) (w : World) (s n : ℕ) → histories (w.events ++ told_begun b s n) ≡ histories w.events
told-lists true w s n = histories-append w.events (Begin s n ∷ [])
told-lists false w s n = histories-append w.events []

module _ (w : World) (s : Sound w) (i server : ℕ) (x : Session) (r : Mirror) (o : phases.Order) (posts : Posts w.control i server x r o) where
  abbrev k : Control
  k = w.control

  there : In x k.sessions × (x.number ≡ i)
  there = session-found k.sessions i x posts.found

  fits : SessionFits k x
  fits = s.groups.each x there.0

  free : phase_refusal r server x.members ≡ None
  free = (none-both (phase_refusal r server x.members) (full_refusal k.flight) (none-both (off_refusal k r.server) _ posts.allowed).1).0

  abbrev Sent : Bool → Type 0
  Sent b = Sound (record w { control = sending i b server o k })

  -- what a phase asks is sent
  sent-busy : r.master.phase ≢ phase.Idle → Sent false
  sent-busy busy = sound-flight w (sent i server o k.flight)
      (flights-sent k i server x r o s.groups s.attempts s.flights posts.found posts.mirror (sym (ap (λ b. cond b (Some (record { work = phases.Hold; number = r.master.number + 1 })) (phases.order_for r.master server)) (busy-is r.master.phase busy)) ∙ posts.order)) s

  -- the attempt begins
  abbrev begins : Control
  begins = record k { sessions = changed i begun k.sessions }

  module _ (idle : r.master.phase ≡ phase.Idle) where
    opens : Opens r server o x.members
    opens = opens-by r.master.phase r server o x.members idle free posts.order

    groups : Groups begins
    groups = groups-begun k i x r s.groups posts.found posts.mirror idle

    secondaries : SecondariesUncascaded begins
    secondaries = secondaries-begun k i s.groups.once s.secondaries

    attempts : Attempts begins
    attempts = attempts-begun k i x r opens.member s.groups s.attempts posts.found posts.mirror idle opens.here

    flights : Flights begins
    flights = flights-begun k s.groups s.attempts s.flights i x r there.0 there.1 posts.mirror idle

    owed : phases.is_among server r.master.servers ≡ true
    owed = subst (λ q. phases.is_among q r.master.servers ≡ true) opens.on (subst (λ ks. phases.is_among opens.member.server.0 ks ≡ true) (sym (fits.sound.servers r posts.mirror)) (among-servers x opens.member fits.sound opens.here))

    found-begun : session_in (changed i begun k.sessions) i ≡ Some (begun x)
    found-begun = changed-found i begun k.sessions x (λ x. refl) posts.found

    -- its number is the next one
    pub next-number : o.number ≡ x.last + 1
    next-number = ap (λ (o : phases.Order). o.number) opens.order ∙ ap (λ n. n + 1) (fits.sound.number r posts.mirror)

    sent-idle : Sent true
    sent-idle = sound-tables w (changed i begun k.sessions) (sent i server o k.flight) groups secondaries attempts
        (flights-sent begins i server (begun x) (record r { master = phases.begun r.master }) o groups attempts flights found-begun (ap (option_map (λ (r : Mirror). record r { master = phases.begun r.master })) posts.mirror)
        (ap (λ b. phases.order_if b (Some phases.Hold) (r.master.number + 1)) owed ∙ ap Some (sym opens.order))) s

    -- it has begun, and nothing is sent yet
    pub sound-opened : Sound (opened w i o.number)
    sound-opened =
        let u : World = record w { control = begins } in
        sound-told None u u.control.servers u.control.on u.control.fuse u.control.link u.control.paths (Begin i o.number ∷ []) (told-lists true u i o.number) (told-quiet true i o.number (u.control.issued + 1)) (λ j h. h) s.housed
        (sound-sessions w (changed i begun k.sessions) groups secondaries attempts flights s)

    -- the first hold is what its phase asks for
    pub adds-first : Adds (changed i begun k.sessions) k.flight (sent i server o k.flight)
    adds-first =
        let home = session-found (changed i begun k.sessions) i (begun x) found-begun in
        adds-sent (changed i begun k.sessions) k.flight i server o (begun x) home.0 home.1
        (ap (λ o. phases.work_in (phase_of (option_map (λ (r : Mirror). record r { master = phases.begun r.master }) o))) posts.mirror ∙ ap Some (sym (ap (λ (o : phases.Order). o.work) opens.order))) (λ other. next-number)

  -- and each later order
  pub adds-later : r.master.phase ≢ phase.Idle → Adds k.sessions k.flight (sent i server o k.flight)
  adds-later busy =
      let order = order-is r server o busy posts.order in
      adds-sent k.sessions k.flight i server o x there.0 there.1 (ap (λ o. phases.work_in (phase_of o)) posts.mirror ∙ order.0)
      (λ other. order.1 (not-lost r.master.phase o.work order.0 other) ∙ fits.sound.number r posts.mirror)

  sent-so : Sent (is_idle r.master.phase)
  sent-so = by (idle-or r.master.phase)
    where
      by : (r.master.phase ≡ phase.Idle) ⊎ (r.master.phase ≢ phase.Idle) → Sent (is_idle r.master.phase)
      by (inl idle) = subst Sent (sym (idle-is r.master.phase idle)) (sent-idle idle)
      by (inr busy) = subst Sent (sym (busy-is r.master.phase busy)) (sent-busy busy)

  abbrev posted : Plan
  posted = send_order i (is_idle r.master.phase) server (Some o)

  pub sound-sent : Sound (begun_by w posted)
  sound-sent =
      let u : World = record w { control = sending i (is_idle r.master.phase) server o k } in
      sound-told None u u.control.servers u.control.on u.control.fuse u.control.link u.control.paths (told_begun (is_idle r.master.phase) i o.number) (told-lists (is_idle r.master.phase) u i o.number)
      (told-quiet (is_idle r.master.phase) i o.number (u.control.issued + 1)) (λ j h. h) s.housed sent-so

  pub holds-sent : StepHolds w posted
  holds-sent = holds-moves w posted sound-sent (over _ sound-sent) (λ q. tt) (λ v y. y)

-- ---- an order arrives

-- it is one of the present, which no fence is above
current-passed : (k : Control) (m : Message) (b : Bool) → old_refusal m b ≡ None → b ≡ true
current-passed k m true h = refl
current-passed k m false h = absurd cc

module _ (w : World) (s : Sound w) (q : ℕ) (m : Message) (starts : ℕ) (x : Session) (r : Mirror) (reaches : Reaches w.control q m starts x r) where
  abbrev found : session_in w.control.sessions m.session ≡ Some x
  found = reaches.arrives.found

  listed : In x w.control.sessions × (x.number ≡ m.session)
  listed = session-found w.control.sessions m.session x found

  flies : In m w.control.flight.messages
  flies = (is-found (λ (m : Message). m.number == q) w.control.flight.messages m reaches.arrives.there).0

  pub on : w.control.on m.server ≡ true
  on = met (w.control.on m.server) (server_off m.server) reaches.on

  loose : IsLoose w.control.flight m
  loose =
      let old = (none-both (full_refusal w.control.flight) _ (none-both (apart_refusal w.control r.server m.server) _ reaches.allowed).1).1 in
      leb-true _ _ (and_parts (starts == w.control.flight.starts m.server) _ (current-passed w.control m (is_current w.control.flight m starts) old)).1

  due : Due w.control.flight x m.server m.order.work m.order.number
  due = inr (record {
    message = m;
    order = record { order = record { here = flies; session = sym listed.1; starts = starts; asks = reaches.arrives.says }; works = refl; number = refl };
    to = refl;
    loose = loose;
  })

  low : m.order.number ≤ x.last
  low = ((s.flights.each x listed.0).known m flies (sym listed.1)).number

  abbrev pub Ends : World → Type 0
  Ends = Carried w s m.session m.server x m.order found on

  abbrev ms : List Member
  ms = members_on m.server x.members

  -- the server replies
  replied : (v : World) → Ends v → Sound (record v { control = replying m ms v.control })
  replied v e = sound-flight v _
      (subst (λ qs. Flights (replying m (members_on m.server qs) v.control)) e.among
      (flights-replied v.control m e.session e.sound.groups e.sound.attempts e.sound.flights (subst (λ (f : Flight). In m f.messages) (sym e.flight) flies) e.there e.done e.silent)) e.sound

  pub orders-delivered : Orders w (order_done m ms)
  orders-delivered = record {
    ends = Ends;
    complete = λ v e. e.sound;
    begins = sound-begun w s;
    entries = carries w s m.session m.server x m.order found on (how-due w s m.session m.server x m.order found on m.order.work low due);
    follows = λ q. tt;
    last = replied;
    turns = λ v e. regroups-same v.control.sessions;
    adds = λ v e.
        let f : Flight = heard m.session m.server m.epoch m.order.work v.control.flight in
        adds-answered v.control.sessions v.control.flight f m (reply_after m.session m.order.work ms v.control) (heard-messages m.session m.server m.epoch m.order.work v.control.flight);
    goes = λ v e.
        let there = session-found v.control.sessions m.session e.session e.there in
        let f : Flight = heard m.session m.server m.epoch m.order.work v.control.flight in
        subst (λ qs. AllGoOn v.control v.control.sessions (answered m (reply_after m.session m.order.work (members_on m.server qs) v.control) f)) e.among
        (goes-replied v.control f m m.order.work e.session e.sound.groups.once there.0 there.1 (λ q here. subst (In q) (heard-messages m.session m.server m.epoch m.order.work v.control.flight) here) (heard-epoch m.session m.server m.epoch m.order.work v.control.flight));
  }

-- ---- a reply arrives

module _ (w : World) (s : Sound w) (q : ℕ) (m : Message) (reply : phases.Reply) (x : Session) (r : Mirror) (returns : Returns w.control q m reply x r) where
  abbrev here : In m w.control.flight.messages
  here = (is-found (λ (m : Message). m.number == q) w.control.flight.messages m returns.arrives.there).0

  -- the master awaits it
  awaited : is_awaited w.control.flight r m ≡ true
  awaited =
      let old = (none-both (apart_refusal w.control r.server m.server) _ (none-both (off_refusal w.control r.server) _ returns.allowed).1).1 in
      current-passed w.control m (is_awaited w.control.flight r m) old

  abbrev Taken : (Control → Type 0) → Type 0
  Taken P = P (taking m reply w.control)

  taken-groups : Taken Groups
  taken-groups = sessions-taken w.control s.groups s.attempts s.flights m reply x r here returns.arrives.says returns.arrives.found returns.arrives.mirror awaited

  taken-attempts : Taken Attempts
  taken-attempts = attempts-taken w.control s.groups s.attempts s.flights m reply x r here returns.arrives.says returns.arrives.found returns.arrives.mirror awaited

  taken-flights : Taken Flights
  taken-flights = flights-taken w.control s.groups s.attempts s.flights m reply x r here returns.arrives.says returns.arrives.found returns.arrives.mirror awaited

  pub sound-taken : Sound (begun_by w (taken m reply))
  sound-taken = sound-sessions (as_begun w) (taking m reply w.control).sessions taken-groups (secondaries-stay w.control _ (stays-taken w.control.sessions s.groups.once m.session m.server reply) s.secondaries) taken-attempts taken-flights (sound-begun w s)

  -- what it tells was on its way
  pub goes-back : AllGoOn w.control (changed m.session (with_master (λ q. phases.taken q m.server reply)) w.control.sessions) w.control.flight
  goes-back = goes-taken w.control s.groups s.attempts s.flights m.session m.server reply x returns.arrives.found
      (λ xs is. (lost xs is, λ q h. inl (lost xs is, inr (record { one = m; here = here; is = (awaited-lost xs is, subst (In q) (sym (ap shown_in returns.arrives.says ∙ ap shown_by is)) h) }))))
      (λ is lost. done-by w.control s.groups s.attempts s.flights m reply x r here returns.arrives.says returns.arrives.found returns.arrives.mirror awaited is (ap phase_of (sym returns.arrives.mirror) ∙ lost))
    where
      by-lost : (xs : List Shown) → reply ≡ phases.Reported xs → r.master.phase ≡ phase.Lost
      by-lost = lost-by w.control s.groups s.attempts s.flights m reply x r here returns.arrives.says returns.arrives.found returns.arrives.mirror awaited

      lost : (xs : List Shown) → reply ≡ phases.Reported xs → phase_of x.mirror ≡ phase.Lost
      lost xs is = ap phase_of returns.arrives.mirror ∙ by-lost xs is

      awaited-lost : (xs : List Shown) → reply ≡ phases.Reported xs → IsAwaited w.control.flight x.number phase.Lost x.last (owed_of x.mirror) m
      awaited-lost xs is = subst (λ p. IsAwaited w.control.flight x.number p x.last (owed_of x.mirror) m) (by-lost xs is)
          (subst (λ o. IsAwaited w.control.flight x.number r.master.phase x.last (owed_of o) m) (sym returns.arrives.mirror)
          (awaited-so w.control s.groups s.attempts s.flights m reply x r here returns.arrives.says returns.arrives.found returns.arrives.mirror awaited (subst HasAnswer (sym returns.arrives.says) (subst IsAnswer (sym is) tt))))

  pub holds-taken : StepHolds w (taken m reply)
  holds-taken = holds-moves w (taken m reply) sound-taken (over _ sound-taken) (λ q. tt) (λ v y. y)
