-- How much was sent, started and begun: no count of the flight is above the number of events, between any two plans. A plan begins at most
-- one epoch of each session, and tells its answer; where masters are lost beside it, a server's stop was told, too.
use Rattle.std.proofs.Common.{ℕ, ◌≡◌, ◌≤◌, ◌<◌, ◌+◌, ◌⊎◌, inl, inr, refl, ap, sym, ◌∙◌, subst, arith, Bool, true, false, cond, not, ◌&&◌, ◌||◌, ◌==◌, List, [], ◌∷◌, ◌++◌, length, filter, Option, Some, None, Result}
use Rattle.std.proofs.lemmas.Bool.{and_parts, not-true}
use Rattle.std.proofs.lemmas.List.{append-nil, length-append}
use Rattle.dr_ids.specs.declared.refusal.Refusal.{Refusal}
use Rattle.dr_ids.specs.declared.refusal.Refusal.TheVariants.{Stopped as StoppedIn}
use Rattle.dr_ids.specs.declared.names.Member.{Member}
use Rattle.dr_model.specs.declared.event.Event.{Event}
use Rattle.dr_model.specs.declared.event.Event.TheVariants.{Ack, Stopped, Frozen, Thawed, Recovered}
use Rattle.dr_model.specs.declared.said.Said.{Said}
use Rattle.dr_model.specs.Answers.{answer}
use Rattle.dr_model.specs.Phases as phases
use Rattle.dr_model.specs.Sessions.{Session, Mirror, is_only}
use Rattle.dr_model.specs.Messages.{Flight, Message, Body, Asks, Replies, is_lost, loses_master, loses_in}
use Rattle.dr_model.specs.Messages as messages
use Rattle.dr_model.specs.declared.step.Step.{Step}
use Rattle.dr_model.specs.Groups.{In}
use Rattle.dr_model.specs.Plans.{plan, name_bytes}
use Rattle.dr_model.specs.Control.{Control, Fuse, Volume, World, nothing}
use Rattle.dr_model.specs.Moves.{Hold, told, told_in_stop, landed, target}
use Rattle.dr_model.specs.Carry.{Act, Make, OpenAttempt, Redo, Acknowledge, Drop, EndFreeze, EndThaw, EndRecovery, act, Next, Pass, Do, End, Entry, Outcome, carry, carry_each, continue, go, follow}
use Rattle.dr_model.specs.PlanParts.{Plan, unless, tables_plan}
use Rattle.dr_model.specs.MessagePlans.{with_flight}
use Rattle.dr_model.specs.SessionPlans.{leaving, appointed, order_of, exchanged, exchange_refusal, exchange_done, exchange_on}
use Rattle.dr_model.specs.SessionEntries.{members_on, reply_after}
use Rattle.dr_model.specs.Forming.{Part, after_part}
use Rattle.dr_model.specs.Runs.{Task, course, plans_of, masters_lost, begun, finish, stop_place, carried_out, answered, said, after_plan, after_task, after_tasks, run}
use Rattle.dr_model.specs.Laws.{IsCounted, FlightCounted}
use Rattle.dr_logic.proofs.Truth.{false_true}
use Rattle.dr_facts.proofs.Lists.{in-joined, found, from-filter, once-more, once-filter}
use Rattle.dr_facts.proofs.Tables.{at_cases}
use Rattle.dr_laws_sound.proofs.Cases.{Case, Says, DefinesServer, DefinesVolume, SetsLink, Issues, Writes, Applies, Lists, Shows, Stops, Arms, Starts, MakesFlash, RemovesFlash, ResyncsFlash, ReversesFlash, Copies, Destages, MakesPath, RemovesPath, MakesPair, RemovesPair, PausesPair, ResumesPair, FailsOver, FailsBack, Compares, Drains, Expires, Freezes, Unfreezes, MakesSession, RemovesSession, MakesMirror, PausesMirror, RemovesMirror, Aborts, AddsMember, RemovesMember, Exchanges, Sends, Delivers, TakesReply, Loses, Recovers, Settles, Releases, ordered, plan-case}
use Rattle.dr_laws_sound.proofs.Parts.{IsTurn, Drained, Asked, Comes, Ending, OnePlan, Imaged, course-case, each-plan, last-plan}
use Rattle.dr_laws_sound.proofs.Turns.{act-cases, Counts, after_act, server_of}

-- ---- what becomes of a flight

counted-more : (m n c : ℕ) (f : Flight) → m ≤ n → IsCounted m c f → IsCounted n c f
counted-more m n c f le h = record {
  made = let a : f.made ≤ m = h.made in omega arith;
  starts = λ server. let a : f.starts server ≤ m = h.starts server in omega arith;
  epochs = λ s. let a : f.epoch s ≤ m = h.epochs s in omega arith;
  numbers = h.numbers;
  once = h.once;
  homes = h.homes;
}

-- a server more
counted-wider : (n c d : ℕ) (f : Flight) → c ≤ d → IsCounted n c f → IsCounted n d f
counted-wider n c d f le h = record {
  made = h.made;
  starts = h.starts;
  epochs = h.epochs;
  numbers = h.numbers;
  once = h.once;
  homes = λ m here. let a : m.server < c = h.homes m here in omega arith;
}

counted-started : (n c server : ℕ) (f : Flight) → IsCounted n c f → IsCounted (n + 1) c (messages.started server f)
counted-started n c server f h =
    let more : IsCounted (n + 1) c f = counted-more n (n + 1) c f (omega arith) h in
    let one : f.starts server + 1 ≤ n + 1 = (let a : f.starts server ≤ n = h.starts server in omega arith) in
    record { made = more.made; starts = at_cases (λ q (c : ℕ). c ≤ n + 1) f.starts server (f.starts server + 1) one (λ q ne. more.starts q); epochs = more.epochs; numbers = h.numbers; once = h.once; homes = h.homes }

counted-raised : (n c s : ℕ) (f : Flight) → IsCounted n c f → IsCounted (n + 1) c (messages.raised s f)
counted-raised n c s f h =
    let more : IsCounted (n + 1) c f = counted-more n (n + 1) c f (omega arith) h in
    let one : f.epoch s + 1 ≤ n + 1 = (let a : f.epoch s ≤ n = h.epochs s in omega arith) in
    record { made = more.made; starts = more.starts; epochs = at_cases (λ q (c : ℕ). c ≤ n + 1) f.epoch s (f.epoch s + 1) one (λ q ne. more.epochs q); numbers = h.numbers; once = h.once; homes = h.homes }

counted-aborted : (n c s : ℕ) (r : Option Mirror) (f : Flight) → IsCounted n c f → IsCounted (n + 1) c (messages.aborted s r f)
counted-aborted n c s None f h = counted-more n (n + 1) c f (omega arith) h
counted-aborted n c s (Some r) f h = by (is_lost (phases.aborted_phase r.master.phase))
  where
    by : (b : Bool) → IsCounted (n + 1) c (cond b (messages.raised s f) f)
    by true = counted-raised n c s f h
    by false = counted-more n (n + 1) c f (omega arith) h

-- messages that are gone
counted-fewer : (n c : ℕ) (keeps : Message → Bool) (f : Flight) → IsCounted n c f → IsCounted n c (record f { messages = filter keeps f.messages })
counted-fewer n c keeps f h = record {
  made = h.made;
  starts = h.starts;
  epochs = h.epochs;
  numbers = λ m here. h.numbers m (from-filter keeps f.messages m here).0;
  once = once-filter (λ (m : Message). m.number) keeps f.messages h.once;
  homes = λ m here. h.homes m (from-filter keeps f.messages m here).0;
}

counted-left : (n c s l : ℕ) (x : Session) (f : Flight) → IsCounted n c f → IsCounted n c (messages.left s l x f)
counted-left n c s l x f h = by (is_only l x)
  where
    by : (b : Bool) → IsCounted n c (cond b (messages.forgotten s f) f)
    by true = counted-fewer n c (λ m. not (m.session == s)) f h
    by false = h

counted-heard : (n c s server epoch : ℕ) (work : phases.Work) (f : Flight) → IsCounted n c f → IsCounted n c (messages.heard s server epoch work f)
counted-heard n c s server epoch phases.Report f h = record { made = h.made; starts = h.starts; epochs = h.epochs; numbers = h.numbers; once = h.once; homes = h.homes }
counted-heard n c s server epoch work f h = h

-- a message more has the next number
counted-made : (n c s epoch server : ℕ) (o : phases.Order) (body : Body) (f : Flight) → server < c → IsCounted n c f → IsCounted (n + 1) c (messages.with_message s epoch server o body f)
counted-made n c s epoch server o body f lt h = record {
  made = let a : f.made ≤ n = h.made in omega arith;
  starts = more.starts;
  epochs = more.epochs;
  numbers = λ m here. by m (in-joined f.messages (new ∷ []) m here);
  once = once-more (λ (m : Message). m.number) f.messages new h.once (λ m here is. let low : m.number ≤ f.made = (h.numbers m here).1 in let next : m.number ≡ f.made + 1 = is in absurd (omega arith));
  homes = λ m here. of m (in-joined f.messages (new ∷ []) m here);
}
  where
    new : Message
    new = record { number = f.made + 1; session = s; epoch = epoch; server = server; order = o; body = body }

    more : IsCounted (n + 1) c f
    more = counted-more n (n + 1) c f (omega arith) h

    by : (m : Message) → In m f.messages ⊎ In m (new ∷ []) → (0 < m.number) × (m.number ≤ f.made + 1)
    by m (inl old) = let a = h.numbers m old in let low : m.number ≤ f.made = a.1 in (a.0, omega arith)
    by m (inr (inl is)) = let next : m.number ≡ f.made + 1 = ap (λ (m : Message). m.number) is in (omega arith, omega arith)
    by m (inr (inr none)) = absurd none

    of : (m : Message) → In m f.messages ⊎ In m (new ∷ []) → m.server < c
    of m (inl old) = h.homes m old
    of m (inr (inl is)) = subst (λ (m : Message). m.server < c) (sym is) lt
    of m (inr (inr none)) = absurd none

-- masters are lost, for each of which there is an event more
counted-lost : (m n c : ℕ) (before now : ℕ → Bool) (ss : List Session) (f : Flight) → m ≤ n → ((s : ℕ) → loses_in before now s ss ≡ true → m < n) → IsCounted m c f → IsCounted n c (messages.lost_since before now ss f)
counted-lost m n c before now ss f le more h =
    let up : IsCounted n c f = counted-more m n c f le h in
    record { made = up.made; starts = up.starts; epochs = λ s. rises s (loses_in before now s ss) refl; numbers = h.numbers; once = h.once; homes = h.homes }
  where
    rises : (s : ℕ) (b : Bool) → loses_in before now s ss ≡ b → cond b (f.epoch s + 1) (f.epoch s) ≤ n
    rises s true is = let lt : m < n = more s is in let a : f.epoch s ≤ m = h.epochs s in omega arith
    rises s false is = let a : f.epoch s ≤ m = h.epochs s in omega arith

-- ---- servers that go off are told

-- the server of a master that is lost was on, and is off
record WentOff (before now : ℕ → Bool) : Type 0 where
  server : ℕ
  on : before server ≡ true
  off : now server ≡ false

lost-off : (before now : ℕ → Bool) (s : ℕ) (ss : List Session) → loses_in before now s ss ≡ true → WentOff before now
lost-off before now s [] h = absurd cc
lost-off before now s (x ∷ ss) h = by (x.number == s && loses_master before now x.mirror) refl (lost-off before now s ss) h
  where
    of : (o : Option Mirror) → loses_master before now o ≡ true → WentOff before now
    of None is = absurd cc
    of (Some r) is =
        let on = and_parts (before r.server) _ is in
        let off = and_parts (not (now r.server)) _ on.1 in record { server = r.server; on = on.0; off = not-true (now r.server) off.0 }

    by : (b : Bool) → (x.number == s && loses_master before now x.mirror) ≡ b → (loses_in before now s ss ≡ true → WentOff before now) → (b || loses_in before now s ss) ≡ true → WentOff before now
    by true is rest h = of x.mirror (and_parts (x.number == s) _ is).1
    by false is rest h = rest h

-- events are only added, and where a server goes off there is one
record Tells (w u : World) : Type 0 where
  longer : length w.events ≤ length u.events
  gone : (s : ℕ) → w.control.on s ≡ true → u.control.on s ≡ false → length w.events < length u.events

tells-then : (w u v : World) → Tells w u → Tells u v → Tells w v
tells-then w u v a b = record {
  longer = let p : length w.events ≤ length u.events = a.longer in let q : length u.events ≤ length v.events = b.longer in omega arith;
  gone = λ s on off. by s (u.control.on s) refl on off;
}
  where
    by : (s : ℕ) (b : Bool) → u.control.on s ≡ b → w.control.on s ≡ true → v.control.on s ≡ false → length w.events < length v.events
    by s true is on off = let p : length w.events ≤ length u.events = a.longer in let q : length u.events < length v.events = b.gone s is off in omega arith
    by s false is on off = let p : length w.events < length u.events = a.gone s on is in let q : length u.events ≤ length v.events = b.longer in omega arith

tells-on : (w u : World) (es : List Event) → u.events ≡ w.events ++ es → ((s : ℕ) → u.control.on s ≡ w.control.on s) → Tells w u
tells-on w u es events on = record {
  longer = let e : length u.events ≡ length w.events + length es = ap length events ∙ length-append w.events es in omega arith;
  gone = λ s is off. false_true (sym (on s) ∙ off) is;
}

tells-stop : (w u : World) (es : List Event) → u.events ≡ w.events ++ es → 0 < length es → Tells w u
tells-stop w u es events some =
    let e : length u.events ≡ length w.events + length es = ap length events ∙ length-append w.events es in record { longer = omega arith; gone = λ s on off. omega arith }

-- acts leave the flight, and who is a server
record Flies (w u : World) : Type 0 where
  flight : u.control.flight ≡ w.control.flight
  servers : u.control.servers ≡ w.control.servers
  tells : Tells w u

flies-same : (w : World) → Flies w w
flies-same w = record { flight = refl; servers = refl; tells = tells-on w w [] (sym (append-nil w.events)) (λ s. refl) }

flies-then : (w u v : World) → Flies w u → Flies u v → Flies w v
flies-then w u v a b = record { flight = b.flight ∙ a.flight; servers = b.servers ∙ a.servers; tells = tells-then w u v a.tells b.tells }

done-flies : (w : World) (a : Act) (f : Option Fuse) → Flies w (after_act w a f)
done-flies w (Make m) f = record { flight = refl; servers = refl; tells = tells-on w _ (told m (w.control.volume (target m))) refl (λ s. refl) }
done-flies w (OpenAttempt v s n) f = record { flight = refl; servers = refl; tells = tells-on w _ (told (Hold v s n true) (w.control.volume v)) refl (λ s. refl) }
done-flies w (Redo v) f = record { flight = refl; servers = refl; tells = tells-on w _ [] (sym (append-nil w.events)) (λ s. refl) }
done-flies w (Acknowledge n) f = record { flight = refl; servers = refl; tells = tells-on w _ (Ack n ∷ []) refl (λ s. refl) }
done-flies w (Drop n) f = record { flight = refl; servers = refl; tells = tells-on w _ [] (sym (append-nil w.events)) (λ s. refl) }
done-flies w (EndFreeze l m) f = record { flight = refl; servers = refl; tells = tells-on w _ (Frozen l m ∷ []) refl (λ s. refl) }
done-flies w (EndThaw l m) f = record { flight = refl; servers = refl; tells = tells-on w _ (Thawed l m ∷ []) refl (λ s. refl) }
done-flies w (EndRecovery s n) f = record { flight = refl; servers = refl; tells = tells-on w _ (Recovered s n ∷ []) refl (λ s. refl) }

-- what a stop tells isn't nothing
some-told : (es : List Event) (e : Event) → 0 < length (es ++ e ∷ [])
some-told es e = let n : length (es ++ e ∷ []) ≡ length es + 1 = length-append es (e ∷ []) in omega arith

counts-flies : (w : World) (a : Act) → Counts w a (λ t. Flies w t.0)
counts-flies w (Make m) = λ f. let u : Volume = w.control.volume (target m) in record { flight = refl; servers = refl; tells = tells-stop w _ (told_in_stop m u ++ Stopped u.server (landed m) ∷ []) refl (some-told (told_in_stop m u) (Stopped u.server (landed m))) }
counts-flies w (OpenAttempt v s n) = λ f. let u : Volume = w.control.volume v in record { flight = refl; servers = refl; tells = tells-stop w _ (told_in_stop (Hold v s n true) u ++ Stopped u.server 0 ∷ []) refl (some-told (told_in_stop (Hold v s n true) u) (Stopped u.server 0)) }
counts-flies w (Redo v) = tt
counts-flies w (Acknowledge n) = tt
counts-flies w (Drop n) = tt
counts-flies w (EndFreeze l m) = tt
counts-flies w (EndThaw l m) = tt
counts-flies w (EndRecovery s n) = tt

act-flies : (w : World) (a : Act) → Flies w (act w a).0
act-flies w a = act-cases w a (λ t. Flies w t.0) (λ d off. flies-same w) (done-flies w a) (counts-flies w a) (λ d f. record { flight = refl; servers = refl; tells = tells-stop w _ (Stopped (server_of w a) 0 ∷ []) refl (omega arith) })

continue-flies : (w u : World) (server : Option ℕ) (next : World → Outcome) → ((v : World) → Flies v (next v).0) → Flies w u → Flies w (continue u server next).0
continue-flies w u None next each h = flies-then w u _ h (each u)
continue-flies w u (Some s) next each h = h

go-flies : (w : World) (x : Next) (next : World → Outcome) → ((v : World) → Flies v (next v).0) → Flies w (go w x next).0
go-flies w Pass next each = each w
go-flies w (End r) next each = flies-same w
go-flies w (Do a) next each = continue-flies w (act w a).0 (act w a).1 next each (act-flies w a)

carry-flies : (w : World) (entries : List Entry) → Flies w (carry w entries).0
unfolding carry
carry-flies w [] = flies-same w
carry-flies w (d ∷ ds) = go-flies w (d w.control) (λ v. carry v ds) (λ v. carry-flies v ds)

each-flies : (w : World) (entries : List Entry) → Flies w (carry_each w entries)
each-flies w [] = flies-same w
each-flies w (d ∷ ds) = flies-then w (carry w (d ∷ [])).0 _ (carry-flies w (d ∷ [])) (each-flies (carry w (d ∷ [])).0 ds)

follow-flies : (w : World) (r : Refusal) (follows : List Entry) → Flies w (follow w r follows)
follow-flies w (StoppedIn s) follows = each-flies w follows
follow-flies w r follows = flies-same w

-- ---- plans

-- the counts of a flight, with the servers of a control state
abbrev pub CountedBy : Control → ℕ → Flight → Type 0
CountedBy k n f = IsCounted n (length k.servers) f

-- no server goes off as a plan ends
abbrev EndsSteady : Plan → Type 0
EndsSteady p = (k : Control) (s : ℕ) → (p.last k).on s ≡ k.on s

-- its tables as it ends: no count rises, and no server goes off
record EndsCounted (p : Plan) : Type 0 where
  counted : (k : Control) (n : ℕ) → CountedBy k n k.flight → CountedBy (p.last k) n (p.last k).flight
  steady : EndsSteady p

-- From its begin to its end each count rises by one at most, and where a server goes off that is told.
record Counting (k : Control) (p : Plan) : Type 0 where
  first : (n : ℕ) → CountedBy k n k.flight → CountedBy (p.first k) (n + 1) (p.first k).flight
  gone : (s : ℕ) → k.on s ≡ true → (p.first k).on s ≡ false → 0 < length p.told
  last : (n : ℕ) (j : Control) → CountedBy k n k.flight → j.flight ≡ (p.first k).flight → j.servers ≡ (p.first k).servers → CountedBy (p.last j) (n + 1) (p.last j).flight
  steady : EndsSteady p

counted-same : (j k : Control) (n : ℕ) → k.flight ≡ j.flight → k.servers ≡ j.servers → CountedBy j n j.flight → CountedBy k n k.flight
counted-same j k n flight servers h = subst (λ (ss : List (List ℕ)). IsCounted n (length ss) k.flight) (sym servers) (subst (CountedBy j n) (sym flight) h)

finish-tells : (p : Plan) → EndsSteady p → (n : ℕ) (w : World) (r : Option Refusal) → Tells w (finish p n w r)
finish-tells p steady n w None = tells-on w _ [] (sym (append-nil w.events)) (steady w.control)
finish-tells p steady n w (Some r) = (follow-flies w r (p.follows n)).tells

-- from the tables with which it begins
carried-counted : (w : World) (p : Plan) → (n : ℕ) → CountedBy (p.first w.control) n (p.first w.control).flight
    → ((j : Control) → j.flight ≡ (p.first w.control).flight → j.servers ≡ (p.first w.control).servers → CountedBy (p.last j) n (p.last j).flight)
    → CountedBy (carried_out w p).0.control n (carried_out w p).0.control.flight
carried-counted w p n h ends = let o : Outcome = carry (begun w p) p.entries in by o.0 o.1 (carry-flies (begun w p) p.entries)
  where
    by : (u : World) (r : Option Refusal) → Flies (begun w p) u → CountedBy (finish p (stop_place w p) u r).control n (finish p (stop_place w p) u r).control.flight
    by u None flies = ends u.control flies.flight flies.servers
    by u (Some r) flies = let f = follow-flies u r (p.follows (stop_place w p)) in counted-same (p.first w.control) (follow u r (p.follows (stop_place w p))).control n (f.flight ∙ flies.flight) (f.servers ∙ flies.servers) h

carried-tells : (w : World) (p : Plan) → EndsSteady p → Tells (begun w p) (carried_out w p).0
carried-tells w p steady = let o : Outcome = carry (begun w p) p.entries in tells-then (begun w p) o.0 _ (carry-flies (begun w p) p.entries).tells (finish-tells p steady (stop_place w p) o.0 o.1)

begun-tells : (w : World) (p : Plan) → Counting w.control p → Tells w (begun w p)
begun-tells w p c =
    let e : length (w.events ++ p.told) ≡ length w.events + length p.told = length-append w.events p.told in
    record { longer = omega arith; gone = λ s on off. let some : 0 < length p.told = c.gone s on off in omega arith }

-- before its masters are lost, each count has risen by one at most
counts-carried : (w : World) (p : Plan) → Counting w.control p → (n : ℕ) → CountedBy w.control n w.control.flight → CountedBy (carried_out w p).0.control (n + 1) (carried_out w p).0.control.flight
counts-carried w p c n h = carried-counted w p (n + 1) (c.first n h) (λ j same servers. c.last n j h same servers)

-- masters are lost from one world to another
losing-counted : (m : ℕ) (w u : World) → m ≤ length u.events → ((s : ℕ) → w.control.on s ≡ true → u.control.on s ≡ false → m < length u.events) → CountedBy u.control m u.control.flight → FlightCounted (masters_lost w u)
losing-counted m w u le gone h = counted-lost m (length u.events) (length u.control.servers) w.control.on u.control.on u.control.sessions u.control.flight le (λ s lost. let o = lost-off w.control.on u.control.on s u.control.sessions lost in gone o.server o.on o.off) h

answered-counted : (w : World) (line : ℕ) (p : Plan) → Counting w.control p → FlightCounted w → FlightCounted (masters_lost w (after_plan w line p))
unfolding after_plan
answered-counted w line p c h =
    let u : World = (carried_out w p).0 in
    let a : Said = answered p u.control (carried_out w p).1 in
    let t : Tells w u = tells-then w (begun w p) u (begun-tells w p c) (carried-tells w p c.steady) in
    let one : length (said u line a).events ≡ length u.events + 1 = length-append u.events (answer line a ∷ []) in
    let more : length w.events ≤ length u.events = t.longer in
    losing-counted (length w.events + 1) w (said u line a) (omega arith) (λ s on off. let lt : length w.events < length u.events = t.gone s on off in omega arith) (counts-carried w p c (length w.events) h)

-- ---- every plan of a step

-- it changes neither counts nor servers
plain : (k : Control) (p : Plan) → (p.first k).flight ≡ k.flight → (p.first k).servers ≡ k.servers → ((s : ℕ) → (p.first k).on s ≡ k.on s) → EndsCounted p → Counting k p
plain k p flight servers on ends = record {
  first = λ n h. up n (p.first k) h flight servers;
  gone = λ s is off. false_true (sym (on s) ∙ off) is;
  last = λ n j h same who. ends.counted j (n + 1) (up n j h (same ∙ flight) (who ∙ servers));
  steady = ends.steady;
}
  where
    up : (n : ℕ) (j : Control) → CountedBy k n k.flight → j.flight ≡ k.flight → j.servers ≡ k.servers → CountedBy j (n + 1) j.flight
    up n j h flight servers = counted-same k j (n + 1) flight servers (counted-more n (n + 1) (length k.servers) k.flight (omega arith) h)

-- nor as it ends
still : (p : Plan) → ((k : Control) → (p.last k).flight ≡ k.flight) → ((k : Control) → (p.last k).servers ≡ k.servers) → ((k : Control) (s : ℕ) → (p.last k).on s ≡ k.on s) → EndsCounted p
still p flight servers on = record { counted = λ k n h. counted-same k (p.last k) n (flight k) (servers k) h; steady = on }

-- an order that is carried out
exchanges-end : (s server : ℕ) (reply : Bool) (ms : List Member) (o : Option phases.Order) → EndsCounted (exchange_done s server reply ms o)
exchanges-end s server reply ms None = still _ (λ k. refl) (λ k. refl) (λ k s. refl)
exchanges-end s server reply ms (Some o) = record { counted = λ k n h. by k reply n (counted-heard n (length k.servers) s server (k.flight.epoch s) o.work k.flight h); steady = λ k j. on k reply j }
  where
    on : (k : Control) (b : Bool) (j : ℕ) → (exchanged s server b o.work ms k).on j ≡ k.on j
    on k true j = refl
    on k false j = refl

    by : (k : Control) (b : Bool) (n : ℕ) → CountedBy k n (messages.heard s server (k.flight.epoch s) o.work k.flight) → CountedBy (exchanged s server b o.work ms k) n (exchanged s server b o.work ms k).flight
    by k true n h = h
    by k false n h = h

asks-end : (k : Control) (s server : ℕ) (m : Option Mirror) (ms : List Member) → EndsCounted (exchange_on k s m server true ms)
asks-end k s server None ms = still _ (λ k. refl) (λ k. refl) (λ k s. refl)
asks-end k s server (Some r) ms = by (exchange_refusal k r server ms)
  where
    by : (o : Option Refusal) → EndsCounted (unless o (exchange_done s server true (members_on server ms) (order_of r server)))
    by None = exchanges-end s server true (members_on server ms) (order_of r server)
    by (Some q) = still _ (λ k. refl) (λ k. refl) (λ k s. refl)

turn-ends : (k : Control) (p : Plan) → IsTurn k p → EndsCounted p
turn-ends _ _ (Drained k a) = still _ (λ k. refl) (λ k. refl) (λ k s. refl)
turn-ends _ _ (Asked k s server m ms) = asks-end k s server m ms

-- its tables change as it begins, and not as it ends
begins-counted : (k : Control) (p : Plan) → ((n : ℕ) → CountedBy k n k.flight → CountedBy (p.first k) (n + 1) (p.first k).flight) → ((s : ℕ) → k.on s ≡ true → (p.first k).on s ≡ false → 0 < length p.told) → ((j : Control) → p.last j ≡ j) → Counting k p
begins-counted k p first gone last = record {
  first = first;
  gone = gone;
  last = λ n j h same servers. counted-same (p.first k) (p.last j) (n + 1) (ap (λ (j : Control). j.flight) (last j) ∙ same) (ap (λ (j : Control). j.servers) (last j) ∙ servers) (first n h);
  steady = λ j s. ap (λ (j : Control). j.on s) (last j);
}

module _ (k : Control) where
  -- how many servers there are
  abbrev count : ℕ
  count = length k.servers

  calm : (p : Plan) → (p.first k).flight ≡ k.flight → (p.first k).servers ≡ k.servers → ((s : ℕ) → (p.first k).on s ≡ k.on s) → ((j : Control) → (p.last j).flight ≡ j.flight) → ((j : Control) → (p.last j).servers ≡ j.servers) → ((j : Control) (s : ℕ) → (p.last j).on s ≡ j.on s) → Counting k p
  calm p flight servers on last last_servers last_on = plain k p flight servers on (still p last last_servers last_on)

  -- one that changes tables as it begins, and turns no server off
  tables : (first : Control → Control) (told : List Event) (says : Said) → ((n : ℕ) → IsCounted n count k.flight → CountedBy (first k) (n + 1) (first k).flight) → ((s : ℕ) → (first k).on s ≡ k.on s) → Counting k (tables_plan first told says)
  tables first told says counted on = begins-counted k (tables_plan first told says) counted (λ s is off. false_true (sym (on s) ∙ off) is) (λ j. refl)

  -- fewer messages
  fewer : (n : ℕ) (f : Flight) → IsCounted n count f → IsCounted (n + 1) count f
  fewer n f h = counted-more n (n + 1) count f (omega arith) h

  case-counts : (events : List Event) (line : ℕ) (asked : Result Step ℕ) (p : Plan) → Case k events line asked p → Counting k p
  case-counts events line _ _ (Says a waits why) = calm _ refl refl (λ s. refl) (λ j. refl) (λ j. refl) (λ j s. refl)
  case-counts events line _ _ (DefinesServer name free) =
      let e : length (k.servers ++ name_bytes name ∷ []) ≡ count + 1 = length-append k.servers (name_bytes name ∷ []) in
      begins-counted k _ (λ n h. counted-wider (n + 1) count (length (k.servers ++ name_bytes name ∷ [])) k.flight (omega arith) (fewer n k.flight h)) (λ s is off. false_true off is) (λ j. refl)
  case-counts events line _ _ (DefinesVolume v x tracks here free) = calm _ refl refl (λ s. refl) (λ j. refl) (λ j. refl) (λ j s. refl)
  case-counts events line _ _ (SetsLink a b up) = calm _ refl refl (λ s. refl) (λ j. refl) (λ j. refl) (λ j s. refl)
  case-counts events line _ _ (Issues v t offset len bytes free) = calm _ refl refl (λ s. refl) (λ j. refl) (λ j. refl) (λ j s. refl)
  case-counts events line _ _ (Writes v t offset len bytes free) = calm _ refl refl (λ s. refl) (λ j. refl) (λ j. refl) (λ j s. refl)
  case-counts events line _ _ (Applies n p found) = calm _ refl refl (λ s. refl) (λ j. refl) (λ j. refl) (λ j s. refl)
  case-counts events line _ _ (Lists told ls few) = calm _ refl refl (λ s. refl) (λ j. refl) (λ j. refl) (λ j s. refl)
  case-counts events line _ _ (Shows v t there) = calm _ refl refl (λ s. refl) (λ j. refl) (λ j. refl) (λ j s. refl)
  case-counts events line _ _ (Arms writes torn x) = calm _ refl refl (λ s. refl) (λ j. refl) (λ j. refl) (λ j s. refl)
  case-counts events line _ _ (MakesFlash dev v t freeze choices) = calm _ refl refl (λ s. refl) (λ j. refl) (λ j. refl) (λ j s. refl)
  case-counts events line _ _ (RemovesFlash dev v t) = calm _ refl refl (λ s. refl) (λ j. refl) (λ j. refl) (λ j s. refl)
  case-counts events line _ _ (ResyncsFlash dev v t sequence) = calm _ refl refl (λ s. refl) (λ j. refl) (λ j. refl) (λ j s. refl)
  case-counts events line _ _ (ReversesFlash dev v t) = calm _ refl refl (λ s. refl) (λ j. refl) (λ j. refl) (λ j s. refl)
  case-counts events line _ _ (Copies t most) = calm _ refl refl (λ s. refl) (λ j. refl) (λ j. refl) (λ j s. refl)
  case-counts events line _ _ (Destages v) = calm _ refl refl (λ s. refl) (λ j. refl) (λ j. refl) (λ j s. refl)
  case-counts events line _ _ (MakesPath src tgt group) = calm _ refl refl (λ s. refl) (λ j. refl) (λ j. refl) (λ j s. refl)
  case-counts events line _ _ (RemovesPath src tgt) = calm _ refl refl (λ s. refl) (λ j. refl) (λ j. refl) (λ j s. refl)
  case-counts events line _ _ (MakesPair devs a b kind choices part) = calm _ refl refl (λ s. refl) (λ j. refl) (λ j. refl) (λ j s. refl)
  case-counts events line _ _ (RemovesPair devs a b source_only) = calm _ refl refl (λ s. refl) (λ j. refl) (λ j. refl) (λ j s. refl)
  case-counts events line _ _ (PausesPair devs a b) = calm _ refl refl (λ s. refl) (λ j. refl) (λ j. refl) (λ j s. refl)
  case-counts events line _ _ (ResumesPair devs a b kind) = calm _ refl refl (λ s. refl) (λ j. refl) (λ j. refl) (λ j s. refl)
  case-counts events line _ _ (FailsOver devs b a kind) = calm _ refl refl (λ s. refl) (λ j. refl) (λ j. refl) (λ j s. refl)
  case-counts events line _ _ (FailsBack devs x y kind) = calm _ refl refl (λ s. refl) (λ j. refl) (λ j. refl) (λ j s. refl)
  case-counts events line _ _ (Compares contents v u) = calm _ refl refl (λ s. refl) (λ j. refl) (λ j. refl) (λ j s. refl)
  case-counts events line _ _ (Drains a most) = calm _ refl refl (λ s. refl) (λ j. refl) (λ j. refl) (λ j s. refl)
  case-counts events line _ _ (Expires x on) = calm _ refl refl (λ s. refl) (λ j. refl) (λ j. refl) (λ j s. refl)
  case-counts events line _ _ (Freezes l m) = calm _ refl refl (λ s. refl) (λ j. refl) (λ j. refl) (λ j s. refl)
  case-counts events line _ _ (Unfreezes l m) = calm _ refl refl (λ s. refl) (λ j. refl) (λ j. refl) (λ j s. refl)
  case-counts events line _ _ (Releases l) = calm _ refl refl (λ s. refl) (λ j. refl) (λ j. refl) (λ j s. refl)
  case-counts events line _ _ (MakesSession l i free) = calm _ refl refl (λ s. refl) (λ j. refl) (λ j. refl) (λ j s. refl)
  case-counts events line _ _ (PausesMirror i on) = calm _ refl refl (λ s. refl) (λ j. refl) (λ j. refl) (λ j s. refl)
  case-counts events line _ _ (RemovesMirror i x found free) = calm _ refl refl (λ s. refl) (λ j. refl) (λ j. refl) (λ j s. refl)
  case-counts events line _ _ (AddsMember i a c x joins) = calm _ refl refl (λ s. refl) (λ j. refl) (λ j. refl) (λ j s. refl)
  case-counts events line _ _ (RemovesMember i a x m found is idle on) = calm _ refl refl (λ s. refl) (λ j. refl) (λ j. refl) (λ j s. refl)
  case-counts events line _ _ (Recovers i x found on) = calm _ refl refl (λ s. refl) (λ j. refl) (λ j. refl) (λ j s. refl)
  case-counts events line _ _ (Settles i x m found here on free hand) = calm _ refl refl (λ s. refl) (λ j. refl) (λ j. refl) (λ j s. refl)
  case-counts events line _ _ (Stops x on) = begins-counted k _ (λ n h. fewer n k.flight h) (λ s is off. omega arith) (λ j. refl)
  case-counts events line _ _ (Starts x off) = begins-counted k _ (λ n h. counted-started n count x k.flight h) (λ s is off. omega arith) (λ j. refl)
  case-counts events line _ _ (RemovesSession l i x found free) = tables (leaving i l x) [] _ (λ n h. fewer n _ (counted-left n count i l x k.flight h)) (λ s. refl)
  case-counts events line _ _ (MakesMirror owner i x found free l owned) = tables (appointed i owner) [] _ (λ n h. counted-raised n count i k.flight h) (λ s. refl)
  case-counts events line _ _ (Aborts i x found free) = begins-counted k _ (λ n h. counted-aborted n count i x.mirror k.flight h) (λ s is off. false_true off is) (λ j. refl)
  case-counts events line _ _ (Sends i server x r o posts) =
      begins-counted k _ (λ n h. counted-made n count i (k.flight.epoch i) server o (Asks (k.flight.starts server)) k.flight posts.here h) (λ s is off. false_true off is) (λ j. refl)
  case-counts events line _ _ (TakesReply n m reply x r returns) = begins-counted k _ (λ n h. fewer n k.flight h) (λ s is off. false_true off is) (λ j. refl)
  case-counts events line _ _ (Delivers q m starts x r reaches) = record {
    first = λ n h. fewer n k.flight h;
    gone = λ s is off. false_true off is;
    last = λ n j h same servers.
        let reply : phases.Reply = reply_after m.session m.order.work (members_on m.server x.members) j in
        let here : m.server < count = h.homes m (found (λ (m : Message). m.number == q) k.flight.messages m reaches.arrives.there).0 in
        let heard : Flight = messages.heard m.session m.server m.epoch m.order.work k.flight in
        subst (λ (ss : List (List ℕ)). IsCounted (n + 1) (length ss) (messages.answered m reply (messages.heard m.session m.server m.epoch m.order.work j.flight))) (sym servers)
        (subst (λ f. IsCounted (n + 1) count (messages.answered m reply (messages.heard m.session m.server m.epoch m.order.work f))) (sym same)
        (counted-made n count m.session m.epoch m.server m.order (Replies reply) heard here (counted-heard n count m.session m.server m.epoch m.order.work k.flight h)));
    steady = λ j s. refl;
  }
  case-counts events line _ _ (Loses n) = tables (with_flight (messages.lost n)) [] _ (λ m h. fewer m _ (counted-fewer m count (λ (q : Message). not (q.number == n)) k.flight h)) (λ s. refl)
  case-counts events line _ _ (Exchanges i server reply x r o allowed) = plain k (ordered i server reply (members_on server x.members) o) refl refl (λ s. refl) (exchanges-end i server reply (members_on server x.members) (Some o))

  ending-counts : (events : List Event) (line : ℕ) (p : Plan) → Ending k events line p → Counting k p
  ending-counts events line _ (OnePlan asked p c) = case-counts events line asked p c
  ending-counts events line _ (Imaged vs) = calm _ refl refl (λ s. refl) (λ j. refl) (λ j. refl) (λ j s. refl)

-- ---- what holds of runs

-- before masters are lost, each count is above the number of events before by one at most
pub counted-carried : (w : World) (line : ℕ) (p : Plan) → Ending w.control w.events line p → FlightCounted w → CountedBy (carried_out w p).0.control (length w.events + 1) (carried_out w p).0.control.flight
counted-carried w line p c h = counts-carried w p (ending-counts w.control w.events line p c) (length w.events) h

pub counted-answered : (w : World) (line : ℕ) (p : Plan) → Ending w.control w.events line p → FlightCounted w → FlightCounted (masters_lost w (after_plan w line p))
counted-answered w line p c h = answered-counted w line p (ending-counts w.control w.events line p c) h

-- the plan of a step, answered
pub counted-plan : (w : World) (line : ℕ) (asked : Result Step ℕ) → FlightCounted w → CountedBy (after_plan w line (plan w.control w.events line asked)).control (length w.events + 1) (after_plan w line (plan w.control w.events line asked)).control.flight
unfolding after_plan
counted-plan w line asked h = let p : Plan = plan w.control w.events line asked in counted-carried w line p (OnePlan asked p (plan-case w.control w.events line asked)) h

-- a plan before the last one of its step begins no epoch of its own
pub counted-turn : (w : World) (p : Plan) → Comes w p → FlightCounted w → CountedBy (carried_out w p).0.control (length w.events) (carried_out w p).0.control.flight
counted-turn w p comes h =
    let first : CountedBy (p.first w.control) (length w.events) (p.first w.control).flight = subst (λ (k : Control). CountedBy k (length w.events) k.flight) (sym (comes.first w.control)) h in
    carried-counted w p (length w.events) first (λ j same servers. (turn-ends w.control p comes.turn).counted j (length w.events) (counted-same (p.first w.control) j (length w.events) same servers first))

pub counted-part : (w : World) (p : Plan) → Comes w p → FlightCounted w → FlightCounted (after_part w p)
counted-part w p comes h =
    let u : World = (carried_out w p).0 in
    let ends : EndsCounted p = turn-ends w.control p comes.turn in
    let b : Tells (begun w p) u = carried-tells w p ends.steady in
    let e : length (w.events ++ p.told) ≡ length w.events = ap (λ es. length (w.events ++ es)) comes.told ∙ ap length (append-nil w.events) in
    let more : length (w.events ++ p.told) ≤ length u.events = b.longer in
    losing-counted (length w.events) w u (omega arith)
    (λ s on off. let lt : length (w.events ++ p.told) < length u.events = b.gone s (ap (λ (k : Control). k.on s) (comes.first w.control) ∙ on) off in omega arith)
    (counted-turn w p comes h)

-- each plan of a step, before its masters are lost
pub counted-moments : (w : World) (t : Task) (x : Part) → FlightCounted w → In x (plans_of w t) → CountedBy (carried_out x.world x.plan).0.control (length x.world.events + 1) (carried_out x.world x.plan).0.control.flight
counted-moments w t x h there = let b = each-plan FlightCounted counted-part w t h x there in counted-carried x.world t.line x.plan b.1 b.0

pub counted-last : (w : World) (t : Task) → FlightCounted w → FlightCounted (course w t).last.world
counted-last w t h = last-plan FlightCounted counted-part w t h

pub counted-task : (w : World) (t : Task) → FlightCounted w → FlightCounted (after_task w t)
counted-task w t h = let x : Part = (course w t).last in counted-answered x.world t.line x.plan (course-case w t) (counted-last w t h)

pub counted-tasks : (w : World) (tasks : List Task) → FlightCounted w → FlightCounted (after_tasks w tasks)
unfolding after_tasks
counted-tasks w [] h = h
counted-tasks w (t ∷ tasks) h = counted-tasks (after_task w t) tasks (counted-task w t h)

-- before the first step
pub counted-nothing : FlightCounted nothing
counted-nothing = record { made = omega arith; starts = λ server. omega arith; epochs = λ s. omega arith; numbers = λ m here. absurd here; once = tt; homes = λ m here. absurd here }

pub counted-run : (tasks : List Task) → FlightCounted (run tasks)
counted-run tasks = counted-tasks nothing tasks counted-nothing
