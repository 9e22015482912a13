-- The step of an exchange: what it answers, by the state and the phase, and what it leaves.
use Rattle.std.proofs.Common.{ℕ, ◌≡◌, inl, inr, refl, ap, sym, ◌∙◌, subst, Bool, true, false, cond, List, [], ◌∷◌, Option, Some, None, Ok, option_map, not, ◌||◌, ◌==◌, ◌+◌}
use Rattle.std.specs.List.{list_any}
use Rattle.std.specs.Option.{option_or}
use Rattle.dr_ids.specs.declared.names.Member.{Member}
use Rattle.dr_ids.specs.declared.refusal.PhaseName.{PhaseName}
use Rattle.dr_ids.specs.declared.refusal.PhaseName.TheVariants as phase
use Rattle.dr_ids.specs.declared.refusal.Refusal.{Refusal}
use Rattle.dr_ids.specs.declared.refusal.Refusal.TheVariants.{OutOfOrder, JournalFull, NumbersSpent, Stopped}
use Rattle.dr_model.specs.declared.said.Said.{Said}
use Rattle.dr_model.specs.declared.said.Said.TheVariants.{Refused}
use Rattle.dr_model.specs.declared.step.Name.{Name}
use Rattle.dr_model.specs.declared.step.Step.TheVariants.{Exchange}
use Rattle.dr_model.specs.Refusals.{stopped}
use Rattle.dr_model.specs.Phases as phases
use Rattle.dr_model.specs.Control.{Control, World}
use Rattle.dr_model.specs.Sessions.{Session, Mirror, session_in, with_master}
use Rattle.dr_model.specs.SessionEntries.{members_on, order_entries, reply_after}
use Rattle.dr_model.specs.SessionPlans.{is_idle, off_refusal, phase_refusal, exchange_refusal, order_of, exchanged, exchange_done, exchange_on, exchange_plan, session_phase, mirror_phase}
use Rattle.dr_model.specs.PlanParts.{Plan, refuses, unless, on_session, on_named, server_named, name_bytes}
use Rattle.dr_model.specs.Plans.{plan, has_room}
use Rattle.dr_model.specs.Carry.{Outcome, carry}
use Rattle.dr_model.specs.Carried.{finish, answered, masters_lost, stop_place, after_plan}
use Rattle.dr_model.specs.Forming.{Part}
use Rattle.dr_model.specs.Runs.{Task, course, answered_part, after_task, run}
use Rattle.dr_facts.proofs.Entries.{WhyNot, why-or}
use Rattle.dr_facts.proofs.Reasons.{NoStop, NoneStops, names_no_stop, reach-why, send-why, hold-why, stale-why, void-why, seal-why, flash-why, commit-why}
use Rattle.dr_facts.proofs.Refusals.{none-both, met, chosen}
use Rattle.dr_laws_sessions.proofs.Changes.{changed-found}
use Rattle.dr_laws_sound.specs.Acknowledged.{part_answer, said_in}
use Rattle.dr_laws_sound.proofs.Cases.{ordered}
use Rattle.dr_laws_sound.proofs.PlanReasons.{exchange-why}
use Rattle.dr_laws_sound.proofs.FitsFlash.{as_begun}
use Rattle.dr_laws_sound.proofs.RefusedSteps.{lost-stays}
use Rattle.dr_laws_progress.specs.Exchanges.{member_refusal, first_refusal, asking_refusal, reply_in, session_begun, master_begun, master_after, said_by, SamePlaces, ExchangeEnds, ExchangeEndsOrStops, ExchangesAnswer}
use Rattle.dr_laws_progress.proofs.OneStep.{refusal-answers}
use Rattle.std.proofs.lemmas.Bool.{eqb-true, eq-eqb}
use Rattle.std.proofs.lemmas.Option.{same_Some}
use Rattle.std.proofs.Common.{◌≤◌, nat_eq, ◌&&◌, map}
use Rattle.dr_facts.proofs.Lists.{from-filter, to-filter, some-any, to-map, once-filter, once-later}
use Rattle.dr_model.specs.Entries.{fields_at, copies_from}
use Rattle.dr_model.specs.Relations.{is_bare}
use Rattle.dr_model.specs.Layout.{Fields}
use Rattle.dr_model.specs.Groups.{In, SessionFits}
use Rattle.dr_model.specs.Attempts.{roles, seen}
use Rattle.dr_model.specs.Tables.{Once}
use Rattle.dr_model.specs.Laws.{Sound}
use Rattle.dr_model.specs.Refusals.{server_off}
use Rattle.dr_model.specs.Sessions.{changed, begun}
use Rattle.dr_model.specs.SessionEntries.{is_on, hold_refusal, stale_refusal, void_refusal, seal_refusal, flash_refusal, commit_refusal}
use Rattle.dr_model.specs.PairEntries.{send_refusal}
use Rattle.dr_laws_sessions.proofs.Changes.{session-found}
use Rattle.dr_laws_sound.proofs.Steps.{sound-run}
use Rattle.dr_laws_sound.proofs.Turns.{server_at}
use Rattle.dr_laws_progress.proofs.Endings.{IsAs, EndsAs, Untouched, AllApart}
use Rattle.dr_laws_progress.proofs.OrderEnds.{releases-end, seals-end, reports-end, reports-stay, reverts-end, finishes-end, flashes-end, commits-end, holds-end, begins-end}

-- no reason of a member's part is a stop
member-why : (p : PhaseName) (n : ℕ) (m : Member) (k : Control) → NoneStops (member_refusal p n m k)
member-why phase.Idle n m k = hold-why m.a.0 m.b.0 k
member-why phase.Coordinating n m k = why-or NoStop (hold_refusal m.a.0 m.b.0 k) (stale_refusal m.a.0 n k) (hold-why m.a.0 m.b.0 k) (stale-why m.a.0 n k)
member-why phase.Releasing n m k = void-why m.a.0 n k
member-why phase.Draining n m k = why-or NoStop (void_refusal m.a.0 n k) (seal_refusal m.a.0 m.b.0 k) (void-why m.a.0 n k) (seal-why m.a.0 m.b.0 k)
member-why phase.Flashing n m k = why-or NoStop (send_refusal m.a.0 m.b.0 k) (flash_refusal m.b.0 m.c.0 n k) (send-why m.a.0 m.b.0 k) (flash-why m.b.0 m.c.0 n k)
member-why phase.Committing n m k = why-or NoStop (send_refusal m.a.0 m.b.0 k) (commit_refusal m.c.0 n k) (send-why m.a.0 m.b.0 k) (commit-why m.c.0 n k)
member-why phase.Lost n m k = reach-why m.a.0 m.b.0 k
member-why phase.Reverting n m k = send-why m.a.0 m.b.0 k
member-why phase.Finishing n m k = tt
member-why phase.None n m k = tt

first-why : (p : PhaseName) (n : ℕ) (ms : List Member) (k : Control) → NoneStops (first_refusal p n ms k)
first-why p n [] k = tt
first-why p n (m ∷ ms) k = why-or NoStop (member_refusal p n m k) (first_refusal p n ms k) (member-why p n m k) (first-why p n ms k)

-- ---- what a sound world says of a session's members

module _ (w : World) (sound : Sound w) (x : Session) (listed : In x w.control.sessions) where
  abbrev fits : SessionFits w.control x
  fits = sound.groups.each x listed

  -- no volume has a place in two of them
  apart-each : (p : PhaseName) (ms : List Member) → Once (map (λ (m : Member). m.a.0) ms) → ((m : Member) → In m ms → In m x.members) → AllApart w p ms
  apart-each p [] once inside = tt
  apart-each p (m ∷ ms) once inside = (
    λ q here v at-m at-q. once-later (λ (m : Member). m.a.0) m ms q once here (ap (λ (m : Member). m.a.0) (sym (sound.groups.lone.one v x x m q listed listed (inside m (inl refl)) (inside q (inr here)) at-m at-q).1)),
    apart-each p ms once.1 (λ q here. inside q (inr here)),
  )

  -- nothing of them has seen a later attempt
  up-to-last : (m : Member) → In m x.members → (fields_at w.control m.a.0).attempt ≤ x.last
  up-to-last m here = ((sound.attempts.sessions x listed).numbers.each (seen (roles w.control) m) (to-map (seen (roles w.control)) x.members m here)).attempt

  -- a revertible target is that of its member's secondary
  turnable : (m : Member) → In m x.members → (fields_at w.control m.c.0).revertible ≡ true → copies_from m.b.0 (fields_at w.control m.c.0) ≡ true
  turnable m here turned =
      let f : Fields = fields_at w.control m.c.0 in
      let t = (sound.attempts.volumes m.c.0).counted (ap (λ b. f.member || b) turned ∙ either f.member) in
      let own : t.member ≡ m = (sound.groups.lone.one m.c.0 t.session x t.member m t.listed listed t.here here (inr (inr (sym t.is))) (inr (inr refl))).1 in
      copies f.related f.source m.b.0 (t.source ∙ ap (λ (m : Member). Some m.b.0) own)
    where
      either : (b : Bool) → (b || true) ≡ true
      either true = refl
      either false = refl

      copies : (related : Bool) (source b : ℕ) → cond related (Some source) None ≡ Some b → (related && nat_eq source b) ≡ true
      copies true source b is = eq-eqb source b (same_Some _ _ is)
      copies false source b is = absurd cc

module _ (w : World) (sound : Sound w) (t : Task) (s q : ℕ) (name : Name) (x : Session) (r : Mirror) (asked : t.asked ≡ Ok (Exchange s name true)) (room : has_room w.events ≡ true) (found : session_in w.control.sessions s ≡ Some x) (has : x.mirror ≡ Some r)
    (named : server_named w.control (name_bytes name) ≡ Some q) where
  abbrev k : Control
  k = w.control

  abbrev pub ms : List Member
  ms = members_on q x.members

  -- a plan of the step
  abbrev part : Plan → Part
  part p = record { world = w; plan = p }

  part-is : (p : Plan) → plan k w.events t.line (Ok (Exchange s name true)) ≡ p → (course w t).last ≡ part p
  part-is p is = ap (λ a. (course w (record { line = t.line; asked = a; listed = t.listed })).last) asked ∙ ap part is

  -- it asks the server by the master, unless that is refused
  asks : plan k w.events t.line (Ok (Exchange s name true)) ≡ unless (exchange_refusal k r q x.members) (exchange_done s q true ms (order_of r q))
  asks = ap (λ b. cond b (exchange_plan k s name true) (refuses JournalFull)) room
      ∙ (ap (λ o. on_session o (λ x. on_named (server_named k (name_bytes name)) (λ server. exchange_on k s x.mirror server true x.members))) found
      ∙ (ap (λ o. on_named o (λ server. exchange_on k s x.mirror server true x.members)) named
      ∙ ap (λ o. exchange_on k s o q true x.members) has))

  -- what a refusal, and what else it says, comes to
  abbrev Comes : Said → Type 0
  Comes said = ExchangeEndsOrStops w (after_task w t) s x r q said

  refused : (e : Refusal) → names_no_stop e ≡ true → asking_refusal k x r q ≡ Some e → Comes (Refused e)
  refused e why is = by e why (record { answer = sym (ap (λ o. said_by o (master_after k s x r q)) is); taken = λ none. absurd (never none); places = λ none. absurd (never none) })
    where
      never : asking_refusal k x r q ≡ None → ⊥
      never none = let both : Some e ≡ None = sym is ∙ none in cc

      by : (e : Refusal) → names_no_stop e ≡ true → ExchangeEnds w (after_task w t) s x r q (Refused e) → Comes (Refused e)
      by (Stopped z) why ends = absurd cc
      by e why ends = ends

  -- refused by master and server
  asking-refused : (e : Refusal) → exchange_refusal k r q x.members ≡ Some e → Comes (said_in w t)
  asking-refused e is =
      subst Comes (sym (ap part_answer (part-is _ (asks ∙ ap (λ o. unless o (exchange_done s q true ms (order_of r q))) is)) ∙ refusal-answers w e))
      (refused e (subst (WhyNot NoStop) is (exchange-why k r q x.members)) (ap (λ o. option_or o (first_refusal r.master.phase r.master.number ms k)) is))

  -- ---- its order is carried out

  module _ (free : exchange_refusal k r q x.members ≡ None) (o : phases.Order) (order : order_of r q ≡ Some o) (ss : List Session) (now : session_in ss s ≡ Some (session_begun r.master.phase x))
      (runs : (session_begun r.master.phase x).mirror ≡ Some (record r { master = master_begun r.master.phase r.master }))
      (replies : (v : World) → ◌≡◌ {A = Outcome} (carry (as_begun w) (order_entries o.work s o.number ms)) (v, None) → IsAs w r.master.phase ss v → reply_after s o.work ms v.control ≡ reply_in r.master.phase s ms k) where
    abbrev p : Plan
    p = ordered s q true ms o

    abbrev ends : Outcome
    ends = carry (as_begun w) (order_entries o.work s o.number ms)

    here : (course w t).last ≡ part p
    here = part-is p (asks ∙ (λ i. unless (free i) (exchange_done s q true ms (order i))))

    says : said_in w t ≡ answered p (finish p (stop_place w p) ends.0 ends.1).control ends.1
    says = ap part_answer here

    -- the refusals are those of the members
    rest-is : asking_refusal k x r q ≡ first_refusal r.master.phase r.master.number ms k
    rest-is = ap (λ o. option_or o (first_refusal r.master.phase r.master.number ms k)) free

    says-refused : (e : Refusal) → ends.1 ≡ Some e → said_in w t ≡ Refused e
    says-refused e is = says ∙ ap (answered p (finish p (stop_place w p) ends.0 ends.1).control) is

    -- where it comes to its end
    module _ (v : World) (leads : ◌≡◌ {A = Outcome} ends (v, None)) (none : first_refusal r.master.phase r.master.number ms k ≡ None) (same : IsAs w r.master.phase ss v) where
      abbrev reply : phases.Reply
      reply = reply_after s o.work ms v.control

      abbrev y : Session
      y = session_begun r.master.phase x

      abbrev m : phases.Master
      m = master_begun r.master.phase r.master

      abbrev j : Control
      j = exchanged s q true o.work ms v.control

      taken-is : session_in j.sessions s ≡ Some (with_master (λ m. phases.taken m q reply) y)
      taken-is = changed-found s (with_master (λ m. phases.taken m q reply)) v.control.sessions y (λ x. refl) (ap (λ ss. session_in ss s) same.sessions ∙ now)

      mirror-is : option_map (λ (r : Mirror). record r { master = phases.taken r.master q reply }) y.mirror ≡ Some (record r { master = master_after k s x r q })
      mirror-is = ap (option_map (λ (r : Mirror). record r { master = phases.taken r.master q reply })) runs ∙ ap (λ z. Some (record r { master = phases.taken m q z })) (replies v leads same)

      session-is : with_master (λ m. phases.taken m q reply) y ≡ with_master (λ m. master_after k s x r q) y
      session-is = ap (λ (o : Option Mirror). record y { mirror = o }) (mirror-is ∙ sym (ap (option_map (λ (z : Mirror). record z { master = master_after k s x r q })) runs))

      says-done : said_in w t ≡ said_by (asking_refusal k x r q) (master_after k s x r q)
      says-done =
          says ∙ (ap (λ (z : Outcome). answered p (finish p (stop_place w p) z.0 z.1).control z.1) leads
          ∙ (ap session_phase taken-is ∙ (ap mirror_phase mirror-is ∙ sym (ap (λ o. said_by o (master_after k s x r q)) (rest-is ∙ none)))))

      leads-to : (after_task w t).control ≡ j
      unfolding after_plan
      leads-to =
          ap (λ (y : Part). (answered_part t.line y).control) here
          ∙ (ap (λ (z : Outcome). (masters_lost w (record (finish p (stop_place w p) z.0 z.1) { events = (after_plan w t.line p).events })).control) leads
          ∙ ap (λ (u : World). u.control) (lost-stays w (record v { control = j; events = (after_plan w t.line p).events }) same.places.on))

      places-are : SamePlaces k j
      places-are = let p : SamePlaces k v.control = same.places in record { names = p.names; on = p.on; link = p.link; paths = p.paths; homes = p.homes; secondaries = p.secondaries; seen = p.seen }

      done : Comes (said_in w t)
      done = subst Comes (sym says-done) (subst (λ o. Comes (said_by o (master_after k s x r q))) (sym (rest-is ∙ none)) (record {
        answer = ap (λ o. said_by o (master_after k s x r q)) (sym (rest-is ∙ none));
        taken = λ free. ap (λ (i : Control). session_in i.sessions s) leads-to ∙ (taken-is ∙ ap Some session-is);
        places = λ free. subst (SamePlaces k) (sym leads-to) places-are;
      }))

    -- or a server stops in it, or it is refused for a member
    ends-so : EndsAs w r.master.phase ss (first_refusal r.master.phase r.master.number ms k) ends.0 ends.1 → Comes (said_in w t)
    ends-so (inl stops) = subst Comes (sym (says-refused (stopped stops.server) stops.is)) stops.armed
    ends-so (inr so) = by (first_refusal r.master.phase r.master.number ms k) refl so
      where
        by : (f : Option Refusal) → first_refusal r.master.phase r.master.number ms k ≡ f → (ends.1 ≡ f) × (f ≡ None → IsAs w r.master.phase ss ends.0) → Comes (said_in w t)
        by (Some e) is so = subst Comes (sym (says-refused e so.0)) (refused e (subst (WhyNot NoStop) is (first-why r.master.phase r.master.number ms k)) (rest-is ∙ is))
        by None is so = done ends.0 (λ i. (ends.0, so.0 i)) is (so.1 refl)

  -- ---- by phase

  module _ (free : exchange_refusal k r q x.members ≡ None) where
    -- the server is owed its order
    owes : is_idle r.master.phase ≡ false → phases.is_among q r.master.owed ≡ true
    owes other = by (phases.is_among q r.master.owed) (sym (ap (λ b. cond b (cond (r.paused || not (list_any (λ (m : Member). m.server.0 == q) x.members)) (Some (OutOfOrder phase.Idle)) (cond (r.master.number + 1 == 4294967296) (Some NumbersSpent) None)) (cond (phases.is_among q r.master.owed) None (Some (OutOfOrder r.master.phase)))) other)
        ∙ (none-both (phase_refusal r q x.members) _ (none-both (off_refusal k r.server) _ free).1).0)
      where
        by : (b : Bool) → cond b None (Some (OutOfOrder r.master.phase)) ≡ None → b ≡ true
        by true e = refl
        by false e = absurd cc

    order-is : (p : PhaseName) (work : phases.Work) → r.master.phase ≡ p → is_idle p ≡ false → phases.work_in p ≡ Some work → order_of r q ≡ Some (phases.numbered work r.master.number)
    order-is p work is other works = λ i. cond (idle i) (Some (record { work = phases.Hold; number = r.master.number + 1 })) (phases.order_if (owes idle i) ((ap phases.work_in is ∙ works) i) r.master.number)
      where
        idle : is_idle r.master.phase ≡ false
        idle = ap is_idle is ∙ other

    abbrev first : World
    first = as_begun w

    abbrev n : ℕ
    n = r.master.number

    same : (p : PhaseName) → IsAs w p k.sessions first
    same p = record { places = record { names = refl; on = refl; link = refl; paths = refl; homes = λ v. refl; secondaries = λ a v. refl; seen = λ v. refl }; sessions = refl; armed = λ z. refl; unsent = λ drains v. refl }

    untouched : (p : PhaseName) → Untouched w p ms first
    untouched p m held = record { fields = λ v at. refl; seen = λ asks. refl }

    listed : In x k.sessions
    listed = (session-found k.sessions s x found).0

    inside : (m : Member) → In m ms → In m x.members
    inside m here = (from-filter (is_on q) x.members m here).0

    all-apart : (p : PhaseName) → AllApart w p ms
    all-apart p = apart-each w sound x listed p ms (once-filter (λ (m : Member). m.a.0) (is_on q) x.members (fits w sound x listed).once) inside

    last : x.last ≡ n
    last = sym ((fits w sound x listed).sound.number r has)

    -- an order that is owed
    owed-ends : (p : PhaseName) (work : phases.Work) → r.master.phase ≡ p → is_idle p ≡ false → phases.work_in p ≡ Some work → session_begun p x ≡ x → master_begun p r.master ≡ r.master
        → ((v : World) → ◌≡◌ {A = Outcome} (carry first (order_entries (phases.numbered work n).work s (phases.numbered work n).number ms)) (v, None) → IsAs w p k.sessions v → reply_after s (phases.numbered work n).work ms v.control ≡ reply_in p s ms k)
        → EndsAs w p k.sessions (first_refusal p n ms k) (carry first (order_entries (phases.numbered work n).work s (phases.numbered work n).number ms)).0 (carry first (order_entries (phases.numbered work n).work s (phases.numbered work n).number ms)).1
        → Comes (said_in w t)
    owed-ends p work is other works session master replies ends =
        ends-so free (phases.numbered work n) (order-is p work is other works) k.sessions
        (found ∙ ap Some (sym (ap (λ p. session_begun p x) is ∙ session)))
        (ap (λ (y : Session). y.mirror) (ap (λ p. session_begun p x) is ∙ session) ∙ (has ∙ ap (λ (m : phases.Master). Some (record r { master = m })) (sym (ap (λ p. master_begun p r.master) is ∙ master))))
        (λ v leads same. replies v leads (subst (λ p. IsAs w p k.sessions v) is same) ∙ sym (ap (λ p. reply_in p s ms k) is))
        (subst (λ p. EndsAs w p k.sessions (first_refusal p n ms k) (carry first (order_entries (phases.numbered work n).work s (phases.numbered work n).number ms)).0 (carry first (order_entries (phases.numbered work n).work s (phases.numbered work n).number ms)).1) (sym is) ends)

    -- the first order of the next attempt: the server has a member, and is on
    idle-ends : r.master.phase ≡ phase.Idle → Comes (said_in w t)
    idle-ends is = by ms refl
      where
        idle : is_idle r.master.phase ≡ true
        idle = ap is_idle is

        some : list_any (λ (m : Member). m.server.0 == q) x.members ≡ true
        some = has_one r.paused _ (chosen (is_idle r.master.phase) _ _ idle (none-both (phase_refusal r q x.members) _ (none-both (off_refusal k r.server) _ free).1).0)
          where
            has_one : (a b : Bool) → cond (a || not b) (Some (OutOfOrder phase.Idle)) (cond (r.master.number + 1 == 4294967296) (Some NumbersSpent) None) ≡ None → b ≡ true
            has_one false true h = refl
            has_one false false h = absurd cc
            has_one true b h = absurd cc

        on : (m : Member) → In m ms → k.on (server_at w m.a.0) ≡ true
        on m here = let f = from-filter (is_on q) x.members m here in
            subst (λ z. k.on z ≡ true) (sym (eqb-true m.server.0 q f.1) ∙ ((fits w sound x listed).stands m f.0).server) (met (k.on q) (server_off q) (none-both (off_refusal k q) _ (none-both (phase_refusal r q x.members) _ (none-both (off_refusal k r.server) _ free).1).1).0)

        by : (us : List Member) → ms ≡ us → Comes (said_in w t)
        by [] none = let o = some-any (λ (m : Member). m.server.0 == q) x.members some in absurd (subst (In o.0) none (to-filter (is_on q) x.members o.0 o.1.0 o.1.1))
        by (m ∷ more) e = let next : List Session = changed s begun k.sessions in
            ends-so free (record { work = phases.Hold; number = n + 1 }) (ap (λ b. cond b (Some (record { work = phases.Hold; number = n + 1 })) (phases.order_for r.master q)) idle) next
            (subst (λ p. session_in next s ≡ Some (session_begun p x)) (sym is) (changed-found s begun k.sessions x (λ x. refl) found))
            (subst (λ p. (session_begun p x).mirror ≡ Some (record r { master = master_begun p r.master })) (sym is) (ap (option_map (λ (r : Mirror). record r { master = phases.begun r.master })) has))
            (λ v leads same. sym (ap (λ p. reply_in p s ms k) is))
            (subst (λ p. EndsAs w p next (first_refusal p n ms k) (carry first (order_entries phases.Hold s (n + 1) ms)).0 (carry first (order_entries phases.Hold s (n + 1) ms)).1) (sym is)
            (subst (λ us. EndsAs w phase.Idle next (first_refusal phase.Idle n us k) (carry first (order_entries phases.Hold s (n + 1) us)).0 (carry first (order_entries phases.Hold s (n + 1) us)).1) (sym e)
            (begins-end w n s k.sessions x found last m more (on m (subst (In m) (sym e) (inl refl))) (subst (AllApart w phase.Idle) e (all-apart phase.Idle))
            (λ z here. subst (λ j. (fields_at k z.a.0).attempt ≤ j) last (up-to-last w sound x listed z (inside z (subst (In z) (sym e) here))))
            first (same phase.Idle) (subst (λ us. Untouched w phase.Idle us first) e (untouched phase.Idle)))))

    by-phase : (p : PhaseName) → r.master.phase ≡ p → Comes (said_in w t)
    by-phase phase.Idle is = idle-ends is
    by-phase phase.Coordinating is = owed-ends phase.Coordinating phases.Hold is refl refl refl refl (λ v leads same. refl) (holds-end w n s k.sessions x found last ms (all-apart phase.Coordinating) first (same phase.Coordinating) (untouched phase.Coordinating))
    by-phase phase.Releasing is = owed-ends phase.Releasing phases.Release is refl refl refl refl (λ v leads same. refl) (releases-end w n s k.sessions ms (all-apart phase.Releasing) first (same phase.Releasing) (untouched phase.Releasing))
    by-phase phase.Draining is = owed-ends phase.Draining phases.Seal is refl refl refl refl (λ v leads same. λ i. cond (list_any (λ (m : Member). not (is_bare (same.unsent refl m.a.0 i))) ms) phases.NotYet phases.Done)
        (seals-end w n s k.sessions ms (all-apart phase.Draining) first (same phase.Draining) (untouched phase.Draining))
    by-phase phase.Flashing is = owed-ends phase.Flashing phases.Flash is refl refl refl refl (λ v leads same. refl) (flashes-end w n s k.sessions ms (all-apart phase.Flashing) first (same phase.Flashing) (untouched phase.Flashing))
    by-phase phase.Committing is = owed-ends phase.Committing phases.Commit is refl refl refl refl (λ v leads same. refl)
        (commits-end w n s k.sessions ms (all-apart phase.Committing) (λ m here. turnable w sound x listed m (inside m here)) first (same phase.Committing) (untouched phase.Committing))
    by-phase phase.Lost is = owed-ends phase.Lost phases.Report is refl refl refl refl
        (λ v leads same. ap (λ (u : World). reply_after s phases.Report ms u.control) (ap (λ (z : Outcome). z.0) (sym leads ∙ reports-stay w n s k.sessions ms first)))
        (reports-end w n s k.sessions ms first (same phase.Lost))
    by-phase phase.Reverting is = owed-ends phase.Reverting phases.Revert is refl refl refl refl (λ v leads same. refl) (reverts-end w n s k.sessions ms (all-apart phase.Reverting) first (same phase.Reverting) (untouched phase.Reverting))
    by-phase phase.Finishing is = owed-ends phase.Finishing phases.Finish is refl refl refl refl (λ v leads same. refl) (finishes-end w n s k.sessions ms (all-apart phase.Finishing) first (same phase.Finishing) (untouched phase.Finishing))
    by-phase phase.None is = absurd (((fits w sound x listed).runs r has).in_phase is)

  pub exchange-answers : Comes (said_in w t)
  exchange-answers = by (exchange_refusal k r q x.members) refl
    where
      by : (o : Option Refusal) → exchange_refusal k r q x.members ≡ o → Comes (said_in w t)
      by (Some z) is = asking-refused z is
      by None free = by-phase free r.master.phase refl

pub exchanges-answer : (tasks : List Task) → ExchangesAnswer tasks
exchanges-answer tasks t s q name x r asked room found has named = exchange-answers (run tasks) (sound-run tasks) t s q name x r asked room found has named
