-- A loss that is settled is fenced: over steps and runs each server of a session's members has reported for its epoch, unless its master is Lost,
-- until that is Idle.
use Rattle.std.proofs.Common.{ℕ, ◌≡◌, ◌≢◌, ◌≤◌, ◌⊎◌, inl, inr, refl, ap, sym, ◌∙◌, subst, arith, Bool, true, false, ◌==◌, nat_lt, List, [], ◌∷◌, Option, Some, None, option_map, Result}
use Rattle.std.specs.List.{find}
use Rattle.std.proofs.Math.Nat.{le_antisymm}
use Rattle.std.proofs.lemmas.Bool.{le-ltb}
use Rattle.std.proofs.lemmas.List.{append-nil}
use Rattle.std.proofs.lemmas.Option.{same_Some}
use Rattle.dr_ids.specs.declared.names.Member.{Member}
use Rattle.dr_ids.specs.declared.refusal.Kind.TheVariants.{Volume as OfVolume}
use Rattle.dr_ids.specs.declared.refusal.PhaseName.{PhaseName}
use Rattle.dr_ids.specs.declared.refusal.PhaseName.TheVariants as phase
use Rattle.dr_ids.specs.declared.refusal.Refusal.TheVariants.{OldMessage, Duplicate}
use Rattle.dr_model.specs.declared.said.Addition.TheVariants.{Alone}
use Rattle.dr_model.specs.declared.said.Said.TheVariants.{Done}
use Rattle.dr_model.specs.declared.step.Step.{Step}
use Rattle.dr_model.specs.Decisions.{Shown}
use Rattle.dr_model.specs.Phases as phases
use Rattle.dr_model.specs.Sessions.{Session, Mirror, session_in, mirror_in, is_member, in_session, changed, begun as begun_in, joined, with_master, unmirrored, paused, raised, with_member, without_member}
use Rattle.dr_model.specs.Messages.{Flight, Message, Replies}
use Rattle.dr_model.specs.Messages as messages
use Rattle.dr_model.specs.MessagePlans.{with_flight, sending, replying, taking, told_begun, says_posted, is_awaited}
use Rattle.dr_model.specs.Control.{Control, World}
use Rattle.dr_model.specs.Entries.{is_running, share_size}
use Rattle.dr_model.specs.PairEntries.{differs_at}
use Rattle.dr_model.specs.PlanParts.{Plan, same, always, is_defined}
use Rattle.dr_model.specs.SessionPlans.{with_sessions, leaving, appointed, aborting, exchanged, says_phase, is_idle, off_refusal, apart_refusal, order_of, member_with}
use Rattle.dr_model.specs.SessionEntries.{members_on, order_entries, reply_after, first_number}
use Rattle.dr_model.specs.Plans.{compare_plan}
use Rattle.dr_model.specs.Groups.{In}
use Rattle.dr_model.specs.Attempts.{roles, all_seen}
use Rattle.dr_model.specs.Flights.{HasAnswer}
use Rattle.dr_model.specs.Forming.{Part, Way, formed, form_said, after_part, phase_of, phase_in}
use Rattle.dr_model.specs.Runs.{Task, OwnCourse, Groups, Volumes, Devices, own_course, course_of, course, image_told, after_plan, after_task, after_tasks, carried_out, run}
use Rattle.dr_model.specs.Laws.{Sound}
use Rattle.dr_facts.proofs.Entries.{any_world, any_reason, why-any, fine-none, fine-check, fine-refuse, plan-kept}
use Rattle.dr_facts.proofs.Lists.{found}
use Rattle.dr_facts.proofs.Refusals.{none-both, met}
use Rattle.dr_laws_sessions.specs.Frames.{Quiet}
use Rattle.dr_laws_sessions.proofs.Changes.{session-found}
use Rattle.dr_laws_sessions.proofs.Sound.{quiet-of, quiet-drop}
use Rattle.dr_laws_sessions.proofs.PlanTables.{no-maker}
use Rattle.dr_laws_messages.proofs.Masters.{FlightBy}
use Rattle.dr_laws_messages.proofs.Replies.{heard-reaches}
use Rattle.dr_laws_messages.proofs.Turns.{flight-by}
use Rattle.dr_laws_messages.proofs.Taken.{awaited-so}
use Rattle.dr_laws_sound.proofs.Cases.{Ordered, Reaches, Returns, Case, Says, Lists, Starts, Compares, MakesSession, RemovesSession, MakesMirror, PausesMirror, RemovesMirror, Aborts, AddsMember, RemovesMember, Exchanges, Sends, Delivers, TakesReply, Loses, Settles, Commits, Reverts, plan-case, one-passed}
use Rattle.dr_laws_sound.proofs.DoesPlans.{case-does}
use Rattle.dr_laws_sound.proofs.Parts.{Comes, Ending, OnePlan, Imaged, asks_turn, course-case, last-plan, compared-case, imaged-case}
use Rattle.dr_laws_sound.proofs.Steps.{case-holds as sound-case, ending-holds, sound-carried, sound-plan, sound-part, sound-task, sound-tasks, sound-run}
use Rattle.dr_laws_orders.specs.SettledLosses.{IsFencedOff, StaysSettled, SettledLossesAreFenced}
use Rattle.dr_laws_orders.proofs.Heard.{Reached, HeardBut, IsLost, rises-same, heard-one, heard-flight, heard-idle, heard-joined, heard-left, heard-mirrored, heard-paused, heard-aborted, own-mirror}
use Rattle.dr_laws_orders.proofs.Settling.{settles, asks-report, heard-lost}
use Rattle.dr_laws_orders.proofs.HeardPlans.{Holds, Found, Apart, act-holds, plan-holds, table-holds, ordering, order-holds, reports-holds, replies, rises-heard, exchanged-heard, exchange-reports}

module _ (s : ℕ) (w : World) (sound : Sound w) where
  abbrev k : Control
  k = w.control

  -- ---- orders and replies

  -- the session has its number
  listed : (h : Holds s w) → In h.session k.sessions × (h.session.number ≡ s)
  listed h = session-found k.sessions s h.session h.found

  -- what the session's master asks of a server
  own-order : (i server : ℕ) (x : Session) (r : Mirror) (o : phases.Order) → Ordered k i server x r o → (h : Holds s w) → i ≡ s → order_of h.mirror server ≡ Some o
  own-order i server x r o ordered h e = subst (λ q. order_of q server ≡ Some o) (same_Some _ _ (sym ordered.mirror ∙ own-mirror IsLost s i k.flight k.sessions x ordered.found h e)) ordered.order

  -- a lost master takes a report in an exchange
  exchange-lost : (i server : ℕ) (reply : Bool) (x : Session) (r : Mirror) (o : phases.Order) (ms : List Member) → Ordered k i server x r o → (h : Holds s w) → IsLost h.mirror.master.phase
      → (u : World) → u.control.flight ≡ k.flight → Found s h.session u → HeardBut IsLost s (exchanged i server reply o.work ms u.control).flight (exchanged i server reply o.work ms u.control).sessions
  exchange-lost i server reply x r o ms ordered h lost u flight found =
      exchanged-heard s IsLost i server o.work ms u.control reply (record { session = h.session; found = found; mirror = h.mirror; has_master = h.has_master; heard = inl lost }) (λ e.
      subst (λ i. IsLost (phases.taken h.mirror.master server (reply_after i o.work ms u.control)).phase ⊎ Reached s (messages.heard i server (u.control.flight.epoch i) o.work u.control.flight) h.session.members) (sym e)
      (subst (λ f. IsLost (phases.taken h.mirror.master server (reply_after s o.work ms u.control)).phase ⊎ Reached s (messages.heard s server (f.epoch s) o.work f) h.session.members) (sym flight)
      (settles s k.flight (roles k) h.session h.mirror (listed h).1 (flight-by k.flight (roles k) h.session h.mirror h.has_master (sound.flights.each h.session (listed h).0)) lost
      (messages.heard s server (k.flight.epoch s) o.work k.flight) server (rises-heard s s server (k.flight.epoch s) o.work k.flight) (reply_after s o.work ms u.control)
      (λ xs is. heard-reaches k.flight s server (k.flight.epoch s) o.work (sound.flights.fences s) (omega arith) (asks-report h.mirror server o lost (own-order i server x r o ordered h e)).0))))

  pub exchange-holds : (i server : ℕ) (reply : Bool) (x : Session) (r : Mirror) (o : phases.Order) → Ordered k i server x r o → Holds s w → let ms : List Member = members_on server x.members in
      Holds s (carried_out w (ordering (order_entries o.work i o.number ms) (exchanged i server reply o.work ms) (says_phase i))).0
  exchange-holds i server reply x r o ordered h = let ms : List Member = members_on server x.members in
      order-holds s w o.work i o.number ms (exchanged i server reply o.work ms) (says_phase i) h
      (λ lost e. ap (nat_lt h.session.last) (asks-report h.mirror server o lost (own-order i server x r o ordered h e)).1 ∙ le-ltb h.session.last 0 (omega arith))
      (λ u j. exchange-reports s i server reply o.work ms u.control j)
      (λ lost u flight found. exchange-lost i server reply x r o ms ordered h lost u flight found)

  -- an order that arrives is one of an attempt that has begun
  pub delivery-holds : (n : ℕ) (m : Message) (starts : ℕ) (x : Session) (r : Mirror) → Reaches k n m starts x r → Holds s w → let ms : List Member = members_on m.server x.members in
      Holds s (carried_out w (ordering (order_entries m.order.work m.session m.order.number ms) (replying m ms) says_posted)).0
  delivery-holds n m starts x r reaches h = let ms : List Member = members_on m.server x.members in
      order-holds s w m.order.work m.session m.order.number ms (replying m ms) says_posted h
      (λ lost e. le-ltb h.session.last m.order.number
      (((sound.flights.each h.session (listed h).0).known m (found (λ (q : Message). q.number == n) k.flight.messages m reaches.arrives.there).0 (e ∙ sym (listed h).1)).number))
      (λ u j. replies s m (reply_after m.session m.order.work ms u.control) u.control.flight u.control.sessions (reports-holds s u.control.flight u.control.sessions j))
      (λ lost u flight here. replies s m (reply_after m.session m.order.work ms u.control) u.control.flight u.control.sessions (record { session = h.session; found = here; mirror = h.mirror; has_master = h.has_master; heard = inl lost }))

  -- a lost master takes a reply that arrives
  module _ (n : ℕ) (m : Message) (reply : phases.Reply) (x : Session) (r : Mirror) (returns : Returns k n m reply x r) (h : Holds s w) (e : m.session ≡ s) (lost : IsLost h.mirror.master.phase) where
    own : r ≡ h.mirror
    own = same_Some _ _ (sym returns.arrives.mirror ∙ own-mirror IsLost s m.session k.flight k.sessions x returns.arrives.found h e)

    awaits : is_awaited k.flight h.mirror m ≡ true
    awaits = ap (λ q. is_awaited k.flight q m) (sym own)
        ∙ met (is_awaited k.flight r m) (OldMessage m.number) (none-both (apart_refusal k r.server m.server) _ (none-both (off_refusal k r.server) _ returns.allowed).1).1

    answers : (xs : List Shown) → reply ≡ phases.Reported xs → HasAnswer m.body
    answers xs is = subst HasAnswer (sym (returns.arrives.says ∙ ap Replies is)) tt

    fits : FlightBy k.flight h.session.number h.session.last (all_seen (roles k) h.session.members) h.mirror.master
    fits = flight-by k.flight (roles k) h.session h.mirror h.has_master (sound.flights.each h.session (listed h).0)

    reached : (xs : List Shown) → reply ≡ phases.Reported xs → k.flight.epoch s ≤ k.flight.fence s m.server
    reached xs is = subst (λ i. k.flight.epoch i ≤ k.flight.fence i m.server) (listed h).1
        (fits.reached lost m
        (awaited-so k sound.groups sound.attempts sound.flights m reply h.session h.mirror (found (λ (q : Message). q.number == n) k.flight.messages m returns.arrives.there).0 returns.arrives.says
        (ap (session_in k.sessions) e ∙ h.found) h.has_master awaits (answers xs is)))

    settled : IsLost (phases.taken h.mirror.master m.server reply).phase ⊎ Reached s k.flight h.session.members
    settled = settles s k.flight (roles k) h.session h.mirror (listed h).1 fits lost k.flight m.server (rises-same s k.flight) reply reached

  pub reply-holds : (n : ℕ) (m : Message) (reply : phases.Reply) (x : Session) (r : Mirror) → Returns k n m reply x r → Holds s w → HeardBut IsLost s k.flight (changed m.session (with_master (λ q. phases.taken q m.server reply)) k.sessions)
  reply-holds n m reply x r returns h = heard-one IsLost s m.session k.flight k.flight k.sessions (with_master (λ q. phases.taken q m.server reply)) (λ x. refl) (λ ne. rises-same s k.flight) h (λ e. record {
    members = refl;
    mirror = record h.mirror { master = phases.taken h.mirror.master m.server reply };
    has_master = ap (option_map (λ (q : Mirror). record q { master = phases.taken q.master m.server reply })) h.has_master;
    heard = by e h.heard;
  })
    where
      by : m.session ≡ s → IsLost h.mirror.master.phase ⊎ Reached s k.flight h.session.members → IsLost (phases.taken h.mirror.master m.server reply).phase ⊎ Reached s k.flight h.session.members
      by e (inl lost) = settled n m reply x r returns h e lost
      by e (inr reached) = inr reached

  -- ---- members and masters

  -- a master that isn't Idle
  module _ (h : Holds s w) (busy_now : phase_in k s ≢ phase.Idle) where
    not-idle : h.mirror.master.phase ≡ phase.Idle → ⊥
    not-idle idle = busy_now (ap (λ o. phase_of (mirror_in o)) h.found ∙ (ap phase_of h.has_master ∙ idle))

    -- what is asked of an Idle master is of another one
    pub idle-else : (i : ℕ) (x : Session) (change : Session → Session) → ((x : Session) → (change x).number ≡ x.number) → session_in k.sessions i ≡ Some x → Quiet x → (g : Flight) (ts : List Session) → HeardBut IsLost s g ts → HeardBut IsLost s g (changed i change ts)
    idle-else i x change same there quiet g ts j = heard-idle s k.flight i x k.sessions ts change same there quiet h not-idle g j

    -- a send begins no attempt of the session
    pub send-holds : (i server : ℕ) (x : Session) (r : Mirror) (o : phases.Order) → session_in k.sessions i ≡ Some x → x.mirror ≡ Some r → HeardBut IsLost s (sending i (is_idle r.master.phase) server o k).flight (sending i (is_idle r.master.phase) server o k).sessions
    send-holds i server x r o there has = by (is_idle r.master.phase) refl
      where
        idle-is : (p : PhaseName) → is_idle p ≡ true → p ≡ phase.Idle
        idle-is phase.Idle e = refl
        idle-is p e = absurd cc

        flown : (ts : List Session) → HeardBut IsLost s k.flight ts → HeardBut IsLost s (messages.sent i server o k.flight) ts
        flown ts j = heard-flight IsLost s k.flight (messages.sent i server o k.flight) ts (record { epoch = refl; fences = λ x. omega arith }) j

        by : (b : Bool) → is_idle r.master.phase ≡ b → HeardBut IsLost s (sending i b server o k).flight (sending i b server o k).sessions
        by true idle = flown (changed i begun_in k.sessions) (idle-else i x begun_in (λ x. refl) there (λ q e. subst (λ (q : Mirror). q.master.phase ≡ phase.Idle) (same_Some _ _ (sym has ∙ e)) (idle-is r.master.phase idle)) k.flight k.sessions h)
        by false idle = flown k.sessions h

-- ---- every plan of a step

-- why one may come: it is a turn of an `@run`, or the session's master isn't Idle
abbrev MayCome : Control → ℕ → Result Step ℕ → Type 0
MayCome c s asked = (asks_turn asked ≡ true) ⊎ (phase_in c s ≢ phase.Idle)

-- of a step that asks for no turn
no-turn : {N : Type 0} → (false ≡ true) ⊎ N → N
no-turn (inl turn) = absurd cc
no-turn (inr busy_now) = busy_now

module _ (s : ℕ) (w : World) (sound : Sound w) (line : ℕ) where
  abbrev c : Control
  c = w.control

  case-holds : (asked : Result Step ℕ) (p : Plan) → Case c w.events line asked p → MayCome c s asked → Holds s w → Holds s (carried_out w p).0
  case-holds _ _ (Says a waits why) may h = table-holds s w same [] (always a) h
  case-holds _ _ (Lists told ls few) may h = table-holds s w same told (always (Done Alone)) h
  case-holds _ _ (Compares contents v u) may h = plan-kept any_world (Apart s) any_reason (Holds s) (λ v i. tt) (act-holds s) w (compare_plan c contents v u) h
      (fine-check any_world (Apart s) any_reason (is_defined v) _ _ tt (fine-check any_world (Apart s) any_reason (is_defined u) _ _ tt
      (fine-check any_world (Apart s) any_reason (is_running v) _ _ tt (fine-check any_world (Apart s) any_reason (is_running u) _ _ tt
      (fine-check any_world (Apart s) any_reason (share_size v u) _ _ tt (fine-refuse any_world (Apart s) any_reason (differs_at _) _ (λ k. why-any _) (fine-none any_world (Apart s) any_reason)))))))
      (λ n. tt) (λ v i. i)
  case-holds _ _ (Starts {name} x off) may h = plan-holds s w _ _ refl (case-does w line _ _ (Starts {name = name} x off)) (record { first = heard-flight IsLost s c.flight (messages.started x c.flight) c.sessions (record { epoch = refl; fences = λ q. omega arith }); last = λ j i. i }) h
  case-holds _ _ (MakesSession l i free) may h = table-holds s w (with_sessions (joined i l)) [] (always (Done Alone)) (heard-joined s c.flight i l c.sessions h)
  case-holds _ _ (RemovesSession l i x found free) may h = table-holds s w (leaving i l x) [] (always (Done Alone)) (heard-left s c.flight i l x c.sessions found free h)
  case-holds _ _ (MakesMirror owner i x found free l owned) may h = table-holds s w (appointed i owner) [] (always (Done Alone)) (heard-mirrored s c.flight i owner x c.sessions found (no-maker x.mirror free) h)
  case-holds _ _ (PausesMirror i on) may h = table-holds s w (with_sessions (changed i (paused on))) [] (always (Done Alone)) (heard-paused s c.flight i on c.sessions h)
  case-holds _ _ (RemovesMirror i x found free) may h = table-holds s w (with_sessions (changed i unmirrored)) [] (always (Done Alone))
      (idle-else s w sound h (no-turn may) i x unmirrored (λ x. refl) found (quiet-drop x free) c.flight c.sessions h)
  case-holds _ _ (Aborts i x found free) may h = table-holds s w (aborting i x.mirror) [] (says_phase i) (heard-aborted s c.flight i x c.sessions found h)
  case-holds _ _ (AddsMember {devs} {l} i a b x joins) may h =
      let n : ℕ = first_number c x.last (member_with c a b) in
      let idle = idle-else s w sound h (no-turn may) i x in
      let quiet : Quiet x = quiet-of x (none-both (in_session (find (is_member a) c.sessions)) _ (one-passed (is_member a x) (Duplicate OfVolume) _ joins.free).1).1 in
      plan-holds s w _ _ refl (case-does w line _ _ (AddsMember {devs = devs} {l = l} i a b x joins)) (record {
        first = λ j. j;
        last = λ j was. idle (with_member (member_with c a b)) (λ x. refl) joins.found quiet j.flight (changed i (raised n) j.sessions) (idle (raised n) (λ x. refl) joins.found quiet j.flight j.sessions was);
      }) h
  case-holds _ _ (RemovesMember {devs} {l} i a x m found is free on) may h =
      plan-holds s w _ _ refl (case-does w line _ _ (RemovesMember {devs = devs} {l = l} i a x m found is free on)) (record {
        first = λ j. j;
        last = λ j was. idle-else s w sound h (no-turn may) i x (without_member m.a.0) (λ x. refl) found (quiet-of x free) j.flight j.sessions was;
      }) h
  case-holds _ _ (Loses n) may h = table-holds s w (with_flight (messages.lost n)) [] (always (Done Alone)) (heard-flight IsLost s c.flight (messages.lost n c.flight) c.sessions (record { epoch = refl; fences = λ q. omega arith }) h)
  case-holds _ _ (Exchanges i server reply x r o ordered) may h = exchange-holds s w sound i server reply x r o ordered h
  case-holds _ _ (Sends i server x r o posts) may h = table-holds s w (sending i (is_idle r.master.phase) server o) (told_begun (is_idle r.master.phase) i o.number) says_posted
      (send-holds s w sound h (no-turn may) i server x r o posts.found posts.mirror)
  case-holds _ _ (Delivers n m starts x r reaches) may h = delivery-holds s w sound n m starts x r reaches h
  case-holds _ _ (TakesReply n m reply x r returns) may h = table-holds s w (taking m reply) [] (says_phase m.session) (reply-holds s w sound n m reply x r returns h)
  case-holds _ _ (Settles i x m found here on free (Commits devs source sequence lets)) may h =
      plan-holds s w _ _ refl (case-does w line _ _ (Settles i x m found here on free (Commits devs source sequence lets))) (record { first = λ j. j; last = λ j was. was }) h
  case-holds _ _ (Settles i x m found here on free (Reverts devs source sequence t target is)) may h =
      plan-holds s w _ _ refl (case-does w line _ _ (Settles i x m found here on free (Reverts devs source sequence t target is))) (record { first = λ j. j; last = λ j was. was }) h
  case-holds _ _ e may h = plan-holds s w _ _ refl (case-does w line _ _ e) (record { first = λ j. j; last = λ j was. was }) h

  -- the last one
  ending-so : (p : Plan) → Ending c w.events line p → phase_in c s ≢ phase.Idle → Holds s w → Holds s (carried_out w p).0
  ending-so _ (OnePlan asked p e) busy_now h = case-holds asked p e (inr busy_now) h
  ending-so _ (Imaged vs) busy_now h = table-holds s w same (image_told vs) (always (Done Alone)) h

-- ---- steps and runs

module _ (s : ℕ) where
  -- a plan of an `@run`
  part-holds : (w : World) (p : Plan) → Comes w p → Sound w × Holds s w → Sound (after_part w p) × Holds s (after_part w p)
  part-holds w p comes j = (
    sound-part w p comes j.0,
    heard-lost s (carried_out w p).0 (sound-carried w p (sound-case w j.0 0 comes.asked p (comes.case 0))) w.control.on (case-holds s w j.0 0 comes.asked p (comes.case 0) (inl comes.asks) j.1),
  )

  -- a step that begins while the master isn't Idle
  task-holds : (w : World) (t : Task) → Sound w → phase_in w.control s ≢ phase.Idle → Holds s w → Holds s (after_task w t)
  unfolding after_plan
  task-holds w t sound busy_now h =
      let x : Part = (course w t).last in
      let j : Sound x.world × Holds s x.world = last-plan (λ u. Sound u × Holds s u) part-holds w t (sound, h) in
      heard-lost s (after_plan x.world t.line x.plan) (sound-plan x.world t.line x.plan (ending-holds x.world j.0 t.line x.plan (course-case w t))) x.world.control.on (by (own_course t.asked) j)
    where
      by : (o : Option OwnCourse) → Sound (course_of w t o).last.world × Holds s (course_of w t o).last.world → Holds s (carried_out (course_of w t o).last.world (course_of w t o).last.plan).0
      by None j = case-holds s w sound t.line t.asked _ (plan-case w.control w.events t.line t.asked) (inr busy_now) h
      by (Some (Groups i n)) j = let x : Way = formed w i n in table-holds s x.world same [] (always (form_said i x.world.control x.refusal)) j.1
      by (Some (Volumes v u)) j = case-holds s w sound t.line t.asked _ (compared-case w t.line t.asked v u) (inr busy_now) h
      by (Some Devices) j = ending-so s w sound t.line _ (imaged-case w t.line t.asked t.listed) busy_now h

  tasks-hold : (w : World) (more : List Task) → Sound w → Holds s w → StaysSettled w more s → Holds s (after_tasks w more)
  unfolding after_tasks
  tasks-hold w [] sound h stays = h
  tasks-hold w (t ∷ more) sound h stays =
      tasks-hold (after_task w t) more (sound-task w t sound) (task-holds w t sound (stays [] (t ∷ more) refl).busy h) (λ first rest e. stays (t ∷ first) rest (ap (λ ts. t ∷ ts) e))

  -- it begins as a master is Lost
  begins : (k : Control) → phase_in k s ≡ phase.Lost → HeardBut IsLost s k.flight k.sessions
  begins k lost = by (session_in k.sessions s) refl lost
    where
      with-mirror : (x : Session) (o : Option Mirror) → session_in k.sessions s ≡ Some x → x.mirror ≡ o → phase_of o ≡ phase.Lost → HeardBut IsLost s k.flight k.sessions
      with-mirror x None found none e = absurd cc
      with-mirror x (Some r) found has e = record { session = x; found = found; mirror = r; has_master = has; heard = inl e }

      by : (o : Option Session) → session_in k.sessions s ≡ o → phase_of (mirror_in o) ≡ phase.Lost → HeardBut IsLost s k.flight k.sessions
      by None none e = absurd cc
      by (Some x) found e = with-mirror x x.mirror found refl e

  -- and is what the law says if it isn't
  fenced-off : (u : World) → Sound u → Holds s u → phase_in u.control s ≢ phase.Lost → IsFencedOff u.control s
  fenced-off u sound h kept = record { session = h.session; found = h.found; fences = by h.heard }
    where
      by : IsLost h.mirror.master.phase ⊎ Reached s u.control.flight h.session.members → (m : Member) → In m h.session.members → u.control.flight.fence s m.server.0 ≡ u.control.flight.epoch s
      by (inl lost) m here = absurd (kept (ap (λ o. phase_of (mirror_in o)) h.found ∙ (ap phase_of h.has_master ∙ lost)))
      by (inr reached) m here = le_antisymm (sound.flights.fences s m.server.0) (reached m here)

pub settled-fenced : (w : World) (t : Task) (more : List Task) (s : ℕ) → Sound w → phase_in w.control s ≡ phase.Lost → StaysSettled (after_task w t) more s → IsFencedOff (after_tasks (after_task w t) more).control s
settled-fenced w t more s sound lost stays =
    let first : Sound (after_task w t) = sound-task w t sound in
    fenced-off s (after_tasks (after_task w t) more) (sound-tasks (after_task w t) more first)
    (tasks-hold s (after_task w t) more first (task-holds s w t sound (λ idle. let e : phase.Lost ≡ phase.Idle = sym lost ∙ idle in cc) (begins s w.control lost)) stays)
    (stays more [] (sym (append-nil more))).kept

pub settled-run : (tasks : List Task) → SettledLossesAreFenced tasks
settled-run tasks before more after t s is lost stays = settled-fenced (run before) t more s (sound-run before) lost stays
