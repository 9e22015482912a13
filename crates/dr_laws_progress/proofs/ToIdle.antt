-- Exchanges with servers that are owed an order which ends an attempt lead to Idle, by that many orders.
use Rattle.std.proofs.Common.{ℕ, suc, ◌≡◌, ◌≢◌, ◌+◌, ◌⊎◌, inl, inr, refl, ap, sym, ◌∙◌, subst, arith, Bool, true, false, cond, not, ◌||◌, ◌==◌, List, [], ◌∷◌, length, Some, None, option_map}
use Rattle.std.specs.List.{list_any}
use Rattle.std.specs.Option.{option_or}
use Rattle.std.proofs.lemmas.Bool.{eq-eqb}
use Rattle.std.proofs.lemmas.Option.{same_Some}
use Rattle.dr_ids.specs.declared.names.Member.{Member}
use Rattle.dr_ids.specs.declared.refusal.Decision.{Decision}
use Rattle.dr_ids.specs.declared.refusal.Decision.TheVariants.{CommitRest}
use Rattle.dr_ids.specs.declared.refusal.PhaseName.{PhaseName}
use Rattle.dr_ids.specs.declared.refusal.PhaseName.TheVariants as phase
use Rattle.dr_ids.specs.declared.refusal.Refusal.TheVariants.{OutOfOrder, NumbersSpent, Stopped}
use Rattle.dr_model.specs.declared.said.Said.{Said}
use Rattle.dr_model.specs.declared.said.Said.TheVariants.{Refused}
use Rattle.dr_model.specs.Refusals.{server_off, stopped}
use Rattle.dr_model.specs.Decisions.{decision}
use Rattle.dr_model.specs.Phases as phases
use Rattle.dr_model.specs.Phases.{Master, is_among, without}
use Rattle.dr_model.specs.Control.{Control, World}
use Rattle.dr_model.specs.Sessions.{Session, Mirror, mirror_in, with_master}
use Rattle.dr_model.specs.SessionEntries.{is_on, members_on}
use Rattle.dr_model.specs.SessionPlans.{is_idle, off_refusal, apart_refusal, phase_refusal, exchange_refusal}
use Rattle.dr_model.specs.PairEntries.{reach_refusal, send_refusal, link_down}
use Rattle.dr_model.specs.Groups.{In, SessionFits}
use Rattle.dr_model.specs.Attempts.{roles, seen, Seen, all_seen, Owes, Waits, phase_of, owed_of}
use Rattle.dr_model.specs.Laws.{Sound}
use Rattle.dr_model.specs.Runs.{Task, after_task, after_tasks, run}
use Rattle.dr_model.specs.Tables.{Once}
use Rattle.dr_facts.proofs.Lists.{from-filter, from-map}
use Rattle.dr_facts.proofs.Refusals.{none-both}
use Rattle.dr_laws_sessions.proofs.Changes.{session-found}
use Rattle.dr_laws_sound.specs.Acknowledged.{said_in}
use Rattle.dr_laws_sound.proofs.Steps.{sound-run, sound-task}
use Rattle.dr_laws_progress.specs.Exchanges.{member_refusal, first_refusal, asking_refusal, reply_in, session_begun, master_begun, master_after, said_by, SamePlaces, ExchangeEnds, ExchangeEndsOrStops}
use Rattle.dr_laws_progress.specs.ToIdle.{is_ending, asks_secondaries, CanEnd, owed_servers, orders_in, orders_left, AsksOwed, AllAskOwed, IsOk, LeadsOn, ExchangesLeadToIdle}
use Rattle.dr_laws_progress.proofs.Endings.{send-same}
use Rattle.dr_laws_progress.proofs.Exchanges.{exchange-answers}
use Rattle.dr_laws_progress.proofs.OrdersLeft.{in-among, once-servers, one-less, finish-less, revert-less, report-less}

-- ---- phases

-- those that such exchanges come to
abbrev is_late : PhaseName → Bool
is_late phase.Idle = true
is_late phase.Lost = true
is_late phase.Committing = true
is_late phase.Reverting = true
is_late phase.Finishing = true
is_late p = false

ending-late : (p : PhaseName) → is_ending p ≡ true → is_late p ≡ true
ending-late phase.Lost e = refl
ending-late phase.Reverting e = refl
ending-late phase.Finishing e = refl
ending-late p e = absurd cc

-- the session waits for a server in each of them but Idle
ending-waits : (p : PhaseName) (owed : List ℕ) (vs : List Seen) → is_late p ≡ true → p ≢ phase.Idle → Owes p owed vs → Waits owed vs
ending-waits phase.Idle owed vs e busy waits = absurd (busy refl)
ending-waits phase.Lost owed vs e busy waits = waits
ending-waits phase.Committing owed vs e busy waits = waits
ending-waits phase.Reverting owed vs e busy waits = waits
ending-waits phase.Finishing owed vs e busy waits = waits
ending-waits p owed vs e busy waits = absurd cc

not-idle : (p : PhaseName) → is_ending p ≡ true → (p ≢ phase.Idle) × (is_idle p ≡ false)
not-idle phase.Lost e = (λ i. cc, refl)
not-idle phase.Reverting e = (λ i. cc, refl)
not-idle phase.Finishing e = (λ i. cc, refl)
not-idle p e = absurd cc

-- ---- what a server's reply leaves

module _ (m : Master) (q s : ℕ) (ms : List Member) (k : Control) where
  -- the master in a phase
  abbrev in_phase : PhaseName → Master
  in_phase p = record m { phase = p }

  abbrev next : Master → Master
  next z = phases.taken z q (reply_in z.phase s ms k)

  by-phase : (P : Master → Type 0) (p : PhaseName) → m.phase ≡ p → P (in_phase p) → P m
  by-phase P p is here = subst P (sym (λ i. record m { phase = is i })) here

  -- one order less
  reply-less : Once m.servers → ((j : ℕ) → is_among j m.owed ≡ true → is_among j m.servers ≡ true) → is_among q m.owed ≡ true → (p : PhaseName) → m.phase ≡ p → is_ending p ≡ true → orders_left (next m) + 1 ≡ orders_left m
  reply-less once among owes phase.Lost is e = by-phase (λ z. orders_left (next z) + 1 ≡ orders_left z) phase.Lost is (report-less m q once among owes _ (without q m.owed) refl)
  reply-less once among owes phase.Reverting is e = by-phase (λ z. orders_left (next z) + 1 ≡ orders_left z) phase.Reverting is (revert-less m q once among owes (without q m.owed) refl)
  reply-less once among owes phase.Finishing is e = by-phase (λ z. orders_left (next z) + 1 ≡ orders_left z) phase.Finishing is (finish-less m q once among owes (without q m.owed) refl)
  reply-less once among owes p is e = absurd cc

  -- the phase is still late, and asks no more of secondaries
  abbrev GoesOn : Master → Type 0
  GoesOn z = (is_late (next z).phase ≡ true) × (asks_secondaries (next z).phase ≡ true → asks_secondaries z.phase ≡ true)

  reply-late : (p : PhaseName) → m.phase ≡ p → is_ending p ≡ true → GoesOn m
  reply-late phase.Lost is e = by-phase GoesOn phase.Lost is (by (without q m.owed), λ a. refl)
    where
      settled : (d : Decision) → is_late (phases.phase_by d) ≡ true
      settled (CommitRest n) = refl
      settled d = refl

      by : (rest : List ℕ) → is_late (phases.settled_where rest (phases.replied (in_phase phase.Lost) q (reply_in phase.Lost s ms k))).phase ≡ true
      by [] = settled (decision _)
      by (a ∷ rest) = refl
  reply-late phase.Reverting is e = by-phase GoesOn phase.Reverting is (by (without q m.owed), λ a. refl)
    where
      by : (rest : List ℕ) → is_late (phases.left_with (in_phase phase.Reverting) rest).phase ≡ true
      by [] = refl
      by (a ∷ rest) = refl
  reply-late phase.Finishing is e = by-phase GoesOn phase.Finishing is (by (without q m.owed))
    where
      by : (rest : List ℕ) → (is_late (phases.left_with (in_phase phase.Finishing) rest).phase ≡ true) × (asks_secondaries (phases.left_with (in_phase phase.Finishing) rest).phase ≡ true → asks_secondaries phase.Finishing ≡ true)
      by [] = (refl, λ a. a)
      by (a ∷ rest) = (refl, λ a. a)
  reply-late p is e = absurd cc

-- ---- a sound world in which it can end

module _ (w : World) (sound : Sound w) (s : ℕ) (c : CanEnd w.control s) where
  abbrev k : Control
  k = w.control

  abbrev x : Session
  x = c.session

  abbrev r : Mirror
  r = c.mirror

  listed : In x k.sessions
  listed = (session-found k.sessions s x c.found).0

  fits : SessionFits k x
  fits = sound.groups.each x listed

  among : (j : ℕ) → is_among j r.master.owed ≡ true → is_among j r.master.servers ≡ true
  among = (fits.owes r c.has_master).among

  once : Once r.master.servers
  once = subst Once (sym (fits.sound.servers r c.has_master)) (once-servers x.members)

  waits : is_late r.master.phase ≡ true → r.master.phase ≢ phase.Idle → Waits r.master.owed (all_seen (roles k) x.members)
  waits late busy = ending-waits r.master.phase r.master.owed (all_seen (roles k) x.members) late busy
      (subst (λ o. Owes (phase_of o) (owed_of o) (all_seen (roles k) x.members)) c.has_master (sound.attempts.sessions x listed).owes)

  -- some server is owed its order, so orders are left
  orders-some : (p : PhaseName) → r.master.phase ≡ p → is_late p ≡ true → (p ≡ phase.Idle) ⊎ (orders_left r.master ≢ 0)
  orders-some phase.Idle is late = inl refl
  orders-some p is late = by p is late (λ e. some e)
    where
      counted : (owed : List ℕ) → r.master.owed ≡ owed → owed ≢ [] → owed_servers r.master ≢ 0
      counted [] is some z = some refl
      counted (q ∷ rest) is some z =
          let owes : is_among q r.master.owed ≡ true = ap (is_among q) is ∙ ap (λ b. b || is_among q rest) (eq-eqb q q refl) in
          let n : owed_servers r.master ≡ suc _ = one-less r.master q once among owes in omega arith

      some : r.master.phase ≢ phase.Idle → owed_servers r.master ≢ 0
      some busy = counted r.master.owed refl (waits (ap is_late is ∙ late) busy).some

      by : (p : PhaseName) → r.master.phase ≡ p → is_late p ≡ true → (r.master.phase ≢ phase.Idle → owed_servers r.master ≢ 0) → (p ≡ phase.Idle) ⊎ (orders_left r.master ≢ 0)
      by phase.Idle is late some = inl refl
      by phase.Lost is late some = inr (λ z. some (λ i. let e : phase.Lost ≡ phase.Idle = sym is ∙ i in cc) (let y = sym (ap (λ p. orders_in p (owed_servers r.master) (length r.master.servers)) is) ∙ z in omega arith))
      by phase.Committing is late some = inr (λ z. some (λ i. let e : phase.Committing ≡ phase.Idle = sym is ∙ i in cc) (let y = sym (ap (λ p. orders_in p (owed_servers r.master) (length r.master.servers)) is) ∙ z in omega arith))
      by phase.Reverting is late some = inr (λ z. some (λ i. let e : phase.Reverting ≡ phase.Idle = sym is ∙ i in cc) (let y = sym (ap (λ p. orders_in p (owed_servers r.master) (length r.master.servers)) is) ∙ z in omega arith))
      by phase.Finishing is late some = inr (λ z. some (λ i. let e : phase.Finishing ≡ phase.Idle = sym is ∙ i in cc) (sym (ap (λ p. orders_in p (owed_servers r.master) (length r.master.servers)) is) ∙ z))
      by p is late some = absurd cc

  -- ---- an exchange

  module _ (t : Task) (a : AsksOwed w t s) where
    abbrev q : ℕ
    q = a.server

    own : a.mirror ≡ r
    own = same_Some _ _ (sym a.has_master ∙ (ap mirror_in c.found ∙ c.has_master))

    ending : is_ending r.master.phase ≡ true
    ending = subst (λ (r : Mirror). is_ending r.master.phase ≡ true) own a.ending

    owes : is_among q r.master.owed ≡ true
    owes = subst (λ (r : Mirror). is_among q r.master.owed ≡ true) own a.owed

    -- the server has a member, so it is on and linked
    there : (k.on q ≡ true) × (apart_refusal k r.server q ≡ None)
    there =
        let v = (waits (ending-late r.master.phase ending) (not-idle r.master.phase ending).0).members q (in-among q r.master.owed owes) in
        let o = from-map (seen (roles k)) x.members v.one v.here in
        subst (λ q. (k.on q ≡ true) × (apart_refusal k r.server q ≡ None)) (sym (ap (λ (u : Seen). u.server) o.is) ∙ v.is) (c.servers o.from o.here)

    master-free : exchange_refusal k r q x.members ≡ None
    master-free = λ i. option_or (on i) (option_or (owed i) (option_or (reached i) (there.1 i)))
      where
        on : off_refusal k r.server ≡ None
        on = ap (λ b. cond b None (Some (server_off r.server))) c.master_on

        owed : phase_refusal r q x.members ≡ None
        owed = ap (λ b. cond b (cond (r.paused || not (list_any (λ (m : Member). m.server.0 == q) x.members)) (Some (OutOfOrder phase.Idle)) (cond (r.master.number + 1 == 4294967296) (Some NumbersSpent) None)) (cond (is_among q r.master.owed) None (Some (OutOfOrder r.master.phase)))) (not-idle r.master.phase ending).1
            ∙ ap (λ b. cond b None (Some (OutOfOrder r.master.phase))) owes

        reached : off_refusal k q ≡ None
        reached = ap (λ b. cond b None (Some (server_off q))) there.0

    -- no member refuses it
    member-free : (p : PhaseName) → is_ending p ≡ true → (m : Member) → (asks_secondaries p ≡ true → send_refusal m.a.0 m.b.0 k ≡ None) → member_refusal p r.master.number m k ≡ None
    member-free phase.Lost e m sends = (none-both (reach_refusal m.a.0 m.b.0 k) _ (sends refl)).0
    member-free phase.Reverting e m sends = sends refl
    member-free phase.Finishing e m sends = refl
    member-free p e m sends = absurd cc

    first-free : (p : PhaseName) (ms : List Member) → ((m : Member) → In m ms → member_refusal p r.master.number m k ≡ None) → first_refusal p r.master.number ms k ≡ None
    first-free p [] free = refl
    first-free p (m ∷ ms) free = λ i. option_or (free m (inl refl) i) (first-free p ms (λ n h. free n (inr h)) i)

    free : asking_refusal k x r q ≡ None
    free = λ i. option_or (master-free i) (first-free r.master.phase (members_on q x.members) (λ m h. member-free r.master.phase ending m (λ asks. c.secondaries asks m (from-filter (is_on q) x.members m h).0)) i)

    abbrev then : Master
    then = phases.taken r.master q (reply_in r.master.phase s (members_on q x.members) k)

    -- no attempt begins
    goes-so : (p : PhaseName) → is_ending p ≡ true → (master_begun p r.master ≡ r.master) × (session_begun p x ≡ x)
    goes-so phase.Lost e = (refl, refl)
    goes-so phase.Reverting e = (refl, refl)
    goes-so phase.Finishing e = (refl, refl)
    goes-so p e = absurd cc

    then-is : master_after k s x r q ≡ then
    then-is = ap (λ (m : Master). phases.taken m q (reply_in r.master.phase s (members_on q x.members) k)) (goes-so r.master.phase ending).0

    -- no server stops, so it ends so
    unstopped : (said : Said) → ((z : ℕ) → said ≢ Refused (stopped z)) → ExchangeEndsOrStops w (after_task w t) s x r q said → ExchangeEnds w (after_task w t) s x r q said
    unstopped (Refused (Stopped z)) kept armed = absurd (kept z.0 refl)
    unstopped said kept ends = ends

    ends : ExchangeEnds w (after_task w t) s x r q (said_in w t)
    ends = unstopped (said_in w t) a.kept (exchange-answers w sound t s q a.name x r a.asked a.room c.found c.has_master a.named)

    is-ok : IsOk (said_in w t)
    is-ok = record { phase = then.phase; number = then.number; is = ends.answer ∙ (λ i. said_by (free i) (then-is i)) }

    goes-on : GoesOn r.master q s (members_on q x.members) k r.master
    goes-on = reply-late r.master q s (members_on q x.members) k r.master.phase refl ending

    pub can-end : CanEnd (after_task w t).control s
    can-end = let p : SamePlaces k (after_task w t).control = ends.places free in record {
      session = with_master (λ m. then) x;
      found = ends.taken free ∙ (λ i. Some (with_master (λ m. then-is i) ((goes-so r.master.phase ending).1 i)));
      mirror = record r { master = then };
      has_master = ap (option_map (λ (z : Mirror). record z { master = then })) c.has_master;
      master_on = ap (λ (on : ℕ → Bool). on r.server) p.on ∙ c.master_on;
      servers = λ m here. (ap (λ (on : ℕ → Bool). on m.server.0) p.on ∙ (c.servers m here).0, ap (λ (link : ℕ → ℕ → Bool). cond (r.server == m.server.0 || link r.server m.server.0) None (Some (link_down r.server m.server.0))) p.link ∙ (c.servers m here).1);
      secondaries = λ asks m here. send-same k (after_task w t).control p m.a.0 m.b.0 ∙ c.secondaries (goes-on.1 asks) m here;
    }

    one-order : orders_left then + 1 ≡ orders_left r.master
    one-order = reply-less r.master q s (members_on q x.members) k once among owes r.master.phase refl ending

-- ---- one exchange after another

leads-on : (s : ℕ) (w : World) (more : List Task) → Sound w → (c : CanEnd w.control s) → is_late c.mirror.master.phase ≡ true → AllAskOwed w more s → LeadsOn w more s c.mirror.master
unfolding after_tasks can-end
leads-on s w [] sound c late all = record { answers = tt; ends = c; left = omega arith; idle = orders-some w sound s c c.mirror.master.phase refl late }
leads-on s w (t ∷ more) sound c late all =
    let d : CanEnd (after_task w t).control s = can-end w sound s c t all.0 in
    let l : LeadsOn (after_task w t) more s d.mirror.master = leads-on s (after_task w t) more (sound-task w t sound) d (goes-on w sound s c t all.0).0 all.1 in
    record {
      answers = (is-ok w sound s c t all.0, l.answers);
      ends = l.ends;
      left = let rest : orders_left l.ends.mirror.master + length more ≡ orders_left d.mirror.master = l.left in let one : orders_left d.mirror.master + 1 ≡ orders_left c.mirror.master = one-order w sound s c t all.0 in omega arith;
      idle = l.idle;
    }

pub leads-to-idle : (tasks : List Task) → ExchangesLeadToIdle tasks
leads-to-idle tasks s more c ending all = leads-on s (run tasks) more (sound-run tasks) c (ending-late c.mirror.master.phase ending) all
