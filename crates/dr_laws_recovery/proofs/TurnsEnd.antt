-- No bound on the turns of an `@run` is felt: each turn that isn't refused leaves less to do.
use Rattle.std.proofs.Common.{ℕ, zero, suc, ◌≡◌, ◌≢◌, ◌≤◌, ◌<◌, ◌+◌, ◌*◌, ◌⊎◌, inl, inr, refl, ap, sym, ◌∙◌, subst, Bool, true, false, cond, not, nat_eq, nat_lt, arith, List, [], ◌∷◌, ◌++◌, length, Option, Some, None, option_map}
use Rattle.std.specs.List.{list_any, range_with_len}
use Rattle.std.proofs.lemmas.List.Sums.{length-filter, count_by-le-length}
use Rattle.std.proofs.lemmas.Bool.{le-ltb, eq-eqb}
use Rattle.std.proofs.lemmas.Option.{same_Some}
use Rattle.dr_ids.specs.declared.names.Member.{Member}
use Rattle.dr_ids.specs.declared.refusal.PhaseName.{PhaseName}
use Rattle.dr_ids.specs.declared.refusal.PhaseName.TheVariants as phase
use Rattle.dr_ids.specs.declared.refusal.Refusal.{Refusal}
use Rattle.dr_ids.specs.declared.refusal.Refusal.TheVariants.{OutOfOrder, JournalFull}
use Rattle.dr_model.specs.Phases as phases
use Rattle.dr_model.specs.Sessions.{Session, Mirror, session_in, mirror_in, members_in, begin_refusal, begun, with_master}
use Rattle.dr_model.specs.Control.{Control, World, Fuse}
use Rattle.dr_model.specs.Carry.{Act, Make, OpenAttempt, Entry, carry}
use Rattle.dr_model.specs.Entries.{fields_at}
use Rattle.dr_model.specs.SessionEntries.{last_of, is_drained, members_on, order_entries, reply_after}
use Rattle.dr_model.specs.SessionPlans as plans
use Rattle.dr_model.specs.SessionPlans.{exchange_refusal, order_of, answered_by, exchange_done, exchange_on, asking, says_phase}
use Rattle.dr_model.specs.PlanParts.{Plan, none_follow, unless, refuses}
use Rattle.dr_model.specs.Plans.{has_room}
use Rattle.dr_model.specs.Carried.{carried_out, answered}
use Rattle.dr_model.specs.Forming.{Part, Way, stays, ends, goes_on, refusal_said, part_refusal, after_part, part, drains, is_draining, ask, next_asked, master_in, phase_of, phase_in, has_committed, still_left, turn_by, turn_in, turns, most_turns}
use Rattle.dr_model.specs.Groups.{In, SessionFits}
use Rattle.dr_model.specs.Laws.{Sound, Recorders}
use Rattle.dr_model.specs.Table.{table}
use Rattle.dr_laws_sessions.proofs.Changes.{session-found, changed-found}
use Rattle.dr_laws_sessions.proofs.Silent.{last-is}
use Rattle.dr_laws_sound.proofs.Turns.{after_act}
use Rattle.dr_laws_sound.proofs.Cases.{ordered}
use Rattle.dr_laws_sound.proofs.FitsFlash.{as_begun, sound-begun}
use Rattle.dr_laws_sound.proofs.FitsExchanges.{WorkPhase, works}
use Rattle.dr_laws_sound.proofs.Awaits.{Awaited, exchange-begins, exchange-next, exchange-awaits}
use Rattle.dr_laws_sound.proofs.Parts.{comes-asking}
use Rattle.dr_laws_sound.proofs.Steps.{sound-part}
use Rattle.dr_facts.proofs.Entries.{any_world, any_reason, why-any}
use Rattle.dr_facts.proofs.SharedEntries.{order-fine}
use Rattle.dr_laws_recovery.proofs.Went.{Each, carry-keeps, Went, part-went, goes-onward}
use Rattle.dr_laws_recovery.proofs.Drained.{SentAll, Drained, drains-drained, seals-done}
use Rattle.dr_laws_recovery.proofs.TurnsLeft.{turns_left, Shrinks, taken-shrinks, begins-shrinks, left-most}
use Rattle.dr_logic.proofs.Truth.{false_true}
use Rattle.dr_logic.proofs.Options.{none_some}

-- ---- what an order makes of its session

-- its acts: moves, and one that begins an attempt which is newer than the session's last
abbrev OfOrder : ℕ → ℕ → World → Act → Type 0
OfOrder i n w (Make m) = Unit {0}
OfOrder i n w (OpenAttempt v s q) = (s ≡ i) × (nat_lt (last_of w.control i) n ≡ true)
OfOrder i n w a = ⊥

module _ (i n : ℕ) where
  abbrev Ok : World → Act → Type 0
  Ok = OfOrder i n

  order-turns : (work : phases.Work) (ms : List Member) → Each Ok (order_entries work i n ms)
  order-turns work ms = order-fine any_world Ok any_reason work i n ms
      (λ m here. record {
        hold = λ w any. tt;
        open_attempt = λ w any newer. (refl, newer);
        free = λ w any. tt;
        seal = λ w any. tt;
        finish = λ w any. tt;
        flash = λ w any. tt;
        commit = λ w any. tt;
        revert = λ w any. tt;
        raise = λ w any. tt;
      })
      (λ m. record {
        hold = λ k. why-any _;
        stale = λ k. why-any _;
        void = λ k. why-any _;
        seal = λ k. why-any _;
        send = λ k. why-any _;
        flash = λ k. why-any _;
        commit = λ k. why-any _;
        reach = λ k. why-any _;
      })

  -- The session is as it was, or its next attempt has begun.
  module _ (x : Session) (next : n ≤ x.last + 1) where
    abbrev Stands : World → Type 0
    Stands w = (session_in w.control.sessions i ≡ Some x) ⊎ ((session_in w.control.sessions i ≡ Some (begun x)) × (nat_lt x.last n ≡ true))

    stands-act : (w : World) (a : Act) (f : Option Fuse) → Ok w a → Stands w → Stands (after_act w a f)
    stands-act w (Make m) f is old = old
    stands-act w (OpenAttempt v s q) f is old = subst (λ s. Stands (after_act w (OpenAttempt v s q) f)) (sym is.0) (by old)
      where
        by : Stands w → Stands (after_act w (OpenAttempt v i q) f)
        by (inl found) = inr (changed-found i begun w.control.sessions x (λ y. refl) found, ap (λ z. nat_lt z n) (sym (last-is w.control i x found)) ∙ is.1)
        by (inr opened) = false_true (ap (λ z. nat_lt z n) (last-is w.control i (begun x) opened.0) ∙ le-ltb (x.last + 1) n next) is.1
    stands-act w a f is old = absurd is

    order-stands : (work : phases.Work) (ms : List Member) (w v : World) → carry w (order_entries work i n ms) ≡ (v, None) → session_in w.control.sessions i ≡ Some x → Stands v
    order-stands work ms w v leads found = carry-keeps Ok Stands stands-act w v (order_entries work i n ms) (order-turns work ms) leads (inl found)

-- ---- an exchange that wasn't refused

-- a plan that is refused is
pub refused-part : {P : Type 0} (w : World) (r : Refusal) → (part w (refuses r)).refusal ≡ None → P
refused-part {P = P} w r none = by (has_room w.events) none
  where
    said : (o : Option Refusal) → refusal_said (answered (refuses r) (carried_out w (refuses r)).0.control o) ≡ None → P
    said None h = none_some h refl
    said (Some q) h = none_some h refl

    by : (b : Bool) → (cond b (record { parts = record { world = w; plan = refuses r } ∷ []; world = after_part w (refuses r); refusal = part_refusal w (refuses r) }) (ends w JournalFull)).refusal ≡ None → P
    by true h = said (carried_out w (refuses r)).1 h
    by false h = none_some h refl

-- an attempt begins in Idle alone
begins-idle : (p : PhaseName) (n : ℕ) → phases.begin_refusal p n ≡ None → p ≡ phase.Idle
begins-idle phase.Idle n h = refl
begins-idle p n h = absurd cc

-- The master of session i took the reply of a server, which didn't let its seal wait: in u it is what came of that in w, or of the attempt
-- that began.
pub record Exchanged (w : World) (i server : ℕ) (r : Mirror) (u : World) : Type 0 where
  pub sound : Sound u
  pub before : phases.Master
  pub stage : (before ≡ r.master) ⊎ ((r.master.phase ≡ phase.Idle) × (before ≡ phases.begun r.master))
  pub reply : phases.Reply
  pub awaits : phases.awaits before server reply ≡ true
  pub other : reply ≢ phases.NotYet
  pub next : Mirror
  pub has : master_in u.control i ≡ Some next
  pub is : next.master ≡ phases.taken before server reply

module _ (w : World) (s : Sound w) (i server : ℕ) (x : Session) (r : Mirror) (found : session_in w.control.sessions i ≡ Some x) (mirror : x.mirror ≡ Some r)
    (dry : r.master.phase ≡ phase.Draining → (m : Member) → In m (members_on server x.members) → SentAll (fields_at w.control m.a.0)) where
  abbrev ms : List Member
  ms = members_on server x.members

  abbrev first : World
  first = as_begun w

  begins : Sound first
  begins = sound-begun w s

  module _ (o : phases.Order) (allowed : exchange_refusal w.control r server x.members ≡ None) (order : order_of r server ≡ Some o) where
    abbrev p : Plan
    p = ordered i server true ms o

    asks : asking w.control i server true ≡ p
    asks =
        ap (λ q. exchange_on w.control i (mirror_in q) server true (members_in q)) found
        ∙ (ap (λ q. exchange_on w.control i q server true x.members) mirror
        ∙ (ap (λ z. unless z (exchange_done i server true ms (order_of r server))) allowed ∙ ap (exchange_done i server true ms) order))

    abbrev reply_in : World → phases.Reply
    reply_in v = reply_after i o.work ms v.control

    -- a seal needn't wait
    answers-now : (v : World) → carry first (order_entries o.work i o.number ms) ≡ (v, None) → Recorders (table v) → reply_in v ≢ phases.NotYet
    answers-now v leads recorders e = by o.work refl e
      where
        phase_is : o.work ≡ phases.Seal → r.master.phase ≡ phase.Draining
        phase_is seal = subst (λ (work : phases.Work). WorkPhase work r.master.phase) seal (works r.master.phase (phases.is_among server r.master.owed) r.master.number o order).0

        sealed : o.work ≡ phases.Seal → list_any (λ (m : Member). not (is_drained m.a.0 v.control)) ms ≡ false
        sealed seal = seals-done i o.number ms first v (sym (ap (λ (u : phases.Work). carry first (order_entries u i o.number ms)) seal) ∙ leads) (dry (phase_is seal)) recorders

        done-not : (b : Bool) → b ≡ false → cond b phases.NotYet phases.Done ≡ phases.NotYet → ⊥
        done-not true is h = absurd cc
        done-not false is h = absurd cc

        by : (work : phases.Work) → o.work ≡ work → reply_after i work ms v.control ≡ phases.NotYet → ⊥
        by phases.Seal is h = done-not (list_any (λ (m : Member). not (is_drained m.a.0 v.control)) ms) (sealed is) h
        by work is h = absurd cc

    abbrev entries : List Entry
    entries = order_entries o.work i o.number ms

    abbrev taken-by : World → Mirror → Mirror
    taken-by v q = record q { master = phases.taken q.master server (reply_in v) }

    -- what its session has become
    found-after : (v : World) (y : Session) (q : Mirror) → session_in v.control.sessions i ≡ Some y → y.mirror ≡ Some q → master_in (answered_by i server o.work ms v.control) i ≡ Some (taken-by v q)
    found-after v y q there has =
        ap mirror_in (changed-found i (with_master (λ m. phases.taken m server (reply_in v))) v.control.sessions y (λ z. refl) there)
        ∙ ap (option_map (λ (z : Mirror). record z { master = phases.taken z.master server (reply_in v) })) has

    exchanged : (part w p).refusal ≡ None → Exchanged w i server r (part w p).world
    exchanged none = by (order-stands i o.number x (exchange-next first begins i server x r o found mirror allowed order) o.work ms first v leads found)
      where
        here : Went w entries none_follow (plans.exchanged i server true o.work ms) (says_phase i) (λ k. refl) (part w p).world
        here = part-went w entries none_follow (plans.exchanged i server true o.work ms) (says_phase i) (λ k. refl) none

        v : World
        v = here.led

        leads : carry first entries ≡ (v, None)
        leads = here.leads

        sound : Sound (part w p).world
        sound = subst Sound (ap (after_part w) asks ∙ sym here.after) (sound-part w (asking w.control i server true) (comes-asking w i server here.room) s)

        recorders : Recorders (table v)
        recorders = (subst Sound here.is sound).rows.recorders

        awaited : Awaited v i server r x.members (reply_in v)
        awaited = exchange-awaits first begins i server x r o found mirror allowed order v leads

        by : (session_in v.control.sessions i ≡ Some x) ⊎ ((session_in v.control.sessions i ≡ Some (begun x)) × (nat_lt x.last o.number ≡ true)) → Exchanged w i server r (part w p).world
        by (inl same) =
            let y : awaited.session ≡ x = (same_Some _ _ (sym awaited.found ∙ same)) in
            let q : awaited.mirror ≡ r = (same_Some _ _ (sym awaited.has_master ∙ (ap (λ (y : Session). y.mirror) y ∙ mirror))) in
            record {
              sound = sound;
              before = r.master;
              stage = inl refl;
              reply = reply_in v;
              awaits = subst (λ (q : Mirror). phases.awaits q.master server (reply_in v) ≡ true) q awaited.awaits;
              other = answers-now v leads recorders;
              next = taken-by v r;
              has = ap (λ (u : World). master_in u.control i) here.is ∙ found-after v x r same mirror;
              is = refl;
            }
        by (inr opened) =
            let y : awaited.session ≡ begun x = (same_Some _ _ (sym awaited.found ∙ opened.0)) in
            let z : Mirror = record r { master = phases.begun r.master } in
            let had : (begun x).mirror ≡ Some z = ap (option_map (λ (q : Mirror). record q { master = phases.begun q.master })) mirror in
            let q : awaited.mirror ≡ z = (same_Some _ _ (sym awaited.has_master ∙ (ap (λ (y : Session). y.mirror) y ∙ had))) in
            let newer : nat_lt (last_of w.control i) o.number ≡ true = ap (λ n. nat_lt n o.number) (last-is w.control i x found) ∙ opened.1 in
            let idle : r.master.phase ≡ phase.Idle = begins-idle r.master.phase r.master.number (ap begin_refusal (sym (ap mirror_in found ∙ mirror)) ∙ exchange-begins first begins i server x r o found mirror allowed order newer) in
            record {
              sound = sound;
              before = z.master;
              stage = inr (idle, refl);
              reply = reply_in v;
              awaits = subst (λ (q : Mirror). phases.awaits q.master server (reply_in v) ≡ true) q awaited.awaits;
              other = answers-now v leads recorders;
              next = taken-by v z;
              has = ap (λ (u : World). master_in u.control i) here.is ∙ found-after v (begun x) z opened.0 had;
              is = refl;
            }

  exchange-by : (why : Option Refusal) → exchange_refusal w.control r server x.members ≡ why → (order : Option phases.Order) → order_of r server ≡ order
      → let p : Plan = unless why (exchange_done i server true ms order) in (part w p).refusal ≡ None → Exchanged w i server r (part w p).world
  exchange-by (Some q) is order ordered none = refused-part w q none
  exchange-by None is None ordered none = refused-part w (OutOfOrder phase.None) none
  exchange-by None is (Some o) ordered none = exchanged o is ordered none

  exchange-asked : (part w (exchange_on w.control i (Some r) server true x.members)).refusal ≡ None → Exchanged w i server r (part w (exchange_on w.control i (Some r) server true x.members)).world
  exchange-asked none = exchange-by (exchange_refusal w.control r server x.members) refl (order_of r server) refl none

-- ---- a turn that wasn't refused

draining-is : (p : PhaseName) → p ≡ phase.Draining → is_draining p ≡ true
draining-is p is = ap is_draining is

-- the master of session i and its members
pub record Asks (k : Control) (i : ℕ) (r : Mirror) : Type 0 where
  pub session : Session
  pub found : session_in k.sessions i ≡ Some session
  pub mirror : session.mirror ≡ Some r

pub asks-by : (k : Control) (i : ℕ) (r : Mirror) → master_in k i ≡ Some r → Asks k i r
asks-by k i r has = by (session_in k.sessions i) refl has
  where
    by : (o : Option Session) → session_in k.sessions i ≡ o → mirror_in o ≡ Some r → Asks k i r
    by None is h = absurd cc
    by (Some x) is h = record { session = x; found = is; mirror = h }

module _ (w : World) (s : Sound w) (i server : ℕ) (r : Mirror) (has : master_in w.control i ≡ Some r) where
  abbrev members : List Member
  members = members_in (session_in w.control.sessions i)

  -- the server does what it owes, where its members are drained if it is to seal
  exchange-in : (v : World) → Sound v → v.control.sessions ≡ w.control.sessions → (r.master.phase ≡ phase.Draining → (m : Member) → In m (members_on server members) → SentAll (fields_at v.control m.a.0))
      → (part v (asking v.control i server true)).refusal ≡ None → Exchanged v i server r (part v (asking v.control i server true)).world
  exchange-in v sound same dry none =
      let a : Asks w.control i r = asks-by w.control i r has in
      let found : session_in v.control.sessions i ≡ Some a.session = ap (λ ss. session_in ss i) same ∙ a.found in
      let is : asking v.control i server true ≡ exchange_on v.control i (Some r) server true a.session.members =
      ap (λ q. exchange_on v.control i (mirror_in q) server true (members_in q)) found ∙ ap (λ q. exchange_on v.control i q server true a.session.members) a.mirror in
      let dry_here : (r.master.phase ≡ phase.Draining → (m : Member) → In m (members_on server a.session.members) → SentAll (fields_at v.control m.a.0)) =
      λ draining m here. dry draining m (subst (λ q. In m (members_on server (members_in q))) (sym a.found) here) in
      subst (λ (p : Plan). Exchanged v i server r (part v p).world) (sym is)
      (exchange-asked v sound i server a.session r found a.mirror dry_here (sym (ap (λ (p : Plan). (part v p).refusal) is) ∙ none))

  abbrev asked : Way
  asked = ask w i r.master.phase members server

  abbrev exchange : World → Way
  exchange v = part v (asking v.control i server true)

  pub turn-done : asked.refusal ≡ None → Exchanged w i server r asked.world
  turn-done none = by (is_draining r.master.phase) refl none
    where
      of : (v : World) → Exchanged v i server r (exchange v).world → Exchanged w i server r (exchange v).world
      of v e = record { sound = e.sound; before = e.before; stage = e.stage; reply = e.reply; awaits = e.awaits; other = e.other; next = e.next; has = e.has; is = e.is }

      by : (b : Bool) → is_draining r.master.phase ≡ b → let x : Way = cond b (drains w (members_on server members)) (stays w) in (goes_on x.parts x.world x.refusal exchange).refusal ≡ None → Exchanged w i server r (goes_on x.parts x.world x.refusal exchange).world
      by true draining none =
          let x : Way = drains w (members_on server members) in
          let on = goes-onward x.parts x.world x.refusal exchange none in
          let d : Drained w (members_on server members) x.world = drains-drained w s (members_on server members) on.first in
          subst (Exchanged w i server r) (sym on.world) (of x.world (exchange-in x.world d.sound d.sessions (λ is. d.drained) on.rest))
      by false not_so none = of w (exchange-in w s refl (λ is. false_true not_so (draining-is r.master.phase is)) none)

-- ---- turns

-- what there is to do
abbrev to_do : ℕ → Bool → Option Mirror → ℕ
to_do left c None = 0
to_do left c (Some r) = turns_left left c r.master.phase (length r.master.owed)

eight-few : (p : ℕ → Bool) → length (phases.servers_where p) ≤ 8
unfolding phases.servers_where
eight-few p = let counted = length-filter p (range_with_len 0 8) in let few = count_by-le-length p (range_with_len 0 8) in omega (arith, counted, few)

-- a master has eight servers at most, and so many are owed its order
record Few (r : Mirror) : Type 0 where
  servers : length r.master.servers ≤ 8
  owed : length r.master.owed ≤ 8

master-few : (w : World) → Sound w → (i : ℕ) (r : Mirror) → master_in w.control i ≡ Some r → Few r
master-few w s i r has =
    let a : Asks w.control i r = asks-by w.control i r has in
    let fits : SessionFits w.control a.session = s.groups.each a.session (session-found w.control.sessions i a.session a.found).0 in
    let eight : length r.master.servers ≤ 8 = subst (λ ks. length ks ≤ 8) (sym (fits.sound.servers r a.mirror)) (eight-few _) in
    let few : length r.master.owed ≤ length r.master.servers = (fits.owes r a.mirror).few in
    record { servers = eight; owed = omega (arith, few, eight) }

-- a turn leaves a sound world, with less to do
record Lessens (w u : World) (i left : ℕ) (c : Bool) : Type 0 where
  sound : Sound u
  less : to_do (still_left c (phase_in u.control i) left) (has_committed c (phase_in w.control i) (phase_in u.control i)) (master_in u.control i) < to_do left c (master_in w.control i)

turn-lessens : (w : World) (s : Sound w) (i server left : ℕ) (c : Bool) → left ≢ 0 → (r : Mirror) → master_in w.control i ≡ Some r
    → (u : World) → Exchanged w i server r u → Lessens w u i left c
turn-lessens w s i server left c some r has u e = record { sound = e.sound; less = less }
  where
    few : Few r
    few = master-few w s i r has

    shrinks : (before : phases.Master) → (before ≡ r.master) ⊎ ((r.master.phase ≡ phase.Idle) × (before ≡ phases.begun r.master)) → phases.awaits before server e.reply ≡ true → Shrinks left c r.master (phases.taken before server e.reply)
    shrinks before (inl is) awaits = subst (λ (m : phases.Master). Shrinks left c r.master (phases.taken m server e.reply)) (sym is)
        (taken-shrinks left c r.master some few.servers server e.reply (subst (λ (m : phases.Master). phases.awaits m server e.reply ≡ true) is awaits) e.other)
    shrinks before (inr begins) awaits = subst (λ (m : phases.Master). Shrinks left c r.master (phases.taken m server e.reply)) (sym begins.1)
        (begins-shrinks left c r.master some few.servers begins.0 server e.reply (taken-shrinks left c (phases.begun r.master) some few.servers server e.reply (subst (λ (m : phases.Master). phases.awaits m server e.reply ≡ true) begins.1 awaits) e.other))

    smaller : Shrinks left c r.master e.next.master
    smaller = subst (Shrinks left c r.master) (sym e.is) (shrinks e.before e.stage e.awaits)

    less : to_do (still_left c (phase_in u.control i) left) (has_committed c (phase_in w.control i) (phase_in u.control i)) (master_in u.control i) < to_do left c (master_in w.control i)
    less = subst (λ (o : Option Mirror). to_do (still_left c (phase_of o) left) (has_committed c (phase_in w.control i) (phase_of o)) o < to_do left c (master_in w.control i)) (sym e.has)
        (subst (λ (o : Option Mirror). to_do (still_left c e.next.master.phase left) (has_committed c (phase_of o) e.next.master.phase) (Some e.next) < to_do left c o) (sym has) smaller)

-- a way that goes on alike wherever it wasn't refused
goes-alike : (xs : List Part) (u : World) (r : Option Refusal) (f g : World → Way) → (r ≡ None → f u ≡ g u) → goes_on xs u r f ≡ goes_on xs u r g
goes-alike xs u None f g same = ap (λ (x : Way). record x { parts = xs ++ x.parts }) (same refl)
goes-alike xs u (Some r) f g same = refl

-- one turn
turn-alike : (w : World) (s : Sound w) (i left : ℕ) (c : Bool) → left ≢ 0 → (f g : World → Way) → ((u : World) → Lessens w u i left c → f u ≡ g u) → turn_in w i f ≡ turn_in w i g
turn-alike w s i left c some f g same = by (master_in w.control i) refl
  where
    asks : (r : Mirror) → master_in w.control i ≡ Some r → (o : Option ℕ) → turn_by w i r.master.phase (members_in (session_in w.control.sessions i)) o f ≡ turn_by w i r.master.phase (members_in (session_in w.control.sessions i)) o g
    asks r has None = refl
    asks r has (Some server) =
        let x : Way = ask w i r.master.phase (members_in (session_in w.control.sessions i)) server in
        goes-alike x.parts x.world x.refusal f g (λ none. same x.world (turn-lessens w s i server left c some r has x.world (turn-done w s i server r has none)))

    by : (m : Option Mirror) → master_in w.control i ≡ m → turn_by w i (phase_of m) (members_in (session_in w.control.sessions i)) (next_asked m) f ≡ turn_by w i (phase_of m) (members_in (session_in w.control.sessions i)) (next_asked m) g
    by None has = refl
    by (Some r) has = asks r has (next_asked (Some r))

-- two bounds that are both greater than what there is to do
turns-alike : (m n : ℕ) (w : World) (i left : ℕ) (c : Bool) → Sound w → to_do left c (master_in w.control i) < m → to_do left c (master_in w.control i) < n → turns m w i left c ≡ turns n w i left c
unfolding turns
turns-alike zero n w i left c s few less = absurd (omega (arith, few))
turns-alike (suc m) zero w i left c s few less = absurd (omega (arith, less))
turns-alike (suc m) (suc n) w i left c s few less = by (nat_eq left 0) refl (λ v l d sound below under. turns-alike m n v i l d sound below under)
  where
    next : ℕ → World → Way
    next bound v = turns bound v i (still_left c (phase_in v.control i) left) (has_committed c (phase_in w.control i) (phase_in v.control i))

    some-left : nat_eq left 0 ≡ false → left ≢ 0
    some-left more e = false_true more (eq-eqb left 0 e)

    by : (b : Bool) → nat_eq left 0 ≡ b → ((v : World) (l : ℕ) (d : Bool) → Sound v → to_do l d (master_in v.control i) < m → to_do l d (master_in v.control i) < n → turns m v i l d ≡ turns n v i l d)
        → cond b (stays w) (turn_in w i (next m)) ≡ cond b (stays w) (turn_in w i (next n))
    by true none again = refl
    by false more again = turn-alike w s i left c (some-left more) (next m) (next n)
        (λ u e. let less_now = e.less in again u (still_left c (phase_in u.control i) left) (has_committed c (phase_in w.control i) (phase_in u.control i)) e.sound (omega (arith, less_now, few)) (omega (arith, less_now, less)))

pub turns-end : (w : World) (i n more : ℕ) → Sound w → turns (most_turns n + more) w i n false ≡ turns (most_turns n) w i n false
turns-end w i n more s = turns-alike (most_turns n + more) (most_turns n) w i n false s (omega (arith, most)) most
  where
    by : (o : Option Mirror) → master_in w.control i ≡ o → to_do n false o < (n + 1) * 64
    by None has = omega arith
    by (Some r) has = left-most n false r.master.phase (length r.master.owed) (master-few w s i r has).owed

    most : to_do n false (master_in w.control i) < most_turns n
    most = by (master_in w.control i) refl
