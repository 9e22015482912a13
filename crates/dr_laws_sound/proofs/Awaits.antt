-- As the entries of an exchange lead on, the master of its session awaits the reply.
use Rattle.std.proofs.Common.{ℕ, ◌≡◌, ◌⊎◌, ◌≤◌, ◌+◌, inl, inr, refl, ap, sym, ◌∙◌, subst, Bool, true, false, cond, not, ◌&&◌, ◌||◌, ◌==◌, nat_eq, nat_lt, List, [], ◌∷◌, length, Option, Some, None, option_map, unwrap_or, arith}
use Rattle.std.specs.List.{list_any}
use Rattle.std.proofs.lemmas.Bool.{and_from, le-ltb, lt-ltb}
use Rattle.std.proofs.lemmas.Option.{same_Some}
use Rattle.dr_ids.specs.declared.names.Member.{Member}
use Rattle.dr_ids.specs.declared.refusal.PhaseName.{PhaseName}
use Rattle.dr_ids.specs.declared.refusal.PhaseName.TheVariants as phase
use Rattle.dr_ids.specs.declared.refusal.Refusal.{Refusal}
use Rattle.dr_ids.specs.declared.refusal.Refusal.TheVariants.{OutOfOrder}
use Rattle.dr_model.specs.Refusals.{server_off}
use Rattle.dr_model.specs.Decisions.{Shown}
use Rattle.dr_model.specs.Phases as phases
use Rattle.dr_model.specs.Sessions.{Session, Mirror, session_in, mirror_in, begin_refusal, changed, begun, servers_of}
use Rattle.dr_model.specs.Control.{Control, World}
use Rattle.dr_model.specs.Moves.{Hold}
use Rattle.dr_model.specs.Carry.{Act, Make, OpenAttempt, Pass, Do, Entry, Outcome, act, continue, go, carry}
use Rattle.dr_model.specs.Entries.{fields_at}
use Rattle.dr_model.specs.PairEntries.{end_if, refuse_if}
use Rattle.dr_model.specs.SessionEntries.{last_of, hold_refusal, stale_refusal, hold_on, is_drained, is_on, members_on, order_entries, reply_after, shown_by_members}
use Rattle.dr_model.specs.SessionPlans.{is_idle, off_refusal, phase_refusal, apart_refusal, exchange_refusal, order_of}
use Rattle.dr_model.specs.Groups.{In, SessionFits}
use Rattle.dr_model.specs.Laws.{Sound}
use Rattle.dr_model.specs.Allowed.{Runs}
use Rattle.dr_model.proofs.CarryLemmas.{carry-first}
use Rattle.dr_laws_sessions.proofs.Changes.{session-found, changed-found}
use Rattle.dr_laws_sessions.proofs.Sound.{among-servers}
use Rattle.dr_laws_sessions.proofs.Silent.{quiet-silent, last-is, on-members}
use Rattle.dr_laws_sessions.proofs.Volumes.{idle-quiet}
use Rattle.dr_laws_sessions.proofs.Orders.{order-reports}
use Rattle.dr_laws_sessions.proofs.Reports.{shown-few, reports-few}
use Rattle.dr_laws_sound.proofs.FitsExchanges.{WorkPhase, IsLast, works}
use Rattle.dr_laws_sound.proofs.Turns.{act-cases}
use Rattle.dr_laws_sound.proofs.Cases.{one-passed}
use Rattle.dr_facts.proofs.Refusals.{none-both, met}
use Rattle.dr_facts.proofs.Entries.{any_reason, why-any, AllFine, carry-kept}
use Rattle.dr_facts.proofs.SharedEntries.{order-fine}
use Rattle.dr_logic.proofs.Truth.{false_true}
use Rattle.dr_logic.proofs.Options.{none_some}

-- ---- entries that come to moves alone leave the sessions

abbrev IsMove : World → Act → Type 0
IsMove w (Make m) = Unit {0}
IsMove w a = ⊥

-- these are the sessions
abbrev Has : List Session → World → Type 0
Has ss w = w.control.sessions ≡ ss

abbrev OnlyMoves : List Session → List Entry → Type 0
OnlyMoves ss = AllFine (Has ss) IsMove any_reason

move-leaves : (ss : List Session) (w : World) (a : Act) → IsMove w a → Has ss w → Has ss (act w a).0
move-leaves ss w (Make m) is has = act-cases w (Make m) (λ t. Has ss t.0) (λ d off. has) (λ f. has) (λ f. has) (λ d f. has)
move-leaves ss w a is has = absurd is

-- wherever they lead
moves-leave : (w v : World) (ss : List Session) (ds : List Entry) (r : Option Refusal) → Has ss w → OnlyMoves ss ds → carry w ds ≡ (v, r) → Has ss v
moves-leave w v ss ds r has only leads = ap (λ (t : Outcome). t.0.control.sessions) (sym leads) ∙ carry-kept (Has ss) IsMove any_reason (Has ss) (λ w h. h) (move-leaves ss) ds only w has

abbrev last_in : List Session → ℕ → ℕ
last_in ss i = unwrap_or (option_map (λ (x : Session). x.last) (session_in ss i)) 0

-- an order of an attempt that has begun
order-moves : (work : phases.Work) (ss : List Session) (i n : ℕ) (ms : List Member) → nat_lt (last_in ss i) n ≡ false → OnlyMoves ss (order_entries work i n ms)
order-moves work ss i n ms older = order-fine (Has ss) IsMove any_reason work i n ms
    (λ m here. record {
      hold = λ w h. tt;
      open_attempt = λ w h newer. false_true (ap (λ ss. nat_lt (last_in ss i) n) h ∙ older) newer;
      free = λ w h. tt;
      seal = λ w h. tt;
      finish = λ w h. tt;
      flash = λ w h. tt;
      commit = λ w h. tt;
      revert = λ w h. tt;
      raise = λ w h. tt;
    })
    (λ m. record {
      hold = λ k. why-any _;
      stale = λ k. why-any _;
      void = λ k. why-any _;
      seal = λ k. why-any _;
      send = λ k. why-any _;
      flash = λ k. why-any _;
      commit = λ k. why-any _;
      reach = λ k. why-any _;
    })

-- ---- which order it is

-- the first of an attempt
record First (p : PhaseName) (n : ℕ) (o : phases.Order) : Type 0 where
  idle : p ≡ phase.Idle
  work : o.work ≡ phases.Hold
  number : o.number ≡ n + 1

-- or one that is owed, to which the server's reply is one; a report has no number
record Owed (p : PhaseName) (b : Bool) (n : ℕ) (o : phases.Order) : Type 0 where
  owed : b ≡ true
  number : o.number ≤ n
  replies : (s : ℕ) (ms : List Member) (k : Control) → phases.is_reply (reply_after s o.work ms k) (phases.work_in p) ≡ true

order-is : (b : Bool) (work : phases.Work) (n : ℕ) (o : phases.Order) → phases.order_if b (Some work) n ≡ Some o → (b ≡ true) × (o ≡ phases.numbered work n)
order-is true work n o h = (refl, sym ((same_Some _ _ h)))
order-is false work n o h = absurd cc

owes : (p : PhaseName) (work : phases.Work) (b : Bool) (n : ℕ) (o : phases.Order) → phases.work_in p ≡ Some work → (phases.numbered work n).work ≡ work → (phases.numbered work n).number ≤ n
    → ((s : ℕ) (ms : List Member) (k : Control) → phases.is_reply (reply_after s work ms k) (Some work) ≡ true) → phases.order_if b (Some work) n ≡ Some o → Owed p b n o
owes p work b n o has same_work same_number replies h =
    let e : (b ≡ true) × (o ≡ phases.numbered work n) = order-is b work n o h in
    record {
      owed = e.0;
      number = subst (λ (q : phases.Order). q.number ≤ n) (sym e.1) same_number;
      replies = λ s ms k.
          ap (λ (u : phases.Work). phases.is_reply (reply_after s u ms k) (phases.work_in p)) (ap (λ (q : phases.Order). q.work) e.1 ∙ same_work)
          ∙ (ap (phases.is_reply (reply_after s work ms k)) has ∙ replies s ms k);
    }

-- only a report says what members show
not-reported : (b : Bool) (xs : List Shown) → cond b phases.NotYet phases.Done ≡ phases.Reported xs → ⊥
not-reported true xs h = cc
not-reported false xs h = cc

reported-work : (s : ℕ) (work : phases.Work) (ms : List Member) (k : Control) (xs : List Shown) → reply_after s work ms k ≡ phases.Reported xs → (work ≡ phases.Report) × (xs ≡ shown_by_members s ms k)
reported-work s phases.Report ms k xs h = (refl, cc)
reported-work s phases.Seal ms k xs h = absurd (not-reported (list_any (λ m. not (is_drained m.a.0 k)) ms) xs h)
reported-work s work ms k xs h = absurd cc

-- a seal is answered either way
seal-replies : (b : Bool) → phases.is_reply (cond b phases.NotYet phases.Done) (Some phases.Seal) ≡ true
seal-replies true = refl
seal-replies false = refl

which : (p : PhaseName) (b : Bool) (n : ℕ) (o : phases.Order) → cond (is_idle p) (Some (record { work = phases.Hold; number = n + 1 })) (phases.order_if b (phases.work_in p) n) ≡ Some o → First p n o ⊎ Owed p b n o
which phase.Idle b n o h = inl (record { idle = refl; work = ap (λ (q : phases.Order). q.work) (sym ((same_Some _ _ h))); number = ap (λ (q : phases.Order). q.number) (sym ((same_Some _ _ h))) })
which phase.Coordinating b n o h = inr (owes phase.Coordinating phases.Hold b n o refl refl (omega arith) (λ s ms k. refl) h)
which phase.Releasing b n o h = inr (owes phase.Releasing phases.Release b n o refl refl (omega arith) (λ s ms k. refl) h)
which phase.Draining b n o h = inr (owes phase.Draining phases.Seal b n o refl refl (omega arith) (λ s ms k. seal-replies (list_any (λ m. not (is_drained m.a.0 k)) ms)) h)
which phase.Flashing b n o h = inr (owes phase.Flashing phases.Flash b n o refl refl (omega arith) (λ s ms k. refl) h)
which phase.Committing b n o h = inr (owes phase.Committing phases.Commit b n o refl refl (omega arith) (λ s ms k. refl) h)
which phase.Reverting b n o h = inr (owes phase.Reverting phases.Revert b n o refl refl (omega arith) (λ s ms k. refl) h)
which phase.Finishing b n o h = inr (owes phase.Finishing phases.Finish b n o refl refl (omega arith) (λ s ms k. refl) h)
which phase.Lost b n o h = inr (owes phase.Lost phases.Report b n o refl refl (omega arith) (λ s ms k. refl) h)
which phase.None true n o h = absurd cc
which phase.None false n o h = absurd cc

-- ---- what passed

same-not-less : (n : ℕ) → nat_lt n n ≡ false
same-not-less n = le-ltb n n (omega arith)

pub none-refused : {P : Type 0} (w v : World) (r : Refusal) → ◌≡◌ {A = Outcome} (w, Some r) (v, None) → P
none-refused w v r h = none_some (ap (λ (t : Outcome). t.1) h) refl

refuse-passes : (w v : World) (why : Control → Option Refusal) (ds : List Entry) → carry w (refuse_if why ∷ ds) ≡ (v, None) → carry w ds ≡ (v, None)
refuse-passes w v why ds leads = by (why w.control) (sym (carry-first w (refuse_if why) ds (end_if (why w.control)) refl) ∙ leads)
  where
    by : (o : Option Refusal) → go w (end_if o) (λ u. carry u ds) ≡ (v, None) → carry w ds ≡ (v, None)
    by None h = h
    by (Some r) h = none-refused w v r h

second-not : (a b : Bool) → (a || not b) ≡ false → b ≡ true
second-not true b h = absurd cc
second-not false true h = refl
second-not false false h = absurd cc

-- a server that holds a member has one among those on it
some-on : (server : ℕ) (ms : List Member) → list_any (λ m. m.server.0 == server) ms ≡ true → members_on server ms ≡ [] → ⊥
some-on server [] has none = absurd cc
some-on server (m ∷ ms) has none = by (is_on server m) (some-on server ms) has none
  where
    by : (b : Bool) → (list_any (λ m. m.server.0 == server) ms ≡ true → members_on server ms ≡ [] → ⊥) → (b || list_any (λ m. m.server.0 == server) ms) ≡ true → cond b (m ∷ members_on server ms) (members_on server ms) ≡ [] → ⊥
    by true further has none = absurd cc
    by false further has none = further has none

-- the master of session i in v awaits that reply of the server, with no more reports than that of r, and with one more no more than there are members
pub record Awaited (v : World) (i server : ℕ) (r : Mirror) (all : List Member) (reply : phases.Reply) : Type 0 where
  pub session : Session
  pub found : session_in v.control.sessions i ≡ Some session
  pub mirror : Mirror
  pub has_master : session.mirror ≡ Some mirror
  pub awaits : phases.awaits mirror.master server reply ≡ true
  pub reports : length mirror.master.reports ≤ length r.master.reports
  pub room : (xs : List Shown) → reply ≡ phases.Reported xs → length mirror.master.reports + length xs ≤ length all

module _ (w : World) (s : Sound w) (i server : ℕ) (x : Session) (r : Mirror) (o : phases.Order) (found : session_in w.control.sessions i ≡ Some x) (mirror : x.mirror ≡ Some r)
    (allowed : exchange_refusal w.control r server x.members ≡ None) (order : order_of r server ≡ Some o) where
  abbrev ms : List Member
  ms = members_on server x.members

  abbrev IsFirst : Type 0
  IsFirst = First r.master.phase r.master.number o

  abbrev IsOwed : Type 0
  IsOwed = Owed r.master.phase (phases.is_among server r.master.owed) r.master.number o

  stage : IsFirst ⊎ IsOwed
  stage = which r.master.phase (phases.is_among server r.master.owed) r.master.number o order

  listed : In x w.control.sessions
  listed = (session-found w.control.sessions i x found).0

  fits : SessionFits w.control x
  fits = s.groups.each x listed

  number : r.master.number ≡ x.last
  number = fits.sound.number r mirror

  parts : (phase_refusal r server x.members ≡ None) × (w.control.on server ≡ true)
  parts =
      let rest = none-both (phase_refusal r server x.members) _ (none-both (off_refusal w.control r.server) _ allowed).1 in
      (rest.0, met (w.control.on server) (server_off server) (none-both (off_refusal w.control server) (apart_refusal w.control r.server server) rest.1).0)

  -- in Idle the server holds a member, and the next number isn't too great
  begins : r.master.phase ≡ phase.Idle → (list_any (λ (m : Member). m.server.0 == server) x.members ≡ true) × (phases.begin_refusal phase.Idle r.master.number ≡ None)
  begins idle =
      let held : Bool = list_any (λ (m : Member). m.server.0 == server) x.members in
      let most : Option Refusal = phases.begin_refusal phase.Idle r.master.number in
      let rest : (cond (r.paused || not held) (Some (OutOfOrder phase.Idle)) most ≡ None) = sym (ap (λ p. cond (is_idle p) (cond (r.paused || not held) (Some (OutOfOrder phase.Idle)) most) (cond (phases.is_among server r.master.owed) None (Some (OutOfOrder r.master.phase)))) idle) ∙ parts.0 in
      let both = one-passed (r.paused || not held) (OutOfOrder phase.Idle) most rest in
      (second-not r.paused held both.0, both.1)

  -- ---- the number of the order

  older : IsOwed → nat_lt (last_of w.control i) o.number ≡ false
  older e = ap (λ n. nat_lt n o.number) (last-is w.control i x found) ∙ le-ltb x.last o.number (omega (arith, e.number, number))

  newer : IsFirst → nat_lt (last_of w.control i) o.number ≡ true
  newer f = ap (λ n. nat_lt n o.number) (last-is w.control i x found) ∙ lt-ltb x.last o.number (omega (arith, f.number, number))

  -- where it is greater than the session's last, an attempt may begin
  pub exchange-begins : nat_lt (last_of w.control i) o.number ≡ true → begin_refusal (mirror_in (session_in w.control.sessions i)) ≡ None
  exchange-begins above = by stage
    where
      by : IsFirst ⊎ IsOwed → begin_refusal (mirror_in (session_in w.control.sessions i)) ≡ None
      by (inl f) = ap (λ q. begin_refusal (mirror_in q)) found ∙ (ap begin_refusal mirror ∙ (ap (λ p. phases.begin_refusal p r.master.number) f.idle ∙ (begins f.idle).1))
      by (inr e) = false_true (older e) above

  -- it is the next one at most
  pub exchange-next : o.number ≤ x.last + 1
  exchange-next = by stage
    where
      by : IsFirst ⊎ IsOwed → o.number ≤ x.last + 1
      by (inl f) = omega (arith, f.number, number)
      by (inr e) = omega (arith, e.number, number)

  -- ---- where the entries lead

  -- a report is asked for by a lost master alone
  report-fits : (v : World) (xs : List Shown) → reply_after i o.work ms v.control ≡ phases.Reported xs → length r.master.reports + length xs ≤ length x.members
  report-fits v xs is =
      let told = reported-work i o.work ms v.control xs is in
      let lost : r.master.phase ≡ phase.Lost = (subst (λ (work : phases.Work). WorkPhase work r.master.phase × IsLast work o.number r.master.number) told.0 (works r.master.phase (phases.is_among server r.master.owed) r.master.number o order)).0 in
      reports-few r.master x.members server xs
      (record { owes = order-reports r server o lost order; few = subst (λ (ys : List Shown). length ys ≤ length ms) (sym told.1) (shown-few i ms v.control) })
      (fits.few r mirror lost)

  awaits-owed : IsOwed → (v : World) → carry w (order_entries o.work i o.number ms) ≡ (v, None) → Awaited v i server r x.members (reply_after i o.work ms v.control)
  awaits-owed e v leads =
      let same = moves-leave w v w.control.sessions (order_entries o.work i o.number ms) None refl (order-moves o.work w.control.sessions i o.number ms (older e)) leads in
      record {
        session = x;
        found = ap (λ ss. session_in ss i) same ∙ found;
        mirror = r;
        has_master = mirror;
        awaits = and_from (phases.is_among server r.master.owed) _ e.owed (e.replies i ms v.control);
        reports = omega arith;
        room = report-fits v;
      }

  abbrev opened : List Session
  opened = changed i begun w.control.sessions

  found-opened : session_in opened i ≡ Some (begun x)
  found-opened = changed-found i begun w.control.sessions x (λ y. refl) found

  -- the first member opens the attempt, and those after it leave the sessions
  opens : IsFirst → (v : World) (m : Member) (rest : List Member) → In m x.members → m.server.0 ≡ server → carry w (order_entries phases.Hold i o.number (m ∷ rest)) ≡ (v, None) → v.control.sessions ≡ opened
  opens f v m rest here is leads =
      act-cases w (OpenAttempt m.a.0 i n) (λ t. continue t.0 t.1 (λ u. carry u ds) ≡ (v, None) → v.control.sessions ≡ opened)
      (λ d off h. false_true off runs) (λ fuse h. moves-leave _ v opened ds None refl (order-moves phases.Hold opened i n rest over) h) (λ fuse h. none-refused _ v _ h) (λ d fuse h. none-refused _ v _ h)
      (sym (carry-first w (hold_on i m.a.0 n) ds (Do (OpenAttempt m.a.0 i n)) comes) ∙ refuse-passes w v (stale_refusal m.a.0 n) (hold_on i m.a.0 n ∷ ds) (refuse-passes w v (hold_refusal m.a.0 m.b.0) (refuse_if (stale_refusal m.a.0 n) ∷ hold_on i m.a.0 n ∷ ds) leads))
    where
      n : ℕ
      n = o.number

      ds : List Entry
      ds = order_entries phases.Hold i o.number rest

      runs : Runs w m.a.0
      runs = ap w.control.on (sym (fits.stands m here).server ∙ is) ∙ parts.1

      silent : (fields_at w.control m.a.0).recording ≡ false
      silent = quiet-silent w.control x m s.groups listed (idle-quiet x r mirror f.idle) here

      comes : hold_on i m.a.0 o.number w.control ≡ Do (OpenAttempt m.a.0 i o.number)
      comes =
          ap (λ b. cond (b && nat_eq (fields_at w.control m.a.0).attempt o.number) Pass (Do (cond (nat_lt (last_of w.control i) o.number) (OpenAttempt m.a.0 i o.number) (Make (Hold m.a.0 i o.number false))))) silent
          ∙ ap (λ b. Do (cond b (OpenAttempt m.a.0 i o.number) (Make (Hold m.a.0 i o.number false)))) (newer f)

      over : nat_lt (last_in opened i) o.number ≡ false
      over = ap (λ q. nat_lt (unwrap_or (option_map (λ (y : Session). y.last) q) 0) o.number) found-opened ∙ (ap (λ z. nat_lt z o.number) (sym (f.number ∙ (λ j. number j + 1))) ∙ same-not-less o.number)

  awaits-first : IsFirst → (v : World) (us : List Member) → ms ≡ us → carry w (order_entries phases.Hold i o.number us) ≡ (v, None) → Awaited v i server r x.members (reply_after i o.work ms v.control)
  awaits-first f v [] none leads = absurd (some-on server x.members (begins f.idle).0 none)
  awaits-first f v (m ∷ rest) is leads =
      let here = on-members server x.members m (subst (In m) (sym is) (inl refl)) in
      let same = opens f v m rest here.0 here.1 leads in
      let among : (phases.is_among server r.master.servers ≡ true) = ap (phases.is_among server) (fits.sound.servers r mirror) ∙ subst (λ z. phases.is_among z (servers_of x.members) ≡ true) here.1 (among-servers x m fits.sound here.0) in
      record {
        session = begun x;
        found = ap (λ ss. session_in ss i) same ∙ found-opened;
        mirror = record r { master = phases.begun r.master };
        has_master = ap (option_map (λ (q : Mirror). record q { master = phases.begun q.master })) mirror;
        awaits = and_from (phases.is_among server r.master.servers) _ among (ap (λ (u : phases.Work). phases.is_reply (reply_after i u ms v.control) (Some phases.Hold)) f.work);
        reports = omega arith;
        room = λ xs told. absurd (let e : phases.Hold ≡ phases.Report = sym f.work ∙ (reported-work i o.work ms v.control xs told).0 in cc);
      }

  -- as its entries lead on, the master awaits what the server replies
  pub exchange-awaits : (v : World) → carry w (order_entries o.work i o.number (members_on server x.members)) ≡ (v, None) → Awaited v i server r x.members (reply_after i o.work (members_on server x.members) v.control)
  exchange-awaits v leads = by stage
    where
      by : IsFirst ⊎ IsOwed → Awaited v i server r x.members (reply_after i o.work ms v.control)
      by (inl f) = awaits-first f v ms refl (sym (ap (λ (u : phases.Work). carry w (order_entries u i o.number ms)) f.work) ∙ leads)
      by (inr e) = awaits-owed e v leads
