-- What a line that delivers a message comes to.
use Rattle.std.proofs.Common.{ℕ, ◌≡◌, ◌≤◌, ◌+◌, refl, ap, sym, ◌∙◌, subst, arith, Bool, true, false, nat_le, List, [], length, Option, Some, None, IfSome, Result, Ok, Err}
use Rattle.std.specs.Prelude.{option_map, unwrap_or, if◌then◌else◌}
use Rattle.std.specs.Option.{option_or}
use Rattle.std.proofs.lemmas.Bool.{and_from}
use Rattle.std.proofs.lemmas.Bool.Decides.{nat_tests}
use Rattle.std.proofs.lemmas.List.{append-nil}
use Rattle.dr_logic.proofs.Options.{if-some}
use Rattle.dr_ids.specs.declared.names.Member.{Member}
use Rattle.dr_ids.specs.declared.refusal.Refusal.{Refusal}
use Rattle.dr_ids.specs.declared.refusal.Refusal.TheVariants.{OldMessage}
use Rattle.dr_ids.specs.declared.refusal.Which.TheVariants as limit
use Rattle.dr_plant.specs.State.{PlantState}
use Rattle.dr_config.specs.Table.{ConfigTable}
use Rattle.dr_ctl.specs.Kept.{KeptFlight, flight_in}
use Rattle.dr_session.specs.Kept.{SessionTable}
use Rattle.dr_model.specs.declared.event.Event.{Event}
use Rattle.dr_model.specs.declared.said.Addition.{Addition}
use Rattle.dr_model.specs.declared.said.Addition.TheVariants.{Alone}
use Rattle.dr_model.specs.declared.said.Said.{Said}
use Rattle.dr_model.specs.declared.said.Said.TheVariants.{Done, Refused}
use Rattle.dr_model.specs.declared.step.Step.TheVariants.{Deliver}
use Rattle.dr_model.specs.Control.{Control, World}
use Rattle.dr_model.specs.Forming.{refusal_said}
use Rattle.dr_model.specs.Laws.{Sound}
use Rattle.dr_model.specs.Messages.{Message, Asks, Replies, message_in, is_full}
use Rattle.dr_model.specs.MessagePlans.{full_refusal, order_done}
use Rattle.dr_model.specs.MessagePlans as plans
use Rattle.dr_model.specs.Phases as phases
use Rattle.dr_model.specs.PlanParts.{Plan, unless, on_session, tables_plan}
use Rattle.dr_model.specs.Refusals.{over}
use Rattle.dr_model.specs.Runs.{after_plan, said}
use Rattle.dr_model.specs.SessionEntries.{members_on}
use Rattle.dr_model.specs.SessionPlans.{off_refusal, apart_refusal, says_phase, session_phase}
use Rattle.dr_model.specs.Sessions.{Session, Mirror, session_in, mirror_in, members_in, changed, with_master, no_master}
use Rattle.dr_model.proofs.CarryLemmas.{plan-ends, carry-none}
use Rattle.dr_facts.proofs.Refusals.{none-both, met}
use Rattle.dr_laws_messages.proofs.Taken.{awaits-taken, few-taken}
use Rattle.dr_gmirror.specs.Exchange.{members_in_reply, is_awaited}
use Rattle.dr_steps.specs.declared.delivering.Arrived.{Arrived}
use Rattle.dr_steps.specs.declared.tables.Tables.{Tables}
use Rattle.dr_steps.specs.Arrivals.{arrives, message_at, order_refusal_by, order_refusal_of, order_refusal_in, reply_refusal_by, reply_refusal_of, reply_refusal_in}
use Rattle.dr_steps.specs.Here.{here, said_of, refused, OnAnswer, Carries}
use Rattle.dr_steps.specs.Wants.{WantsRow, asks_reply}
use Rattle.dr_steps.proofs.CarriesLemmas.{carries-plan}
use Rattle.dr_steps.proofs.ExchangeLemmas.{few-members, has-place}
use Rattle.dr_steps.proofs.PostLemmas.{in-flight}
use Rattle.dr_steps.proofs.StepLemmas.{plan-unless, plan-free}

-- ---- the session's master

-- a session whose master runs on that server
pub record HasMaster (o : Option Session) (server : ℕ) : Type 0 where
  pub session : Session
  pub found : o ≡ Some session
  pub mirror : Mirror
  pub has : session.mirror ≡ Some mirror
  pub runs : server ≡ mirror.server

abbrev server_by : Option Mirror → Option ℕ
server_by m = option_map (λ (r : Mirror). r.server) m

has-mirror : (x : Session) (server : ℕ) (m : Option Mirror) → x.mirror ≡ m → Some server ≡ server_by m → HasMaster (Some x) server
has-mirror x server None is e = absurd cc
has-mirror x server (Some r) is e = record { session = x; found = refl; mirror = r; has = is; runs = ap (λ o. unwrap_or o 0) e }

pub has-master : (o : Option Session) (server : ℕ) → Some server ≡ server_by (mirror_in o) → HasMaster o server
has-master None server e = absurd cc
has-master (Some x) server e = has-mirror x server x.mirror refl e

-- a session that has none
no-mirror : (m : Option Mirror) → None ≡ server_by m → m ≡ None
no-mirror None e = refl
no-mirror (Some r) e = absurd cc

-- ---- what refuses a message

module _ (k : Control) (x : Arrived) (starts : ℕ) where
  abbrev sought : Option Session
  sought = session_in k.sessions x.session.0

  -- an order, where its session is defined
  pub order-of : (y : Session) → sought ≡ Some y → option_or (off_refusal k x.server.0) (order_refusal_by k x starts y.mirror) ≡ order_refusal_in k x starts
  order-of y there = sym (ap (order_refusal_of k x starts) there)

  -- where that has no master
  pub order-alone : (y : Session) → sought ≡ Some y → None ≡ off_refusal k x.server.0 → None ≡ server_by (mirror_in sought) → no_master ≡ order_refusal_in k x starts
  order-alone y there off none =
      (λ i. option_or (off i) (order_refusal_by k x starts (sym (no-mirror y.mirror (none ∙ ap (λ o. server_by (mirror_in o)) there)) i))) ∙ order-of y there

  -- where it has one
  pub order-by : (server : ℕ) (h : HasMaster sought server) → option_or (off_refusal k x.server.0) (plans.order_refusal k h.mirror (message_at x (Asks starts)) starts) ≡ order_refusal_in k x starts
  order-by server h = ap (λ m. option_or (off_refusal k x.server.0) (order_refusal_by k x starts m)) (sym h.has) ∙ order-of h.session h.found

-- a reply, where its session has a master
pub reply-by : (k : Control) (m : Message) (server : ℕ) (h : HasMaster (session_in k.sessions m.session) server) → plans.reply_refusal k h.mirror m ≡ reply_refusal_in k m
reply-by k m server h = ap (reply_refusal_by k m) (sym h.has) ∙ sym (ap (reply_refusal_of k m) h.found)

-- ---- the line

-- what holds of an answer, where its call wants no memory
pub answer-refused : (r : Result Addition Refusal) (P : Said → Type 0) → P (said_of r) → OnAnswer (refused r) P
answer-refused (Ok a) P is = is
answer-refused (Err why) P is = is

-- what a line that delivers a message comes to, where there is such a message
pub deliver-found : (k : Control) (n : ℕ) (m : Message) → message_in k.flight n ≡ Some m → arrives k m ≡ plans.deliver_plan k n
deliver-found k n m there = sym (ap (λ o. plans.on_message o (arrives k)) there)

-- an order is carried out, unless it is refused
module _ (k : Control) (x : Arrived) (starts : ℕ) where
  abbrev asked : Message
  asked = message_at x (Asks starts)

  abbrev plan_done : Option Session → Plan
  plan_done o = order_done asked (members_on x.server.0 (members_in o))

  order-with : (ms : List Member) (off : Option Refusal) (o : Option Mirror) → unless off (plans.order_on k asked starts ms o) ≡ unless (option_or off (order_refusal_by k x starts o)) (order_done asked (members_on x.server.0 ms))
  order-with ms (Some why) o = refl
  order-with ms None None = refl
  order-with ms None (Some r) = refl

  order-plan-of : (o : Option Session) → on_session o (λ y. plans.deliver_on k asked y asked.body) ≡ unless (order_refusal_of k x starts o) (plan_done o)
  order-plan-of None = refl
  order-plan-of (Some y) = order-with y.members (off_refusal k x.server.0) y.mirror

  pub order-plan : arrives k asked ≡ unless (order_refusal_in k x starts) (plan_done (session_in k.sessions x.session.0))
  order-plan = order-plan-of (session_in k.sessions x.session.0)

-- where it isn't, it asks for room
pub deliver-wants : (w : World) (x : Arrived) (starts : ℕ) → message_in w.control.flight x.number ≡ Some (message_at x (Asks starts)) → order_refusal_in w.control x starts ≡ None → WantsRow w (Deliver x.number)
deliver-wants w x starts there free = record {
  row = ap asks_reply there;
  free = λ line.
      let k = w.control in
      let done = order_done (message_at x (Asks starts)) (members_on x.server.0 (members_in (session_in k.sessions x.session.0))) in
      ap (λ (p : Plan). refusal_said (p.says k)) (sym (deliver-found k x.number (message_at x (Asks starts)) there) ∙ order-plan k x starts ∙ ap (λ o. unless o done) free);
}

-- its server is on, and there is room for the reply
pub record IsFree (k : Control) (x : Arrived) : Type 0 where
  pub on : off_refusal k x.server.0 ≡ None
  pub space : is_full k.flight ≡ false

has-room : (b : Bool) → (if b then Some (over limit.Messages) else None) ≡ None → b ≡ false
has-room true h = absurd cc
has-room false h = refl

order-free-of : (k : Control) (x : Arrived) (starts : ℕ) (o : Option Session) → order_refusal_of k x starts o ≡ None → IsFree k x
order-free-of k x starts None free = absurd cc
order-free-of k x starts (Some y) free = by y.mirror (none-both (off_refusal k x.server.0) (order_refusal_by k x starts y.mirror) free)
  where
    by : (o : Option Mirror) → (off_refusal k x.server.0 ≡ None) × (order_refusal_by k x starts o ≡ None) → IsFree k x
    by None both = absurd (let no = both.1 in cc)
    by (Some r) both =
        let full = (none-both (full_refusal k.flight) _ (none-both (apart_refusal k r.server x.server.0) _ both.1).1).0 in
        record { on = both.0; space = has-room (is_full k.flight) full }

pub order-free : (k : Control) (x : Arrived) (starts : ℕ) → order_refusal_in k x starts ≡ None → IsFree k x
order-free k x starts free = order-free-of k x starts (session_in k.sessions x.session.0) free

-- ---- a reply is taken

abbrev reply_done : Message → phases.Reply → Plan
reply_done m reply = record (tables_plan (plans.taking m reply) [] (Done Alone)) { says = says_phase m.session }

-- it is, unless it is refused
reply-with : (k : Control) (m : Message) (reply : phases.Reply) (o : Option Mirror) → plans.reply_on k m reply o ≡ unless (reply_refusal_by k m o) (reply_done m reply)
reply-with k m reply None = refl
reply-with k m reply (Some r) = refl

reply-plan-of : (k : Control) (m : Message) (reply : phases.Reply) (o : Option Session) → on_session o (λ y. plans.deliver_on k m y (Replies reply)) ≡ unless (reply_refusal_of k m o) (reply_done m reply)
reply-plan-of k m reply None = refl
reply-plan-of k m reply (Some y) = reply-with k m reply y.mirror

pub reply-plan : (k : Control) (x : Arrived) (reply : phases.Reply) → (let m : Message = message_at x (Replies reply) in arrives k m ≡ unless (reply_refusal_in k m) (reply_done m reply))
reply-plan k x reply = reply-plan-of k (message_at x (Replies reply)) reply (session_in k.sessions x.session.0)

-- a session whose master awaits the reply
pub record Returns (k : Control) (m : Message) : Type 0 where
  pub session : Session
  pub found : session_in k.sessions m.session ≡ Some session
  pub mirror : Mirror
  pub has : session.mirror ≡ Some mirror
  pub awaited : plans.is_awaited k.flight mirror m ≡ true

reply-returns : (k : Control) (m : Message) (o : Option Session) → session_in k.sessions m.session ≡ o → reply_refusal_of k m o ≡ None → Returns k m
reply-returns k m None there free = absurd cc
reply-returns k m (Some y) there free = by y.mirror refl free
  where
    by : (o : Option Mirror) → y.mirror ≡ o → reply_refusal_by k m o ≡ None → Returns k m
    by None has free = absurd cc
    by (Some r) has free =
        let old = (none-both (apart_refusal k r.server m.server) _ (none-both (off_refusal k r.server) _ free).1).1 in
        record { session = y; found = there; mirror = r; has = has; awaited = met (plans.is_awaited k.flight r m) (OldMessage m.number) old }

pub reply-free : (k : Control) (m : Message) → reply_refusal_in k m ≡ None → Returns k m
reply-free k m free = reply-returns k m (session_in k.sessions m.session) refl free

module _ (s : PlantState) (t : ConfigTable) (h : Tables) (ev : List Event) (x : Arrived) where
  abbrev w : World
  w = here s t h ev

  abbrev k : Control
  k = w.control

  abbrev n : ℕ
  n = x.session.0

  abbrev ms : List Member
  ms = members_on x.server.0 (members_in (session_in h.sessions.sessions n))

  -- an order that is refused
  pub order-refused : (starts : ℕ) (why : Refusal) → Some why ≡ order_refusal_in k x starts → (line : ℕ) → after_plan w line (arrives k (message_at x (Asks starts))) ≡ said w line (Refused why)
  order-refused starts why is line = ap (after_plan w line) (order-plan k x starts) ∙ plan-unless w line (order_done (message_at x (Asks starts)) ms) _ why (sym is)

  -- where it isn't, what carries the order out is all of the line, in room for the reply that was reserved
  pub order-carried : (starts : ℕ) (f : KeptFlight) (u : World) (a : Said) → flight_in f ≡ flight_in h.flight → None ≡ order_refusal_in k x starts → Carries (here s t (record h { flight = f }) ev) (order_done (message_at x (Asks 0)) ms) u a
      → (line : ℕ) → after_plan w line (arrives k (message_at x (Asks starts))) ≡ said u line a
  order-carried starts f u a same free carried line =
      let goes : Carries w (order_done (message_at x (Asks 0)) ms) u a = subst (λ (v : World). Carries v (order_done (message_at x (Asks 0)) ms) u a) (λ i. record w { control = record k { flight = same i } }) carried in
      ap (after_plan w line) (order-plan k x starts) ∙ plan-free w (said u line a) line (order_done (message_at x (Asks starts)) ms) _ (sym free) (carries-plan w _ u a goes line)

  module _ (reply : phases.Reply) where
    abbrev m : Message
    m = message_at x (Replies reply)

    -- and a reply
    pub reply-refused : (why : Refusal) → Some why ≡ reply_refusal_in k m → (line : ℕ) → after_plan w line (arrives k m) ≡ said w line (Refused why)
    reply-refused why is line = ap (after_plan w line) (reply-plan k x reply) ∙ plan-unless w line (reply_done m reply) _ why (sym is)

    -- one that its master takes
    pub reply-taken : (ys : SessionTable) (added : Addition) → None ≡ reply_refusal_in k m → ys.sessions ≡ changed n (with_master (λ q. phases.taken q x.server.0 reply)) h.sessions.sessions
        → Done added ≡ session_phase (session_in ys.sessions n) → (line : ℕ) → after_plan w line (arrives k m) ≡ said (here s t (record h { sessions = ys }) ev) line (Done added)
    reply-taken ys added free is says line =
        ap (after_plan w line) (reply-plan k x reply)
        ∙ plan-free w (said (here s t (record h { sessions = ys }) ev) line (Done added)) line (reply_done m reply) _ (sym free)
        (plan-ends w line (reply_done m reply) _ (carry-none _)
        ∙ ap (λ es. said (record w { control = plans.taking m reply k; events = es }) line (says_phase n (plans.taking m reply k))) (append-nil ev)
        ∙ (λ i. said (record w { control = record k { sessions = sym is i } }) line (session_phase (session_in (sym is i) n)))
        ∙ ap (said (here s t (record h { sessions = ys }) ev) line) (sym says))

    -- the master awaits it, and has a place for what it reports
    pub reply-awaited : Sound w → length t.volumes ≤ 64 → IfSome (mirror_in (session_in h.sessions.sessions n)) (λ r. length r.master.reports ≤ 64)
        → (number : ℕ) → message_in k.flight number ≡ Some m → None ≡ reply_refusal_in k m → is_awaited (mirror_in (session_in h.sessions.sessions n)) x.server.0 reply ≡ true
    reply-awaited sound few reports number there free =
        let q = reply-free k m (sym free) in
        let flies = in-flight k.flight number m there in
        let awaits = awaits-taken k sound.groups sound.attempts sound.flights m reply q.session q.mirror flies refl q.found q.has q.awaited in
        let room = few-taken k sound.groups sound.attempts sound.flights m reply q.session q.mirror flies refl q.found q.has q.awaited in
        let all : length q.session.members ≤ 64 = subst (λ o. length (members_in o) ≤ 64) q.found (few-members s t h ev sound n few) in
        let most : length q.mirror.master.reports ≤ 64 = if-some (λ (r : Mirror). length r.master.reports ≤ 64) (mirror_in (session_in h.sessions.sessions n)) q.mirror (ap mirror_in q.found ∙ q.has) reports in
        let low : length q.mirror.master.reports + members_in_reply reply ≤ 64 = has-place (length q.mirror.master.reports) (length q.session.members) reply room most all in
        ap (λ o. is_awaited (mirror_in o) x.server.0 reply) q.found ∙ ap (λ o. is_awaited o x.server.0 reply) q.has
        ∙ and_from (phases.awaits q.mirror.master x.server.0 reply) (nat_le (length q.mirror.master.reports + members_in_reply reply) 64) awaits (grind (arith, nat_tests, low))
