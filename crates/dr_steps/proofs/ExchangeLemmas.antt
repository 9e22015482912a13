-- What a line that exchanges an order and its reply comes to.
use Rattle.std.proofs.Common.{ℕ, ◌≡◌, ◌<◌, ◌≤◌, ◌+◌, List, [], ◌++◌, length, refl, sym, ◌∙◌, ap, arith, subst, Bool, true, false, nat_le, Option, Some, None, IfSome}
use Rattle.std.specs.Prelude.{IsSome, IsTrue, ◌↔◌, option_map, unwrap_or}
use Rattle.std.proofs.lemmas.Bool.{and_from}
use Rattle.std.proofs.lemmas.Bool.Decides.{nat_tests}
use Rattle.std.proofs.lemmas.List.{append-nil, length-map}
use Rattle.dr_ids.specs.declared.names.Member.{Member}
use Rattle.dr_ids.specs.declared.refusal.Refusal.{Refusal}
use Rattle.dr_plant.specs.State.{PlantState}
use Rattle.dr_config.specs.Table.{ConfigTable, server_named}
use Rattle.dr_model.specs.declared.event.Event.{Event}
use Rattle.dr_model.specs.declared.said.Said.{Said}
use Rattle.dr_model.specs.declared.step.Name.{Name}
use Rattle.dr_model.specs.Carry.{Entry, carry, follow}
use Rattle.dr_model.specs.Control.{Control, World}
use Rattle.dr_model.specs.Groups.{SessionFits}
use Rattle.dr_model.specs.Laws.{Sound}
use Rattle.dr_model.specs.Phases as phases
use Rattle.dr_model.specs.PlanParts.{Plan, unless, none_follow, name_bytes}
use Rattle.dr_model.specs.Runs.{after_plan, begun, finish, stop_place, said}
use Rattle.dr_model.specs.Decisions.{Shown}
use Rattle.dr_model.specs.SessionEntries.{members_on, order_entries, reply_after}
use Rattle.dr_model.specs.Messages.{Flight, heard}
use Rattle.dr_model.specs.SessionPlans.{says_phase, asking, exchange_plan, exchange_on, exchange_done, exchange_refusal, order_of}
use Rattle.dr_model.specs.Sessions.{Session, Mirror, session_in, mirror_in, members_in}
use Rattle.dr_laws_sessions.proofs.Changes.{session-found}
use Rattle.dr_laws_sessions.proofs.Members.{members-few}
use Rattle.dr_laws_sound.proofs.Awaits.{exchange-begins, exchange-next, exchange-awaits}
use Rattle.dr_laws_sound.proofs.ReadStops.{ends-exact}
use Rattle.dr_volume.specs.View.{Rest, with_flight, ReadsPass, ids_of}
use Rattle.dr_session.specs.Kept.{SessionTable}
use Rattle.dr_ctl.specs.Kept.{KeptFlight, flight_in}
use Rattle.dr_moves.specs.Here.{armed_in, world_seen, IsAtRest}
use Rattle.dr_moves.specs.Turns.{Leads}
use Rattle.dr_facts.proofs.Ends.{ends-none}
use Rattle.dr_moves.specs.Aside.{AsideFits}
use Rattle.dr_gmirror.specs.Exchange.{PlanEnds, refusal_in, order_in, members_in_reply, is_awaited, IsNear, MayExchange}
use Rattle.dr_gmirror.specs.Orders.{with_sessions, AreReady, MayBegin, MayOrder}
use Rattle.dr_gmirror.proofs.ExchangeLemmas.{follow-nothing}
use Rattle.dr_listing.proofs.TakenLemmas.{in-at}
use Rattle.dr_steps.specs.Here.{here, rest_of, IsReady, IsTold, Carries}
use Rattle.dr_steps.proofs.CarriesLemmas.{carries, carries-plan}
use Rattle.dr_steps.specs.declared.tables.Tables.{Tables}
use Rattle.dr_steps.proofs.LandLemmas.{exact, told-through, ready-after}
use Rattle.dr_steps.proofs.RelationLemmas.{placed-here}
use Rattle.dr_steps.proofs.NamedLemmas.{named-goes}
use Rattle.dr_logic.proofs.Options.{if-some}

-- ---- a plan that was carried out

-- where no read fuse is armed, it ended as the machine says
pub plan-exact : (s : PlantState) → ReadsPass s → (w u : World) (p : Plan) (a : Said) → PlanEnds (armed_in s) w p u a → Carries w p u a
plan-exact s pass w u p a e = carries w p (e.middle, e.refusal) u a (exact s e.middle e.refusal (begun w p) p.entries pass e.ends) (sym e.world) (sym e.answers)

-- nothing is told as it begins, and nothing follows a stop
abbrev pub IsPlain : Plan → Type 0
IsPlain p = (p.told ≡ []) × (p.follows ≡ none_follow)

finish-tells : (p : Plan) (n : ℕ) (w : World) (r : Option Refusal) → IsPlain p → (finish p n w r).events ≡ w.events
finish-tells p n w None plain = refl
finish-tells p n w (Some r) plain = ap (λ (v : World). v.events) (ap (λ (f : ℕ → List Entry). follow w r (f n)) plain.1 ∙ sym (follow-nothing w r))

pub told-by : (s : PlantState) (h : Tables) → ReadsPass s → (w u : World) (p : Plan) (a : Said) → IsPlain p → PlanEnds (armed_in s) w p u a → IsTold h w.events → IsTold h u.events
told-by s h pass w u p a plain e told =
    subst (IsTold h) (sym (ap (λ (v : World). v.events) e.world ∙ finish-tells p (stop_place w p) e.middle e.refusal plain))
    (told-through h (begun w p) e.middle p.entries e.refusal (exact s e.middle e.refusal (begun w p) p.entries pass e.ends)
    (subst (IsTold h) (sym (ap (λ es. w.events ++ es) plain.0 ∙ append-nil w.events)) told))

plain-done : (s server : ℕ) (reply : Bool) (ms : List Member) (o : Option phases.Order) → IsPlain (exchange_done s server reply ms o)
plain-done s server reply ms None = (refl, refl)
plain-done s server reply ms (Some o) = (refl, refl)

pub plain-unless : (o : Option Refusal) (p : Plan) → IsPlain p → IsPlain (unless o p)
plain-unless None p plain = plain
plain-unless (Some r) p plain = (refl, refl)

plain-exchange : (k : Control) (s : ℕ) (m : Option Mirror) (server : ℕ) (reply : Bool) (ms : List Member) → IsPlain (exchange_on k s m server reply ms)
plain-exchange k s None server reply ms = (refl, refl)
plain-exchange k s (Some r) server reply ms = plain-unless (exchange_refusal k r server ms) _ (plain-done s server reply (members_on server ms) (order_of r server))

-- ---- the line

pub some-defined : (b : Bool) (o : Option Session) → b ≡ true → (IsTrue b ↔ IsSome o) → (x : Session) × (o ≡ Some x)
some-defined b None is iff = absurd (let some = iff.0 is in cc)
some-defined b (Some x) is iff = (x, refl)

-- what comes of a session's exchange with a server
abbrev pub exchange_for : Control → ℕ → Bool → Session → ℕ → Plan
exchange_for k n reply x server = exchange_on k n x.mirror server reply x.members

pub exchange-goes : (s : PlantState) (t : ConfigTable) (h : Tables) (ev : List Event) (line n : ℕ) (name : Name) (reply : Bool) (x : Session) → session_in h.sessions.sessions n ≡ Some x
    → (bytes : List ℕ) → bytes ≡ name_bytes name → (server : ℕ) (u : World) (a : Said) → server_named t bytes ≡ Some server
    → (let w : World = here s t h ev in Carries w (asking w.control n server reply) u a → after_plan w line (exchange_plan w.control n name reply) ≡ said u line a)
exchange-goes s t h ev line n name reply x there bytes named server u a some carried =
    let w = here s t h ev in let k = w.control in
    named-goes s t h ev line n name (exchange_for k n reply) x there bytes named server (said u line a) some
    (ap (λ o. after_plan w line (exchange_on k n (mirror_in o) server reply (members_in o))) (sym there) ∙ carries-plan w (asking k n server reply) u a carried line)

-- what is ready stays so
pub exchange-ready : (s u : PlantState) (t : ConfigTable) (h h' : Tables) (ev mid : List Event) (n server : ℕ) (reply : Bool) (m : Option Mirror) (ms : List Member) (a : Said)
    → PlanEnds (armed_in s) (here s t h ev) (exchange_on (here s t h ev).control n m server reply ms) (here u t h' mid) a
    → IsAtRest u t → ((q : ℕ) → s.read_fuse q ≡ None → u.read_fuse q ≡ None) → IsReady s t h ev → IsReady u t h mid
exchange-ready s u t h h' ev mid n server reply m ms a ends rest unarmed ready =
    ready-after t s u h mid ready.reads rest unarmed
    (told-by s h ready.reads (here s t h ev) (here u t h' mid) (exchange_on (here s t h ev).control n m server reply ms) a (plain-exchange (here s t h ev).control n m server reply ms) ends ready.told)

-- an order that is carried out begins no epoch
pub heard-epochs : (n server epoch : ℕ) (work : phases.Work) (f : Flight) → (heard n server epoch work f).epoch ≡ f.epoch
heard-epochs n server epoch phases.Report f = refl
heard-epochs n server epoch work f = refl

-- the messages in flight hear of it, with the session's epoch
pub heard-ends : (s u : PlantState) (t : ConfigTable) (h : Tables) (ev mid : List Event) (ys : SessionTable) (f : KeptFlight) (server epoch : ℕ) (work : phases.Work) (p : Plan) (n : ℕ)
    → epoch ≡ (flight_in h.flight).epoch n → flight_in f ≡ heard n server epoch work (flight_in h.flight)
    → (let r : Rest = with_flight (heard n server ((flight_in h.flight).epoch n) work (flight_in h.flight)) (with_sessions ys.sessions (rest_of h ev)) in
    PlanEnds (armed_in s) (here s t h ev) p (world_seen u t r mid) (says_phase n (world_seen u t r mid).control))
    → (let v : World = here u t (record h { sessions = ys; flight = f }) mid in PlanEnds (armed_in s) (here s t h ev) p v (says_phase n v.control))
heard-ends s u t h ev mid ys f server epoch work p n of_session flies ends =
    subst (λ (g : Flight). let r : Rest = with_flight g (with_sessions ys.sessions (rest_of h ev)) in PlanEnds (armed_in s) (here s t h ev) p (world_seen u t r mid) (says_phase n (world_seen u t r mid).control))
    (sym (flies ∙ ap (λ e. heard n server e work (flight_in h.flight)) of_session)) ends

-- ---- what an exchange needs

-- the reports to a master, by what is seen of it
pub few-reports : {A : Type 0} (f : A → phases.Master) (o : Option A) (m : Option Mirror) → option_map f o ≡ option_map (λ (r : Mirror). r.master) m → IfSome o (λ a. length (f a).reports ≤ 64) → IfSome m (λ r. length r.master.reports ≤ 64)
few-reports f None None e h = tt
few-reports f None (Some r) e h = absurd cc
few-reports f (Some a) None e h = absurd cc
few-reports f (Some a) (Some r) e h = subst (λ (o : Option phases.Master). IfSome o (λ m. length m.reports ≤ 64)) e h

-- entries that lead on were carried out
leads-carry : (w v : World) (es : List Entry) → Leads w es v → carry w es ≡ (v, None)
leads-carry w v es leads =
    ap (carry w) (sym (append-nil es))
    ∙ ends-exact (λ q. false) (λ q e. absurd cc) v None w (es ++ []) (leads (λ q. false) v None [] (ends-none (λ q. false) v None v (record { world = refl; refusal = refl })))

pub may-order : (work : phases.Work) (ss : List Session) (n number : ℕ) → MayBegin ss n number → MayOrder work ss n number
may-order phases.Hold ss n number may = may
may-order phases.Release ss n number may = tt
may-order phases.Seal ss n number may = tt
may-order phases.Flash ss n number may = tt
may-order phases.Commit ss n number may = tt
may-order phases.Revert ss n number may = tt
may-order phases.Finish ss n number may = tt
may-order phases.Report ss n number may = tt

-- what a reply reports has its place
pub has-place : (reports most : ℕ) (y : phases.Reply) → ((xs : List Shown) → y ≡ phases.Reported xs → reports + length xs ≤ most) → reports ≤ 64 → most ≤ 64 → reports + members_in_reply y ≤ 64
has-place reports most (phases.Reported xs) room few all = let fit = room xs refl in omega (arith, fit, all)
has-place reports most phases.Done room few all = omega (arith, few)
has-place reports most phases.NotYet room few all = omega (arith, few)

module _ (s : PlantState) (t : ConfigTable) (h : Tables) (ev : List Event) (sound : Sound (here s t h ev)) (n : ℕ) where
  abbrev ss : List Session
  ss = h.sessions.sessions

  fits : (x : Session) → session_in ss n ≡ Some x → SessionFits (here s t h ev).control x
  fits x there = sound.groups.each x (session-found ss n x there).0

  pub members-ready : AreReady s t (members_in (session_in ss n))
  members-ready = by (session_in ss n) refl
    where
      by : (o : Option Session) → session_in ss n ≡ o → AreReady s t (members_in o)
      by None none i m at = absurd (in-at [] i m at)
      by (Some x) there i m at =
          let stands = (fits x there).stands m (in-at x.members i m at) in
          record {
            primary = placed-here s t h ev m.a.0 stands.a;
            secondary = placed-here s t h ev m.b.0 stands.b;
            target = placed-here s t h ev m.c.0 stands.c;
            server = sym stands.server;
            together = stands.target_server;
          }

  -- what revertible targets held before isn't blank
  pub aside-fits : AsideFits s t
  aside-fits = record { aside = λ v is. (sound.rows.structure.reverts v is).apart }

  -- a session has no more members than there are volumes
  pub few-members : length t.volumes ≤ 64 → length (members_in (session_in ss n)) ≤ 64
  few-members few = by (session_in ss n) refl
    where
      by : (o : Option Session) → session_in ss n ≡ o → length (members_in o) ≤ 64
      by None none = omega arith
      by (Some x) there =
          let all : length x.members ≤ length (ids_of t.volumes) = members-few (here s t h ev).control n x sound.groups there in
          let volumes : length (ids_of t.volumes) ≡ length t.volumes = length-map t.volumes _ in
          omega (arith, few, all, volumes)

  -- the master runs on a server that is defined, in a phase
  pub master-near : IfSome (mirror_in (session_in ss n)) (IsNear (length t.names))
  master-near = by (session_in ss n) refl
    where
      of : (x : Session) → session_in ss n ≡ Some x → (m : Option Mirror) → x.mirror ≡ m → IfSome m (IsNear (length t.names))
      of x there None none = tt
      of x there (Some r) is =
          let runs = (fits x there).runs r is in
          let few : length t.names ≤ 8 = sound.housed.0 in
          let known : r.server < length t.names = subst (λ q. q < length t.names) runs.server (sound.housed.1 runs.volume runs.defined) in
          record { low = omega (arith, few, known); known = known; in_phase = runs.in_phase }

      by : (o : Option Session) → session_in ss n ≡ o → IfSome (mirror_in o) (IsNear (length t.names))
      by None none = tt
      by (Some x) there = of x there x.mirror refl

  -- the order may come, and the master awaits the reply
  module _ (few_volumes : length t.volumes ≤ 64) (reports : IfSome (mirror_in (session_in ss n)) (λ r. length r.master.reports ≤ 64)) (server : ℕ) (o : phases.Order) where
    abbrev ws : World
    ws = here s t h ev

    module _ (free : refusal_in ws.control (mirror_in (session_in ss n)) server (members_in (session_in ss n)) ≡ None) (order : order_in (mirror_in (session_in ss n)) server ≡ Some o)
        (x : Session) (there : session_in ss n ≡ Some x) (r : Mirror) (has : x.mirror ≡ Some r) where
      allowed : exchange_refusal ws.control r server x.members ≡ None
      allowed = sym (ap (λ q. refusal_in ws.control (mirror_in q) server (members_in q)) there ∙ ap (λ m. refusal_in ws.control m server x.members) has) ∙ free

      ordered : order_of r server ≡ Some o
      ordered = sym (ap (λ q. order_in (mirror_in q) server) there ∙ ap (λ m. order_in m server) has) ∙ order

      few : length r.master.reports ≤ 64
      few = if-some (λ (r : Mirror). length r.master.reports ≤ 64) (mirror_in (session_in ss n)) r (ap mirror_in there ∙ has) reports

      begins : MayBegin ss n o.number
      begins = record {
        free = exchange-begins ws sound n server x r o there has allowed ordered;
        next = subst (λ q. o.number ≤ unwrap_or (option_map (λ (x : Session). x.last) q) 0 + 1) (sym there) (exchange-next ws sound n server x r o there has allowed ordered);
      }

      awaited : (v : World) → Leads ws (order_entries o.work n o.number (members_on server x.members)) v → is_awaited (mirror_in (session_in v.control.sessions n)) server (reply_after n o.work (members_on server x.members) v.control) ≡ true
      awaited v leads =
          let y = reply_after n o.work (members_on server x.members) v.control in
          let a = exchange-awaits ws sound n server x r o there has allowed ordered v (leads-carry ws v _ leads) in
          let less : length a.mirror.master.reports ≤ length r.master.reports = a.reports in
          let most : length r.master.reports ≤ 64 = few in
          let all : length x.members ≤ 64 = subst (λ q. length (members_in q) ≤ 64) there (few-members few_volumes) in
          let low : length a.mirror.master.reports + members_in_reply y ≤ 64 = has-place (length a.mirror.master.reports) (length x.members) y a.room (omega (arith, less, most)) all in
          ap (λ q. is_awaited (mirror_in q) server y) a.found ∙ ap (λ m. is_awaited m server y) a.has_master
          ∙ and_from (phases.awaits a.mirror.master server y) (nat_le (length a.mirror.master.reports + members_in_reply y) 64) a.awaits (grind (arith, nat_tests, low))

      exchanges : MayExchange ws n server o
      exchanges = record {
        may = may-order o.work ss n o.number begins;
        awaited = subst (λ q. (v : World) → Leads ws (order_entries o.work n o.number (members_on server (members_in q))) v → is_awaited (mirror_in (session_in v.control.sessions n)) server (reply_after n o.work (members_on server (members_in q)) v.control) ≡ true) (sym there) awaited;
      }

    pub may-exchange : refusal_in ws.control (mirror_in (session_in ss n)) server (members_in (session_in ss n)) ≡ None → order_in (mirror_in (session_in ss n)) server ≡ Some o → MayExchange ws n server o
    may-exchange free order = by (session_in ss n) refl
      where
        of : (x : Session) → session_in ss n ≡ Some x → (m : Option Mirror) → x.mirror ≡ m → MayExchange ws n server o
        of x there None none = absurd (let no = sym (ap (λ q. order_in (mirror_in q) server) there ∙ ap (λ m. order_in m server) none) ∙ order in cc)
        of x there (Some r) has = exchanges free order x there r has

        by : (q : Option Session) → session_in ss n ≡ q → MayExchange ws n server o
        by None none = absurd (let no = sym (ap (λ q. order_in (mirror_in q) server) none) ∙ order in cc)
        by (Some x) there = of x there x.mirror refl
