-- The plan of an exchange, from what the calls say.
use Rattle.std.proofs.Common.{ℕ, ◌≡◌, ◌≢◌, ◌+◌, Bool, true, false, cond, not, ◌&&◌, ◌||◌, ◌==◌, nat_le, List, [], ◌++◌, length, refl, sym, ◌∙◌, ap, subst, Option, None, Some}
use Rattle.std.specs.Prelude.{Result, Ok, Err, OnOk, if◌then◌else◌}
use Rattle.std.specs.List.{list_any}
use Rattle.std.specs.Option.{option_or}
use Rattle.std.specs.Result.{result_and}
use Rattle.dr_ids.specs.declared.names.Member.{Member}
use Rattle.dr_ids.specs.declared.refusal.Refusal.{Refusal}
use Rattle.dr_ids.specs.declared.refusal.Refusal.TheVariants.{Stopped as StoppedIn, OutOfOrder, NumbersSpent}
use Rattle.dr_ids.specs.declared.refusal.PhaseName.{PhaseName}
use Rattle.dr_ids.specs.declared.refusal.PhaseName.TheVariants as phase
use Rattle.dr_plant.specs.State.{PlantState}
use Rattle.dr_config.specs.Table.{ConfigTable}
use Rattle.dr_master.specs.Seen.{reply_of, count_in, work_of}
use Rattle.dr_master.specs.declared.orders.OrderKind.{OrderKind}
use Rattle.dr_master.specs.declared.reports.Reply.{Reply}
use Rattle.dr_session.specs.Seen.{expects}
use Rattle.dr_model.specs.declared.event.Event.{Event}
use Rattle.dr_model.specs.declared.said.Said.{Said}
use Rattle.dr_model.specs.declared.said.Said.TheVariants.{Refused}
use Rattle.dr_model.specs.Phases as phases
use Rattle.dr_model.specs.Sessions.{Session, Mirror, session_in, mirror_in, members_in, changed, with_master}
use Rattle.dr_model.specs.Control.{Control, World}
use Rattle.dr_model.specs.Entries.{fields_at}
use Rattle.dr_model.specs.Groups.{In}
use Rattle.dr_model.specs.Laws.{Sound}
use Rattle.dr_model.specs.Messages.{Message}
use Rattle.dr_model.specs.Pairs.{is_secondary_of}
use Rattle.dr_model.specs.Carried.{begun}
use Rattle.dr_model.specs.Carry.{Entry, follow}
use Rattle.dr_model.specs.PlanParts.{Plan, none_follow, refuses, unless}
use Rattle.dr_model.specs.ReadStops.{Ends}
use Rattle.dr_model.specs.SessionEntries.{members_on, order_entries, reply_after}
use Rattle.dr_model.specs.SessionPlans.{exchanged, exchange_done, exchange_on, exchange_refusal, phase_refusal, is_idle, order_of}
use Rattle.dr_laws_recovery.specs.TakenOver.{IsLeft}
use Rattle.dr_laws_recovery.proofs.TakenOver.{leaves-carried, leaves-delivery}
use Rattle.dr_volume.specs.View.{Rest}
use Rattle.dr_moves.specs.Here.{world_seen}
use Rattle.dr_facts.proofs.Ends.{ends-none}
use Rattle.dr_gmirror.specs.declared.looks.Look.{Look}
use Rattle.dr_gmirror.specs.Orders.{with_sessions}
use Rattle.dr_gmirror.specs.Exchange.{PlanEnds, exchange_rest, Looks, LooksAt, Delivers, members_in_reply, is_awaited}
use Rattle.dr_laws_sound.proofs.RefusedPlans.{same-begun}

-- a plan that is a refusal
pub refused-plan : (armed : ℕ → Bool) (w : World) (why : Refusal) → PlanEnds armed w (refuses why) w (Refused why)
refused-plan armed w why = record {
  middle = w;
  refusal = None;
  ends = ends-none armed w None (record w { events = w.events ++ [] }) (record { world = sym (same-begun w); refusal = refl });
  world = refl;
  answers = refl;
}

-- entries that a plan begins with
pub silent-ends : (armed : ℕ → Bool) (u w : World) (r : Option Refusal) (es : List Entry) → Ends armed u r w es → Ends armed u r (record w { events = w.events ++ [] }) es
silent-ends armed u w r es ends = subst (λ z. Ends armed u r z es) (sym (same-begun w)) ends

pub follow-nothing : (w : World) (r : Refusal) → w ≡ follow w r []
follow-nothing w (StoppedIn s) = refl
follow-nothing w _ = refl

-- the sessions and the flight after an exchange
pub last-world : (reply : Bool) (u : PlantState) (t : ConfigTable) (mid new : List Session) (r : Rest) (events : List Event) (s server : ℕ) (kind : OrderKind) (ms : List Member) (y : phases.Reply)
    → new ≡ (if reply then changed s (with_master (λ m. phases.taken m server y)) mid else mid) → y ≡ reply_after s (work_of kind) ms (world_seen u t (with_sessions mid r) events).control
    → world_seen u t (exchange_rest (Ok kind) s server new r) events ≡ record (world_seen u t (with_sessions mid r) events) { control = exchanged s server reply (work_of kind) ms (world_seen u t (with_sessions mid r) events).control }
last-world true u t mid new r events s server kind ms y is says = ap (λ z. world_seen u t (exchange_rest (Ok kind) s server z r) events) (is ∙ ap (λ a. changed s (with_master (λ m. phases.taken m server a)) mid) says)
last-world false u t mid new r events s server kind ms y is says = ap (λ z. world_seen u t (exchange_rest (Ok kind) s server z r) events) is

-- what holds where an exchange went well, whatever it gives back
pub ok-alone : {T E : Type 0} (P : Type 0) (r : Result T E) → OnOk (result_and r (Ok (tt {0}))) P → OnOk r P
ok-alone P (Ok x) h = h
ok-alone P (Err e) h = h

-- the reply is one that the master awaits
pub expected-by : (o : Option Mirror) (server : ℕ) (y : Reply) (a : phases.Reply) → reply_of y ≡ a → count_in y ≡ members_in_reply (reply_of y) → is_awaited o server a ≡ true → expects o server y ≡ true
expected-by None server y a is count h = h
expected-by (Some r) server y a is count h =
    ap (λ n. phases.awaits r.master server (reply_of y) && nat_le (length r.master.reports + n) 64) count
    ∙ ap (λ (q : phases.Reply). phases.awaits r.master server q && nat_le (length r.master.reports + members_in_reply q) 64) is
    ∙ h

-- what was looked at
pub look-none : (o : Option Mirror) (server : ℕ) → LooksAt None o server → o ≡ None
look-none None server h = refl
look-none (Some r) server h = absurd h

pub look-some : (x : Look) (o : Option Mirror) (server : ℕ) → LooksAt (Some x) o server → (r : Mirror) × (o ≡ Some r) × Looks x r server
look-some x None server h = absurd h
look-some x (Some r) server h = (r, refl, h)

-- refusals of which the first counts, however they are grouped
pub refusals-grouped : (a b c : Option Refusal) → option_or (option_or a b) c ≡ option_or a (option_or b c)
refusals-grouped None b c = refl
refusals-grouped (Some why) b c = refl

-- each phase of an attempt has its order
phase-works : (p : PhaseName) (n : ℕ) → is_idle p ≡ false → p ≢ phase.None → phases.order_if true (phases.work_in p) n ≡ None → ⊥
phase-works phase.Idle n busy in_phase none = absurd cc
phase-works phase.None n busy in_phase none = in_phase refl
phase-works phase.Coordinating n busy in_phase none = absurd cc
phase-works phase.Releasing n busy in_phase none = absurd cc
phase-works phase.Draining n busy in_phase none = absurd cc
phase-works phase.Flashing n busy in_phase none = absurd cc
phase-works phase.Committing n busy in_phase none = absurd cc
phase-works phase.Reverting n busy in_phase none = absurd cc
phase-works phase.Finishing n busy in_phase none = absurd cc
phase-works phase.Lost n busy in_phase none = absurd cc

-- so where a phase refuses nothing there is one
order-by : (p : PhaseName) (idle owes : Bool) (why : Option Refusal) (o : phases.Order) (n : ℕ) → is_idle p ≡ idle → p ≢ phase.None
    → cond idle why (cond owes None (Some (OutOfOrder p))) ≡ None → cond idle (Some o) (phases.order_if owes (phases.work_in p) n) ≡ None → ⊥
order-by p true owes why o n is in_phase free none = absurd cc
order-by p false true why o n is in_phase free none = phase-works p n is in_phase none
order-by p false false why o n is in_phase free none = absurd cc

-- and a master that has nothing to refuse has an order for the server
pub order-there : (r : Mirror) (server : ℕ) (ms : List Member) → r.master.phase ≢ phase.None → phase_refusal r server ms ≡ None → order_of r server ≡ None → ⊥
order-there r server ms in_phase free none =
    order-by r.master.phase (is_idle r.master.phase) (phases.is_among server r.master.owed)
    (cond (r.paused || not (list_any (λ (m : Member). m.server.0 == server) ms)) (Some (OutOfOrder phase.Idle)) (cond (r.master.number + 1 == 4294967296) (Some NumbersSpent) None))
    (record { work = phases.Hold; number = r.master.number + 1 }) r.master.number refl in_phase free none

-- the plan, by what refuses it and by its order
module _ (k : Control) (s server : ℕ) (reply : Bool) (ms : List Member) where
  pub plan-none : (o : Option Mirror) → o ≡ None → exchange_on k s o server reply ms ≡ refuses (OutOfOrder phase.None)
  plan-none o is = ap (λ o. exchange_on k s o server reply ms) is

  pub plan-refused : (o : Option Mirror) (r : Mirror) (why : Refusal) → o ≡ Some r → Some why ≡ exchange_refusal k r server ms → exchange_on k s o server reply ms ≡ refuses why
  plan-refused o r why is refused = ap (λ o. exchange_on k s o server reply ms) is ∙ ap (λ q. unless q (exchange_done s server reply (members_on server ms) (order_of r server))) (sym refused)

  pub plan-order : (o : Option Mirror) (r : Mirror) (order : Option phases.Order) → o ≡ Some r → None ≡ exchange_refusal k r server ms → order ≡ order_of r server → exchange_on k s o server reply ms ≡ exchange_done s server reply (members_on server ms) order
  plan-order o r order is passed ordered =
      ap (λ o. exchange_on k s o server reply ms) is ∙ ap (λ q. unless q (exchange_done s server reply (members_on server ms) (order_of r server))) (sym passed) ∙ ap (exchange_done s server reply (members_on server ms)) (sym ordered)

-- the target of a member whose secondary isn't its primary's stays as it is where an order that is delivered is carried out
pub leaves-delivered : (armed : ℕ → Bool) (w u : World) (refusal : Option Refusal) (j s server : ℕ) (o : phases.Order) (ms : List Member) (x : Session) (m : Member)
    → Sound w → Delivers w.control j s server o ms → In x w.control.sessions → In m x.members → is_secondary_of m.a.0 (fields_at w.control m.b.0) ≡ false
    → Ends armed u refusal w (order_entries o.work s o.number (members_on server ms)) → IsLeft w u m
leaves-delivered armed w u refusal j s server o ms x m sound delivers listed here apart e =
    let qs : List Member = members_on server ms in
    let d : Message = delivers.0 in
    (leaves-delivery w sound x m listed here apart j).reads armed u refusal
    (subst (λ (p : Plan). Ends armed u refusal (begun w p) p.entries) (sym delivers.3)
    (subst (λ (p : phases.Order). Ends armed u refusal (record w { events = w.events ++ [] }) (order_entries p.work d.session p.number qs)) (sym delivers.2)
    (subst (λ i. Ends armed u refusal (record w { events = w.events ++ [] }) (order_entries o.work i o.number qs)) (sym delivers.1)
    (silent-ends armed u w refusal (order_entries o.work s o.number qs) e))))

-- and where it is one that an exchange is about
pub leaves-by : (armed : ℕ → Bool) (w u : World) (s server : ℕ) (reply : Bool) (a : Said) (x : Session) (m : Member) → Sound w → In x w.control.sessions → In m x.members → is_secondary_of m.a.0 (fields_at w.control m.b.0) ≡ false
    → PlanEnds armed w (exchange_on w.control s (mirror_in (session_in w.control.sessions s)) server reply (members_in (session_in w.control.sessions s))) u a → IsLeft w u m
leaves-by armed w u s server reply a x m sound listed here apart e = subst (λ v. IsLeft w v m) (sym e.world) (leaves-carried w sound x m listed here apart s server reply armed e.middle e.refusal e.ends _)
