-- A session whose master is Lost, or whose primary servers have all reported: what acts, and plans of them, keep of it.
use Rattle.std.proofs.Common.{ℕ, ◌≡◌, ◌≢◌, ◌⊎◌, inl, inr, refl, ap, sym, ◌∙◌, Bool, true, false, nat_eq, nat_lt, List, [], Option, Some, None, option_map, unwrap_or, Result, Ok}
use Rattle.std.proofs.lemmas.Bool.Decides.{eqb_tells}
use Rattle.dr_logic.proofs.Truth.{false_true}
use Rattle.dr_ids.specs.declared.names.Member.{Member}
use Rattle.dr_ids.specs.declared.refusal.PhaseName.{PhaseName}
use Rattle.dr_ids.specs.declared.refusal.Refusal.{Refusal}
use Rattle.dr_ids.specs.declared.refusal.Refusal.TheVariants.{Stopped as StoppedIn}
use Rattle.dr_model.specs.declared.event.Event.{Event}
use Rattle.dr_model.specs.declared.said.Said.{Said}
use Rattle.dr_model.specs.declared.step.Step.{Step}
use Rattle.dr_model.specs.declared.step.Step.TheVariants.{Exchange, Deliver}
use Rattle.dr_model.specs.Phases as phases
use Rattle.dr_model.specs.Sessions.{Session, Mirror, session_in, changed, begun as begun_in, with_master}
use Rattle.dr_model.specs.Messages.{Flight, Message, Asks, Replies, message_in}
use Rattle.dr_model.specs.Messages as messages
use Rattle.dr_model.specs.Control.{Control, Fuse, World}
use Rattle.dr_model.specs.Carry.{Act, Make, OpenAttempt, act, carry, Entry}
use Rattle.dr_model.specs.Carried.{begun, finish, stop_place, carried_out}
use Rattle.dr_model.specs.PlanParts.{Plan, same, none_follow}
use Rattle.dr_model.specs.SessionPlans.{exchanged}
use Rattle.dr_model.specs.SessionEntries.{last_of, order_entries, reply_after}
use Rattle.dr_facts.proofs.Entries.{any_world, any_reason, why-any, AllFine, fine-none, carry-kept, plan-kept, plan-from}
use Rattle.dr_facts.proofs.SharedEntries.{order-fine}
use Rattle.dr_facts.proofs.Reasons.{NoStop}
use Rattle.dr_laws_sound.proofs.Turns.{act-cases, Counts, after_act}
use Rattle.dr_laws_sound.proofs.Does.{IsOrder, Exchanged, Delivered, Does, OrdersAttempt, Acts, Late}
use Rattle.dr_laws_sound.proofs.DoesPlans.{Entered}
use Rattle.dr_laws_orders.proofs.FlightGoesOn.{act-leaves, any_act, any-fine, goes-heard}
use Rattle.dr_laws_orders.proofs.Heard.{Rises, Reached, HeardBut, IsLost, IsNone, rises-same, reached-on, changed-else, heard-flight, heard-one}

-- ---- plans

-- the steps that carry out an order
abbrev pub orders : Result Step ℕ → Bool
orders (Ok (Exchange i name reply)) = true
orders (Ok (Deliver n)) = true
orders asked = false

no-order : (k : Control) (asked : Result Step ℕ) (i : ℕ) (m : Member) → IsOrder k asked i m → orders asked ≡ false → ⊥
no-order k _ _ _ (Exchanged i m here) e = cc
no-order k _ _ _ (Delivered n q m there here) e = cc

-- a plan that changes tables, and does nothing else
abbrev pub tables : (Control → Control) → List Event → (Control → Said) → Plan
tables first told says = record { first = first; told = told; entries = []; follows = none_follow; last = same; says = says }

-- one that carries out an order
abbrev pub ordering : List Entry → (Control → Control) → (Control → Said) → Plan
ordering entries last says = record { first = same; told = []; entries = entries; follows = none_follow; last = last; says = says }

-- however its entries end
finished : (P : World → Type 0) (entries : List Entry) (last : Control → Control) (says : Control → Said) (n : ℕ) (v : World) (r : Option Refusal) → P v → P (record v { control = last v.control }) → P (finish (ordering entries last says) n v r)
finished P entries last says n v None stops ends = ends
finished P entries last says n v (Some (StoppedIn q)) stops ends = stops
finished P entries last says n v (Some r) stops ends = stops

-- ---- acts

module _ (s : ℕ) where
  -- a world in which the session is so
  abbrev pub Holds : World → Type 0
  Holds w = HeardBut IsLost s w.control.flight w.control.sessions

  -- in which it is so, and its master isn't Lost
  abbrev pub Reports : World → Type 0
  Reports w = HeardBut IsNone s w.control.flight w.control.sessions

  -- an act that begins no attempt of the session
  abbrev pub Apart : World → Act → Type 0
  Apart w (OpenAttempt v i n) = i ≡ s → ⊥
  Apart w a = Unit {0}

  done-holds : (w : World) (a : Act) (f : Option Fuse) → Apart w a → Holds w → Holds (after_act w a f)
  done-holds w (Make m) f apart h = h
  done-holds w (OpenAttempt v i n) f apart h = heard-one IsLost s i w.control.flight w.control.flight w.control.sessions begun_in (λ x. refl) (λ ne. rises-same s w.control.flight) h (λ e. absurd (apart e))
  done-holds w a f apart h = h

  counts-holds : (w : World) (a : Act) → Apart w a → Holds w → Counts w a (λ t. Holds t.0)
  counts-holds w (Make m) apart h = λ f. h
  counts-holds w (OpenAttempt v i n) apart h = λ f. heard-one IsLost s i w.control.flight w.control.flight w.control.sessions begun_in (λ x. refl) (λ ne. rises-same s w.control.flight) h (λ e. absurd (apart e))
  counts-holds w a apart h = tt

  pub act-holds : (w : World) (a : Act) → Apart w a → Holds w → Holds (act w a).0
  act-holds w a apart h = act-cases w a (λ t. Holds t.0) (λ d off. h) (λ f. done-holds w a f apart h) (counts-holds w a apart h) (λ d f. h)

  -- any act, while the master isn't Lost
  begun-reports : (f : Flight) (i : ℕ) (ss : List Session) → HeardBut IsNone s f ss → HeardBut IsNone s f (changed i begun_in ss)
  begun-reports f i ss h = heard-one IsNone s i f f ss begun_in (λ x. refl) (λ ne. rises-same s f) h (λ e. record {
    members = refl;
    mirror = record h.mirror { master = phases.begun h.mirror.master };
    has_master = ap (option_map (λ (r : Mirror). record r { master = phases.begun r.master })) h.has_master;
    heard = inr (reported h.heard);
  })
    where
      reported : IsNone h.mirror.master.phase ⊎ Reached s f h.session.members → Reached s f h.session.members
      reported (inl none) = absurd none
      reported (inr reached) = reached

  done-reports : (w : World) (a : Act) (f : Option Fuse) → Reports w → Reports (after_act w a f)
  done-reports w (Make m) f h = h
  done-reports w (OpenAttempt v i n) f h = begun-reports w.control.flight i w.control.sessions h
  done-reports w a f h = h

  counts-reports : (w : World) (a : Act) → Reports w → Counts w a (λ t. Reports t.0)
  counts-reports w (Make m) h = λ f. h
  counts-reports w (OpenAttempt v i n) h = λ f. begun-reports w.control.flight i w.control.sessions h
  counts-reports w a h = tt

  act-reports : (w : World) (a : Act) → Reports w → Reports (act w a).0
  act-reports w a h = act-cases w a (λ t. Reports t.0) (λ d off. h) (λ f. done-reports w a f h) (counts-reports w a h) (λ d f. h)

  -- ---- plans that are no orders

  does-apart : (k : Control) (asked : Result Step ℕ) (w : World) (a : Act) → orders asked ≡ false → Does k asked w.control a → Apart w a
  does-apart k asked w _ none (OrdersAttempt i m o n) = absurd (no-order k asked i m o none)
  does-apart k asked w _ none d = tt

  -- what it changes in the tables keeps it
  pub record Keeps (k : Control) (p : Plan) : Type 0 where
    pub first : HeardBut IsLost s k.flight k.sessions → HeardBut IsLost s (p.first k).flight (p.first k).sessions
    pub last : (j : Control) → HeardBut IsLost s j.flight j.sessions → HeardBut IsLost s (p.last j).flight (p.last j).sessions

  pub plan-holds : (w : World) (asked : Result Step ℕ) (p : Plan) → orders asked ≡ false → Entered w asked p → Keeps w.control p → Holds w → Holds (carried_out w p).0
  plan-holds w asked p none entered keeps h = plan-from any_world (Acts w.control asked) NoStop (Late asked) Holds (λ v i. tt) (λ v a d i. act-holds v a (does-apart w.control asked v a none d) i) w p
      (keeps.first h) entered.entries entered.follows (λ v i. keeps.last v.control i)

  pub table-holds : (w : World) (first : Control → Control) (told : List Event) (says : Control → Said) → HeardBut IsLost s (first w.control).flight (first w.control).sessions → Holds (carried_out w (tables first told says)).0
  table-holds w first told says h = plan-kept any_world Apart any_reason Holds (λ v i. tt) act-holds w (tables first told says) h (fine-none any_world Apart any_reason) (λ n. tt) (λ v i. i)

  -- ---- orders

  -- the session is that one
  abbrev pub Found : Session → World → Type 0
  Found x w = session_in w.control.sessions s ≡ Some x

  begun-found : (x : Session) (i : ℕ) (ss : List Session) → (i ≡ s → ⊥) → session_in ss s ≡ Some x → session_in (changed i begun_in ss) s ≡ Some x
  begun-found x i ss apart h = by (eqb_tells i s)
    where
      by : ((nat_eq i s ≡ true) × (i ≡ s)) ⊎ ((nat_eq i s ≡ false) × (i ≢ s)) → session_in (changed i begun_in ss) s ≡ Some x
      by (inl e) = absurd (apart e.1)
      by (inr e) = changed-else s i begun_in ss (λ x. refl) e.0 ∙ h

  done-found : (x : Session) (w : World) (a : Act) (f : Option Fuse) → Apart w a → Found x w → Found x (after_act w a f)
  done-found x w (Make m) f apart h = h
  done-found x w (OpenAttempt v i n) f apart h = begun-found x i w.control.sessions apart h
  done-found x w a f apart h = h

  counts-found : (x : Session) (w : World) (a : Act) → Apart w a → Found x w → Counts w a (λ t. Found x t.0)
  counts-found x w (Make m) apart h = λ f. h
  counts-found x w (OpenAttempt v i n) apart h = λ f. begun-found x i w.control.sessions apart h
  counts-found x w a apart h = tt

  act-found : (x : Session) (w : World) (a : Act) → Apart w a → Found x w → Found x (act w a).0
  act-found x w a apart h = act-cases w a (λ t. Found x t.0) (λ d off. h) (λ f. done-found x w a f apart h) (counts-found x w a apart h) (λ d f. h)

  -- an order of an attempt that has begun begins none
  order-apart : (x : Session) (work : phases.Work) (i n : ℕ) (ms : List Member) → (i ≡ s → nat_lt x.last n ≡ false) → AllFine (Found x) Apart any_reason (order_entries work i n ms)
  order-apart x work i n ms older = order-fine (Found x) Apart any_reason work i n ms
      (λ m here. record {
        hold = λ w h. tt;
        open_attempt = λ w h newer e. false_true (older e) (sym ((λ j. nat_lt (last_of w.control (e j)) n) ∙ ap (λ o. nat_lt (unwrap_or (option_map (λ (x : Session). x.last) o) 0) n) h) ∙ newer);
        free = λ w h. tt;
        seal = λ w h. tt;
        finish = λ w h. tt;
        flash = λ w h. tt;
        commit = λ w h. tt;
        revert = λ w h. tt;
        raise = λ w h. tt;
      })
      (λ m. record {
        hold = λ k. why-any _;
        stale = λ k. why-any _;
        void = λ k. why-any _;
        seal = λ k. why-any _;
        send = λ k. why-any _;
        flash = λ k. why-any _;
        commit = λ k. why-any _;
        reach = λ k. why-any _;
      })

  pub reports-holds : (f : Flight) (ss : List Session) → HeardBut IsNone s f ss → HeardBut IsLost s f ss
  reports-holds f ss h = record { session = h.session; found = h.found; mirror = h.mirror; has_master = h.has_master; heard = by h.heard }
    where
      by : IsNone h.mirror.master.phase ⊎ Reached s f h.session.members → IsLost h.mirror.master.phase ⊎ Reached s f h.session.members
      by (inl none) = absurd none
      by (inr reached) = inr reached

  module _ (w : World) (work : phases.Work) (i n : ℕ) (ms : List Member) (last : Control → Control) (says : Control → Said) where
    abbrev pub p : Plan
    p = ordering (order_entries work i n ms) last says

    abbrev pub v : World
    v = (carry (begun w p) p.entries).0

    flown : v.control.flight ≡ w.control.flight
    flown = carry-kept any_world any_act any_reason (λ u. u.control.flight ≡ w.control.flight) (λ u i. tt) (λ u a d e. act-leaves u a ∙ e) p.entries (any-fine p.entries) (begun w p) refl

    ends-so : Holds v → Holds (record v { control = last v.control }) → Holds (carried_out w p).0
    ends-so = finished Holds p.entries last says (stop_place w p) v (carry (begun w p) p.entries).1

    order-reports : Reports w → ((u : World) → Reports u → Holds (record u { control = last u.control })) → Holds (carried_out w p).0
    order-reports h ends =
        let r : Reports v = carry-kept any_world any_act any_reason Reports (λ u i. tt) (λ u a d j. act-reports u a j) p.entries (any-fine p.entries) (begun w p) h in
        ends-so (reports-holds v.control.flight v.control.sessions r) (ends v r)

    order-lost : (h : Holds w) → IsLost h.mirror.master.phase → (i ≡ s → nat_lt h.session.last n ≡ false)
        → ((u : World) → u.control.flight ≡ w.control.flight → Found h.session u → Holds (record u { control = last u.control })) → Holds (carried_out w p).0
    order-lost h lost older ends =
        let found : Found h.session v = carry-kept (Found h.session) Apart any_reason (Found h.session) (λ u j. j) (act-found h.session) p.entries (order-apart h.session work i n ms older) (begun w p) h.found in
        ends-so (record { session = h.session; found = found; mirror = h.mirror; has_master = h.has_master; heard = inl lost }) (ends v flown found)

    -- whichever it is
    pub order-holds : (h : Holds w) → (IsLost h.mirror.master.phase → (i ≡ s → nat_lt h.session.last n ≡ false)) → ((u : World) → Reports u → Holds (record u { control = last u.control }))
        → (IsLost h.mirror.master.phase → (u : World) → u.control.flight ≡ w.control.flight → Found h.session u → Holds (record u { control = last u.control })) → Holds (carried_out w p).0
    order-holds h older reports loses = by h.heard
      where
        by : IsLost h.mirror.master.phase ⊎ Reached s w.control.flight h.session.members → Holds (carried_out w p).0
        by (inl lost) = order-lost h lost (older lost) (loses lost)
        by (inr reached) = order-reports (record { session = h.session; found = h.found; mirror = h.mirror; has_master = h.has_master; heard = inr reached }) reports

  -- ---- what its end changes

  pub rises-heard : (i server e : ℕ) (work : phases.Work) (f : Flight) → Rises s f (messages.heard i server e work f)
  rises-heard i server e phases.Report f = record { epoch = refl; fences = λ x. (goes-heard i server e phases.Report f).fences s x }
  rises-heard i server e work f = rises-same s f

  -- a server replies to a message
  pub replies : (m : Message) (reply : phases.Reply) (f : Flight) (ss : List Session) → HeardBut IsLost s f ss → HeardBut IsLost s (messages.answered m reply (messages.heard m.session m.server m.epoch m.order.work f)) ss
  replies m reply f ss h =
      let rises : Rises s f (messages.heard m.session m.server m.epoch m.order.work f) = rises-heard m.session m.server m.epoch m.order.work f in
      heard-flight IsLost s f (messages.answered m reply (messages.heard m.session m.server m.epoch m.order.work f)) ss (record { epoch = rises.epoch; fences = rises.fences }) h

  -- a master takes a reply in an exchange
  module _ (Out : PhaseName → Type 0) (i server : ℕ) (work : phases.Work) (ms : List Member) (j : Control) where
    abbrev pub g : Flight
    g = messages.heard i server (j.flight.epoch i) work j.flight

    abbrev pub answer : phases.Reply
    answer = reply_after i work ms j

    pub exchanged-heard : (reply : Bool) (h : HeardBut Out s j.flight j.sessions) → (i ≡ s → Out (phases.taken h.mirror.master server answer).phase ⊎ Reached s g h.session.members) → HeardBut Out s (exchanged i server reply work ms j).flight (exchanged i server reply work ms j).sessions
    exchanged-heard true h next = heard-one Out s i j.flight g j.sessions (with_master (λ m. phases.taken m server answer)) (λ x. refl) (λ ne. rises-heard i server (j.flight.epoch i) work j.flight) h (λ e. record {
      members = refl;
      mirror = record h.mirror { master = phases.taken h.mirror.master server answer };
      has_master = ap (option_map (λ (r : Mirror). record r { master = phases.taken r.master server answer })) h.has_master;
      heard = next e;
    })
    exchanged-heard false h next = heard-flight Out s j.flight g j.sessions (rises-heard i server (j.flight.epoch i) work j.flight) h

  pub exchange-reports : (i server : ℕ) (reply : Bool) (work : phases.Work) (ms : List Member) (j : Control) → HeardBut IsNone s j.flight j.sessions → HeardBut IsLost s (exchanged i server reply work ms j).flight (exchanged i server reply work ms j).sessions
  exchange-reports i server reply work ms j h =
      reports-holds (exchanged i server reply work ms j).flight (exchanged i server reply work ms j).sessions
      (exchanged-heard IsNone i server work ms j reply h (λ e. inr (reached-on s j.flight _ h.session.members (rises-heard i server (j.flight.epoch i) work j.flight) (reported h.heard))))
    where
      reported : IsNone h.mirror.master.phase ⊎ Reached s j.flight h.session.members → Reached s j.flight h.session.members
      reported (inl none) = absurd none
      reported (inr reached) = reached
