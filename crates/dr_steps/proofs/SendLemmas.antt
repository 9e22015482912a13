-- What a line that sends an order comes to.
use Rattle.std.proofs.Common.{ℕ, ◌≡◌, ◌+◌, List, ◌++◌, refl, sym, ap, ◌∙◌, subst, Bool, true, false, Option, Some, None}
use Rattle.std.specs.Prelude.{if◌then◌else◌}
use Rattle.std.specs.Option.{option_or}
use Rattle.std.proofs.lemmas.List.{append-nil}
use Rattle.std.proofs.lemmas.Option.{same_Some}
use Rattle.dr_ids.specs.declared.names.Member.{Member}
use Rattle.dr_ids.specs.declared.refusal.PhaseName.TheVariants as phase
use Rattle.dr_ids.specs.declared.refusal.Refusal.{Refusal}
use Rattle.dr_ids.specs.declared.refusal.Refusal.TheVariants.{OutOfOrder}
use Rattle.dr_plant.specs.State.{PlantState}
use Rattle.dr_config.specs.Table.{ConfigTable, server_named}
use Rattle.dr_ctl.specs.Kept.{KeptFlight, flight_in}
use Rattle.dr_session.specs.Kept.{SessionTable}
use Rattle.dr_metro.specs.Here as metro
use Rattle.dr_metro.proofs.ToldLemmas.{told-ready}
use Rattle.dr_model.specs.declared.event.Event.{Event}
use Rattle.dr_model.specs.declared.event.Event.TheVariants.{Begin}
use Rattle.dr_model.specs.declared.said.Addition.TheVariants.{Posted}
use Rattle.dr_model.specs.declared.said.Said.TheVariants.{Done, Refused}
use Rattle.dr_model.specs.declared.step.Name.{Name}
use Rattle.dr_model.specs.declared.step.Step.TheVariants.{Send}
use Rattle.dr_model.specs.Control.{Control, World}
use Rattle.dr_model.specs.Forming.{phase_of, refusal_said}
use Rattle.dr_model.specs.Messages.{sent}
use Rattle.dr_model.specs.MessagePlans.{full_refusal, send_refusal, send_order, send_on, sending, told_begun}
use Rattle.dr_model.specs.PlanParts.{Plan, unless, name_bytes, on_named, on_session}
use Rattle.dr_model.specs.Phases as phases
use Rattle.dr_model.specs.Runs.{after_plan, said}
use Rattle.dr_model.specs.SessionPlans.{is_idle, off_refusal, phase_refusal}
use Rattle.dr_model.specs.Sessions.{Session, Mirror, session_in, mirror_in, members_in, changed, begun}
use Rattle.dr_model.proofs.CarryLemmas.{plan-refuses, plan-ends, carry-none}
use Rattle.dr_gmirror.specs.Exchange.{asking_refusal_in, order_in}
use Rattle.dr_gmirror.proofs.ExchangeLemmas.{refusals-grouped}
use Rattle.dr_steps.specs.Here.{here}
use Rattle.dr_steps.specs.Wants.{WantsRow}
use Rattle.dr_steps.specs.declared.tables.Tables.{Tables}
use Rattle.dr_steps.proofs.StepLemmas.{plan-unless}

-- the journal is told of an attempt that begins, which tells of no write
pub begun-ready : (s : PlantState) (t : ConfigTable) (h : Tables) (ev mid : List Event) (begins : Bool) (n q : ℕ) → mid ≡ ev ++ told_begun begins n q → metro.IsReady s t h.host ev → metro.IsReady s t h.host mid
begun-ready s t h ev mid true n q told ready = told-ready s t h.host ev mid (Begin n q) (λ x. refl) told ready
begun-ready s t h ev mid false n q told ready = subst (metro.IsReady s t h.host) (sym (told ∙ append-nil ev)) ready

-- ---- the order is sent

module _ (s : PlantState) (t : ConfigTable) (h : Tables) (ev : List Event) (n server : ℕ) where
  abbrev w : World
  w = here s t h ev

  abbrev k : Control
  k = w.control

  module _ (ms : List Member) where
    -- first what its master says, then whether there is room
    refusal-is : (r : Mirror) → send_refusal k r server ms ≡ option_or (asking_refusal_in k (Some r) server ms) (full_refusal k.flight)
    refusal-is r = sym (refusals-grouped (off_refusal k r.server) (phase_refusal r server ms) (full_refusal k.flight))

    -- the master has no order for the server
    pub send-unasked : (line : ℕ) (m : Option Mirror) (why : Refusal) → Some why ≡ asking_refusal_in k m server ms → after_plan w line (send_on k n m server ms) ≡ said w line (Refused why)
    send-unasked line None why is = plan-refuses w line (OutOfOrder phase.None) ∙ ap (λ q. said w line (Refused q)) (sym (same_Some why (OutOfOrder phase.None) is))
    send-unasked line (Some r) why is =
        plan-unless w line _ (send_refusal k r server ms) why (refusal-is r ∙ ap (λ o. option_or o (full_refusal k.flight)) (sym is))

    -- there is no room for a message
    pub send-full : (line : ℕ) (m : Option Mirror) (why : Refusal) → asking_refusal_in k m server ms ≡ None → Some why ≡ full_refusal k.flight → after_plan w line (send_on k n m server ms) ≡ said w line (Refused why)
    send-full line None why free full = absurd cc
    send-full line (Some r) why free full =
        plan-unless w line _ (send_refusal k r server ms) why (refusal-is r ∙ ap (λ o. option_or o (full_refusal k.flight)) free ∙ sym full)

    module _ (m : Option Mirror) (o : phases.Order) (free : asking_refusal_in k m server ms ≡ None) (space : full_refusal k.flight ≡ None) (order : order_in m server ≡ Some o) where
      -- the plan is that of the order
      plan-is : send_on k n m server ms ≡ send_order n (is_idle (phase_of m)) server (Some o)
      plan-is = by m free order
        where
          by : (m : Option Mirror) → asking_refusal_in k m server ms ≡ None → order_in m server ≡ Some o → send_on k n m server ms ≡ send_order n (is_idle (phase_of m)) server (Some o)
          by None free order = absurd cc
          by (Some r) free order =
              ap (λ q. unless q (send_order n (is_idle r.master.phase) server (order_in (Some r) server))) (refusal-is r ∙ ap (λ q. option_or q (full_refusal k.flight)) free ∙ space)
              ∙ ap (send_order n (is_idle r.master.phase) server) order

      -- which is no refusal
      pub send-free : refusal_said ((send_on k n m server ms).says k) ≡ None
      send-free = ap (λ (p : Plan). refusal_said (p.says k)) plan-is

      -- and sends it
      pub send-done : (line : ℕ) (begins : Bool) (ys : SessionTable) (f : KeptFlight) (mid : List Event) (q : ℕ) → begins ≡ is_idle (phase_of m)
          → ys.sessions ≡ (if begins then changed n begun h.sessions.sessions else h.sessions.sessions) → flight_in f ≡ sent n server o (flight_in h.flight) → mid ≡ ev ++ told_begun begins n o.number → q ≡ (flight_in h.flight).made + 1
          → after_plan w line (send_on k n m server ms) ≡ said (here s t (record h { sessions = ys; flight = f }) mid) line (Done (Posted q))
      send-done line begins ys f mid q is sessions flies told number =
          let p : Plan = send_order n begins server (Some o) in
          ap (after_plan w line) (plan-is ∙ ap (λ b. send_order n b server (Some o)) (sym is))
          ∙ plan-ends w line p (record w { control = sending n begins server o k; events = ev ++ told_begun begins n o.number }, None) (carry-none _)
          ∙ (λ i. said (record w { control = record k { sessions = sym sessions i; flight = sym flies i }; events = sym told i }) line (Done (Posted (sym number i))))

-- ---- the line

-- what comes of it with a server
abbrev pub send_for : Control → ℕ → Session → ℕ → Plan
send_for k n x server = send_on k n x.mirror server x.members

-- as the session's look-up has it
pub send-at : (s : PlantState) (t : ConfigTable) (h : Tables) (ev : List Event) (n server : ℕ) (x : Session) → session_in h.sessions.sessions n ≡ Some x
    → (let k : Control = (here s t h ev).control in send_for k n x server ≡ send_on k n (mirror_in (session_in h.sessions.sessions n)) server (members_in (session_in h.sessions.sessions n)))
send-at s t h ev n server x there = ap (λ o. send_on (here s t h ev).control n (mirror_in o) server (members_in o)) (sym there)

-- it asks for the room of a message
pub send-wants : (s : PlantState) (t : ConfigTable) (h : Tables) (ev : List Event) (n server : ℕ) (name : Name) (x : Session) → session_in h.sessions.sessions n ≡ Some x
    → (bytes : List ℕ) → bytes ≡ name_bytes name → server_named t bytes ≡ Some server
    → (let k : Control = (here s t h ev).control in
    refusal_said ((send_on k n (mirror_in (session_in h.sessions.sessions n)) server (members_in (session_in h.sessions.sessions n))).says k) ≡ None → WantsRow (here s t h ev) (Send n name))
send-wants s t h ev n server name x there bytes named some free = record {
  row = refl;
  free = λ line.
      let k = (here s t h ev).control in
      let refusal : Plan → Option Refusal = λ p. refusal_said (p.says k) in
      ap (λ o. refusal (on_session o (λ y. on_named (server_named t (name_bytes name)) (send_for k n y)))) there
      ∙ ap (λ y. refusal (on_named (server_named t y) (send_for k n x))) (sym named)
      ∙ ap (λ o. refusal (on_named o (send_for k n x))) some
      ∙ ap refusal (send-at s t h ev n server x there) ∙ free;
}
