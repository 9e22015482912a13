-- What a line on a control message comes to.
use Rattle.std.proofs.Common.{ℕ, ◌≡◌, List, [], ap, sym, ◌∙◌, Option, Some, None}
use Rattle.std.proofs.lemmas.List.{append-nil}
use Rattle.std.proofs.lemmas.Option.{same_Some}
use Rattle.dr_ids.specs.declared.refusal.Refusal.{Refusal}
use Rattle.dr_ids.specs.declared.refusal.Kind.TheVariants.{Message as OfMessage}
use Rattle.dr_plant.specs.State.{PlantState}
use Rattle.dr_config.specs.Table.{ConfigTable}
use Rattle.dr_ctl.specs.Kept.{KeptFlight, flight_in, lose_refusal}
use Rattle.dr_model.specs.declared.event.Event.{Event}
use Rattle.dr_model.specs.declared.said.Addition.TheVariants.{Alone}
use Rattle.dr_model.specs.declared.said.Said.TheVariants.{Done, Refused}
use Rattle.dr_model.specs.Control.{Control, World}
use Rattle.dr_model.specs.Messages.{Message, message_in, lost}
use Rattle.dr_model.specs.MessagePlans.{with_flight, on_message, lose_plan}
use Rattle.dr_model.specs.PlanParts.{Plan, tables_plan}
use Rattle.dr_model.specs.Refusals.{unknown}
use Rattle.dr_model.specs.Runs.{after_plan, said}
use Rattle.dr_model.proofs.CarryLemmas.{plan-refuses, plan-tables}
use Rattle.dr_steps.specs.Here.{here}
use Rattle.dr_steps.specs.declared.tables.Tables.{Tables}

module _ (s : PlantState) (t : ConfigTable) (h : Tables) (ev : List Event) (line n : ℕ) (f : KeptFlight) where
  abbrev w : World
  w = here s t h ev

  abbrev k : Control
  k = w.control

  abbrev found : Option Message
  found = message_in (flight_in h.flight) n

  abbrev plan_for : Option Message → Plan
  plan_for o = on_message o (λ m. tables_plan (with_flight (lost n)) [] (Done Alone))

  -- a message that is lost
  pub lose-done : None ≡ lose_refusal found → flight_in f ≡ lost n (flight_in h.flight) → after_plan w line (lose_plan k n) ≡ said (here s t (record h { flight = f }) ev) line (Done Alone)
  lose-done free is = by found free
    where
      by : (o : Option Message) → None ≡ lose_refusal o → after_plan w line (plan_for o) ≡ said (here s t (record h { flight = f }) ev) line (Done Alone)
      by None free = absurd cc
      by (Some m) free =
          plan-tables w line (with_flight (lost n)) [] (Done Alone)
          ∙ ap (λ es. said (record w { control = with_flight (lost n) k; events = es }) line (Done Alone)) (append-nil ev)
          ∙ (λ i. said (record w { control = record k { flight = sym is i } }) line (Done Alone))

  -- and one that isn't there
  pub lose-refused : (r : Refusal) → Some r ≡ lose_refusal found → f ≡ h.flight → after_plan w line (lose_plan k n) ≡ said (here s t (record h { flight = f }) ev) line (Refused r)
  lose-refused r why same = by found why ∙ (λ i. said (here s t (record h { flight = sym same i }) ev) line (Refused r))
    where
      by : (o : Option Message) → Some r ≡ lose_refusal o → after_plan w line (plan_for o) ≡ said w line (Refused r)
      by None why = plan-refuses w line (unknown OfMessage) ∙ ap (λ q. said w line (Refused q)) (sym (same_Some r (unknown OfMessage) why))
      by (Some m) why = absurd cc
