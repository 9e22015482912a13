-- What the host's writes are after a start and after the end of holds, and what is counted where a server stopped.
use Rattle.std.proofs.Common.{ℕ, ◌≡◌, ◌<◌, ap, ◌∙◌, List, [], ◌∷◌, ◌++◌, refl, sym, subst, Bool, true, false, cond, Option, Some, None}
use Rattle.std.proofs.lemmas.List.{append-nil}
use Rattle.dr_logic.specs.Counts.{Counted as Below, Counted}
use Rattle.dr_ids.specs.declared.names.WriteId.{WriteId}
use Rattle.dr_plant.specs.State.{PlantState}
use Rattle.dr_config.specs.Table.{ConfigTable}
use Rattle.dr_ctl.specs.Kept.{KeptFlight, flight_in}
use Rattle.dr_host.specs.Here.{here as seen_here}
use Rattle.dr_host.specs.Writes.{Writes}
use Rattle.dr_host.proofs.Each.{each-without}
use Rattle.dr_model.specs.declared.event.Event.{Event}
use Rattle.dr_model.specs.declared.event.Event.TheVariants.{Started}
use Rattle.dr_model.specs.declared.said.Addition.TheVariants.{Alone}
use Rattle.dr_model.specs.declared.said.Said.{Said}
use Rattle.dr_model.specs.declared.said.Said.TheVariants.{Done}
use Rattle.dr_model.specs.Control.{Control, World}
use Rattle.dr_model.specs.Histories.{histories}
use Rattle.dr_model.specs.Messages.{started}
use Rattle.dr_model.specs.Runs.{after_plan, said}
use Rattle.dr_model.proofs.CarryLemmas.{plan-says}
use Rattle.dr_model.specs.Plans.{Plan, only_says, start_plan, start_on, expire_plan, expire_on, refuses}
use Rattle.dr_model.specs.Refusals.{server_off}
use Rattle.dr_metro.specs.Here.{IsTold}
use Rattle.dr_metro.proofs.ToldLemmas.{IsWrite, told-push}
use Rattle.dr_volume.specs.View.{with_flight}
use Rattle.dr_volume.proofs.WorldLaws.{on-seen}
use Rattle.dr_moves.specs.Here.{armed_in}
use Rattle.dr_admin.specs.Answering.{write_number, Comes}
use Rattle.dr_admin.specs.Starting.{without_acked}
use Rattle.dr_steps.specs.Here.{here, rest_of}
use Rattle.dr_steps.specs.declared.tables.Tables.{Tables}

module _ (h : Writes) (ev : List Event) (told : IsTold h ev) where
  silent : IsTold h (ev ++ [])
  silent = subst (IsTold h) (sym (append-nil ev)) told

  -- what a start and the end of holds tell as they begin issues no write
  pub told-start : (k : Control) (server : ℕ) → IsTold h (ev ++ (start_on k server).told)
  told-start k server = elim (k.on server) as (λ b. IsTold h (ev ++ (cond b (only_says (Done Alone)) (start_plan k server)).told)) [
    | true ↦ silent
    | false ↦ told-push h ev (ev ++ Started server ∷ []) (Started server) (λ x. refl) refl told
  ]

  pub told-expire : (k : Control) (server : ℕ) → IsTold h (ev ++ (expire_on k server).told)
  told-expire k server = elim (k.on server) as (λ b. IsTold h (ev ++ (cond b (expire_plan k server) (refuses (server_off server))).told)) [ true ↦ silent | false ↦ silent ]

-- nor is one issued by the acknowledgement
told-without : (a : Option ℕ) (h h' : Writes) (ev : List Event) → h' ≡ without_acked a h → IsTold h ev → IsTold h' ev
told-without None h h' ev is told = subst (λ (x : Writes). IsTold x ev) (sym is) told
told-without (Some n) h h' ev is told = subst (λ (x : Writes). IsTold x ev) (sym is) (each-without (IsWrite (histories ev).write) n h.pending told)

pub told-acked : (a : Option WriteId) (h h' : Writes) (ev : List Event) → h' ≡ without_acked (write_number a) h → IsTold h ev → IsTold h' ev
told-acked a h h' ev is told = told-without (write_number a) h h' ev is told

-- a call of the layer below that counts a fault
pub counted-top : (b : Bool) (before now : ℕ) → Below b before now → Counted b before now
counted-top true before now rose = rose
counted-top false before now same = same

-- where the server is on nothing happens
pub started-already : (s : PlantState) (t : ConfigTable) (h : Tables) (ev : List Event) (line server : ℕ) → server < 8 → s.on server ≡ true
    → after_plan (here s t h ev) line (start_on (here s t h ev).control server) ≡ said (here s t h ev) line (Done Alone)
started-already s t h ev line server low is =
    let w : World = here s t h ev in
    ap (λ b. after_plan w line (cond b (only_says (Done Alone)) (start_plan w.control server))) (on-seen s server low ∙ is) ∙ plan-says w line (Done Alone)

-- the start is counted among the messages in flight
pub flown : (s v : PlantState) (t : ConfigTable) (h : Tables) (ev now : List Event) (host : Writes) (f : KeptFlight) (server : ℕ) (p : Plan) (a : Said) → flight_in f ≡ started server (flight_in h.flight)
    → Comes (armed_in s) (here s t h ev) p (seen_here v t (with_flight (started server (flight_in h.flight)) (rest_of h ev)) host now) a
    → Comes (armed_in s) (here s t h ev) p (here v t (record h { host = host; flight = f }) now) a
flown s v t h ev now host f server p a is came = subst (λ g. Comes (armed_in s) (here s t h ev) p (seen_here v t (with_flight g (rest_of h ev)) host now) a) (sym is) came
