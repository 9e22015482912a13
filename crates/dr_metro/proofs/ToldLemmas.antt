-- The host's pending writes are those that the journal tells of, also after more events.
use Rattle.std.proofs.Common.{ℕ, ◌≡◌, List, [], ◌∷◌, ◌++◌, refl, ap, ◌∙◌, sym, subst, Bool, true, false, cond, Option}
use Rattle.dr_ids.specs.declared.refusal.Refusal.{Refusal}
use Rattle.dr_host.specs.Writes.{Writes, EachPending, bytes_of, without, with_marked}
use Rattle.dr_host.specs.declared.pending.Pending.{Pending}
use Rattle.dr_host.proofs.Each.{each-marked, each-without}
use Rattle.dr_model.specs.declared.event.Event.{Event}
use Rattle.dr_model.specs.declared.event.Event.TheVariants.{Ack}
use Rattle.dr_model.specs.Histories.{Write, Histories, histories, after_event}
use Rattle.dr_model.specs.Control.{World}
use Rattle.dr_model.specs.Messages.{no_flight}
use Rattle.dr_model.specs.Carry.{Entry}
use Rattle.dr_model.specs.ReadStops.{Ends}
use Rattle.dr_model.proofs.Images.{histories-push}
use Rattle.dr_facts.proofs.Issued.{unissued}
use Rattle.dr_plant.specs.State.{PlantState}
use Rattle.dr_config.specs.Table.{ConfigTable}
use Rattle.dr_volume.specs.View.{Rest}
use Rattle.dr_metro.specs.Here.{IsTold, IsReady}

-- nothing else that a run knows, where it doesn't matter
abbrev pub no_rest : Rest
no_rest = record { issued = 0; pending = []; sessions = []; flight = no_flight; events = [] }

-- a pending write is the one with that number
abbrev pub IsWrite : (ℕ → Write) → Pending → Type 0
IsWrite write p = write (p.w.0) ≡ record { volume = p.volume.0; track = p.track; offset = p.offset; bytes = bytes_of p }

-- entries that ended so issued no write
pub told-through : (armed : ℕ → Bool) (h : Writes) (w u : World) (ds : List Entry) (r : Option Refusal) → Ends armed u r w ds → IsTold h w.events → IsTold h u.events
told-through armed h w u ds r ends told =
    subst (λ write. EachPending (IsWrite write) h.pending) (sym (unissued armed u r w ds ends)) told

-- an event that issues no write
pub told-push : (h : Writes) (ev now : List Event) (e : Event) → ((x : Histories) → (after_event x e).write ≡ x.write) → now ≡ ev ++ e ∷ [] → IsTold h ev → IsTold h now
told-push h ev now e calm told is =
    subst (λ write. EachPending (IsWrite write) h.pending) (sym (ap (λ es. (histories es).write) told ∙ ap (λ (x : Histories). x.write) (histories-push ev e) ∙ calm (histories ev))) is

-- a write that is acknowledged
pub told-acked : (h h' : Writes) (ev now : List Event) (n : ℕ) → h' ≡ without h n → now ≡ ev ++ Ack n ∷ [] → IsTold h ev → IsTold h' now
told-acked h h' ev now n gone told is =
    subst (λ (x : Writes). IsTold x now) (sym gone) (each-without (IsWrite (histories now).write) n h.pending (told-push h ev now (Ack n) (λ x. refl) told is))

-- one that has landed in a stop
pub told-marked : (h h' : Writes) (ev : List Event) (n : ℕ) (landed : Bool) → h' ≡ cond landed (with_marked h n) h → IsTold h ev → IsTold h' ev
told-marked h h' ev n true is told = subst (λ x. IsTold x ev) (sym is) (each-marked (IsWrite (histories ev).write) n h.pending (λ p x. x) told)
told-marked h h' ev n false is told = subst (λ x. IsTold x ev) (sym is) told

pub told-ready : (s : PlantState) (t : ConfigTable) (h : Writes) (ev now : List Event) (e : Event) → ((x : Histories) → (after_event x e).write ≡ x.write) → now ≡ ev ++ e ∷ [] → IsReady s t h ev → IsReady s t h now
told-ready s t h ev now e calm is ready = record { rest = ready.rest; reads = ready.reads; told = told-push h ev now e calm is ready.told }
