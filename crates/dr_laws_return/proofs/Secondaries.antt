-- Where a Metro Mirror pair is Full Duplex by the records on both devices, the secondary's device lacks no write of the primary.
use Rattle.std.proofs.Common.{ℕ, ◌≡◌, ◌<◌, ap, sym, ◌∙◌, subst, Bool, List, Option}
use Rattle.dr_model.specs.Layout.{Blocks, Fields}
use Rattle.dr_model.specs.Control.{Fuse, World}
use Rattle.dr_model.specs.Pairs.{is_primary_of, is_secondary_of, is_metro, is_full_duplex}
use Rattle.dr_model.specs.Entries.{fields_at}
use Rattle.dr_model.specs.Fits.{Fits, on_device}
use Rattle.dr_model.specs.Runs.{Task, run}
use Rattle.dr_laws_recovery.specs.Decided.{record_on}
use Rattle.dr_laws_recovery.specs.Recovered.{HoldsTracks}
use Rattle.dr_laws_freezes.specs.Secondaries.{SecondariesLackNone}
use Rattle.dr_laws_freezes.proofs.Secondaries.{lacking-end}

pub secondaries-on : (tasks : List Task) (on : ℕ → Bool) (fuse : ℕ → Option Fuse) (device : ℕ → Blocks) → Fits (run tasks) on fuse device → HoldsTracks (run tasks) device
    → SecondariesLackNone (run tasks) (record_on (run tasks) device) (on_device (run tasks).control device)
secondaries-on tasks on fuse device fits holds v q there too leads metro duplex follows =
    let w : World = run tasks in
    let at_v : record_on w device v ≡ fields_at w.control v = (fits.volumes v there).fields in
    let at_q : record_on w device q ≡ fields_at w.control q = (fits.volumes q too).fields in
    let none = lacking-end tasks v q there too (ap (is_primary_of q) (sym at_v) ∙ leads) (ap (λ (f : Fields). is_metro f.primary) (sym at_v) ∙ metro) (ap (λ (f : Fields). is_full_duplex f.primary_state) (sym at_v) ∙ duplex) (ap (is_secondary_of v) (sym at_q) ∙ follows) in
    record { more = none.more; in_flight = none.in_flight; size = none.size; tracks = λ t lt. holds q t too (subst (λ n. t < n) none.size lt) ∙ none.tracks t lt }
