-- What a failback and a drain after it leave: the way home.
use Rattle.std.specs.Prelude.{◌≡◌, ◌<◌, ℕ, true, false, List, [], ◌∷◌, ◌++◌, None, Ok}
use Rattle.std.specs.FinSet.{contains}
use Rattle.dr_model.specs.declared.said.Addition.{Addition}
use Rattle.dr_model.specs.declared.said.Said.TheVariants.{Done}
use Rattle.dr_model.specs.declared.state.Part.{Part}
use Rattle.dr_model.specs.declared.step.Devs.{Devs}
use Rattle.dr_model.specs.declared.step.Step.TheVariants.{Failback, Drain}
use Rattle.dr_model.specs.Layout.{Blocks, kind_of}
use Rattle.dr_model.specs.Contents.{image_at}
use Rattle.dr_model.specs.Control.{World, is_volume}
use Rattle.dr_model.specs.Pairs.{is_primary_of, is_secondary_of, is_kind, is_metro, is_full_duplex}
use Rattle.dr_model.specs.Fits.{on_device}
use Rattle.dr_model.specs.Runs.{Task, run}
use Rattle.dr_laws_sound.specs.Acknowledged.{said_in}
use Rattle.dr_laws_recovery.specs.Decided.{record_on}

-- By the records on their devices x is the primary of y, of that kind, and y its secondary, of the same kind; x doesn't record, and has nothing
-- out of sync; and a Metro Mirror pair is Full Duplex. Each track of both devices contains the same, which is what the host writes of the
-- journal make of x's.
pub record IsReturned (w : World) (device : ℕ → Blocks) (x y : ℕ) (kind : Part) : Type 0 where
  pub defined : (is_volume w.control x ≡ true) × (is_volume w.control y ≡ true)
  pub leads : is_primary_of y (record_on w device x) ≡ true
  pub of_kind : is_kind kind (record_on w device x).primary ≡ true
  pub follows : is_secondary_of x (record_on w device y) ≡ true
  pub alike : (record_on w device y).secondary ≡ (record_on w device x).primary
  pub idle : (record_on w device x).recording ≡ false
  pub sent : (t : ℕ) → contains (record_on w device x).out_of_sync t ≡ false
  pub duplex : is_metro kind ≡ true → is_full_duplex (record_on w device x).primary_state ≡ true
  pub duplex_too : is_metro kind ≡ true → is_full_duplex (record_on w device y).secondary_state ≡ true
  pub size : (w.control.volume x).tracks ≡ (w.control.volume y).tracks
  pub equal : (t : ℕ) → t < (w.control.volume x).tracks → on_device w.control device x t ≡ on_device w.control device y t
  pub writes : (t : ℕ) → t < (w.control.volume x).tracks → on_device w.control device x t ≡ image_at w.events x t

-- If a run's last two steps are a failback of x to y and a drain of all tracks of x, and both are answered ok, whatever came before. So the
-- pair was in Copy Pending after the failback: a drain of one that is Full Duplex is refused.
abbrev pub Returns : List Task → (ℕ → Blocks) → Type 0
Returns tasks device =
    (before : List Task) (t s : Task) (devs : Devs) (x y kind : ℕ) (a b : Addition) → tasks ≡ before ++ t ∷ s ∷ [] → t.asked ≡ Ok (Failback devs x y kind) → s.asked ≡ Ok (Drain x None)
    → said_in (run before) t ≡ Done a → said_in (run (before ++ t ∷ [])) s ≡ Done b → IsReturned (run tasks) device x y (kind_of kind)

-- By the record on its device x has nothing out of sync. So where it doesn't record, and y is its secondary by the records on both devices, each
-- track of both contains the same.
pub record IsSent (w : World) (device : ℕ → Blocks) (x : ℕ) : Type 0 where
  pub sent : (t : ℕ) → contains (record_on w device x).out_of_sync t ≡ false
  pub equal : (y : ℕ) → is_volume w.control y ≡ true → (record_on w device x).recording ≡ false
      → is_primary_of y (record_on w device x) ≡ true → is_secondary_of x (record_on w device y) ≡ true
      → (t : ℕ) → t < (w.control.volume x).tracks → on_device w.control device x t ≡ on_device w.control device y t

-- so it is where a run's last step is a drain of all tracks of x that is answered ok, whatever came before
abbrev pub Sends : List Task → (ℕ → Blocks) → Type 0
Sends tasks device =
    (before : List Task) (t : Task) (x : ℕ) (a : Addition) → tasks ≡ before ++ t ∷ [] → t.asked ≡ Ok (Drain x None) → said_in (run before) t ≡ Done a
    → is_volume (run tasks).control x ≡ true → IsSent (run tasks) device x
