-- Seals: what a secondary that is sealed for a number holds on its device.
use Rattle.std.specs.Prelude.{◌≡◌, ◌≢◌, ◌<◌, ℕ, true, List, Some}
use Rattle.dr_model.specs.Layout.{Blocks}
use Rattle.dr_model.specs.Histories.{histories, lists}
use Rattle.dr_model.specs.Contents.{image}
use Rattle.dr_model.specs.Control.{World, is_volume}
use Rattle.dr_model.specs.Pairs.{primary_of}
use Rattle.dr_model.specs.Entries.{fields_at}
use Rattle.dr_model.specs.Cuts.{CutAt}
use Rattle.dr_model.specs.Fits.{on_device}
use Rattle.dr_model.specs.Runs.{Task, run}

-- Volume v is sealed for a number, and u is its primary: there is one place of the journal where u was cut for that number, and on
-- its device each track of v contains what the host writes make that u held there.
pub record SealedOn (w : World) (device : ℕ → Blocks) (v u : ℕ) : Type 0 where
  pub session : ℕ
  pub place : CutAt w.events session (fields_at w.control v).seal u
  pub only : (s : ℕ) (other : CutAt w.events s (fields_at w.control v).seal u) → other.before ≡ place.before
  pub tracks : (t : ℕ) → t < (w.control.volume v).tracks → on_device w.control device v t ≡ image (histories w.events).write (lists place.before u t)

-- each volume that is sealed
abbrev pub SealsOn : World → (ℕ → Blocks) → Type 0
SealsOn w device = (v u : ℕ) → is_volume w.control v ≡ true → primary_of (fields_at w.control v) ≡ Some u → (fields_at w.control v).seal ≢ 0 → SealedOn w device v u

-- where a run ends
abbrev pub SealsHoldOn : List Task → (ℕ → Blocks) → Type 0
SealsHoldOn tasks device = SealsOn (run tasks) device
