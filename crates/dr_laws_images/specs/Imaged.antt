-- Images of a run: what each of them gives.
use Rattle.std.specs.Prelude.{◌≡◌, ◌++◌, ◌∷◌, [], ℕ, true, List, Some, Ok}
use Rattle.dr_model.specs.Layout.{Blocks}
use Rattle.dr_model.specs.Limits.{image_events}
use Rattle.dr_model.specs.Control.{World}
use Rattle.dr_model.specs.Entries.{fields_at}
use Rattle.dr_model.specs.Plans.{has_room_for}
use Rattle.dr_model.specs.Fits.{on_device}
use Rattle.dr_model.specs.PlantImage.{IsImage, image_text, reading}
use Rattle.dr_model.specs.Runs.{Task, Devices, own_course, run}
use Rattle.dr_laws_recovery.specs.Decided.{record_on}
use Rattle.dr_laws_images.specs.GivesBack.{GivesBack}

-- an image, which the journal has room for
pub record IsImaged (w : World) (t : Task) : Type 0 where
  pub asks : own_course t.asked ≡ Some Devices
  pub room : has_room_for image_events w.events ≡ true

-- Each such image of a run is a proper one; its text reads as what it lists; and it gives back of each session what recovery would make of it
-- in the world before the step.
pub record ReadsBack (before : List Task) (t : Task) : Type 0 where
  pub proper : IsImage t.listed
  pub reads : reading (image_text t.listed) ≡ Ok t.listed
  pub gives : (s : ℕ) → GivesBack (run before).control (fields_at (run before).control) (run before).contents t.listed s

-- all images of a run do
abbrev pub AllReadBack : List Task → Type 0
AllReadBack tasks = (before rest : List Task) (t : Task) → tasks ≡ before ++ t ∷ rest → IsImaged (run before) t → ReadsBack before t

-- the image that a run ends with gives back what these devices do
abbrev pub LastGivesBack : List Task → (ℕ → Blocks) → Type 0
LastGivesBack tasks device =
    (before : List Task) (t : Task) → tasks ≡ before ++ t ∷ [] → IsImaged (run before) t
    → (s : ℕ) → GivesBack (run tasks).control (record_on (run tasks) device) (on_device (run tasks).control device) t.listed s
