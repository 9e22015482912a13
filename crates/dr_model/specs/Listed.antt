-- Images in a run: what an `@image` lists. The control state has records, and the devices have blocks: the slot that isn't chosen, torn
-- bytes, bytes that no field says. So what is listed isn't a function of a script. It is a device for each volume that says what the run
-- knows of it; and that these are the plant's own devices is said of a run's last step (`ImagesDevices`).
use Rattle.std.specs.Prelude.{◌≡◌, ℕ, zero, suc, ◌<◌, List, [], ◌∷◌, ◌++◌, map, Bool, true, false, All, Option, Some, Result, if◌then◌else◌}
use Rattle.dr_ids.specs.Sizes.{blocks_of}
use Rattle.dr_model.specs.declared.step.Step.{Step}
use Rattle.dr_model.specs.Layout.{Blocks, physical}
use Rattle.dr_model.specs.Limits.{image_events}
use Rattle.dr_model.specs.Control.{Control, World}
use Rattle.dr_model.specs.Plans.{has_room_for}
use Rattle.dr_model.specs.Text.{trimmed}
use Rattle.dr_model.specs.PlantImage.{Kept, Volume, IsVolume, device_blocks}
use Rattle.dr_model.specs.Fits.{SaysVolume, device_of}
use Rattle.dr_model.specs.Runs.{Task, OwnCourse, Devices, own_course, after_task, after_tasks}

-- v is a proper volume of an image, of the server and size that it has in a world; its device says what is known of it there, and its
-- tracks contain what they contain there
pub record IsListed (w : World) (v : Volume) : Type 0 where
  pub proper : IsVolume v
  pub server : v.server ≡ (w.control.volume v.volume).server
  pub tracks : v.tracks ≡ (w.control.volume v.volume).tracks
  pub says : SaysVolume (device_blocks v) (w.control.volume v.volume)
  pub holds : (t : ℕ) → t < v.tracks → physical v.tracks (device_blocks v) t ≡ w.contents v.volume t

-- all volumes of a world are listed, in order of definition, and no other
pub record ListsAll (w : World) (vs : List Volume) : Type 0 where
  pub volumes : map (λ v. v.volume) vs ≡ w.control.volumes
  pub each : All (IsListed w) vs

-- all volumes are listed, or none
abbrev pub ListsIf : Bool → World → List Volume → Type 0
ListsIf true w vs = ListsAll w vs
ListsIf false w vs = vs ≡ []

-- an image that the journal has room for lists all volumes; no other step lists any
abbrev pub ListsBy : World → List Volume → Option OwnCourse → Type 0
ListsBy w vs (Some Devices) = ListsIf (has_room_for image_events w.events) w vs
ListsBy w vs _ = vs ≡ []

-- what a step lists in a world
abbrev pub Lists : World → Task → Type 0
Lists w t = ListsBy w t.listed (own_course t.asked)

-- what steps in order list, each in the world before it
abbrev pub ListsAlong : World → List Task → Type 0
ListsAlong w [] = Unit {0}
ListsAlong w (t ∷ tasks) = Lists w t × ListsAlong (after_task w t) tasks

-- a step as the script has it
abbrev pub as_asked : Task → Task
as_asked t = record t { listed = [] }

-- ---- the devices of a plant, as an image lists them

-- a block is kept unless it is all zero
abbrev pub kept_if : ℕ → List ℕ → List ℕ → List Kept
kept_if k bytes [] = []
kept_if k bytes (b ∷ bs) = record { index = k; bytes = bytes } ∷ []

-- the first n blocks of a device that aren't all zero, in order
abbrev pub kept_blocks : ℕ → Blocks → List Kept
kept_blocks zero blocks = []
kept_blocks (suc n) blocks = kept_blocks n blocks ++ kept_if n (blocks n) (trimmed (blocks n))

-- a volume as it lies on its device
abbrev pub listing_of : Control → (ℕ → Blocks) → ℕ → Volume
listing_of k device v = record {
  volume = v;
  server = (k.volume v).server;
  tracks = (k.volume v).tracks;
  blocks = kept_blocks (blocks_of (k.volume v).tracks) (device (device_of k v));
}

-- all volumes, in order of definition
abbrev pub listing : Control → (ℕ → Blocks) → List Volume
listing k device = map (listing_of k device) k.volumes

-- what a step lists of devices: an image that the journal has room for lists them all, and no other step lists any
abbrev pub listed_by : World → (ℕ → Blocks) → Option OwnCourse → List Volume
listed_by w device (Some Devices) = if has_room_for image_events w.events then listing w.control device else []
listed_by w device _ = []

-- what the last of some steps listed is what these devices are
abbrev pub ImagesDevices : World → List Task → (ℕ → Blocks) → Type 0
ImagesDevices w tasks device =
    (before : List Task) (t : Task) → tasks ≡ before ++ t ∷ [] → t.listed ≡ listed_by (after_tasks w before) device (own_course t.asked)

-- a step of a line, with what it lists of these devices
abbrev pub task_on : World → (ℕ → Blocks) → ℕ → Result Step ℕ → Task
task_on w device line asked = record { line = line; asked = asked; listed = listed_by w device (own_course asked) }
