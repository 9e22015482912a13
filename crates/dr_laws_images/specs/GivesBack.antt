-- What recovery makes of an image, beside what it makes of records and tracks.
use Rattle.std.specs.Prelude.{◌≡◌, ◌<◌, ℕ, List, filter, length}
use Rattle.dr_ids.specs.Sizes.{blocks_of}
use Rattle.dr_model.specs.Layout.{Blocks}
use Rattle.dr_model.specs.Control.{Control}
use Rattle.dr_model.specs.Fits.{device_of}
use Rattle.dr_model.specs.SessionEntries.{counts_in}
use Rattle.dr_model.specs.Groups.{In}
use Rattle.dr_model.specs.Laws.{sizes as sizes_in}
use Rattle.dr_model.specs.Recovery.{VolumeRecords, decided_over, recovered}
use Rattle.dr_model.specs.PlantImage.{Volume}
use Rattle.dr_laws_recovery.specs.Recovered.{SameRecovery}
use Rattle.dr_model.specs.Offline.{volume_in, volumes_in, counted_in, size_of, decided_of, recovery_of}

-- An image gives back of session s what recovery makes of volumes with these records and contents: it has these volumes, each of its
-- size; the same of them count, and the same is decided; the same remain, with the same group, and show the same on each of their tracks.
pub record GivesBack (k : Control) (f : VolumeRecords) (contents : ℕ → ℕ → List ℕ) (vs : List Volume) (s : ℕ) : Type 0 where
  pub volumes : volumes_in vs ≡ k.volumes
  pub sizes : (v : ℕ) → In v k.volumes → size_of (volume_in vs v) ≡ (k.volume v).tracks
  pub counted : counted_in vs s ≡ filter (λ v. counts_in s (f v)) k.volumes
  pub decided : decided_of vs s ≡ decided_over f k.volumes s
  pub recovers : SameRecovery (sizes_in k) (recovered f contents k.volumes s) (recovery_of vs s)

-- each block of a volume's device has 64 bytes
abbrev pub IsWhole : Control → (ℕ → Blocks) → Type 0
IsWhole k device = (v j : ℕ) → In v k.volumes → j < blocks_of (k.volume v).tracks → length (device (device_of k v) j) ≡ 64
