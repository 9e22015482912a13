-- That a journal, a control state and the plant agree.
use Rattle.std.specs.Prelude.{◌≡◌, ℕ, ◌<◌, Bool, true, List, Option, nat_eq}
use Rattle.std.specs.List.{position}
use Rattle.std.specs.Option.{unwrap_or}
use Rattle.dr_model.specs.Layout.{Blocks, slot_chosen, fields, staged, physical}
use Rattle.dr_model.specs.Control.{Control, World, Volume, Fuse, is_volume}
use Rattle.dr_model.specs.Views.{view}
use Rattle.dr_model.specs.Table.{Table, table, due}
use Rattle.dr_model.specs.Laws.{PairLaw}

-- the number of a volume's device: volumes lie on devices in order of definition
abbrev pub device_of : Control → ℕ → ℕ
device_of k v = unwrap_or (position (nat_eq v) k.volumes) 0

-- a device says what is known of its volume
pub record SaysVolume (blocks : Blocks) (v : Volume) : Type 0 where
  pub slot : slot_chosen blocks ≡ v.slot
  pub fields : fields v.tracks blocks ≡ v.fields
  pub staged : staged v.tracks blocks ≡ v.staged

-- what a track contains on its device
abbrev pub on_device : Control → (ℕ → Blocks) → ℕ → ℕ → List ℕ
on_device k device v t = physical (k.volume v).tracks (device (device_of k v)) t

-- each volume as it is known, with what its tracks contain on the devices
abbrev pub on_devices : World → (ℕ → Blocks) → Table
on_devices w device v = record (table w v) { bytes = on_device w.control device v }

-- Servers are on, and fuses armed, as the control state says; each volume's device says what is known of it; each
-- track reads as the host writes of the journal say; and outside the tracks that a primary records, the devices of a
-- pair contain the same.
pub record Fits (w : World) (on : ℕ → Bool) (fuse : ℕ → Option Fuse) (device : ℕ → Blocks) : Type 0 where
  pub servers : (s : ℕ) → s < 8 → on s ≡ w.control.on s
  pub fuses : (s : ℕ) → s < 8 → fuse s ≡ w.control.fuse s
  pub volumes : (v : ℕ) → is_volume w.control v ≡ true → SaysVolume (device (device_of w.control v)) (w.control.volume v)
  pub tracks : (v t : ℕ) → is_volume w.control v ≡ true → t < (w.control.volume v).tracks
      → view (λ u. (w.control.volume u).fields) (on_device w.control device) v t ≡ due w v t
  pub pairs : PairLaw (on_devices w device)
