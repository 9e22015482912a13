-- What the devices of a primary and its secondary contain, by what their records say.
use Rattle.std.specs.Prelude.{◌≡◌, ◌<◌, ℕ, true, false}
use Rattle.std.specs.FinSet.{contains}
use Rattle.dr_model.specs.Layout.{Blocks}
use Rattle.dr_model.specs.Control.{World, is_volume}
use Rattle.dr_model.specs.Pairs.{is_primary_of, is_secondary_of}
use Rattle.dr_model.specs.Fits.{on_device}
use Rattle.dr_laws_recovery.specs.Decided.{record_on}

-- two volumes have as many tracks, and each that x's record has neither out of sync nor changed since contains the same on both devices: all
-- tracks, where it has none of either
pub record AlikeOn (w : World) (device : ℕ → Blocks) (x y : ℕ) : Type 0 where
  pub size : (w.control.volume x).tracks ≡ (w.control.volume y).tracks
  pub tracks : (t : ℕ) → t < (w.control.volume x).tracks
      → contains (record_on w device x).out_of_sync t ≡ false → contains (record_on w device x).change_recording t ≡ false
      → on_device w.control device x t ≡ on_device w.control device y t

-- so are any two of which the record on x's device says that x is a primary of y, and that on y's device that y is x's secondary
abbrev pub SitesAlike : World → (ℕ → Blocks) → Type 0
SitesAlike w device =
    (x y : ℕ) → is_volume w.control x ≡ true → is_volume w.control y ≡ true
    → is_primary_of y (record_on w device x) ≡ true → is_secondary_of x (record_on w device y) ≡ true → AlikeOn w device x y
