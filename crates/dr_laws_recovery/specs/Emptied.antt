-- What a drain of all tracks leaves where it ends well.
use Rattle.std.specs.Prelude.{◌≡◌, ◌<◌, ℕ, true, false}
use Rattle.std.specs.FinSet.{contains}
use Rattle.dr_model.specs.Pairs.{is_primary_of, is_secondary_of}
use Rattle.dr_model.specs.Control.{World}
use Rattle.dr_model.specs.Entries.{fields_at}

-- volume x has nothing out of sync
abbrev pub IsEmptied : World → ℕ → Type 0
IsEmptied u x = (t : ℕ) → contains (fields_at u.control x).out_of_sync t ≡ false

-- where x doesn't record, is a primary of y, and y is its secondary, each track of both contains the same
abbrev pub EqualAfter : World → ℕ → ℕ → Type 0
EqualAfter u x y =
    (fields_at u.control x).recording ≡ false → is_primary_of y (fields_at u.control x) ≡ true → is_secondary_of x (fields_at u.control y) ≡ true
    → (t : ℕ) → t < (u.control.volume x).tracks → u.contents x t ≡ u.contents y t
