-- Where host writes go, by their number.
use Rattle.std.specs.Prelude.{ℕ, List, nat_eq}
use Rattle.std.specs.Option.{unwrap_or}
use Rattle.std.specs.Map.{lookup}
use Rattle.dr_model.specs.Histories.{Write, no_write}
use Rattle.dr_lost.specs.declared.places.Place.{Place}

-- the volume and track of a write
abbrev pub place_of : Write → Place
place_of w = record { volume = w.volume; track = w.track }

-- those of a write by its number; those of no write where it was never issued
abbrev pub place_in : List (ℕ × Place) → ℕ → Place
place_in places w = unwrap_or (lookup (nat_eq w) places) (place_of no_write)
