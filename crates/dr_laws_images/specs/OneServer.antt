-- The servers of logical subsystems.
use Rattle.std.specs.Prelude.{◌≡◌, ℕ, true}
use Rattle.dr_model.specs.Control.{Control, is_volume}
use Rattle.dr_model.specs.Entries.{subsystem}

-- the volumes of a logical subsystem are on one server
abbrev pub OneServer : Control → Type 0
OneServer k = (v u : ℕ) → is_volume k v ≡ true → is_volume k u ≡ true → subsystem v ≡ subsystem u → (k.volume v).server ≡ (k.volume u).server
