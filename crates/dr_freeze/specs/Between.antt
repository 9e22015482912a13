-- The primaries between two logical subsystems, as a plant shows them.
use Rattle.std.specs.Prelude.{◌≡◌, ℕ, Bool, ◌&&◌, nat_eq}
use Rattle.dr_plant.specs.State.{PlantState}
use Rattle.dr_config.specs.Table.{ConfigTable}
use Rattle.dr_model.specs.Layout.{Fields, is_part}
use Rattle.dr_model.specs.Entries.{subsystem}
use Rattle.dr_volume.specs.View.{volume_seen}

-- a primary of logical subsystem l with its secondary in m
abbrev pub pairs_with : ℕ → ℕ → ℕ → Fields → Bool
pairs_with l m v f = nat_eq (subsystem v) l && (is_part f.primary && nat_eq (subsystem f.primary_partner) m)

-- one whose server runs
abbrev pub between : PlantState → ConfigTable → ℕ → ℕ → ℕ → Bool
between s t l m v =
    nat_eq (subsystem v) l
    && (s.on (volume_seen s t v).server && (is_part (volume_seen s t v).fields.primary && nat_eq (subsystem (volume_seen s t v).fields.primary_partner) m))

-- From s to u they are the same.
abbrev pub StillBetween : PlantState → PlantState → ConfigTable → ℕ → ℕ → Type 0
StillBetween s u t l m = (v : ℕ) → between u t l m v ≡ between s t l m v
