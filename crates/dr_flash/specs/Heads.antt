-- What the head of a volume's record says of it as a target.
use Rattle.std.specs.Prelude.{ℕ, Bool, not, ◌&&◌, nat_eq, slice_get, option_map, unwrap_or, Some}
use Rattle.dr_config.specs.Table.{ConfigTable}
use Rattle.dr_config.specs.declared.entries.VolumeEntry.{VolumeEntry}
pub use Rattle.dr_volume.specs.Head.{copies_by}
use Rattle.dr_volume.specs.Head.{head_of, relation_in}
use Rattle.dr_volume.specs.View.{volume_at}
use Rattle.dr_plant.specs.State.{PlantState}
use Rattle.dr_volume.specs.declared.head.Head.{Head}
use Rattle.dr_volume.specs.declared.head.Relation.{Relation}

-- it is a target of v
abbrev pub targets_by : ℕ → Head → Bool
targets_by v h = h.related && nat_eq h.source.0 v

-- what the head of the volume at a place says of it as a target
abbrev pub relation_at : PlantState → ConfigTable → ℕ → Relation
relation_at s t place = relation_in (head_of (volume_at s t (Some place)).fields)

-- it is one that isn't restored onto v
abbrev pub kept_by : ℕ → Relation → Bool
kept_by v r = copies_by v r && not r.reversing

-- the identifier of the volume at a place, 0 where there is none
abbrev pub id_at : ConfigTable → ℕ → ℕ
id_at t place = unwrap_or (option_map (λ (e : VolumeEntry). e.id) (slice_get t.volumes place)) 0
