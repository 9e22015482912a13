-- The head of a record is that of the fields that its device gives.
use Rattle.std.proofs.Common.{ℕ, ◌≡◌, ◌<◌, length, slice_get, refl, sym, ◌∙◌, ap, subst, arith, Option, Some, inl, inr}
use Rattle.std.specs.Prelude.{IfSome}
use Rattle.std.proofs.lemmas.Option.{slice_get_cases}
use Rattle.dr_ids.specs.Sizes.{record_blocks}
use Rattle.dr_ids.specs.declared.names.VolumeId.{VolumeId}
use Rattle.dr_plant.specs.State.{PlantState}
use Rattle.dr_plant.specs.Writes.{IsDevice}
use Rattle.dr_config.specs.Table.{ConfigTable, place_of, StandsFor}
use Rattle.dr_config.specs.declared.entries.VolumeEntry.{VolumeEntry}
use Rattle.dr_model.specs.Layout as layout
use Rattle.dr_model.specs.Layout.{Blocks, chosen}
use Rattle.dr_volume.specs.declared.head.Head.{Head}
use Rattle.dr_volume.specs.Head.{head_of, head_said}
use Rattle.dr_volume.specs.View.{volume_at, volume_on, volume_seen}

-- the other blocks and the size of the volume say nothing of a head
pub head-of_blocks : (n : ℕ) (slot : Blocks) → head_of (layout.fields_of n slot) ≡ head_said (slot 0)
unfolding layout.fields_of
head-of_blocks n slot = refl

-- a place below the count has a volume, with its device
pub entry-there : (t : ConfigTable) (d : ℕ) → d < length t.volumes → (e : VolumeEntry) × (slice_get t.volumes d ≡ Some e)
entry-there t d low = elim (slice_get_cases t.volumes d).1 [ inl x ↦ (x.0, x.2) | inr past ↦ let e = past.0 in absurd (omega arith) ]

pub device-there : (s : PlantState) (t : ConfigTable) (d : ℕ) (e : VolumeEntry) → d < length t.volumes → slice_get t.volumes d ≡ Some e → StandsFor t s → IsDevice s d record_blocks
device-there s t d e low is stands =
    let count = stands.count in
    let size = (stands.device d e is).1 in
    record { device = omega arith; blocks = omega arith }

-- the head of the volume at a place
pub head-at : (s : PlantState) (t : ConfigTable) (d : ℕ) (e : VolumeEntry) → slice_get t.volumes d ≡ Some e → head_of (volume_at s t (Some d)).fields ≡ head_said (chosen (s.block d) 0)
head-at s t d e is = ap (λ o. head_of (volume_on (s.block d) o).fields) is ∙ head-of_blocks e.tracks (chosen (s.block d))

-- and of a volume by its identifier
pub head-seen : (s : PlantState) (t : ConfigTable) (v d : ℕ) (e : VolumeEntry) → place_of t v ≡ Some d → slice_get t.volumes d ≡ Some e → head_of (volume_seen s t v).fields ≡ head_said (chosen (s.block d) 0)
head-seen s t v d e place is = ap (λ o. head_of (volume_at s t o).fields) place ∙ head-at s t d e is

-- where the volume at a place was asked for
pub head-listed : (s : PlantState) (t : ConfigTable) (d : ℕ) (o : Option VolumeId) (u : VolumeId) (h : Head) → IfSome o (λ v. place_of t v.0 ≡ Some d) → o ≡ Some u → h ≡ head_of (volume_at s t (Some d)).fields → h ≡ head_of (volume_seen s t u.0).fields
head-listed s t d o u h places is head = head ∙ ap (λ q. head_of (volume_at s t q).fields) (sym (subst (λ (x : Option VolumeId). IfSome x (λ v. place_of t v.0 ≡ Some d)) is places))
