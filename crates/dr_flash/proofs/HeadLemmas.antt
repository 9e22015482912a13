-- What the head of the volume at a place says of it as a target.
use Rattle.std.proofs.Common.{ℕ, ◌≡◌, Bool, sym, ◌∙◌, ap, Some}
use Rattle.dr_plant.specs.State.{PlantState}
use Rattle.dr_config.specs.Table.{ConfigTable, place_of}
use Rattle.dr_volume.specs.declared.head.Relation.{Relation}
use Rattle.dr_volume.specs.Head.{head_of, relation_in}
use Rattle.dr_volume.specs.View.{volume_at, volume_seen}
use Rattle.dr_flash.specs.Heads.{kept_by}
use Rattle.dr_flash.specs.Views.{kept_for}

-- it is what the head of the volume that was defined there says
pub relation-there : (s : PlantState) (t : ConfigTable) (u place : ℕ) (h : Relation) → place_of t u ≡ Some place → h ≡ relation_in (head_of (volume_at s t (Some place)).fields) → h ≡ relation_in (head_of (volume_seen s t u).fields)
relation-there s t u place h at is = is ∙ ap (λ o. relation_in (head_of (volume_at s t o).fields)) (sym at)

pub kept-head : (s : PlantState) (t : ConfigTable) (v u place : ℕ) (h : Relation) (found b : Bool) → place_of t u ≡ Some place → h ≡ relation_in (head_of (volume_at s t (Some place)).fields) → found ≡ kept_by v h → found ≡ b → kept_for v (volume_seen s t u).fields ≡ b
kept-head s t v u place h found b at is by e = sym (ap (kept_by v) (relation-there s t u place h at is)) ∙ sym by ∙ e
