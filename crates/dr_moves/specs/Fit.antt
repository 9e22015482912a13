-- What the FlashCopy relationships of a plant say together.
use Rattle.std.specs.Prelude.{◌≡◌, ◌≢◌, ℕ, Bool, true, false, is_some}
use Rattle.std.specs.FinSet.{contains}
use Rattle.dr_plant.specs.State.{PlantState}
use Rattle.dr_config.specs.Table.{ConfigTable, place_of}
use Rattle.dr_model.specs.Layout.{Fields}
use Rattle.dr_model.specs.Control.{Volume}
use Rattle.dr_volume.specs.View.{volume_seen}

-- a target and its source, which is defined and no target itself
pub record SourceFits (is_defined : Bool) (target source : Volume) : Type 0 where
  pub defined : is_defined ≡ true
  pub plain : source.fields.related ≡ false
  pub same_tracks : target.tracks ≡ source.tracks
  pub same_server : target.server ≡ source.server

-- Each target fits its source, and what it holds isn't blank.
pub record RelationsFit (s : PlantState) (t : ConfigTable) : Type 0 where
  pub source : (v : ℕ) → (volume_seen s t v).fields.related ≡ true
      → SourceFits (is_some (place_of t (volume_seen s t v).fields.source)) (volume_seen s t v) (volume_seen s t (volume_seen s t v).fields.source)
  pub apart : (v k : ℕ) → contains (volume_seen s t v).fields.own k ≡ true → contains (volume_seen s t v).fields.blank k ≡ false

-- With these fields of v the relationships still fit: v is a target of one that it fits, and no volume's source then.
pub record LeavesFit (s : PlantState) (t : ConfigTable) (v : ℕ) (f : Fields) : Type 0 where
  pub source : f.related ≡ true → SourceFits (is_some (place_of t f.source)) (volume_seen s t v) (volume_seen s t f.source)
  pub other : f.related ≡ true → f.source ≢ v
  pub lone : f.related ≡ true → (u : ℕ) → (volume_seen s t u).fields.related ≡ true → (volume_seen s t u).fields.source ≢ v
  pub apart : (k : ℕ) → contains f.own k ≡ true → contains f.blank k ≡ false
