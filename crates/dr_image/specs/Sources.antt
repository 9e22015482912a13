-- The relationship of a volume of an image.
use Rattle.std.specs.Prelude.{ℕ, Option, Some, None, if◌then◌else◌}
use Rattle.dr_model.specs.Layout.{Fields, fields}
use Rattle.dr_model.specs.PlantImage.{Volume, device_blocks}

-- the source that the fields name, where they have a relationship
abbrev pub source_in : Fields → Option ℕ
source_in f = if f.related then Some f.source else None

-- by what its blocks give
abbrev pub source_seen : Volume → Option ℕ
source_seen v = source_in (fields v.tracks (device_blocks v))
