-- What is true of each image.
use Rattle.std.specs.Prelude.{◌<◌, ◌≤◌, List, All, AllPairs}
use Rattle.dr_ids.specs.Sizes.{most_tracks}
use Rattle.dr_model.specs.PlantImage.{Volume, IsKept}

-- a volume's numbers fit their bytes, and its blocks stand in order, none of them all zero
pub record IsSoundVolume (v : Volume) : Type 0 where
  pub volume : v.volume < 65536
  pub server : v.server < 256
  pub tracks : v.tracks < 65536
  pub kept : All (IsKept 65536) v.blocks
  pub in_order : AllPairs (λ b c. b.index < c.index) v.blocks

-- so is each volume of an image
abbrev pub IsSoundImage : List Volume → Type 0
IsSoundImage vs = All IsSoundVolume vs

-- the volumes of an image that is read: none has more than 256 tracks
pub record IsRead (vs : List Volume) : Type 0 where
  pub sound : IsSoundImage vs
  pub tracks : All (λ v. v.tracks ≤ most_tracks) vs
