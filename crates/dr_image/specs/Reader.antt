-- A reader of an image that comes in pieces.
use Rattle.std.specs.Prelude.{◌≡◌, ℕ, ◌+◌, ◌≤◌, Bool, false, List, [], ◌∷◌, ◌++◌, length, All, Result}
use Rattle.std.specs.List.{slice_split}
use Rattle.dr_model.specs.PlantImage.{Volume, Stage, Start, Listing, Filling, Ended, Bad, State, is_line_feed, reads}
use Rattle.dr_image.specs.Sound.{IsRead}

-- whether it has failed, the lines so far, and the bytes of a line whose end hasn't come
pub record Reader : Type 0 where
  pub failed : Bool
  pub state : State
  pub partial : List ℕ

-- what the text reads as where this rest of it comes
unfoldable pub reads_on : State → List ℕ → List ℕ → Result (List Volume) ℕ
reads_on s partial rest = reads s (slice_split is_line_feed (partial ++ rest))

-- by the fields of a reader
abbrev pub will_read : Reader → List ℕ → Result (List Volume) ℕ
will_read r rest = reads_on r.state r.partial rest

-- how many blocks are kept
abbrev pub kept_count : List Volume → ℕ
kept_count [] = 0
kept_count (v ∷ vs) = length v.blocks + kept_count vs

-- how many lines no volume and no block stands on
abbrev pub other_lines : Stage → ℕ
other_lines Start = 1
other_lines Listing = 2
other_lines Filling = 2
other_lines Ended = 3
other_lines Bad = 3

-- the lines so far fit an image, and are few
pub record IsState (s : State) : Type 0 where
  pub read : IsRead s.volumes
  pub few : length s.volumes ≤ 64
  pub line : s.line ≤ other_lines s.stage + length s.volumes + kept_count s.volumes

-- its lines so far fit an image, and its unfinished line has no line feed
pub record IsReader (r : Reader) : Type 0 where
  pub state : IsState r.state
  pub partial : All (λ b. is_line_feed b ≡ false) r.partial
