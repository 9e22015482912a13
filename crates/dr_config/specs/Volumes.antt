-- The volumes, and the tables by which one is found: for each logical subsystem the number of its row, and
-- for each low byte of an identifier in a row the volume's place.
use Rattle.std.specs.Prelude.{◌≡◌, ◌⊎◌, ℕ, ◌<◌, ◌≤◌, ◌/◌, ◌%◌, ◌==◌, Bool, List, [], length, replicate, slice_index_or}
use Rattle.std.specs.List.{position}
use Rattle.std.specs.Option.{unwrap_or}
use Rattle.dr_config.specs.declared.entries.VolumeEntry.{VolumeEntry}

-- What contracts see: the volumes in order of definition, and whether one more takes no memory.
pub record VolumeList : Type 0 where
  pub entries : List VolumeEntry
  pub room : Bool

-- The number of a logical subsystem's row; 255 stands for none.
unfoldable pub row_in : List ℕ → ℕ → ℕ
row_in row_of l = slice_index_or row_of l 255

-- The place that the row says for a low byte; 255 stands for none, and a row that isn't there has none.
unfoldable pub place_in : List (List ℕ) → ℕ → ℕ → ℕ
place_in rows r low = slice_index_or (slice_index_or rows r []) low 255

-- The place at which the tables find a volume; 255 stands for none.
abbrev pub place_by : List ℕ → List (List ℕ) → ℕ → ℕ
place_by row_of rows v = place_in rows (row_in row_of (v / 256)) (v % 256)

-- The table with no rows, and the row with no places.
unfoldable pub no_places : List ℕ
no_places = replicate 256 255

-- A logical subsystem has a row of its own, or none, and each row has all low bytes.
pub record AreTables (row_of : List ℕ) (rows : List (List ℕ)) : Type 0 where
  pub size : length row_of ≡ 256
  pub sizes : (r : ℕ) → r < length rows → length (slice_index_or rows r []) ≡ 256
  pub within : (l : ℕ) → (row_in row_of l ≡ 255) ⊎ (row_in row_of l < length rows)
  pub own : (l m : ℕ) → row_in row_of l < length rows → row_in row_of m ≡ row_in row_of l → m ≡ l

-- The tables find the volumes of the list: each identifier at its place, and any other nowhere.
pub record IsKeptList (entries : List VolumeEntry) (row_of : List ℕ) (rows : List (List ℕ)) : Type 0 where
  pub few : length entries ≤ 64
  pub few_rows : length rows ≤ length entries
  pub tables : AreTables row_of rows
  pub finds : (v : ℕ) → v < 65536 → place_by row_of rows v ≡ unwrap_or (position (λ (e : VolumeEntry). e.id == v) entries) 255
