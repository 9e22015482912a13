-- How much a volume may hold, and how much of a device it takes.
use Rattle.std.specs.Prelude.{ℕ, ◌+◌}

-- the most tracks of a volume
abbrev pub most_tracks : ℕ
most_tracks = 256

-- the blocks of a volume's control record: the gate, and two slots of six blocks
abbrev pub record_blocks : ℕ
record_blocks = 13

-- the block of a track
abbrev pub track_block : ℕ → ℕ
track_block t = 13 + t

-- the side block of an entry, behind the tracks
abbrev pub side_block : ℕ → ℕ → ℕ
side_block tracks entry = 13 + tracks + entry

-- the blocks of a volume of so many tracks: those of its control record, one for each track, and eight side blocks
abbrev pub blocks_of : ℕ → ℕ
blocks_of tracks = 21 + tracks
