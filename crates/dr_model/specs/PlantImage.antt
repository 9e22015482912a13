-- A plant's devices as a text: the text of an image, and what a text reads as. Read first `image_text`, `IsImage` and `IsFirstBad`. How a
-- text is read comes before them, and laws tie it to these: a text reads as an image exactly where it is the text of that image and the
-- image is proper, and else the line that it is bad at is its first bad line.
use Rattle.std.specs.Prelude.{◌≡◌, ◌≢◌, ℕ, suc, zero, ◌+◌, ◌-◌, ◌*◌, ◌/◌, ◌<◌, ◌≤◌, ◌⊎◌, Bool, true, false, ◌&&◌, ◌||◌, not, List, [], ◌∷◌, ◌++◌, length, map, take, replicate, nat_eq, nat_le, nat_lt, Option, Some, None, Result, Ok, Err, All, AllPairs, codes, if◌then◌else◌}
use Rattle.std.specs.Fmt.{decimal}
use Rattle.std.specs.List.{flat_map, list_all, list_any, position, slice_get, slice_split}
use Rattle.std.specs.Str.{bytes_eq}
use Rattle.dr_logic.specs.Bytes.{zeros}
use Rattle.dr_ids.specs.Spelling.{digit_in, hex4}
use Rattle.dr_ids.specs.Sizes.{most_tracks, blocks_of}
use Rattle.dr_model.specs.Layout.{Blocks, Fields, fields}
use Rattle.dr_model.specs.LineText.{bytes_text, spaced}
use Rattle.dr_model.specs.LineWords.{◌>>=◌, decimal_word}
use Rattle.dr_model.specs.Text.{trimmed}

-- a block of 64 bytes that aren't all zero, with its number
pub record Kept : Type 0 where
  pub index : ℕ
  pub bytes : List ℕ

-- a volume of an image: the server that owns it, its tracks, and the blocks of its device that aren't all zero, in order
pub record Volume : Type 0 where
  pub volume : ℕ
  pub server : ℕ
  pub tracks : ℕ
  pub blocks : List Kept

-- a block by its number: zeros where none is kept
abbrev pub block_in : List Kept → ℕ → List ℕ
block_in [] k = zeros
block_in (b ∷ bs) k = if nat_eq b.index k then b.bytes else block_in bs k

-- all blocks of a volume's device
abbrev pub device_blocks : Volume → Blocks
device_blocks v k = block_in v.blocks k

-- The text of an image.

-- the line of a volume
unfoldable pub volume_line : Volume → List ℕ
volume_line v = codes "volume" ++ spaced (hex4 v.volume ∷ decimal v.server ∷ decimal v.tracks ∷ [])

-- the line of a block: its bytes in hexadecimal, without the zero bytes at their end
unfoldable pub block_line : ℕ → Kept → List ℕ
block_line volume b = codes "block" ++ spaced (hex4 volume ∷ decimal b.index ∷ bytes_text (trimmed b.bytes) ∷ [])

-- the lines of a volume's blocks
abbrev pub block_lines : Volume → List (List ℕ)
block_lines v = map (block_line v.volume) v.blocks

-- the volumes in order, then the blocks of each in this order
abbrev pub image_lines : List Volume → List (List ℕ)
image_lines vs = (codes "image 1" ∷ map volume_line vs) ++ flat_map block_lines vs ++ codes "end" ∷ []

-- lines, each with its line feed
abbrev pub ended : List (List ℕ) → List ℕ
ended [] = []
ended (line ∷ lines) = line ++ 10 ∷ ended lines

-- the text of an image
unfoldable pub image_text : List Volume → List ℕ
image_text vs = ended (image_lines vs)

-- The words of a line stand between single spaces.

-- what stands between two words
abbrev pub is_space : ℕ → Bool
is_space b = nat_eq b 32

-- the words of a line
abbrev pub words : List ℕ → List (List ℕ)
words line = slice_split is_space line

-- a hexadecimal digit; letters are in upper case
abbrev pub upper_value : ℕ → Option ℕ
upper_value digit = if nat_lt digit 97 then digit_in 16 digit else None

-- the byte that two digits spell
abbrev pub upper_pair : ℕ → ℕ → Option ℕ
upper_pair high low = upper_value high >>= λ h. upper_value low >>= λ l. Some (h * 16 + l)

-- the bytes that a word spells, two digits each
abbrev pub upper_bytes : List ℕ → Option (List ℕ)
upper_bytes [] = Some []
upper_bytes (high ∷ []) = None
upper_bytes (high ∷ low ∷ rest) = upper_pair high low >>= λ b. upper_bytes rest >>= λ bs. Some (b ∷ bs)

-- the volume that four digits name
abbrev pub id_word : List ℕ → Option ℕ
id_word (a ∷ b ∷ c ∷ d ∷ []) = upper_pair a b >>= λ high. upper_pair c d >>= λ low. Some (high * 256 + low)
id_word _ = None

-- a 0 at the front, with digits behind it
abbrev pub has_leading_zero : List ℕ → Bool
has_leading_zero (d ∷ e ∷ ds) = nat_eq d 48
has_leading_zero _ = false

-- a number in decimal digits without leading zeros
abbrev pub plain_word : List ℕ → Option ℕ
plain_word word = if has_leading_zero word then None else decimal_word word

-- there are bytes, and the last isn't zero
abbrev pub ends_kept : List ℕ → Bool
ends_kept [] = false
ends_kept (b ∷ []) = not (nat_eq b 0)
ends_kept (b ∷ c ∷ cs) = ends_kept (c ∷ cs)

-- the block that so many bytes begin, with zeros behind them
abbrev pub kept_of : List ℕ → Option (List ℕ)
kept_of bytes = if nat_le (length bytes) 64 && ends_kept bytes then Some (bytes ++ replicate (64 - length bytes) 0) else None

-- the bytes of a block that isn't all zero
abbrev pub kept_word : List ℕ → Option (List ℕ)
kept_word word = upper_bytes word >>= kept_of

-- a server's number is at most 7, and a volume has at least one track and at most the limit
abbrev pub volume_of : ℕ → ℕ → ℕ → Option Volume
volume_of v s t = if nat_le s 7 && (nat_le 1 t && nat_le t most_tracks) then Some (record { volume = v; server = s; tracks = t; blocks = [] }) else None

-- the volume that the words behind `volume` say
abbrev pub volume_said : List (List ℕ) → Option Volume
volume_said (id ∷ server ∷ tracks ∷ []) = id_word id >>= λ v. plain_word server >>= λ s. plain_word tracks >>= λ t. volume_of v s t
volume_said _ = None

-- a block, and the volume that it is of
pub record Placed : Type 0 where
  pub volume : ℕ
  pub block : Kept

-- the block that the words behind `block` say
abbrev pub block_said : List (List ℕ) → Option Placed
block_said (id ∷ index ∷ bytes ∷ []) = id_word id >>= λ v. plain_word index >>= λ k. kept_word bytes >>= λ b. Some (record { volume = v; block = record { index = k; bytes = b } })
block_said _ = None

-- Which line may follow which.

-- what has come: nothing, volumes, blocks, the end; or a line that can't stand
pub data Stage : Type 0 where
  Start : Stage
  Listing : Stage
  Filling : Stage
  Ended : Stage
  Bad : Stage

-- the lines so far: the number of the next line, or of the bad one; the volumes with their blocks;
-- and the place of the volume whose blocks come, in the order of the volumes
pub record State : Type 0 where
  pub stage : Stage
  pub line : ℕ
  pub volumes : List Volume
  pub place : ℕ

-- before the first line
abbrev pub begin : State
begin = record { stage = Start; line = 1; volumes = []; place = 0 }

-- another volume with the same server, or of another logical subsystem
abbrev pub agrees : Volume → Volume → Bool
agrees v w = not (nat_eq w.volume v.volume) && (not (nat_eq (w.volume / 256) (v.volume / 256)) || nat_eq w.server v.server)

-- at most 64 volumes, all distinct, and one server for each logical subsystem
unfoldable pub can_join : List Volume → Volume → Bool
can_join vs v = nat_lt (length vs) 64 && list_all (λ w. agrees w v) vs

-- a volume joins the others, where it agrees with them
unfoldable pub join : State → Volume → Option State
join s v = if can_join s.volumes v then Some (record s { volumes = s.volumes ++ v ∷ [] }) else None

-- the place of a volume
abbrev pub place_of : List Volume → ℕ → Option ℕ
place_of vs v = position (λ w. nat_eq w.volume v) vs

-- a block lies on its volume's device, and comes behind those that have come
unfoldable pub can_fill : ℕ → ℕ → Volume → Kept → Bool
can_fill place p w b = nat_le place p && (nat_lt b.index (blocks_of w.tracks) && list_all (λ c. nat_lt c.index b.index) w.blocks)

-- the volumes where the one at a place has a block more
unfoldable pub with_block : List Volume → ℕ → Kept → List Volume
with_block [] p b = []
with_block (v ∷ vs) zero b = record v { blocks = v.blocks ++ b ∷ [] } ∷ vs
with_block (v ∷ vs) (suc p) b = v ∷ with_block vs p b

-- a block comes to the volume at place p
abbrev pub fill_at : State → Kept → ℕ → Volume → Option State
fill_at s b p w = if can_fill s.place p w b then Some (record s { stage = Filling; volumes = with_block s.volumes p b; place = p }) else None

-- a block comes to the volume that its line names
unfoldable pub fill : State → Placed → Option State
fill s said = place_of s.volumes said.volume >>= λ p. slice_get s.volumes p >>= λ w. fill_at s said.block p w

-- only volumes came so far
abbrev pub is_listing : Stage → Bool
is_listing Listing = true
is_listing _ = false

-- a volume's line comes before all blocks
unfoldable pub by_words : State → List (List ℕ) → Option State
by_words s [] = None
by_words s (word ∷ rest) =
    if bytes_eq word (codes "volume") then (if is_listing s.stage then volume_said rest >>= join s else None)
    else if bytes_eq word (codes "block") then block_said rest >>= fill s
    else None

-- behind the first line: the end, a volume, or a block
abbrev pub by_line : State → List ℕ → Option State
by_line s line = if bytes_eq line (codes "end") then Some (record s { stage = Ended }) else by_words s (words line)

-- by which kind of line came last
abbrev pub by_stage : Stage → State → List ℕ → Option State
by_stage Start s line = if bytes_eq line (codes "image 1") then Some (record s { stage = Listing }) else None
by_stage Listing s line = by_line s line
by_stage Filling s line = by_line s line
by_stage _ s line = None

-- what has come with one line more; none where the line can't stand there
abbrev pub after_line : State → List ℕ → Option State
after_line s line = by_stage s.stage s line

-- where a line can't stand, the text is bad there
abbrev pub or_bad : State → Option State → State
or_bad s None = record s { stage = Bad }
or_bad s (Some t) = record t { line = s.line + 1 }

-- with one line more; where it can't stand, the text is bad there
unfoldable pub step : State → List ℕ → State
step s line = or_bad s (after_line s line)

-- What a text reads as.

-- a volume can be the source of another: it is on the same server and has as many tracks
abbrev pub is_source_of : Volume → ℕ → Volume → Bool
is_source_of v source w = nat_eq w.volume source && (not (nat_eq w.volume v.volume) && (nat_eq w.server v.server && nat_eq w.tracks v.tracks))

-- where a volume's record has a relationship, its source is such a volume of the image
unfoldable pub has_source : List Volume → Volume → Bool
has_source vs v =
    let f : Fields = fields v.tracks (device_blocks v) in
    not f.related || list_any (is_source_of v f.source) vs

-- the line of the first volume whose relationship has no such source; the volumes stand from line 2 on
abbrev pub sourced : List Volume → Option ℕ → Result (List Volume) ℕ
sourced vs None = Ok vs
sourced vs (Some p) = Err (p + 2)

-- the volumes, or the line of the first one whose relationship has no source
unfoldable pub checked : List Volume → Result (List Volume) ℕ
checked vs = sourced vs (position (λ v. not (has_source vs v)) vs)

-- behind the last line feed nothing stands, and the end has come
abbrev pub finished : State → Stage → List ℕ → Result (List Volume) ℕ
finished s Ended [] = checked s.volumes
finished s _ _ = Err s.line

-- the lines of a text, and what stands behind its last line feed
unfoldable pub reads : State → List (List ℕ) → Result (List Volume) ℕ
reads s [] = Err s.line
reads s (last ∷ []) = finished s s.stage last
reads s (line ∷ next ∷ more) = reads (step s line) (next ∷ more)

-- the byte that ends a line
abbrev pub is_line_feed : ℕ → Bool
is_line_feed b = nat_eq b 10

-- the image that a text is of, or the number of its first bad line
unfoldable pub reading : List ℕ → Result (List Volume) ℕ
reading text = reads begin (slice_split is_line_feed text)

-- The images that have a text in the grammar.

-- a block that isn't all zero, of a device with so many blocks
pub record IsKept (blocks : ℕ) (b : Kept) : Type 0 where
  pub within : b.index < blocks
  pub whole : length b.bytes ≡ 64
  pub bytes : All (λ x. x < 256) b.bytes
  pub some : trimmed b.bytes ≢ []

-- a volume of a proper image
pub record IsVolume (v : Volume) : Type 0 where
  pub volume : v.volume < 65536
  pub server : v.server ≤ 7
  pub some_tracks : 1 ≤ v.tracks
  pub tracks : v.tracks ≤ most_tracks
  pub kept : All (IsKept (blocks_of v.tracks)) v.blocks
  pub in_order : AllPairs (λ b c. b.index < c.index) v.blocks

-- the volumes of an image, whatever their relationships say
pub record IsLaid (vs : List Volume) : Type 0 where
  pub few : length vs ≤ 64
  pub each : All IsVolume vs
  pub apart : AllPairs (λ v w. agrees v w ≡ true) vs

-- a proper image: its blocks are laid out, and each relationship has its source
pub record IsImage (vs : List Volume) : Type 0 where
  pub laid : IsLaid vs
  pub sources : All (λ v. has_source vs v ≡ true) vs

-- The first bad line, without a reader.

-- these lines begin the text of an image
pub record Begins (lines : List (List ℕ)) : Type 0 where
  pub image : List Volume
  pub laid : IsLaid image
  pub rest : List (List ℕ)
  pub same : image_lines image ≡ lines ++ rest

-- so many lines begin an image's text. The next one is behind the last line feed, and this is no end; or with it
-- the lines begin no image's text
pub record IsBadAfter (good : ℕ) (parts : List (List ℕ)) : Type 0 where
  pub before : Begins (take good parts)
  pub bad : ((good + 1 ≡ length parts) × ((vs : List Volume) → IsLaid vs → parts ≢ image_lines vs ++ [] ∷ [])) ⊎ ((good + 1 < length parts) × (Begins (take (good + 1) parts) → ⊥))

-- all lines are those of volumes of which this is the first without its source
pub record IsUnsourced (place : ℕ) (parts : List (List ℕ)) : Type 0 where
  pub image : List Volume
  pub laid : IsLaid image
  pub same : parts ≡ image_lines image ++ [] ∷ []
  pub first : position (λ v. not (has_source image v)) image ≡ Some place

-- the lines of a text, and what stands behind its last line feed
abbrev pub parts_of : List ℕ → List (List ℕ)
parts_of text = slice_split is_line_feed text

-- the number of the first bad line; the volumes stand from line 2 on
abbrev pub IsFirstBad : List ℕ → ℕ → Type 0
IsFirstBad text n = ((good : ℕ) × (n ≡ good + 1) × IsBadAfter good (parts_of text)) ⊎ ((place : ℕ) × (n ≡ place + 2) × IsUnsourced place (parts_of text))
