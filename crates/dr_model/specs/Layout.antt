-- How a volume lies on its device: the control record in two slots behind a gate, then the tracks, then the side blocks.
-- Reading is total: every content of the blocks gives fields. What a slot says is one thing, what that means for a volume of so
-- many tracks another.
use Rattle.std.specs.Prelude.{ℕ, ◌+◌, ◌*◌, ◌/◌, ◌%◌, ◌^◌, Bool, true, false, ◌&&◌, not, List, [], ◌∷◌, filter, map, nat_eq, nat_lt, Option, Some, None, is_none, is_some, if◌then◌else◌, drop, take, replicate}
use Rattle.std.specs.List.{slice_index_or, range_with_len, list_any, position, zip}
use Rattle.std.specs.Ordering.{nat_cmp}
use Rattle.std.specs.FinSet.{FinSet, contains, empty, from_list}
use Rattle.dr_logic.specs.Bytes.{zeros}
use Rattle.dr_ids.specs.BigEndian.{be16_at, be32_at}
use Rattle.dr_ids.specs.Sizes.{track_block}
use Rattle.dr_model.specs.declared.state.Part.{Part}
use Rattle.dr_model.specs.declared.state.Part.TheVariants.{Absent, Metro, Global}
use Rattle.dr_model.specs.declared.state.PairState.{PairState}
use Rattle.dr_model.specs.declared.state.PairState.TheVariants.{CopyPending, FullDuplex, Suspended}

-- a set of tracks
abbrev pub Tracks : Type 0
Tracks = FinSet nat_cmp

-- the entries of a volume's side blocks, lowest first: each is free, or names the track whose earlier bytes its side block has
abbrev pub Entries : Type 0
Entries = List (Option ℕ)

-- the fields of a volume's control record, as sets and numbers: its part as a primary, its part as a secondary, its FlashCopy
-- relationship as a target, whether a flash hold lets its host writes wait, which stands in no part, the tracks that are blank, and
-- its entries
pub record Fields : Type 0 where
  pub primary : Part
  pub primary_state : PairState
  pub primary_partner : ℕ
  pub coordination : Bool
  pub long_busy : Bool
  pub recording : Bool
  pub attempt : ℕ
  pub out_of_sync : Tracks
  pub change_recording : Tracks
  pub secondary : Part
  pub secondary_state : PairState
  pub secondary_partner : ℕ
  pub seal : ℕ
  pub related : Bool
  pub source : ℕ
  pub nocopy : Bool
  pub persistent : Bool
  pub recorded : Bool
  pub inhibited : Bool
  pub own : Tracks
  pub previous_own : Tracks
  pub source_changes : Tracks
  pub target_changes : Tracks
  pub sequence : ℕ
  pub previous_sequence : ℕ
  pub revertible : Bool
  pub reversing : Bool
  pub member : Bool
  pub session : ℕ
  pub floor : ℕ
  pub flash_hold : Bool
  pub blank : Tracks
  pub entries : Entries

-- a device's blocks by number
abbrev pub Blocks : Type 0
Blocks = ℕ → List ℕ

-- byte k of a block; behind its end 0
abbrev pub byte : List ℕ → ℕ → ℕ
byte block k = slice_index_or block k 0

-- bit k of a number, counted from the lowest
abbrev pub bit : ℕ → ℕ → Bool
bit n k = nat_eq ((n / 2 ^ k) % 2) 1

-- the part that a code says: 1 is Metro Mirror, 2 Global Copy, any other none
abbrev pub part_of : ℕ → Part
part_of n = if nat_eq n 1 then Metro else if nat_eq n 2 then Global else Absent

-- the kind of pair that the number in a step names: 1 is Metro Mirror, any other Global Copy; a line gives 1 or 2
abbrev pub kind_of : ℕ → Part
kind_of n = if nat_eq n 1 then Metro else Global

-- there is a part
abbrev pub is_part : Part → Bool
is_part Absent = false
is_part Metro = true
is_part Global = true

-- the state that a code says: 0 is Copy Pending, 1 Full Duplex, any other Suspended
abbrev pub state_of : ℕ → PairState
state_of n = if nat_eq n 0 then CopyPending else if nat_eq n 1 then FullDuplex else Suspended

-- track t stands in a set where bit t mod 8 of byte t / 8 is 1
abbrev pub stands_in : List ℕ → ℕ → Bool
stands_in bytes t = bit (byte bytes (t / 8)) (t % 8)

-- the set that 32 bytes give for a volume with that many tracks
unfoldable pub set_of : ℕ → List ℕ → Tracks
set_of tracks bytes = from_list (filter (stands_in bytes) (range_with_len 0 tracks))

-- track t is the one that is named
abbrev pub is_track : Option ℕ → ℕ → Bool
is_track None t = false
is_track (Some s) t = nat_eq t s

-- these entries name track t
abbrev pub names : Entries → ℕ → Bool
names es t = list_any (λ e. is_track e t) es

-- an entry is free if the volume hasn't its track, or a lower entry names it too
abbrev pub entry_kept : ℕ → Entries → Option ℕ → Option ℕ
entry_kept tracks lower None = None
entry_kept tracks lower (Some t) = if nat_lt t tracks && not (names lower t) then Some t else None

-- entry k, free past the end
abbrev pub entry_at : Entries → ℕ → Option ℕ
entry_at es k = slice_index_or es k None

-- the lowest entry that names track t
abbrev pub entry_of : Entries → ℕ → Option ℕ
entry_of es t = position (λ e. is_track e t) es

-- the lowest free entry names track t, if one is free
abbrev pub with_entry : Entries → ℕ → Entries
with_entry [] t = []
with_entry (None ∷ es) t = Some t ∷ es
with_entry (Some s ∷ es) t = Some s ∷ with_entry es t

-- the entry that names track t is free
abbrev pub without_entry : Entries → ℕ → Entries
without_entry es t = map (λ e. if is_track e t then None else e) es

-- an entry, as it was and as it is next: it is taken into use
abbrev pub is_taken : Option ℕ × Option ℕ → Bool
is_taken e = is_none e.0 && is_some e.1

-- the lowest entry that is taken into use where entries are followed by these
abbrev pub entry_taken : Entries → Entries → Option ℕ
entry_taken old next = position is_taken (zip old next)

-- what entries mean for a volume with that many tracks
unfoldable pub entries_of : ℕ → Entries → Entries
entries_of tracks said = map (λ k. entry_kept tracks (take k said) (entry_at said k)) (range_with_len 0 8)

-- no entry is used
abbrev pub free_entries : Entries
free_entries = replicate 8 None

-- what is absent reads as zero
abbrev pub only_if : {X : Type 0} → Bool → X → X → X
only_if there x zero = if there then x else zero

-- entry k that a block says: if bit k of byte 32 is 1, it names the track of two bytes from byte 34 + 2 k on
abbrev pub entry_in : List ℕ → ℕ → Option ℕ
entry_in block k = if bit (byte block 32) k then Some (be16_at block (34 + 2 * k)) else None

-- what a slot says: its head, the bytes of seven sets, and eight entries
pub record Said : Type 0 where
  pub head : List ℕ
  pub out_of_sync : List ℕ
  pub change_recording : List ℕ
  pub own : List ℕ
  pub previous_own : List ℕ
  pub source_changes : List ℕ
  pub target_changes : List ℕ
  pub blank : List ℕ
  pub entries : Entries

-- six blocks say it so: after the head two sets a block, each in 32 bytes; after the blank tracks the entries; the last block has the
-- staged bytes
abbrev pub said_by : Blocks → Said
said_by slot = record {
  head = slot 0;
  out_of_sync = take 32 (slot 1);
  change_recording = drop 32 (slot 1);
  own = take 32 (slot 2);
  previous_own = drop 32 (slot 2);
  source_changes = take 32 (slot 3);
  target_changes = drop 32 (slot 3);
  blank = take 32 (slot 4);
  entries = map (entry_in (slot 4)) (range_with_len 0 8);
}

-- what that means for a volume with that many tracks
abbrev pub fields_said : ℕ → Said → Fields
fields_said tracks said =
    let head : List ℕ = said.head in
    let first : Part = part_of (byte head 0) in
    let second : Part = part_of (byte head 3) in
    let source : Bool = bit (byte head 5) 0 in
    record {
      primary = first;
      primary_state = only_if (is_part first) (state_of (byte head 1)) CopyPending;
      primary_partner = only_if (is_part first) (be16_at head 8) 0;
      coordination = is_part first && bit (byte head 2) 0;
      long_busy = is_part first && bit (byte head 2) 1;
      recording = is_part first && bit (byte head 2) 2;
      attempt = be32_at head 16;
      out_of_sync = only_if (is_part first) (set_of tracks said.out_of_sync) empty;
      change_recording = only_if (is_part first) (set_of tracks said.change_recording) empty;
      secondary = second;
      secondary_state = only_if (is_part second) (state_of (byte head 4)) CopyPending;
      secondary_partner = only_if (is_part second) (be16_at head 10) 0;
      seal = only_if (is_part second) (be32_at head 20) 0;
      related = source;
      source = only_if source (be16_at head 12) 0;
      nocopy = source && bit (byte head 5) 1;
      persistent = source && bit (byte head 5) 2;
      recorded = source && bit (byte head 5) 3;
      inhibited = source && bit (byte head 5) 4;
      own = only_if source (set_of tracks said.own) empty;
      previous_own = only_if source (set_of tracks said.previous_own) empty;
      source_changes = only_if source (set_of tracks said.source_changes) empty;
      target_changes = only_if source (set_of tracks said.target_changes) empty;
      sequence = only_if source (be32_at head 24) 0;
      previous_sequence = only_if source (be32_at head 28) 0;
      revertible = source && bit (byte head 5) 5;
      reversing = source && bit (byte head 5) 6;
      member = source && bit (byte head 5) 7;
      session = only_if source (byte head 6) 0;
      floor = be32_at head 32;
      flash_hold = bit (byte head 2) 3;
      blank = set_of tracks said.blank;
      entries = entries_of tracks said.entries;
    }

-- the fields that the six blocks of a slot give
unfoldable pub fields_of : ℕ → Blocks → Fields
fields_of tracks slot = fields_said tracks (said_by slot)

-- the track that a slot stages, where it says so and the volume has that track
unfoldable pub staged_of : ℕ → Blocks → Option ℕ
staged_of tracks slot =
    if nat_eq (byte (slot 0) 7) 1 && nat_lt (be16_at (slot 0) 14) tracks then Some (be16_at (slot 0) 14) else None

-- the gate's bit chooses slot 1, in blocks 7 to 12, or slot 0, in blocks 1 to 6
abbrev pub slot_chosen : Blocks → Bool
slot_chosen blocks = bit (byte (blocks 0) 0) 0

-- the first block of a slot
abbrev pub slot_begin : Bool → ℕ
slot_begin second = if second then 7 else 1

-- the six blocks of the chosen slot
abbrev pub chosen : Blocks → Blocks
chosen blocks k = blocks (slot_begin (slot_chosen blocks) + k)

-- the fields that a device gives, by its chosen slot
abbrev pub fields : ℕ → Blocks → Fields
fields tracks blocks = fields_of tracks (chosen blocks)

-- the track that its chosen slot stages, if any
abbrev pub staged : ℕ → Blocks → Option ℕ
staged tracks blocks = staged_of tracks (chosen blocks)

-- track t is the one that is staged
abbrev pub is_staged : Option ℕ → ℕ → Bool
is_staged staged t = is_track staged t

-- a track: the staged bytes where it is staged, zeros where it is blank, else its own block
unfoldable pub physical : ℕ → Blocks → ℕ → List ℕ
physical tracks blocks t =
    if is_staged (staged tracks blocks) t then chosen blocks 5
    else if contains (fields tracks blocks).blank t then zeros else blocks (track_block t)

-- the fields of a volume that has no pair, no relationship, no blank track and no used entry, as a device of zeros gives them
abbrev pub no_fields : Fields
no_fields = record {
  primary = Absent;
  primary_state = CopyPending;
  primary_partner = 0;
  coordination = false;
  long_busy = false;
  recording = false;
  attempt = 0;
  out_of_sync = empty;
  change_recording = empty;
  secondary = Absent;
  secondary_state = CopyPending;
  secondary_partner = 0;
  seal = 0;
  related = false;
  source = 0;
  nocopy = false;
  persistent = false;
  recorded = false;
  inhibited = false;
  own = empty;
  previous_own = empty;
  source_changes = empty;
  target_changes = empty;
  sequence = 0;
  previous_sequence = 0;
  revertible = false;
  reversing = false;
  member = false;
  session = 0;
  floor = 0;
  flash_hold = false;
  blank = empty;
  entries = free_entries;
}
