-- The six blocks of a record: how fields are written to them, and read from them.
use Rattle.std.specs.Prelude.{ℕ, false, List, [], ◌∷◌, ◌++◌, nat_eq, cond, is_some, unwrap_or, Option, None, Some, replicate, map, length, ◌≡◌, if◌then◌else◌, take, drop}
use Rattle.std.specs.List.{range_with_len, slice_index_or}
use Rattle.std.specs.FinSet.{empty}
use Rattle.dr_logic.specs.Bytes.{zeros}
use Rattle.dr_bits.specs.Tracks.{IsInRange, bytes_of, of_bytes}
use Rattle.dr_ids.specs.BigEndian.{be16_at, be32_at}
pub use Rattle.dr_plant.specs.Writes.{listed}
pub use Rattle.dr_volume.specs.Packed.{track_named, entry_flags}
use Rattle.dr_model.specs.Layout.{Blocks, Entries, byte, bit, part_of, state_of, entry_in, free_entries}
use Rattle.dr_model.specs.declared.state.Part.TheVariants.{Absent}
use Rattle.dr_model.specs.declared.state.PairState.TheVariants.{CopyPending}
use Rattle.dr_volume.specs.declared.fields.Fields.{Fields}
use Rattle.dr_volume.specs.Codes.{code_of_part, code_of_state, two_bytes, four_bytes, flags_byte}

-- the first eight bytes: the parts and their states, the flags, the session, and whether a track is staged
abbrev pub codes_of : Fields → List ℕ
codes_of f =
    code_of_part f.primary ∷ code_of_state f.primary_state ∷ flags_byte (f.coordination ∷ f.long_busy ∷ f.recording ∷ f.flash_hold ∷ [])
    ∷ code_of_part f.secondary ∷ code_of_state f.secondary_state
    ∷ flags_byte (f.related ∷ f.nocopy ∷ f.persistent ∷ f.recorded ∷ f.inhibited ∷ f.revertible ∷ f.reversing ∷ f.member ∷ [])
    ∷ f.session ∷ cond (is_some f.staged) 1 0 ∷ []

-- the first block: the codes, the volumes and the staged track in two bytes each, five numbers in four bytes each
unfoldable pub head_of : Fields → List ℕ
head_of f =
    codes_of f
    ++ two_bytes f.primary_partner.0 ++ two_bytes f.secondary_partner.0 ++ two_bytes f.source.0 ++ two_bytes (unwrap_or f.staged 0)
    ++ four_bytes f.attempt ++ four_bytes f.seal ++ four_bytes f.sequence ++ four_bytes f.previous_sequence ++ four_bytes f.floor
    ++ replicate 28 0

-- eight tracks in two bytes each
abbrev pub track_bytes : (ℕ → ℕ) → List ℕ
track_bytes f = two_bytes (f 0) ++ two_bytes (f 1) ++ two_bytes (f 2) ++ two_bytes (f 3) ++ two_bytes (f 4) ++ two_bytes (f 5) ++ two_bytes (f 6) ++ two_bytes (f 7)

-- a bit for each of eight tracks that is t
abbrev pub same_tracks : List ℕ → ℕ → ℕ
same_tracks tracks t = flags_byte (map (λ k. nat_eq t (slice_index_or tracks k 0)) (range_with_len 0 8))

-- the tracks that entries name
abbrev pub entry_tracks : Entries → List ℕ
entry_tracks es = track_bytes (track_named es)

-- the entries in 32 bytes
abbrev pub entry_bytes : Entries → List ℕ
entry_bytes es = entry_flags es ∷ 0 ∷ entry_tracks es ++ replicate 14 0

-- block i of the record: the head, six sets in pairs, the blank tracks with the entries, and the staged bytes
abbrev pub record_block : Fields → ℕ → List ℕ
record_block f i =
    if nat_eq i 0 then head_of f
    else if nat_eq i 1 then bytes_of f.out_of_sync ++ bytes_of f.change_recording
    else if nat_eq i 2 then bytes_of f.own ++ bytes_of f.previous_own
    else if nat_eq i 3 then bytes_of f.source_changes ++ bytes_of f.target_changes
    else if nat_eq i 4 then bytes_of f.blank ++ entry_bytes f.entries
    else f.staged_bytes

-- the track that a head says is staged
abbrev pub staged_in : List ℕ → Option ℕ
staged_in head = if nat_eq (byte head 7) 1 then Some (be16_at head 14) else None

-- the fields once they take over what a head says
unfoldable pub with_head : Fields → List ℕ → Fields
with_head f head = record f {
  primary = part_of (byte head 0);
  primary_state = state_of (byte head 1);
  primary_partner = record { 0 = be16_at head 8 };
  coordination = bit (byte head 2) 0;
  long_busy = bit (byte head 2) 1;
  recording = bit (byte head 2) 2;
  attempt = be32_at head 16;
  secondary = part_of (byte head 3);
  secondary_state = state_of (byte head 4);
  secondary_partner = record { 0 = be16_at head 10 };
  seal = be32_at head 20;
  related = bit (byte head 5) 0;
  source = record { 0 = be16_at head 12 };
  nocopy = bit (byte head 5) 1;
  persistent = bit (byte head 5) 2;
  recorded = bit (byte head 5) 3;
  inhibited = bit (byte head 5) 4;
  sequence = be32_at head 24;
  previous_sequence = be32_at head 28;
  revertible = bit (byte head 5) 5;
  reversing = bit (byte head 5) 6;
  member = bit (byte head 5) 7;
  session = byte head 6;
  floor = be32_at head 32;
  flash_hold = bit (byte head 2) 3;
  staged = staged_in head;
}

-- the fields once they take over what block i says
abbrev pub with_block : Fields → ℕ → List ℕ → Fields
with_block f i b =
    if nat_eq i 0 then with_head f b
    else if nat_eq i 1 then record f { out_of_sync = of_bytes (take 32 b); change_recording = of_bytes (drop 32 b) }
    else if nat_eq i 2 then record f { own = of_bytes (take 32 b); previous_own = of_bytes (drop 32 b) }
    else if nat_eq i 3 then record f { source_changes = of_bytes (take 32 b); target_changes = of_bytes (drop 32 b) }
    else if nat_eq i 4 then record f { blank = of_bytes (take 32 b); entries = map (entry_in b) (range_with_len 0 8) }
    else record f { staged_bytes = b }

-- the fields of a volume that has no pair, no relationship, no track that is blank or staged, and no used entry
unfoldable pub no_record : Fields
no_record = record {
  primary = Absent;
  primary_state = CopyPending;
  primary_partner = record { 0 = 0 };
  coordination = false;
  long_busy = false;
  recording = false;
  attempt = 0;
  out_of_sync = empty;
  change_recording = empty;
  secondary = Absent;
  secondary_state = CopyPending;
  secondary_partner = record { 0 = 0 };
  seal = 0;
  related = false;
  source = record { 0 = 0 };
  nocopy = false;
  persistent = false;
  recorded = false;
  inhibited = false;
  own = empty;
  previous_own = empty;
  source_changes = empty;
  target_changes = empty;
  sequence = 0;
  previous_sequence = 0;
  revertible = false;
  reversing = false;
  member = false;
  session = 0;
  floor = 0;
  flash_hold = false;
  blank = empty;
  entries = free_entries;
  staged = None;
  staged_bytes = zeros;
}

-- each set is one of tracks below 256, and the entries are eight
pub record IsWhole (f : Fields) : Type 0 where
  pub out_of_sync : IsInRange f.out_of_sync
  pub change_recording : IsInRange f.change_recording
  pub own : IsInRange f.own
  pub previous_own : IsInRange f.previous_own
  pub source_changes : IsInRange f.source_changes
  pub target_changes : IsInRange f.target_changes
  pub blank : IsInRange f.blank
  pub entries : length f.entries ≡ 8

-- the fields that six blocks give, read one after another
abbrev pub raw_of : Blocks → Fields
raw_of b =
    with_block (with_block (with_block (with_block (with_block (with_block no_record 0 (b 0)) 1 (b 1)) 2 (b 2)) 3 (b 3)) 4 (b 4)) 5 (b 5)
