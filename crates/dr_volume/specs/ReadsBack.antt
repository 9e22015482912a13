-- What is written of fields reads as those fields.
use Rattle.std.proofs.Common.{ℕ, ◌≡◌, ◌<◌, ◌+◌, ◌*◌, ◌/◌, ◌%◌, Bool, false, List, [], ◌∷◌, ◌++◌, get_or, take, drop, arith, ◌∙◌, ap, sym, refl, nat_eq, cond, Option, None, Some}
use Rattle.std.specs.Prelude.{is_some, unwrap_or, if◌then◌else◌, map, length, ◌-◌}
use Rattle.std.specs.List.{range_with_len}
use Rattle.std.proofs.lemmas.List.{take_at, drop_at, get_or-append_right}
use Rattle.std.proofs.lemmas.List.FromFn.{fill_by_all}
use Rattle.dr_bits.specs.Tracks.{Tracks, IsInRange, of_bytes, bytes_of}
use Rattle.dr_bits.proofs.Bytes.{number_of-bit, of_bytes-bytes_of, length-bytes_of}
use Rattle.dr_record.specs.Taken.{taken_from}
use Rattle.dr_model.specs.Layout.{Entries, part_of, state_of, bit, entry_at, entry_in}
use Rattle.dr_model.specs.declared.state.Part.{Part}
use Rattle.dr_model.specs.declared.state.Part.TheVariants.{Absent, Metro, Global}
use Rattle.dr_model.specs.declared.state.PairState.{PairState}
use Rattle.dr_model.specs.declared.state.PairState.TheVariants.{CopyPending, FullDuplex, Suspended}
use Rattle.dr_volume.specs.declared.fields.Fields.{Fields}
use Rattle.dr_volume.specs.Codes.{code_of_part, code_of_state, flags_byte}
use Rattle.dr_volume.specs.Packed.{entry_back, bit-flags}
use Rattle.dr_volume.specs.Record.{IsWhole, track_named, entry_bytes, record_block, head_of, with_block, with_head, no_record, raw_of}

-- of parts
part_back : (p : Part) → part_of (code_of_part p) ≡ p
part_back Absent = refl
part_back Metro = refl
part_back Global = refl

-- of states
state_back : (s : PairState) → state_of (code_of_state s) ≡ s
state_back CopyPending = refl
state_back FullDuplex = refl
state_back Suspended = refl

-- of two bytes
back16 : (n : ℕ) → n / 256 * 256 + n % 256 ≡ n
back16 n = omega arith

-- of four bytes
back32 : (n : ℕ) → (n / 16777216 * 256 + n / 65536 % 256) * 65536 + (n / 256 % 256 * 256 + n % 256) ≡ n
back32 n = omega arith

-- of flags
flag_back : (flags : List Bool) (k : ℕ) → k < 8 → bit (flags_byte flags) k ≡ get_or flags (0 + k) false
flag_back flags k low = number_of-bit (λ t. get_or flags t false) 0 8 k low

-- of the staged track
staged_back : (o : Option ℕ) → (if nat_eq (cond (is_some o) 1 0) 1 then Some (unwrap_or o 0 / 256 * 256 + unwrap_or o 0 % 256) else None) ≡ o
staged_back None = refl
staged_back (Some t) = ap (λ n. Some n) (back16 t)

-- of the first of two sets, or of a set with other bytes after it
set_back : (s : Tracks) (rest : List ℕ) → IsInRange s → of_bytes (take 32 (bytes_of s ++ rest)) ≡ s
set_back s rest in_s = ap (λ bytes. of_bytes bytes) (take_at (bytes_of s) rest 32 (length-bytes_of s)) ∙ of_bytes-bytes_of s in_s

-- of the second of two sets
second_back : (s t : Tracks) → IsInRange t → of_bytes (drop 32 (bytes_of s ++ bytes_of t)) ≡ t
second_back s t in_t = ap (λ bytes. of_bytes bytes) (drop_at (bytes_of s) (bytes_of t) 32 (length-bytes_of s)) ∙ of_bytes-bytes_of t in_t

-- bytes of the second half of a block
behind : (s : Tracks) (rest : List ℕ) (k : ℕ) → get_or (bytes_of s ++ rest) (32 + k) 0 ≡ get_or rest k 0
behind s rest k = get_or-append_right (bytes_of s) rest 32 (32 + k) 0 (length-bytes_of s) (omega arith) ∙ ap (λ n. get_or rest n 0) (let e : 32 + k - 32 ≡ k = omega arith in e)

-- of one entry, if its two bytes are those of its track
entry_in_back : (s : Tracks) (es : Entries) (k : ℕ) → k < 8 → get_or (entry_bytes es) (2 + 2 * k) 0 * 256 + get_or (entry_bytes es) (3 + 2 * k) 0 ≡ track_named es k
    → entry_in (bytes_of s ++ entry_bytes es) k ≡ entry_at es k
entry_in_back s es k low named =
    let high = ap (λ n. get_or (bytes_of s ++ entry_bytes es) n 0) (let e : 34 + 2 * k ≡ 32 + (2 + 2 * k) = omega arith in e) ∙ behind s (entry_bytes es) (2 + 2 * k) in
    let next = ap (λ n. get_or (bytes_of s ++ entry_bytes es) n 0) (let e : 34 + 2 * k + 1 ≡ 32 + (3 + 2 * k) = omega arith in e) ∙ behind s (entry_bytes es) (3 + 2 * k) in
    entry_back _ _ (entry_at es k)
    (ap (λ b. bit b k) (behind s (entry_bytes es) 0) ∙ bit-flags (λ k. is_some (entry_at es k)) k low)
    ((λ i. high i * 256 + next i) ∙ named)

-- of all entries
entries_back : (s : Tracks) (es : Entries) → length es ≡ 8 → map (entry_in (bytes_of s ++ entry_bytes es)) (range_with_len 0 8) ≡ es
entries_back s es eight =
    (λ i. at 0 (omega arith) (back16 (track_named es 0)) i ∷ at 1 (omega arith) (back16 (track_named es 1)) i
    ∷ at 2 (omega arith) (back16 (track_named es 2)) i ∷ at 3 (omega arith) (back16 (track_named es 3)) i
    ∷ at 4 (omega arith) (back16 (track_named es 4)) i ∷ at 5 (omega arith) (back16 (track_named es 5)) i
    ∷ at 6 (omega arith) (back16 (track_named es 6)) i ∷ at 7 (omega arith) (back16 (track_named es 7)) i ∷ [])
    ∙ sym (fill_by_all (entry_at es) es 8 None eight (λ k low. refl))
  where
    at : (k : ℕ) → k < 8 → get_or (entry_bytes es) (2 + 2 * k) 0 * 256 + get_or (entry_bytes es) (3 + 2 * k) 0 ≡ track_named es k → entry_in (bytes_of s ++ entry_bytes es) k ≡ entry_at es k
    at = entry_in_back s es

-- of all fields of a record
pub raw_of-record_block : (f : Fields) → IsWhole f → raw_of (record_block f) ≡ f
unfolding head_of with_head no_record
raw_of-record_block f whole =
    let first : List Bool = f.coordination ∷ f.long_busy ∷ f.recording ∷ f.flash_hold ∷ [] in
    let relation : List Bool = f.related ∷ f.nocopy ∷ f.persistent ∷ f.recorded ∷ f.inhibited ∷ f.revertible ∷ f.reversing ∷ f.member ∷ [] in
    λ i. record f {
      primary = part_back f.primary i;
      primary_state = state_back f.primary_state i;
      primary_partner = record { 0 = back16 f.primary_partner.0 i };
      coordination = flag_back first 0 (omega arith) i;
      long_busy = flag_back first 1 (omega arith) i;
      recording = flag_back first 2 (omega arith) i;
      attempt = back32 f.attempt i;
      out_of_sync = set_back f.out_of_sync (bytes_of f.change_recording) whole.out_of_sync i;
      change_recording = second_back f.out_of_sync f.change_recording whole.change_recording i;
      secondary = part_back f.secondary i;
      secondary_state = state_back f.secondary_state i;
      secondary_partner = record { 0 = back16 f.secondary_partner.0 i };
      seal = back32 f.seal i;
      related = flag_back relation 0 (omega arith) i;
      source = record { 0 = back16 f.source.0 i };
      nocopy = flag_back relation 1 (omega arith) i;
      persistent = flag_back relation 2 (omega arith) i;
      recorded = flag_back relation 3 (omega arith) i;
      inhibited = flag_back relation 4 (omega arith) i;
      own = set_back f.own (bytes_of f.previous_own) whole.own i;
      previous_own = second_back f.own f.previous_own whole.previous_own i;
      source_changes = set_back f.source_changes (bytes_of f.target_changes) whole.source_changes i;
      target_changes = second_back f.source_changes f.target_changes whole.target_changes i;
      sequence = back32 f.sequence i;
      previous_sequence = back32 f.previous_sequence i;
      revertible = flag_back relation 5 (omega arith) i;
      reversing = flag_back relation 6 (omega arith) i;
      member = flag_back relation 7 (omega arith) i;
      floor = back32 f.floor i;
      flash_hold = flag_back first 3 (omega arith) i;
      blank = set_back f.blank (entry_bytes f.entries) whole.blank i;
      entries = entries_back f.blank f.entries whole.entries i;
      staged = staged_back f.staged i;
    }

-- the law of the form of a record
pub read_back : (f : Fields) → IsWhole f → taken_from with_block 0 6 (record_block f) no_record ≡ f
unfolding taken_from
read_back f whole = raw_of-record_block f whole
