-- How entries are kept: a bit for each that is used, and the track that each names.
use Rattle.std.proofs.Common.{ℕ, ◌≡◌, ◌<◌, ◌+◌, Bool, true, false, List, length, get_or, map, Option, None, Some, arith, sym, ◌∙◌, ap, refl}
use Rattle.std.specs.Prelude.{is_some, unwrap_or, if◌then◌else◌}
use Rattle.std.specs.List.{range_with_len, slice_index_or}
use Rattle.std.proofs.lemmas.List.FromFn.{fill_by_all, get_or-map-range_with_len}
use Rattle.dr_bits.specs.Numbers.{number_of-bit, number_of_is}
use Rattle.dr_model.specs.Layout.{Entries, bit, entry_at}
use Rattle.dr_volume.specs.Codes.{flags_byte}
use Rattle.dr_volume.specs.declared.entries.Entries.TheInside.{Inside}

-- the track that entry k names, zero if it is free
abbrev pub track_named : Entries → ℕ → ℕ
track_named es k = unwrap_or (entry_at es k) 0

-- a bit for each used entry
abbrev pub entry_flags : Entries → ℕ
entry_flags es = flags_byte (map (λ k. is_some (entry_at es k)) (range_with_len 0 8))

-- entry k
abbrev pub entry_held : Inside → ℕ → Option ℕ
entry_held p k = if bit p.used k then Some (slice_index_or p.tracks k 0) else None

-- the entries that are kept so
unfoldable pub entries_held : Inside → Entries
entries_held p = map (entry_held p) (range_with_len 0 8)

-- eight bits and eight tracks, each zero if its entry is free
abbrev pub IsPacked : Inside → Type 0
IsPacked p = record {
  byte : p.used < 256;
  eight : length p.tracks ≡ 8;
  zero : (k : ℕ) → k < 8 → bit p.used k ≡ false → slice_index_or p.tracks k 0 ≡ 0;
}

-- how these entries are kept
abbrev pub packed : Entries → Inside
packed es = record { used = entry_flags es; tracks = map (track_named es) (range_with_len 0 8) }

-- each bit of a byte of flags is its flag
pub bit-flags : (f : ℕ → Bool) (k : ℕ) → k < 8 → bit (flags_byte (map f (range_with_len 0 8))) k ≡ f k
bit-flags f k low =
    number_of-bit (λ k. get_or (map f (range_with_len 0 8)) k false) 0 8 k low ∙ get_or-map-range_with_len f 0 8 (0 + k) k false (omega arith) (omega arith)

-- an entry of its flag and its track
pub entry_back : (flag : Bool) (n : ℕ) (e : Option ℕ) → flag ≡ is_some e → n ≡ unwrap_or e 0 → (if flag then Some n else None) ≡ e
entry_back flag n None flag_is n_is = ap (λ b. if b then Some n else None) flag_is
entry_back flag n (Some t) flag_is n_is = ap (λ b. if b then Some n else None) flag_is ∙ ap (λ x. Some x) n_is

-- entry k of those that are kept
pub entry_at-held : (p : Inside) (k : ℕ) → k < 8 → entry_at (entries_held p) k ≡ entry_held p k
unfolding entries_held
entry_at-held p k low = get_or-map-range_with_len (entry_held p) 0 8 k k None low (omega arith)

-- what a flag gives is there if the flag is set
pub some-held : (b : Bool) (t : ℕ) → is_some (if b then Some t else None) ≡ b
some-held true t = refl
some-held false t = refl

-- so an entry is used if its bit is set
pub is_some-held : (p : Inside) (k : ℕ) → k < 8 → is_some (entry_at (entries_held p) k) ≡ bit p.used k
is_some-held p k low = ap (λ e. is_some e) (entry_at-held p k low) ∙ some-held (bit p.used k) (slice_index_or p.tracks k 0)

-- and it is its number, if that is zero when the flag isn't set
named-held : (b : Bool) (t : ℕ) → (b ≡ false → t ≡ 0) → unwrap_or (if b then Some t else None) 0 ≡ t
named-held true t zero = refl
named-held false t zero = sym (zero refl)

-- so entry k names its track
pub track_named-held : (p : Inside) → IsPacked p → (k : ℕ) → k < 8 → track_named (entries_held p) k ≡ slice_index_or p.tracks k 0
track_named-held p is k low = ap (λ e. unwrap_or e 0) (entry_at-held p k low) ∙ named-held (bit p.used k) (slice_index_or p.tracks k 0) (is.zero k low)

-- the bits come back
pub entry_flags-held : (p : Inside) → p.used < 256 → entry_flags (entries_held p) ≡ p.used
entry_flags-held p low =
    let used : List Bool = map (λ k. is_some (entry_at (entries_held p) k)) (range_with_len 0 8) in
    sym (number_of_is (λ k. get_or used k false) 0 8 p.used low (λ k within.
    sym (get_or-map-range_with_len (λ k. is_some (entry_at (entries_held p) k)) 0 8 (0 + k) k false (omega arith) (omega arith) ∙ is_some-held p k within)))

-- and so does all
pub packed-held : (p : Inside) → IsPacked p → packed (entries_held p) ≡ p
packed-held p is = λ i. record {
  used = entry_flags-held p is.byte i;
  tracks = sym (fill_by_all (track_named (entries_held p)) p.tracks 8 0 is.eight (λ k low. sym (track_named-held p is k low))) i;
}
