-- The laws of entries as they are kept: a bit for each that is used, and the track that each names.
use Rattle.std.proofs.Common.{ℕ, zero, suc, [], ◌∷◌, ◌++◌, ◌≡◌, ◌≢◌, ◌<◌, ◌+◌, ◌-◌, not, ◌&&◌, ◌||◌, cond, w8, Bool, true, false, List, map, length, get_or, set, sym, ◌∙◌, ap, refl, arith, nat_eq, nat_lt, Option, None, Some, inl, inr}
use Rattle.std.specs.Prelude.{is_none, is_some, unwrap_or, min, bit_and, if◌then◌else◌}
use Rattle.std.specs.Int.{bit_at, bit_not, trailing_zeros}
use Rattle.std.specs.List.{list_all, list_any, position, position_or_len, range_with_len}
use Rattle.std.proofs.lemmas.Bool.{eq-eqb}
use Rattle.std.proofs.lemmas.Bool.Decides.{eqb_tells, nat_tests}
use Rattle.std.proofs.lemmas.Nat.Bits.{bit_at_and, bit_at_not, bit_at-lt, bit_at-trailing_zeros}
use Rattle.std.proofs.lemmas.List.FromFn.{fill_by_all, get_or-map-range_with_len, length-map-range_with_len}
use Rattle.dr_bits.specs.Numbers.{number_of_below}
use Rattle.dr_bits.proofs.WordLaws.{and_bit}
use Rattle.dr_bits.specs.Tracks.{number_of}
use Rattle.dr_logic.proofs.Lists.{position-first}
use Rattle.dr_model.specs.Layout.{Entries, bit, entry_at, entry_taken, entry_of, is_taken, is_track, with_entry, without_entry}
use Rattle.dr_volume.specs.Codes.{flags_byte, two_bytes}
use Rattle.dr_volume.specs.Record.{track_bytes, same_tracks}
use Rattle.dr_volume.specs.Packed.{track_named, entry_flags, entry_held, entries_held, IsPacked, packed, bit-flags, some-held, entry_back, entry_flags-held, track_named-held}
use Rattle.dr_volume.specs.declared.entries.Entries.TheInside.{Inside}

-- if none is used, each is free
pub free-at : (es : Entries) → list_all (λ e. is_none e) es ≡ true → (k : ℕ) → entry_at es k ≡ None
free-at [] h k = refl
free-at (None ∷ es) h zero = refl
free-at (None ∷ es) h (suc k) = free-at es h k
free-at (Some t ∷ es) h k = absurd (cc)

-- and no bit is set
no-flags : (es : Entries) → list_all (λ e. is_none e) es ≡ true → entry_flags es ≡ 0
unfolding number_of
no-flags es h = λ i. flags_byte (map (λ k. is_some (free-at es h k i)) (range_with_len 0 8))

-- none is used if the byte of bits is zero
pub all-free : (p : Inside) → p.used < 256 → nat_eq p.used 0 ≡ list_all (λ e. is_none e) (entries_held p)
unfolding entries_held
all-free p low = told _ refl
  where
    told : (b : Bool) → list_all (λ e. is_none e) (entries_held p) ≡ b → nat_eq p.used 0 ≡ list_all (λ e. is_none e) (entries_held p)
    told true all = ap (λ n. nat_eq n 0) (sym (entry_flags-held p low) ∙ no-flags (entries_held p) all) ∙ sym all
    told false all = elim (eqb_tells p.used 0) [
      | inl z ↦ absurd (let e : true ≡ false = (λ i. list_all (λ e. is_none e) (map (entry_held record { used = sym z.1 i; tracks = p.tracks }) (range_with_len 0 8))) ∙ all in cc)
      | inr n ↦ n.0 ∙ sym all
    ]

-- an entry that isn't used names no track
no-track : (e : Option ℕ) → is_some e ≡ false → unwrap_or e 0 ≡ 0
no-track None h = refl
no-track (Some t) h = absurd (cc)

-- any entries can be kept
pub is-packed : (es : Entries) → IsPacked (packed es)
is-packed es = record {
  byte = number_of_below _ 0 8;
  eight = length-map-range_with_len (track_named es) 0 8;
  zero = λ k low free.
      get_or-map-range_with_len (track_named es) 0 8 k k 0 low (omega arith) ∙ no-track (entry_at es k) (sym (bit-flags (λ k. is_some (entry_at es k)) k low) ∙ free);
}

-- and are as they were
pub held-packed : (es : Entries) → length es ≡ 8 → entries_held (packed es) ≡ es
unfolding entries_held
held-packed es eight =
    sym (fill_by_all (entry_held (packed es)) es 8 None eight (λ k low. sym (
    entry_back (bit (entry_flags es) k) (get_or (map (track_named es) (range_with_len 0 8)) k 0) (entry_at es k) (bit-flags (λ k. is_some (entry_at es k)) k low)
    (get_or-map-range_with_len (track_named es) 0 8 k k 0 low (omega arith)))))

-- the tracks come back in bytes
pub tracks-held : (p : Inside) → IsPacked p → track_bytes (λ k. get_or p.tracks k 0) ≡ track_bytes (track_named (entries_held p))
tracks-held p is =
    (λ i. two_bytes (at 0 (omega arith) i) ++ two_bytes (at 1 (omega arith) i) ++ two_bytes (at 2 (omega arith) i) ++ two_bytes (at 3 (omega arith) i)
    ++ two_bytes (at 4 (omega arith) i) ++ two_bytes (at 5 (omega arith) i) ++ two_bytes (at 6 (omega arith) i) ++ two_bytes (at 7 (omega arith) i))
  where
    at : (k : ℕ) → k < 8 → get_or p.tracks k 0 ≡ track_named (entries_held p) k
    at k low = sym (track_named-held p is k low)

-- a bit of two bytes is set if it is in both
bit-and : (a b k : ℕ) → bit (bit_and a b) k ≡ (bit a k && bit b k)
bit-and a b k = ap (λ n. nat_eq n 1) (bit_at_and a b k) ∙ and_bit (bit_at a k) (bit_at b k) (bit_at-lt a k) (bit_at-lt b k)

-- and of the other bits of a byte, if it isn't set there
not-set : (x : ℕ) → x < 2 → nat_eq (1 - x) 1 ≡ not (nat_eq x 1)
not-set x low = grind (arith, nat_tests)

bit-not : (a k : ℕ) → a < 256 → k < 8 → bit (bit_not w8 a) k ≡ not (bit a k)
bit-not a k low within = ap (λ n. nat_eq n 1) (bit_at_not w8 a k low within) ∙ not-set (bit_at a k) (bit_at-lt a k)

-- the lowest bit of a byte stands at the place of the lowest entry, if both pass alike
lowest-alike : (n : ℕ) (test : ℕ → Bool) → ((k : ℕ) → k < 8 → bit n k ≡ test k) → position (λ k. bit n k) (range_with_len 0 8) ≡ position test (range_with_len 0 8)
lowest-alike n test at =
    λ i. position (λ b. b) (at 0 (omega arith) i ∷ at 1 (omega arith) i ∷ at 2 (omega arith) i ∷ at 3 (omega arith) i ∷ at 4 (omega arith) i
    ∷ at 5 (omega arith) i ∷ at 6 (omega arith) i ∷ at 7 (omega arith) i ∷ [])

-- as the entry that is taken into use
none-held : (b : Bool) (t : ℕ) → is_none (if b then Some t else None) ≡ not b
none-held true t = refl
none-held false t = refl

pub entry_taken-held : (p q : Inside) → p.used < 256 → position (λ k. bit (bit_and (bit_not w8 p.used) q.used) k) (range_with_len 0 8) ≡ entry_taken (entries_held p) (entries_held q)
unfolding entries_held
entry_taken-held p q low = lowest-alike (bit_and (bit_not w8 p.used) q.used) (λ k. is_taken (entry_held p k, entry_held q k)) (λ k within.
    bit-and (bit_not w8 p.used) q.used k
    ∙ (λ i. (bit-not p.used k low within ∙ sym (none-held (bit p.used k) (get_or p.tracks k 0))) i && sym (some-held (bit q.used k) (get_or q.tracks k 0)) i))

-- or the one that names a track
track-held : (b : Bool) (s t : ℕ) → is_track (if b then Some s else None) t ≡ (b && nat_eq t s)
track-held true s t = refl
track-held false s t = refl

pub entry_of-held : (p : Inside) (t : ℕ) → position (λ k. bit (bit_and p.used (same_tracks p.tracks t)) k) (range_with_len 0 8) ≡ entry_of (entries_held p) t
unfolding entries_held
entry_of-held p t = lowest-alike (bit_and p.used (same_tracks p.tracks t)) (λ k. is_track (entry_held p k) t) (λ k within.
    bit-and p.used (same_tracks p.tracks t) k
    ∙ ap (λ b. bit p.used k && b) (bit-flags (λ k. nat_eq t (get_or p.tracks k 0)) k within)
    ∙ sym (track-held (bit p.used k) (get_or p.tracks k 0) t))

-- if no bit is set, none names it
pub names-none : (p : Inside) (t : ℕ) → p.used ≡ 0 → None ≡ entry_of (entries_held p) t
unfolding entries_held
names-none p t none = λ i. position (λ e. is_track e t) (map (entry_held record { used = sym none i; tracks = p.tracks }) (range_with_len 0 8))

-- a test passes somewhere if it has a position
before-end : {X : Type 0} (p : X → Bool) (xs : List X) → nat_lt (position_or_len p xs) (length xs) ≡ list_any p xs
before-end p [] = refl
before-end p (x ∷ xs) = elim (p x) as (λ b. nat_lt (cond (not b) (1 + position_or_len p xs) 0) (suc (length xs)) ≡ (b || list_any p xs)) [
  | true ↦ let e : nat_lt 0 (suc (length xs)) ≡ true = grind (arith, nat_tests) in e
  | false ↦ (let e : nat_lt (1 + position_or_len p xs) (suc (length xs)) ≡ nat_lt (position_or_len p xs) (length xs) = grind (arith, nat_tests) in e) ∙ before-end p xs
]

there-at : {X : Type 0} (b : Bool) (x : X) → is_some (cond b (Some x) None) ≡ b
there-at true x = refl
there-at false x = refl

pub there-any : {X : Type 0} (p : X → Bool) (xs : List X) → is_some (position p xs) ≡ list_any p xs
there-any p xs = there-at _ (position_or_len p xs) ∙ before-end p xs

-- the lowest bit of a byte
pub lowest-bit : (n : ℕ) → n ≢ 0 → n < 256 → Some (trailing_zeros w8 n) ≡ position (λ k. bit n k) (range_with_len 0 8)
lowest-bit n some low =
    let at = bit_at-trailing_zeros w8 n (omega (arith, some)) low in
    let within : trailing_zeros w8 n < 8 = at.0 in
    position-first (λ k. bit n k) (range_with_len 0 8) (trailing_zeros w8 n) within
    (λ j below is. absurd (
    let e : false ≡ true = sym (ap (λ b. nat_eq b 1) (at.2 j below)) ∙ sym (ap (λ k. bit n k) (place j (omega (arith, below, within)))) ∙ is in cc))
    (ap (λ k. bit n k) (place (trailing_zeros w8 n) within) ∙ eq-eqb _ 1 at.1)
  where
    place : (k : ℕ) → k < 8 → get_or (range_with_len 0 8) k 0 ≡ k
    place k within = get_or-map-range_with_len (λ k. k) 0 8 k k 0 within (omega arith)

-- the lowest free entry names a track
lowest-at : {X : Type 0} (p : X → Bool) (xs : List X) (k : ℕ) → Some k ≡ position p xs → position_or_len p xs ≡ k
lowest-at p xs k is = grind (arith, nat_tests)

set-lowest : (es : Entries) (t : ℕ) → set es (position_or_len (λ e. is_none e) es) (Some t) ≡ with_entry es t
set-lowest [] t = refl
set-lowest (None ∷ es) t = refl
set-lowest (Some s ∷ es) t =
    let n : ℕ = position_or_len (λ e. is_none e) es in
    ap (λ k. set (Some s ∷ es) k (Some t)) (let e : 1 + n ≡ suc n = omega arith in e) ∙ ap (λ l. Some s ∷ l) (set-lowest es t)

pub names-lowest : (es : Entries) (k t : ℕ) → Some k ≡ position (λ e. is_none e) es → set es k (Some t) ≡ with_entry es t
names-lowest es k t is = ap (λ n. set es n (Some t)) (sym (lowest-at (λ e. is_none e) es k is)) ∙ set-lowest es t

-- if none is free, they stay
all-used : (es : Entries) (t : ℕ) → list_any (λ e. is_none e) es ≡ false → es ≡ with_entry es t
all-used [] t h = refl
all-used (None ∷ es) t h = absurd (cc)
all-used (Some s ∷ es) t h = ap (λ l. Some s ∷ l) (all-used es t h)

pub none-lowest : (es : Entries) (t : ℕ) → None ≡ position (λ e. is_none e) es → es ≡ with_entry es t
none-lowest es t is = all-used es t (sym (there-any (λ e. is_none e) es) ∙ ap (λ o. is_some o) (sym is))

-- and if none is used, none is freed
pub none-freed : (es : Entries) (t : ℕ) → list_all (λ e. is_none e) es ≡ true → es ≡ without_entry es t
none-freed [] t h = refl
none-freed (None ∷ es) t h = ap (λ l. None ∷ l) (none-freed es t h)
none-freed (Some s ∷ es) t h = absurd (cc)

-- eight entries, one by one
pub one-by-one : (es : Entries) → length es ≡ 8 → es ≡ map (entry_at es) (range_with_len 0 8)
one-by-one es eight = fill_by_all (entry_at es) es 8 None eight (λ k low. refl)
