-- A device of zeros: what a volume that was just defined shows.
use Rattle.std.proofs.Common.{take, ℕ, ◌≡◌, ◌≤◌, ◌^◌, ◌/◌, ◌%◌, List, get_or, replicate, refl, ap, ◌∙◌, arith, inl, inr, Bool, true, false, cond, nat_eq, nat_lt, Some, None, length}
use Rattle.std.proofs.Math.Nat.{zero-div}
use Rattle.std.proofs.lemmas.List.{get_or-replicate, get_or_past, length-replicate, take-replicate}
use Rattle.std.proofs.lemmas.Bool.Decides.{leb_tells}
use Rattle.std.specs.List.{range_with_len}
use Rattle.std.specs.FinSet.{empty, from_list, contains}
use Rattle.dr_logic.specs.Bytes.{zeros}
use Rattle.dr_model.specs.Control.{new_volume}
use Rattle.dr_model.specs.Layout.{Blocks, Fields, entry_of, byte, bit, stands_in, set_of, slot_chosen, fields_of, entries_of, staged_of, physical, fields, staged, no_fields, chosen, is_staged}
use Rattle.dr_config.specs.declared.entries.VolumeEntry.{VolumeEntry}
use Rattle.dr_volume.specs.View.{volume_on, track_on, saved_on, side_in}
use Rattle.dr_logic.proofs.Lists.{filter-none}

-- the blocks of a device that was just added
abbrev pub zero_blocks : Blocks
zero_blocks b = zeros

past_end : (xs : List ℕ) (n k : ℕ) → length xs ≡ n → n ≤ k → get_or xs k 0 ≡ 0
past_end xs n k sized past = get_or_past xs k 0 (omega arith)

-- each byte of a list of zeros is 0, and so is what lies past its end
byte-zeros : (n k : ℕ) → byte (replicate n 0) k ≡ 0
byte-zeros n k = elim (leb_tells n k) as (λ _. byte (replicate n 0) k ≡ 0) [
  | inl p ↦ past_end (replicate n 0) n k (length-replicate n 0) p.1
  | inr p ↦ get_or-replicate n k 0 0 (let h = p.1 in omega arith)
]

bit-zero : (k : ℕ) → bit 0 k ≡ false
bit-zero k = ap (λ n. nat_eq (n % 2) 1) (zero-div (2 ^ k))

none-stand : (n t : ℕ) → stands_in (replicate n 0) t ≡ false
none-stand n t = ap (λ x. bit x (t % 8)) (byte-zeros n (t / 8)) ∙ bit-zero (t % 8)

set-zeros : (n tracks : ℕ) → set_of tracks (replicate n 0) ≡ empty
unfolding set_of
set-zeros n tracks = ap from_list (filter-none (stands_in (replicate n 0)) (range_with_len 0 tracks) (none-stand n))

first-zeros : (tracks : ℕ) → set_of tracks (take 32 zeros) ≡ empty
unfolding zeros
first-zeros tracks = ap (set_of tracks) (take-replicate 32 64 0 (omega arith)) ∙ set-zeros 32 tracks

byte-of-zero : (k : ℕ) → byte zeros k ≡ 0
unfolding zeros
byte-of-zero k = byte-zeros 64 k

pub slot-zeros : slot_chosen zero_blocks ≡ false
slot-zeros = ap (λ n. bit n 0) (byte-of-zero 0) ∙ bit-zero 0

pub fields-zeros : (tracks : ℕ) → fields tracks zero_blocks ≡ no_fields
unfolding fields_of entries_of zeros
fields-zeros tracks i = record no_fields { blank = first-zeros tracks i }

pub staged-zeros : (tracks : ℕ) → staged tracks zero_blocks ≡ None
unfolding staged_of zeros
staged-zeros tracks = refl

-- a volume on zeros is one that was just defined
pub volume-zeros : (e : VolumeEntry) → volume_on zero_blocks (Some e) ≡ new_volume e.server e.tracks
volume-zeros e i = record (new_volume e.server e.tracks) { slot = slot-zeros i; fields = fields-zeros e.tracks i; staged = staged-zeros e.tracks i }

zeros-either : (b : Bool) → cond b zeros zeros ≡ zeros
zeros-either true = refl
zeros-either false = refl

physical-zeros : (n k : ℕ) → physical n zero_blocks k ≡ zeros
unfolding physical
physical-zeros n k =
    ap (λ o. cond (is_staged o k) (chosen zero_blocks 5) (cond (contains (fields n zero_blocks).blank k) zeros zeros)) (staged-zeros n)
    ∙ zeros-either (contains (fields n zero_blocks).blank k)

track-either : (b : Bool) (n k : ℕ) → cond b (physical n zero_blocks k) zeros ≡ zeros
track-either true n k = physical-zeros n k
track-either false n k = refl

-- and each of its tracks is zeros
pub track-zeros : (e : VolumeEntry) (k : ℕ) → track_on zero_blocks (Some e) k ≡ zeros
track-zeros e k = track-either (nat_lt k e.tracks) e.tracks k

-- nothing is saved of a track
pub saved-zeros : (e : VolumeEntry) (k : ℕ) → saved_on zero_blocks (Some e) k ≡ zeros
saved-zeros e k = ap (λ (f : Fields). side_in zero_blocks e.tracks (entry_of f.entries k)) (fields-zeros e.tracks)
