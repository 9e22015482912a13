-- The laws of what is read of a record: it is what the layout says, and what was written.
use Rattle.std.proofs.Common.{ℕ, ◌≡◌, ◌≤◌, Bool, true, false, ◌&&◌, List, take, drop, sym, ◌∙◌, ap, refl, subst, nat_lt, nat_eq, Option, None, Some}
use Rattle.std.specs.Prelude.{is_some, if◌then◌else◌}
use Rattle.std.specs.FinSet.{empty}
use Rattle.dr_logic.specs.Bytes.{zeros}
use Rattle.dr_bits.specs.Tracks.{Tracks}
use Rattle.dr_ids.specs.BigEndian.{be16_at}
use Rattle.dr_model.specs.Layout as layout
use Rattle.dr_model.specs.Layout.{Blocks, byte, part_of, is_part, only_if, bit}
use Rattle.dr_volume.specs.declared.fields.Fields.{Fields}
use Rattle.dr_volume.specs.Plain.{plain, cut, normal, staged_below, IsNormal}
use Rattle.dr_volume.specs.Record.{IsWhole, record_block, with_head, no_record, raw_of}
use Rattle.dr_volume.specs.ReadsBack.{raw_of-record_block}
use Rattle.dr_volume.proofs.EntryLaws.{entries-again, has-entries_of}
use Rattle.dr_volume.proofs.Sets.{cut-of_bytes, cut-cut, in_range-cut, in_range-only_if}

-- six blocks mean what the layout says
pub plain-normal : (n : ℕ) (b : Blocks) → n ≤ 256 → plain (normal n (raw_of b)) ≡ layout.fields_of n b
unfolding normal with_head no_record layout.fields_of
plain-normal n b few =
    let f : layout.Fields = layout.fields_of n b in
    let first : Bool = is_part (part_of (byte (b 0) 0)) in
    let relation : Bool = bit (byte (b 0) 5) 0 in
    λ i. record f {
      out_of_sync = only_if first (cut-of_bytes n (take 32 (b 1)) few i) empty;
      change_recording = only_if first (cut-of_bytes n (drop 32 (b 1)) few i) empty;
      own = only_if relation (cut-of_bytes n (take 32 (b 2)) few i) empty;
      previous_own = only_if relation (cut-of_bytes n (drop 32 (b 2)) few i) empty;
      source_changes = only_if relation (cut-of_bytes n (take 32 (b 3)) few i) empty;
      target_changes = only_if relation (cut-of_bytes n (drop 32 (b 3)) few i) empty;
      blank = cut-of_bytes n (take 32 (b 4)) few i;
    }

below_if : (n t : ℕ) (there : Bool) → staged_below n (if there then Some t else None) ≡ (if there && nat_lt t n then Some t else None)
below_if n t true = refl
below_if n t false = refl

pub staged-normal : (n : ℕ) (b : Blocks) → (normal n (raw_of b)).staged ≡ layout.staged_of n b
unfolding normal with_head no_record layout.staged_of
staged-normal n b = below_if n (be16_at (b 0) 14) (nat_eq (byte (b 0) 7) 1)

-- the bytes of a track that six blocks stage, zeros where they stage none
pub staged_bytes-normal : (n : ℕ) (b : Blocks) → (normal n (raw_of b)).staged_bytes ≡ only_if (is_some (layout.staged_of n b)) (b 5) zeros
unfolding normal with_head no_record layout.staged_of
staged_bytes-normal n b = ap (λ o. only_if (is_some o) (b 5) zeros) (below_if n (be16_at (b 0) 14) (nat_eq (byte (b 0) 7) 1))

set_again : (there : Bool) (n : ℕ) (s : Tracks) → only_if there (cut n (only_if there (cut n s) empty)) empty ≡ only_if there (cut n s) empty
set_again true n s = cut-cut n s
set_again false n s = refl

again : {X : Type 0} (there : Bool) (x zero : X) → only_if there (only_if there x zero) zero ≡ only_if there x zero
again true x zero = refl
again false x zero = refl

and_again : (a b : Bool) → (a && (a && b)) ≡ (a && b)
and_again true b = refl
and_again false b = refl

below_again : (n : ℕ) (o : Option ℕ) → staged_below n (staged_below n o) ≡ staged_below n o
below_again n None = refl
below_again n (Some t) =
    elim (nat_lt t n) as (λ b. nat_lt t n ≡ b → staged_below n (if b then Some t else None) ≡ (if b then Some t else None)) [
      | true ↦ λ low. ap (λ b. if b then Some t else None) low
      | false ↦ λ high. refl
    ] refl

bytes_again : (n : ℕ) (o : Option ℕ) (x : List ℕ) → only_if (is_some (staged_below n (staged_below n o))) (only_if (is_some (staged_below n o)) x zeros) zeros ≡ only_if (is_some (staged_below n o)) x zeros
bytes_again n o x = ap (λ p. only_if (is_some p) (only_if (is_some (staged_below n o)) x zeros) zeros) (below_again n o) ∙ again (is_some (staged_below n o)) x zeros

-- a normal form is its own
pub normal-normal : (n : ℕ) (f : Fields) → IsNormal n (normal n f)
unfolding normal
normal-normal n f =
    let first : Bool = is_part f.primary in
    let second : Bool = is_part f.secondary in
    let relation : Bool = f.related in
    λ i. record f {
      primary_state = again first f.primary_state layout.no_fields.primary_state i;
      primary_partner = record { 0 = again first f.primary_partner.0 0 i };
      coordination = and_again first f.coordination i;
      long_busy = and_again first f.long_busy i;
      recording = and_again first f.recording i;
      out_of_sync = set_again first n f.out_of_sync i;
      change_recording = set_again first n f.change_recording i;
      secondary_state = again second f.secondary_state layout.no_fields.secondary_state i;
      secondary_partner = record { 0 = again second f.secondary_partner.0 0 i };
      seal = again second f.seal 0 i;
      source = record { 0 = again relation f.source.0 0 i };
      nocopy = and_again relation f.nocopy i;
      persistent = and_again relation f.persistent i;
      recorded = and_again relation f.recorded i;
      inhibited = and_again relation f.inhibited i;
      own = set_again relation n f.own i;
      previous_own = set_again relation n f.previous_own i;
      source_changes = set_again relation n f.source_changes i;
      target_changes = set_again relation n f.target_changes i;
      sequence = again relation f.sequence 0 i;
      previous_sequence = again relation f.previous_sequence 0 i;
      revertible = and_again relation f.revertible i;
      reversing = and_again relation f.reversing i;
      member = and_again relation f.member i;
      session = again relation f.session 0 i;
      blank = cut-cut n f.blank i;
      entries = entries-again n f.entries i;
      staged = below_again n f.staged i;
      staged_bytes = bytes_again n f.staged f.staged_bytes i;
    }

whole-normal : (n : ℕ) (f : Fields) → n ≤ 256 → IsWhole (normal n f)
unfolding normal
whole-normal n f few = record {
  out_of_sync = in_range-only_if (is_part f.primary) (cut n f.out_of_sync) (in_range-cut n f.out_of_sync few);
  change_recording = in_range-only_if (is_part f.primary) (cut n f.change_recording) (in_range-cut n f.change_recording few);
  own = in_range-only_if f.related (cut n f.own) (in_range-cut n f.own few);
  previous_own = in_range-only_if f.related (cut n f.previous_own) (in_range-cut n f.previous_own few);
  source_changes = in_range-only_if f.related (cut n f.source_changes) (in_range-cut n f.source_changes few);
  target_changes = in_range-only_if f.related (cut n f.target_changes) (in_range-cut n f.target_changes few);
  blank = in_range-cut n f.blank few;
  entries = (has-entries_of n f.entries).eight;
}

pub whole-of_normal : (n : ℕ) (f : Fields) → n ≤ 256 → IsNormal n f → IsWhole f
whole-of_normal n f few law = subst (λ g. IsWhole g) law (whole-normal n f few)

-- what is written of normal fields means those fields
pub fields-record_block : (n : ℕ) (f : Fields) → n ≤ 256 → IsNormal n f → layout.fields_of n (record_block f) ≡ plain f
fields-record_block n f few law =
    sym (plain-normal n (record_block f) few)
    ∙ ap (λ g. plain (normal n g)) (raw_of-record_block f (whole-of_normal n f few law))
    ∙ ap (λ g. plain g) law

pub staged-record_block : (n : ℕ) (f : Fields) → n ≤ 256 → IsNormal n f → layout.staged_of n (record_block f) ≡ f.staged
staged-record_block n f few law =
    sym (staged-normal n (record_block f))
    ∙ ap (λ g. (normal n g).staged) (raw_of-record_block f (whole-of_normal n f few law))
    ∙ ap (λ g. g.staged) law
