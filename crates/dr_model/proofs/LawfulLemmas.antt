-- Lawful fields stay lawful.
use Rattle.std.proofs.Common.{ℕ, ◌≡◌, true, false, refl, rules, arith, None, inl, inr}
use Rattle.std.proofs.lemmas.List.{get_or-replicate, get_or_past}
use Rattle.std.proofs.lemmas.Bool.{cases_order}
use Rattle.std.proofs.lemmas.Bool.Decides.{nat_tests}
use Rattle.std.specs.Cmp.{unsigned_tied}
use Rattle.std.specs.FinSet.{contains, empty, remove, members}
use Rattle.std.specs.Ordering.{nat_cmp}
use Rattle.dr_model.specs.Layout.{Tracks, Fields, no_fields, free_entries, entry_at}
use Rattle.dr_model.specs.Lawful.{Low, HasSets, HasEntries, IsLawful}

pub low-empty : (n : ℕ) → Low n empty
low-empty n t h = absurd (let e : contains {R = nat_cmp} empty t ≡ false = grind (members, rules) in cc)

-- no entry is used
pub none_used : (k : ℕ) → entry_at free_entries k ≡ None
none_used k = elim (cases_order k 8) [
  | inl e ↦ get_or_past free_entries k None (omega (arith, e))
  | inr o ↦ elim o [ inl low ↦ get_or-replicate 8 k None None low | inr high ↦ get_or_past free_entries k None (omega (arith, high)) ]
]

pub has-free : (n : ℕ) → HasEntries n free_entries
has-free n = record {
  eight = refl;
  low = λ k t h. absurd (let none = none_used k in cc);
  apart = λ j k t h g. absurd (let none = none_used j in cc);
}

-- a volume that has nothing
pub lawful-no_fields : (n : ℕ) → IsLawful n no_fields
lawful-no_fields n = record {
  sets = record {
    out_of_sync_low = low-empty n;
    change_recording_low = low-empty n;
    own_low = low-empty n;
    previous_own_low = low-empty n;
    source_changes_low = low-empty n;
    target_changes_low = low-empty n;
    blank_low = low-empty n;
  };
  primary = λ absent. (refl, refl, refl, refl, refl, refl, refl);
  secondary = λ absent. (refl, refl, refl);
  relation = λ absent. (refl, refl, refl, refl, refl, refl, refl, refl, refl, refl, refl, refl, refl, refl, refl);
  entries = has-free n;
}

pub removed : (s : Tracks) (t q : ℕ) → contains (remove s t) q ≡ true → contains s q ≡ true
removed s t q h = grind (members, rules, nat_tests, unsigned_tied)

-- a track that is no longer blank
pub lawful-filled : (n : ℕ) (f : Fields) (t : ℕ) → IsLawful n f → IsLawful n (record f { blank = remove f.blank t })
lawful-filled n f t law = record {
  sets = let s : HasSets n f = law.sets in record {
    out_of_sync_low = s.out_of_sync_low;
    change_recording_low = s.change_recording_low;
    own_low = s.own_low;
    previous_own_low = s.previous_own_low;
    source_changes_low = s.source_changes_low;
    target_changes_low = s.target_changes_low;
    blank_low = λ q h. s.blank_low q (removed f.blank t q h);
  };
  primary = law.primary;
  secondary = law.secondary;
  relation = law.relation;
  entries = law.entries;
}
