-- The laws of sets that are cut to the tracks of a volume.
use Rattle.std.proofs.Common.{ℕ, ◌≡◌, ◌≤◌, Bool, true, false, ◌&&◌, List, arith, sym, ◌∙◌, ap, nat_lt}
use Rattle.std.specs.Ordering.{nat_cmp}
use Rattle.std.specs.FinSet.{contains, empty, contains-empty}
use Rattle.std.proofs.lemmas.Bool.Decides.{nat_tests}
use Rattle.dr_bits.specs.Tracks.{Tracks, IsInRange, passing, first, of_bytes, bit_in}
use Rattle.dr_bits.specs.Membership.{contains-passing, contains-of_test}
use Rattle.dr_bits.proofs.Laws.{same_tracks, contains-keep_tracks, in_range-empty, from_list-passing}
use Rattle.dr_model.specs.Layout.{set_of, stands_in, only_if}
use Rattle.dr_volume.specs.Plain.{cut}

pub contains-cut : (n : ℕ) (s : Tracks) (q : ℕ) → n ≤ 256 → contains (cut n s) q ≡ (contains s q && nat_lt q n)
contains-cut n s q few =
    let both = contains-keep_tracks s (first n) q in
    let low = contains-of_test (λ t. nat_lt t n) q in
    grind (arith, nat_tests, both, low)

-- the set that bytes tell, cut to the tracks of a volume, is how the volume reads them
pub cut-of_bytes : (n : ℕ) (bytes : List ℕ) → n ≤ 256 → cut n (of_bytes bytes) ≡ set_of n bytes
unfolding set_of
cut-of_bytes n bytes few =
    same_tracks _ (passing (stands_in bytes) n) (λ q.
    let a = contains-cut n (of_bytes bytes) q few in
    let b = contains-of_test (bit_in bytes) q in
    let c = contains-passing (stands_in bytes) n q in
    grind (arith, nat_tests, a, b, c))
    ∙ sym (from_list-passing (stands_in bytes) n)

pub cut-cut : (n : ℕ) (s : Tracks) → cut n (cut n s) ≡ cut n s
cut-cut n s = same_tracks _ _ (λ q.
    let a = contains-keep_tracks (cut n s) (first n) q in
    let b = contains-keep_tracks s (first n) q in
    grind (arith, a, b))

pub cut-empty : (n : ℕ) → cut n empty ≡ empty
cut-empty n = same_tracks _ _ (λ q. contains-keep_tracks empty (first n) q ∙ ap (λ b. b && contains (first n) q) (contains-empty nat_cmp q) ∙ sym (contains-empty nat_cmp q))

pub in_range-cut : (n : ℕ) (s : Tracks) → n ≤ 256 → IsInRange (cut n s)
in_range-cut n s few q high = let a = contains-cut n s q few in grind (arith, nat_tests, a)

pub in_range-only_if : (there : Bool) (s : Tracks) → IsInRange s → IsInRange (only_if there s empty)
in_range-only_if true s in_s = in_s
in_range-only_if false s in_s = in_range-empty
