-- Sets of tracks.
use Rattle.std.proofs.Common.{ℕ, ◌≡◌, sym, ◌∙◌, true, false, rules, ap, ◌≢◌, refl, Bool, cond, not, ◌&&◌, slice_get, None}
use Rattle.std.proofs.lemmas.Bool.{not-true, and_parts, eqb-true}
use Rattle.std.specs.FinSet.{difference, contains, empty, members, empty_of_len, remove}
use Rattle.std.specs.Ordering.{nat_cmp}
use Rattle.std.proofs.lemmas.Bool.Decides.{nat_tests}
use Rattle.std.specs.Cmp.{unsigned_tied}
use Rattle.std.specs.List.{range_with_len}
use Rattle.dr_model.specs.Layout.{Tracks}
use Rattle.dr_logic.proofs.Sets.{in_difference}
use Rattle.dr_model.specs.Relations.{is_bare, in_order, lowest}
use Rattle.dr_logic.proofs.Lists.{filter-none}

pub from_difference : (s u : Tracks) (q : ℕ) → contains (difference s u) q ≡ true → (contains s q ≡ true) × (contains u q ≡ false)
from_difference s u q h = let both = and_parts _ _ (sym (in_difference s u q) ∙ h) in (both.0, not-true _ both.1)

pub empty_has : (q : ℕ) → contains {R = nat_cmp} empty q ≡ false
empty_has q = grind (members, rules)

-- a set without tracks has none
pub bare-has : (s : Tracks) (t : ℕ) → is_bare s ≡ true → contains s t ≡ false
bare-has s t h = ap (λ s. contains s t) (empty_of_len s (eqb-true _ 0 h)) ∙ empty_has t

pub not_removed_from : (s : Tracks) (t q : ℕ) → contains s q ≡ false → contains (remove s t) q ≡ false
not_removed_from s t q h = grind (members, rules, nat_tests, unsigned_tied)

pub not_after : (s : Tracks) (t q : ℕ) → q ≢ t → contains (remove s t) q ≡ false → contains s q ≡ false
not_after s t q ne h = grind (members, rules, nat_tests, unsigned_tied)

-- A write lands on a volume that may record: where it does, what is out of sync stays as it is. Where a coordination hold ends
-- in a void and the volume still records, it wasn't held.
pub landed_out : (part rec : Bool) (s t : Tracks) → rec ≡ true → cond (part && not rec) s t ≡ t
landed_out true true s t h = refl
landed_out false rec s t h = refl
landed_out true false s t h = absurd cc

pub lifted_out : (held rec : Bool) (s t : Tracks) → cond held false rec ≡ true → (rec ≡ true) × (cond held s t ≡ t)
lifted_out true rec s t h = absurd cc
lifted_out false rec s t h = (h, refl)

pub empty-lowest : (n : ℕ) → lowest n empty ≡ None
unfolding in_order
empty-lowest n = ap (λ xs. slice_get xs 0) (filter-none (contains empty) (range_with_len 0 n) empty_has)
