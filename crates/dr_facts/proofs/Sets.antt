-- Sets of tracks, and choices.
use Rattle.std.proofs.Common.{ℕ, ◌≡◌, ◌≢◌, ◌<◌, ◌+◌, zero, suc, inl, inr, refl, ap, sym, ◌∙◌, Bool, true, false, cond, not, ◌&&◌, ◌||◌, nat_eq, arith, rules, Option, Some, None, subst}
use Rattle.std.proofs.lemmas.Bool.Decides.{nat_tests, eqb_tells}
use Rattle.std.proofs.lemmas.Bool.{or_cases, or_parts, and_parts}
use Rattle.std.specs.Ordering.{nat_cmp}
use Rattle.std.specs.List.{range_with_len, list_any}
use Rattle.std.specs.Cmp.{unsigned_tied, nat_cmp_total}
use Rattle.std.specs.FinSet.{union, contains-union, difference, contains, insert, remove, empty, members, is_subset-contains, contains-from_list_nat, contains-difference}
use Rattle.dr_model.specs.Layout.{Tracks}
use Rattle.dr_model.specs.Relations.{all_tracks, is_whole, rest}
use Rattle.dr_logic.proofs.Sets.{in_difference}

pub none_from : (o : Option ℕ) → ((s : ℕ) → o ≡ Some s → ⊥) → o ≡ None
none_from None h = refl
none_from (Some s) h = absurd (h s refl)

pub insert_other : (s : Tracks) (t q : ℕ) → q ≢ t → contains (insert s t) q ≡ contains s q
insert_other s t q ne = grind (members, rules, nat_tests, unsigned_tied)

pub not_inserted : (s : Tracks) (t q : ℕ) → contains (insert s t) q ≡ false → (contains s q ≡ false) × (q ≢ t)
not_inserted s t q h = (grind (members, rules, nat_tests, unsigned_tied), λ e. grind (members, rules, nat_tests, unsigned_tied))

pub not_removed : (s : Tracks) (t : ℕ) → contains (remove s t) t ≡ false
not_removed s t = grind (members, rules, nat_tests, unsigned_tied)

pub not_in_empty : (q : ℕ) → contains {R = nat_cmp} empty q ≡ true → ⊥
not_in_empty q h = grind (members, rules)

pub if_true : {X : Type 0} {b : Bool} (x y : X) → b ≡ true → cond b x y ≡ x
if_true x y h = ap (λ c. cond c x y) h

pub if_false : {X : Type 0} {b : Bool} (x y : X) → b ≡ false → cond b x y ≡ y
if_false x y h = ap (λ c. cond c x y) h

in_range : (n b q : ℕ) → b < q + 1 → q < b + n → list_any (λ y. nat_eq y q) (range_with_len b n) ≡ true
in_range zero b q lo hi = absurd (omega arith)
in_range (suc n) b q lo hi = elim (eqb_tells b q) [
  | inl is ↦ ap (λ c. c || list_any (λ y. nat_eq y q) (range_with_len (b + 1) n)) is.0
  | inr not ↦ ap (λ c. c || list_any (λ y. nat_eq y q) (range_with_len (b + 1) n)) not.0 ∙ in_range n (b + 1) q (let ne : b ≢ q = not.1 in omega arith) (omega arith)
]

range_low : (n b q : ℕ) → list_any (λ y. nat_eq y q) (range_with_len b n) ≡ true → q < b + n
range_low zero b q h = absurd cc
range_low (suc n) b q h = elim (eqb_tells b q) [
  | inl is ↦ let e : b ≡ q = is.1 in omega arith
  | inr not ↦ let r = range_low n (b + 1) q (ap (λ c. c || list_any (λ y. nat_eq y q) (range_with_len (b + 1) n)) (sym not.0) ∙ h) in omega arith
]

pub low_all : (n q : ℕ) → contains (all_tracks n) q ≡ true → q < n
unfolding all_tracks
low_all n q h = let r = range_low n 0 q (sym (contains-from_list_nat (range_with_len 0 n) q) ∙ h) in omega arith

pub in_all : (n q : ℕ) → q < n → contains (all_tracks n) q ≡ true
unfolding all_tracks
in_all n q lt = contains-from_list_nat (range_with_len 0 n) q ∙ in_range n 0 q (omega arith) (omega arith)

pub whole_has : (n : ℕ) (own : Tracks) (q : ℕ) → is_whole n own ≡ true → q < n → contains own q ≡ true
unfolding is_whole
whole_has n own q w lt = is_subset-contains nat_cmp_total (all_tracks n) own w q (in_all n q lt)

pub in_rest : (n : ℕ) (own : Tracks) (q : ℕ) → contains (rest n own) q ≡ (contains (all_tracks n) q && not (contains own q))
unfolding rest
in_rest n own q = contains-difference nat_cmp_total (all_tracks n) own q

pub not_in_more : (e : Bool) (s : Tracks) (t q : ℕ) → contains (cond e (insert s t) s) q ≡ false → contains s q ≡ false
not_in_more true s t q h = (not_inserted s t q h).0
not_in_more false s t q h = h

-- what holds of each track of a set
abbrev pub In : Tracks → (ℕ → Type 0) → Type 0
In s P = (q : ℕ) → contains s q ≡ true → P q

pub in_cond : (e : Bool) (s u : Tracks) (P : ℕ → Type 0) → In s P → In u P → In (cond e s u) P
in_cond true s u P i j = i
in_cond false s u P i j = j

pub in_none : (P : ℕ → Type 0) → In empty P
in_none P q h = absurd (not_in_empty q h)

pub in_more : (s : Tracks) (t : ℕ) (P : ℕ → Type 0) → P t → In s P → In (insert s t) P
in_more s t P here i q h = elim (eqb_tells q t) [
  | inl is ↦ subst P (sym is.1) here
  | inr not ↦ i q (sym (insert_other s t q not.1) ∙ h)
]

pub rest_low : (n : ℕ) (own : Tracks) → In (rest n own) (λ q. q < n)
rest_low n own q h = low_all n q (and_parts _ _ (sym (in_rest n own q) ∙ h)).0

-- a relationship that stands still stood
pub still_related : (e related : Bool) (o s : ℕ) → cond (cond e false related) (Some (cond e 0 o)) None ≡ Some s → cond related (Some o) None ≡ Some s
still_related true related o s h = absurd cc
still_related false related o s h = h

pub to-difference : (s u : Tracks) (q : ℕ) → contains s q ≡ true → contains u q ≡ false → contains (difference s u) q ≡ true
to-difference s u q h n = in_difference s u q ∙ (λ i. h i && not (n i))

pub remove_other : (s : Tracks) (t q : ℕ) → q ≢ t → contains (remove s t) q ≡ contains s q
remove_other s t q ne = grind (members, rules, nat_tests, unsigned_tied)

pub from_union : (s u : Tracks) (P : ℕ → Type 0) → In s P → In u P → In (union s u) P
from_union s u P i j q h = elim (or_cases _ _ (sym (contains-union nat_cmp_total s u q) ∙ h)) [ inl a ↦ i q a | inr b ↦ j q b ]

pub not_in_union : (s u : Tracks) (q : ℕ) → contains (union s u) q ≡ false → (contains s q ≡ false) × (contains u q ≡ false)
not_in_union s u q h = or_parts _ _ (sym (contains-union nat_cmp_total s u q) ∙ h)

pub not_turned : {P : Type 0} (e r : Bool) → r ≡ false → cond e false r ≡ true → P
not_turned true r f h = absurd cc
not_turned false r f h = absurd cc
