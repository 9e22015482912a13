-- One member more.
use Rattle.std.proofs.Common.{◌≡◌, ℕ, zero, suc, ◌+◌, ◌<◌, Bool, true, false, not, List, [], ◌∷◌, ◌++◌, length, get_or, take, Option, None, Some, refl, sym, ◌∙◌, ap, min, arith, ◌==◌, if◌then◌else◌}
use Rattle.std.specs.List.{find}
use Rattle.std.specs.Option.{option_or}
use Rattle.std.proofs.lemmas.Grind.{common_steps}
use Rattle.std.proofs.lemmas.Slice.Zip.{length-zip}
use Rattle.std.proofs.lemmas.List.{map-append, append-nil, length-map}
use Rattle.std.proofs.lemmas.List.Elements.{filter-append}
use Rattle.std.proofs.lemmas.List.Folds.{find-append}
use Rattle.std.proofs.lemmas.Bool.Decides.{nat_tests}
use native.Mathlib.Numerals.{unary_clauses}
use Rattle.dr_model.specs.Decisions.{Shown, Numbers, numbers_in, first_and_other, revertibles, others, shown_by}
use Rattle.dr_decide.specs.Seen.{with_number}

first-push : (a n : ℕ) (found : Option ℕ) → first_and_other a (option_or found (if not (n == a) then Some n else None)) ≡ with_number (first_and_other a found) n
first-push a n (Some b) = refl
first-push a n None = grind (arith, nat_tests)

pub numbers_in-push : (ns : List ℕ) (n : ℕ) → numbers_in (ns ++ n ∷ []) ≡ with_number (numbers_in ns) n
numbers_in-push [] n = refl
numbers_in-push (a ∷ ns) n = ap (first_and_other a) (find-append (λ k. not (k == a)) ns (n ∷ [])) ∙ first-push a n (find (λ k. not (k == a)) ns)

-- a revertible member more
pub revertibles-push : (xs : List Shown) (n : ℕ) → revertibles (xs ++ (record { sequence = n; revertible = true }) ∷ []) ≡ revertibles xs ++ n ∷ []
revertibles-push xs n = simp (filter-append, map-append)

pub revertibles-stay : (xs : List Shown) (n : ℕ) → revertibles (xs ++ (record { sequence = n; revertible = false }) ∷ []) ≡ revertibles xs
revertibles-stay xs n = simp (filter-append, append-nil)

pub others-push : (xs : List Shown) (n : ℕ) → others (xs ++ (record { sequence = n; revertible = false }) ∷ []) ≡ others xs ++ n ∷ []
others-push xs n = simp (filter-append, map-append)

pub others-stay : (xs : List Shown) (n : ℕ) → others (xs ++ (record { sequence = n; revertible = true }) ∷ []) ≡ others xs
others-stay xs n = simp (filter-append, append-nil)

-- the members in front, with the one at place i, whose number and flag are these
pub taken-push : (numbers : List ℕ) (flags : List Bool) (i n : ℕ) (flag : Bool) → i < length numbers → i < length flags → n ≡ get_or numbers i n → flag ≡ get_or flags i flag → take (i + 1) (shown_by numbers flags) ≡ take i (shown_by numbers flags) ++ (record { sequence = n; revertible = flag }) ∷ []
taken-push [] flags i n flag low also is_n is_flag = absurd (omega arith)
taken-push (m ∷ numbers) [] i n flag low also is_n is_flag = absurd (omega arith)
taken-push (m ∷ numbers) (g ∷ flags) zero n flag low also is_n is_flag = λ k. (record { sequence = sym is_n k; revertible = sym is_flag k }) ∷ []
taken-push (m ∷ numbers) (g ∷ flags) (suc i) n flag low also is_n is_flag =
    simp unary_clauses (ap (λ xs. (record { sequence = m; revertible = g }) ∷ xs) (simp unary_clauses at (taken-push numbers flags i n flag (omega arith) (omega arith) is_n is_flag)))

-- the members in front are all of them at the lists' end
pub taken-all : (numbers : List ℕ) (flags : List Bool) (i : ℕ) → length numbers ≡ length flags → i ≡ min (length numbers) (length flags) → take i (shown_by numbers flags) ≡ shown_by numbers flags
taken-all numbers flags i equal is = grind (arith, common_steps, length-map, length-zip)

-- what is known of the numbers goes one member further
pub goes-push : (now next : Numbers) (ns ms : List ℕ) (n : ℕ) → now ≡ numbers_in ns → next ≡ with_number now n → ms ≡ ns ++ n ∷ [] → next ≡ numbers_in ms
goes-push now next ns ms n known one_more is = one_more ∙ (ap (λ r. with_number r n) known ∙ (sym (numbers_in-push ns n) ∙ ap numbers_in (sym is)))

pub goes-same : (now : Numbers) (ns ms : List ℕ) → now ≡ numbers_in ns → ms ≡ ns → now ≡ numbers_in ms
goes-same now ns ms known is = known ∙ ap numbers_in (sym is)
