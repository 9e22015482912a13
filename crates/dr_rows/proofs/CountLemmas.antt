-- Some element passes a test if the count of those that pass isn't 0; so there are findings if their count isn't 0.
use Rattle.std.proofs.Common.{◌≡◌, ℕ, suc, ◌+◌, Bool, true, false, ◌||◌, List, [], ◌∷◌, length, refl, ap, ap₂, ◌∙◌, arith, nat_lt}
use Rattle.std.specs.Prelude.{filter, count_by}
use Rattle.std.specs.List.{list_any, range_with_len}
use Rattle.std.proofs.lemmas.Bool.Decides.{nat_tests}
use Rattle.std.proofs.lemmas.List.Sums.{length-filter}
use Rattle.dr_plan.specs.Sweep.{Sweep}
use Rattle.dr_rows.specs.Calm.{Calm, is_calm_finding, is_mistaken, is_unannounced}
use Rattle.dr_rows.specs.Findings.{calm_count, finding_count, has_finding, is_finding, is_never_kept, never_kept_count, wanted}
use Rattle.dr_rows.specs.Outcome.{Outcome}

more : (n : ℕ) → true ≡ nat_lt 0 (suc n)
more n = grind (arith, nat_tests)

one-more : {X : Type 0} (p : X → Bool) (x : X) (xs : List X) (b : Bool) → p x ≡ b → list_any p xs ≡ nat_lt 0 (length (filter p xs)) → list_any p (x ∷ xs) ≡ nat_lt 0 (length (filter p (x ∷ xs)))
one-more p x xs true is rest = rw is (more (length (filter p xs)))
one-more p x xs false is rest = rw is rest

any-filtered : {X : Type 0} (p : X → Bool) (xs : List X) → list_any p xs ≡ nat_lt 0 (length (filter p xs))
any-filtered p [] = refl
any-filtered p (x ∷ xs) = one-more p x xs (p x) refl (any-filtered p xs)

any-counted : {X : Type 0} (p : X → Bool) (xs : List X) → list_any p xs ≡ nat_lt 0 (count_by p xs)
any-counted p xs = any-filtered p xs ∙ ap (nat_lt 0) (length-filter p xs)

either : (m n : ℕ) → (nat_lt 0 m || nat_lt 0 n) ≡ nat_lt 0 (m + n)
either m n = grind (arith, nat_tests)

calm-counted : (plan : Sweep) (calm : Calm) → is_calm_finding plan calm ≡ nat_lt 0 (calm_count plan calm)
calm-counted plan calm =
    ap₂ (λ a b. a || b) (any-counted (is_unannounced plan) calm.told) (any-counted (is_mistaken calm) plan.uses) ∙ either (count_by (is_unannounced plan) calm.told) (count_by (is_mistaken calm) plan.uses)

pub findings_counted : (plan : Sweep) (calm : Calm) (rows : List Outcome) → has_finding plan calm rows ≡ nat_lt 0 (finding_count plan calm rows)
findings_counted plan calm rows =
    let of_lines = never_kept_count plan rows in
    let of_rows = count_by (is_finding plan (wanted plan)) rows in
    ap₂ (λ a b. a || b)
    (ap₂ (λ a b. a || b) (calm-counted plan calm) (any-counted (is_never_kept plan rows) (range_with_len 0 (length plan.recovery))) ∙ either (calm_count plan calm) of_lines)
    (any-counted (is_finding plan (wanted plan)) rows)
    ∙ either (calm_count plan calm + of_lines) of_rows
