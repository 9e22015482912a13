-- A table changed at one number, or at two.
use Rattle.std.proofs.Common.{ℕ, ◌≡◌, ap, arith, true, cond, nat_eq, ◌≢◌, false, ◌∙◌, Bool, sym, inl, inr}
use Rattle.std.proofs.lemmas.Bool.Decides.{nat_tests}
use Rattle.std.proofs.lemmas.Bool.{cases_eq}
use Rattle.dr_logic.specs.Tables.{at, at2}

pub at_same : {X : Type 0} (f : ℕ → X) (k : ℕ) (x : X) → at f k x k ≡ x
at_same f k x = let h : nat_eq k k ≡ true = grind (arith, nat_tests) in ap (λ b. cond b x (f k)) h

pub at_other : {X : Type 0} (f : ℕ → X) (k : ℕ) (x : X) (q : ℕ) → q ≢ k → at f k x q ≡ f q
at_other f k x q ne = let h : nat_eq q k ≡ false = grind (arith, nat_tests) in ap (λ b. cond b x (f q)) h

-- a table that is changed to what it is
pub at-itself : {X : Type 0} (f : ℕ → X) (k : ℕ) → at f k (f k) ≡ f
at-itself f k i q = elim (cases_eq q k) as (λ h. at f k (f k) q ≡ f q) [
  | inl e ↦ ap (at f k (f k)) e ∙ at_same f k (f k) ∙ ap f (sym e)
  | inr ne ↦ at_other f k (f k) q ne
] i

-- a table changed at j, k, there and elsewhere
pub at2_same : {X : Type 0} (f : ℕ → ℕ → X) (j k : ℕ) (x : X) → at2 f j k x j k ≡ x
at2_same f j k x =
    let e : nat_eq j j ≡ true = grind (arith, nat_tests) in
    ap (λ v. cond v (at (f j) k x k) (f j k)) e ∙ at_same (f j) k x

pub off_later : (f : ℕ → Bool) (k q : ℕ) → at f k false q ≡ true → f q ≡ true
off_later f k q h = elim (cases_eq q k) [
  | inl e ↦ (let never : true ≡ false = sym h ∙ ap (at f k false) e ∙ at_same f k false in absurd (cc))
  | inr ne ↦ sym (at_other f k false q ne) ∙ h
]
