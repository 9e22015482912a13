-- The first of so many numbers that passes a test.
use Rattle.std.proofs.Common.{ℕ, zero, suc, ◌≡◌, ◌<◌, ◌+◌, Bool, true, false, cond, Some, None, arith, sym, ◌∙◌, ap, refl}
use Rattle.std.specs.List.{find, range_with_len}

-- none of the n numbers from a on passes
pub none-passes : (f : ℕ → Bool) (a n : ℕ) → ((i : ℕ) → i < n → f (a + i) ≡ false) → find f (range_with_len a n) ≡ None
none-passes f a zero none = refl
none-passes f a (suc n) none =
    let here : f a ≡ false = (let is : a + 0 ≡ a = omega arith in sym (ap f is) ∙ none 0 (omega arith)) in
    ap (λ b. cond b (Some a) (find f (range_with_len (a + 1) n))) here
    ∙ none-passes f (a + 1) n (λ i low. let is : a + 1 + i ≡ a + (i + 1) = omega arith in ap f is ∙ none (i + 1) (omega arith))

-- the one k places further is the first that passes
pub first-passes : (f : ℕ → Bool) (a n k : ℕ) → k < n → f (a + k) ≡ true → ((i : ℕ) → i < k → f (a + i) ≡ false) → find f (range_with_len a n) ≡ Some (a + k)
first-passes f a zero k low is none = absurd (omega arith)
first-passes f a (suc n) zero low is none =
    let e : a + 0 ≡ a = omega arith in
    ap (λ b. cond b (Some a) (find f (range_with_len (a + 1) n))) (sym (ap f e) ∙ is) ∙ ap Some (sym e)
first-passes f a (suc n) (suc k) low is none =
    let e : a + 0 ≡ a = omega arith in
    let there : a + 1 + k ≡ a + suc k = omega arith in
    ap (λ b. cond b (Some a) (find f (range_with_len (a + 1) n))) (sym (ap f e) ∙ none 0 (omega arith))
    ∙ first-passes f (a + 1) n k (omega arith) (ap f there ∙ is) (λ i below. let at : a + 1 + i ≡ a + (i + 1) = omega arith in ap f at ∙ none (i + 1) (omega arith))
    ∙ ap Some there

-- what is found is one of them
pub found-low : (f : ℕ → Bool) (a n t : ℕ) → find f (range_with_len a n) ≡ Some t → t < a + n
found-low f a zero t is = cc
found-low f a (suc n) t is = elim (f a) as (λ b. cond b (Some a) (find f (range_with_len (a + 1) n)) ≡ Some t → t < a + suc n) [
  | true ↦ λ e. let here : a ≡ t = cc in omega arith
  | false ↦ λ e. let more = found-low f (a + 1) n t e in omega arith
] is
