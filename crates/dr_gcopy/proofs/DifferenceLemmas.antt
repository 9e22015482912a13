-- Where the tracks of two volumes differ.
use Rattle.std.proofs.Common.{ℕ, ◌≡◌, ◌<◌, ◌+◌, Bool, not, true, false, List, Option, Some, None, arith, sym, ◌∙◌, ap}
use Rattle.std.specs.Str.{bytes_eq}
use Rattle.dr_model.specs.PairEntries.{first_differing}
use Rattle.dr_gcopy.proofs.FirstLemmas.{none-passes, first-passes, found-low}

-- whether track t has other contents on a than on b
abbrev pub differs : (ℕ → ℕ → List ℕ) → ℕ → ℕ → ℕ → Bool
differs contents a b t = not (bytes_eq (contents a t) (contents b t))

module _ (contents : ℕ → ℕ → List ℕ) (n a b : ℕ) where
  -- a track that differs, and none before it does: it is the first
  pub differing-first : (t : ℕ) → t < n → differs contents a b t ≡ true → ((i : ℕ) → i < t → differs contents a b i ≡ false) → Some t ≡ first_differing contents n a b
  differing-first t low is none =
      let here : 0 + t ≡ t = omega arith in
      sym (first-passes (differs contents a b) 0 n t low (ap (differs contents a b) here ∙ is) (λ i before. let there : 0 + i ≡ i = omega arith in ap (differs contents a b) there ∙ none i before) ∙ ap Some here)

  -- none differs
  pub differing-none : ((i : ℕ) → i < n → differs contents a b i ≡ false) → None ≡ first_differing contents n a b
  differing-none none =
      sym (none-passes (differs contents a b) 0 n (λ i low. let there : 0 + i ≡ i = omega arith in ap (differs contents a b) there ∙ none i low))

  -- the first track that differs is one of them
  pub differing-low : (x : Option ℕ) → x ≡ first_differing contents n a b → (t : ℕ) → x ≡ Some t → t < n
  differing-low x first t is = let low = found-low (differs contents a b) 0 n t (sym first ∙ is) in omega arith
