-- Where write u lays a byte and no other write lays any, the image of a list of writes says whether u is one of them.
use Rattle.std.proofs.Common.{ℕ, ◌≡◌, ◌≢◌, inl, inr, refl, ap, sym, ◌∙◌, Bool, true, false, cond, ◌||◌, nat_eq, List, [], ◌∷◌}
use Rattle.std.specs.List.{fold, list_any, slice_index_or}
use Rattle.std.proofs.lemmas.Bool.Decides.{eqb_tells}
use Rattle.dr_logic.specs.Bytes.{zeros}
use Rattle.dr_model.specs.Histories.{Write}
use Rattle.dr_model.specs.Contents.{laid, with_write, image}

abbrev first : List ℕ → ℕ
first xs = slice_index_or xs 0 0

empty-laid : (old : List ℕ) → first (laid 0 [] old) ≡ first old
unfolding laid
empty-laid old = refl

one-laid : (old : List ℕ) → first (laid 0 (1 ∷ []) old) ≡ 1
unfolding laid
one-laid old = refl

first-zeros : first zeros ≡ 0
unfolding zeros
first-zeros = refl

module _ (u : ℕ) (write : ℕ → Write) (offset : (n : ℕ) → (write n).offset ≡ 0) (others : (n : ℕ) → n ≢ u → (write n).bytes ≡ []) (one : (write u).bytes ≡ 1 ∷ []) where
  lays : (w : ℕ) (old : List ℕ) → first (with_write write old w) ≡ cond (nat_eq u w) 1 (first old)
  lays w old = elim (eqb_tells u w) [
    | inl is ↦ ap (λ n. first (with_write write old n)) (sym is.1) ∙ (λ i. first (laid (offset u i) (one i) old)) ∙ one-laid old ∙ sym (ap (λ b. cond b 1 (first old)) is.0)
    | inr not ↦ (λ i. first (laid (offset w i) (others w (λ e. not.1 (sym e)) i) old)) ∙ empty-laid old ∙ sym (ap (λ b. cond b 1 (first old)) not.0)
  ]

  either : (a b : Bool) (x : ℕ) → cond b 1 (cond a 1 x) ≡ cond (a || b) 1 x
  either true true x = refl
  either true false x = refl
  either false b x = refl

  folded : (ws : List ℕ) (old : List ℕ) → first (fold (with_write write) old ws) ≡ cond (list_any (nat_eq u) ws) 1 (first old)
  folded [] old = refl
  folded (w ∷ ws) old = folded ws (with_write write old w) ∙ ap (λ x. cond (list_any (nat_eq u) ws) 1 x) (lays w old) ∙ either (nat_eq u w) (list_any (nat_eq u) ws) (first old)

  shown : (ws : List ℕ) → first (image write ws) ≡ cond (list_any (nat_eq u) ws) 1 0
  unfolding image
  shown ws = folded ws zeros ∙ ap (λ x. cond (list_any (nat_eq u) ws) 1 x) first-zeros

  abbrev number : Bool → ℕ
  number b = cond b 1 0

  same-test : (a b : Bool) → number a ≡ number b → a ≡ b
  same-test true true e = refl
  same-test true false e = absurd cc
  same-test false true e = absurd cc
  same-test false false e = refl

  -- two lists with one image both have it, or neither does
  pub image-tells : (xs ys : List ℕ) → image write xs ≡ image write ys → list_any (nat_eq u) xs ≡ list_any (nat_eq u) ys
  image-tells xs ys same = same-test (list_any (nat_eq u) xs) (list_any (nat_eq u) ys) (sym (shown xs) ∙ ap first same ∙ shown ys)
