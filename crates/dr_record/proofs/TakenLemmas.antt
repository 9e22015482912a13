use Rattle.std.proofs.Common.{ℕ, zero, suc, ◌≡◌, ◌≤◌, ◌<◌, ◌+◌, List, ap, ◌∙◌, sym, refl, arith}
use Rattle.dr_record.specs.Taken.{taken_from}

-- one block further
pub taken_more : {F : Type 0} (taken : F → ℕ → List ℕ → F) (i n m : ℕ) (block : ℕ → List ℕ) (x y : F) (b : List ℕ) → n ≡ suc m → b ≡ block i → y ≡ taken x i b → taken_from taken (i + 1) m block y ≡ taken_from taken i n block x
unfolding taken_from
taken_more taken i n m block x y b e is h = ap (taken_from taken (i + 1) m block) (h ∙ ap (taken x i) is) ∙ ap (λ k. taken_from taken i k block x) (sym e)

-- no block is left
pub taken_all : {F : Type 0} (taken : F → ℕ → List ℕ → F) (i n : ℕ) (block : ℕ → List ℕ) (x : F) → n ≡ 0 → taken_from taken i n block x ≡ x
unfolding taken_from
taken_all taken i n block x e = ap (λ k. taken_from taken i k block x) e

-- the same blocks give the same value
pub taken_same : {F : Type 0} (taken : F → ℕ → List ℕ → F) (k n : ℕ) (f g : ℕ → List ℕ) (x : F) → ((i : ℕ) → k ≤ i → i < k + n → f i ≡ g i) → taken_from taken k n f x ≡ taken_from taken k n g x
unfolding taken_from
taken_same taken k zero f g x h = refl
taken_same taken k (suc n) f g x h =
    ap (λ b. taken_from taken (k + 1) n f (taken x k b)) (h k (omega arith) (omega arith))
    ∙ taken_same taken (k + 1) n f g (taken x k (g k)) (λ i l u. h i (omega arith) (omega arith))
