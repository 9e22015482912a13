-- Writes of blocks that stand in a row, and loops that make them.
use Rattle.std.proofs.Common.{ℕ, ◌≡◌, ◌≢◌, ◌<◌, ◌≤◌, ◌+◌, ◌⊎◌, inl, inr, Bool, true, false, List, ◌∷◌, refl, ap, ◌∙◌, sym, suc, zero, length, arith}
use Rattle.std.proofs.lemmas.Bool.{cases_eq}
use Rattle.dr_logic.specs.Tables.{at2}
use Rattle.dr_logic.proofs.Tables.{at2_same}
use Rattle.dr_plant.specs.State.{PlantState, after_write, can_write}
use Rattle.dr_plant.proofs.StateLemmas.{at2_other, other-after_write, same-after_write}
use Rattle.dr_plant.specs.Writes.{write, after_writes, all_put, block_writes}
use Rattle.dr_plant.proofs.WritesLemmas.{goes, stops, ends}

-- the i-th of the blocks is written, and the rest
pub rest-goes : (s : PlantState) (dev start i n m : ℕ) (f : ℕ → List ℕ) → n ≡ suc m → can_write s dev ≡ true → after_writes s dev (block_writes start i n f) ≡ after_writes (after_write s dev (start + i) (f i)) dev (block_writes start (i + 1) m f)
unfolding block_writes
rest-goes s dev start i n m f e can = ap (λ k. after_writes s dev (block_writes start i k f)) e ∙ goes s dev (write (start + i) (f i)) (block_writes start (i + 1) m f) can

-- the i-th of the blocks is stopped
pub rest-stops : (s : PlantState) (dev start i n m : ℕ) (f : ℕ → List ℕ) → n ≡ suc m → can_write s dev ≡ false → after_writes s dev (block_writes start i n f) ≡ (after_write s dev (start + i) (f i), true)
unfolding block_writes
rest-stops s dev start i n m f e can = ap (λ k. after_writes s dev (block_writes start i k f)) e ∙ stops s dev (write (start + i) (f i)) (block_writes start (i + 1) m f) can

-- no block is left
pub rest-ends : (s : PlantState) (dev start i n : ℕ) (f : ℕ → List ℕ) → n ≡ 0 → after_writes s dev (block_writes start i n f) ≡ (s, false)
unfolding block_writes
rest-ends s dev start i n f e = ap (λ k. after_writes s dev (block_writes start i k f)) e ∙ ends s dev

-- writes of the same blocks
pub same-block_writes : (start k n : ℕ) (f g : ℕ → List ℕ) → ((i : ℕ) → i < k + n → f i ≡ g i) → block_writes start k n f ≡ block_writes start k n g
unfolding block_writes
same-block_writes start k zero f g same = refl
same-block_writes start k (suc n) f g same = (λ i. write (start + k) (same k (omega arith) i) ∷ same-block_writes start (k + 1) n f g (λ j lt. same j (omega arith)) i)

-- n blocks are n writes
pub length-block_writes : (start k n : ℕ) (f : ℕ → List ℕ) → length (block_writes start k n f) ≡ n
unfolding block_writes
length-block_writes start k zero f = refl
length-block_writes start k (suc n) f = ap suc (length-block_writes start (k + 1) n f)

away : (at q n : ℕ) → (q < at) ⊎ (at + suc n ≤ q) → q ≢ at
away at q n (inl h) e = omega arith
away at q n (inr h) e = omega arith

further : (start k q n : ℕ) → (q < start + k) ⊎ (start + k + suc n ≤ q) → (q < start + (k + 1)) ⊎ (start + (k + 1) + n ≤ q)
further start k q n (inl h) = inl (omega arith)
further start k q n (inr h) = inr (omega arith)

-- writes of blocks leave those before the first and behind the last
pub outside-block_writes : (s : PlantState) (dev start k n : ℕ) (f : ℕ → List ℕ) (p q : ℕ) → (q < start + k) ⊎ (start + k + n ≤ q) → (after_writes s dev (block_writes start k n f)).0.block p q ≡ s.block p q
unfolding block_writes
outside-block_writes s dev start k zero f p q h = ap (λ (r : PlantState × Bool). r.0.block p q) (ends s dev)
outside-block_writes s dev start k (suc n) f p q h =
    let one = other-after_write s dev (start + k) (f k) p q (away (start + k) q n h) in
    elim (can_write s dev) as (λ v. can_write s dev ≡ v → (after_writes s dev (write (start + k) (f k) ∷ block_writes start (k + 1) n f)).0.block p q ≡ s.block p q) [
      | true ↦ λ c.
          ap (λ (r : PlantState × Bool). r.0.block p q) (goes s dev (write (start + k) (f k)) (block_writes start (k + 1) n f) c)
          ∙ outside-block_writes (after_write s dev (start + k) (f k)) dev start (k + 1) n f p q (further start k q n h) ∙ one
      | false ↦ λ c. ap (λ (r : PlantState × Bool). r.0.block p q) (stops s dev (write (start + k) (f k)) (block_writes start (k + 1) n f) c) ∙ one
    ] refl

first_or_later : (i k n : ℕ) → k ≤ i → i < k + suc n → (i ≡ k) ⊎ ((k + 1 ≤ i) × (i < k + 1 + n))
first_or_later i k n l u = elim (cases_eq i k) [ inl e ↦ inl e | inr ne ↦ inr (omega arith, omega arith) ]

-- writes of blocks that are all done put each of them
pub done-block_writes : (s t : PlantState) (dev start k n : ℕ) (f : ℕ → List ℕ) → after_writes s dev (block_writes start k n f) ≡ (t, false) → (i : ℕ) → k ≤ i → i < k + n → t.block dev (start + i) ≡ f i
unfolding block_writes
done-block_writes s t dev start k zero f h i l u = absurd (omega arith)
done-block_writes s t dev start k (suc n) f h i l u =
    elim (can_write s dev) as (λ v. can_write s dev ≡ v → t.block dev (start + i) ≡ f i) [
      | true ↦ λ c.
          let s1 = after_write s dev (start + k) (f k) in
          let r = sym (goes s dev (write (start + k) (f k)) (block_writes start (k + 1) n f) c) ∙ h in
          let first : t.block dev (start + k) ≡ f k =
          ap (λ (r : PlantState × Bool). r.0.block dev (start + k)) (sym r) ∙ outside-block_writes s1 dev start (k + 1) n f dev (start + k) (inl (omega arith)) ∙ same-after_write s dev (start + k) (f k) c in
          elim (first_or_later i k n l u) [
            | inl e ↦ ap (λ j. t.block dev (start + j)) e ∙ first ∙ ap f (sym e)
            | inr p ↦ done-block_writes s1 t dev start (k + 1) n f r i p.0 p.1
          ]
      | false ↦ λ c. let e : true ≡ false = ap (λ (r : PlantState × Bool). r.1) (sym (stops s dev (write (start + k) (f k)) (block_writes start (k + 1) n f) c) ∙ h) in absurd (cc)
    ] refl

-- the blocks once these are replaced: those before the first and behind the last stay, and each of them is there
pub all_put-outside : (block : ℕ → ℕ → List ℕ) (dev start k n : ℕ) (f : ℕ → List ℕ) (p q : ℕ) → (q < start + k) ⊎ (start + k + n ≤ q) → all_put block dev (block_writes start k n f) p q ≡ block p q
unfolding all_put block_writes
all_put-outside block dev start k zero f p q h = refl
all_put-outside block dev start k (suc n) f p q h =
    all_put-outside (at2 block dev (start + k) (f k)) dev start (k + 1) n f p q (further start k q n h)
    ∙ at2_other block dev (start + k) (f k) p q (away (start + k) q n h)

pub all_put-inside : (block : ℕ → ℕ → List ℕ) (dev start k n : ℕ) (f : ℕ → List ℕ) (i : ℕ) → k ≤ i → i < k + n → all_put block dev (block_writes start k n f) dev (start + i) ≡ f i
unfolding all_put block_writes
all_put-inside block dev start k zero f i l u = absurd (omega arith)
all_put-inside block dev start k (suc n) f i l u =
    let put = at2 block dev (start + k) (f k) in
    elim (first_or_later i k n l u) [
      | inl e ↦
          let first : all_put put dev (block_writes start (k + 1) n f) dev (start + k) ≡ f k =
          all_put-outside put dev start (k + 1) n f dev (start + k) (inl (omega arith)) ∙ at2_same block dev (start + k) (f k) in
          ap (λ j. all_put put dev (block_writes start (k + 1) n f) dev (start + j)) e ∙ first ∙ ap f (sym e)
      | inr p ↦ all_put-inside put dev start (k + 1) n f i p.0 p.1
    ]
