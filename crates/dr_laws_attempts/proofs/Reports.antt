-- The decision over what members show.
use Rattle.std.proofs.Common.{ℕ, ◌≡◌, ◌⊎◌, inl, inr, refl, ap, sym, ◌∙◌, Bool, true, false, cond, not, List, [], ◌∷◌, filter, subst, Option, None, Some, ◌==◌}
use Rattle.std.specs.List.{find}
use Rattle.std.proofs.lemmas.Bool.{eqb-true, eq-eqb, not-true}
use Rattle.dr_ids.specs.declared.refusal.Decision.TheVariants.{NoMember, Nothing, RevertAll, CommitRest, RevertSome, Impossible}
use Rattle.dr_model.specs.Decisions.{Shown, Numbers, NoNumber, Same, Differ, first_and_other, numbers_in, revertibles, others, decided, decision}
use Rattle.dr_model.specs.Groups.{In}
use Rattle.dr_model.specs.Attempts.{IsReported}
use Rattle.dr_facts.proofs.Lists.{from-filter, to-filter, from-map, to-map}

-- ---- numbers of a list

find-none : (p : ℕ → Bool) (ns : List ℕ) → ((a : ℕ) → In a ns → p a ≡ false) → find p ns ≡ None
find-none p [] none = refl
find-none p (a ∷ ns) none = ap (λ b. cond b (Some a) (find p ns)) (none a (inl refl)) ∙ find-none p ns (λ q i. none q (inr i))

not-same : (a b : ℕ) → a ≡ b → not (a == b) ≡ false
not-same a b e = ap not (eq-eqb a b e)

-- numbers that are all one
pub numbers-one : (n : ℕ) (ns : List ℕ) → ((a : ℕ) → In a ns → a ≡ n) → (numbers_in ns ≡ NoNumber) ⊎ (numbers_in ns ≡ Same n)
numbers-one n [] all = inl refl
numbers-one n (a ∷ ns) all =
    let is : a ≡ n = all a (inl refl) in
    inr (ap (first_and_other a) (find-none (λ q. not (q == a)) ns (λ q i. not-same q a (all q (inr i) ∙ sym is))) ∙ ap Same is)

other-some : (a : ℕ) (o : Option ℕ) → first_and_other a o ≡ NoNumber → ⊥
other-some a None e = absurd cc
other-some a (Some b) e = absurd cc

numbers-some : (a : ℕ) (ns : List ℕ) → In a ns → numbers_in ns ≡ NoNumber → ⊥
numbers-some a [] i e = i
numbers-some a (b ∷ ns) i e = other-some b (find (λ q. not (q == b)) ns) e

same-first : (a k : ℕ) (o : Option ℕ) → first_and_other a o ≡ Same k → k ≡ a
same-first a k None e = cc
same-first a k (Some b) e = absurd cc

numbers-same : (ns : List ℕ) (k : ℕ) → numbers_in ns ≡ Same k → In k ns
numbers-same [] k e = absurd cc
numbers-same (a ∷ ns) k e = inl (same-first a k (find (λ q. not (q == a)) ns) e)

-- ---- the decision by them

rest-by : (b : Bool) (n m k : ℕ) → cond b (CommitRest n) (RevertSome m n) ≡ CommitRest k → (b ≡ true) × (n ≡ k)
rest-by true n m k e = (refl, cc)
rest-by false n m k e = absurd cc

decided-rest : (a b : Numbers) (k : ℕ) → decided a b ≡ CommitRest k → (a ≡ Same k) × (b ≡ Same k)
unfolding decided
decided-rest NoNumber NoNumber k e = absurd cc
decided-rest NoNumber (Same m) k e = absurd cc
decided-rest NoNumber (Differ x y) k e = absurd cc
decided-rest (Same n) NoNumber k e = absurd cc
decided-rest (Same n) (Same m) k e = let r = rest-by (n == m) n m k e in (ap Same r.1, ap Same (sym (eqb-true n m r.0) ∙ r.1))
decided-rest (Same n) (Differ x y) k e = absurd cc
decided-rest (Differ x y) NoNumber k e = absurd cc
decided-rest (Differ x y) (Same m) k e = absurd cc
decided-rest (Differ x y) (Differ z w) k e = absurd cc

decided-both : (n : ℕ) → decided (Same n) (Same n) ≡ CommitRest n
unfolding decided
decided-both n = ap (λ b. cond b (CommitRest n) (RevertSome n n)) (eq-eqb n n refl)

possible-by : (b : Bool) (n m x y : ℕ) → cond b (CommitRest n) (RevertSome m n) ≡ Impossible x y → ⊥
possible-by true n m x y e = absurd cc
possible-by false n m x y e = absurd cc

decided-possible : (a b : Numbers) (n m x y : ℕ) → (a ≡ NoNumber) ⊎ (a ≡ Same n) → (b ≡ NoNumber) ⊎ (b ≡ Same m) → decided a b ≡ Impossible x y → ⊥
unfolding decided
decided-possible NoNumber NoNumber n m x y is also e = absurd cc
decided-possible NoNumber (Same k) n m x y is also e = absurd cc
decided-possible (Same k) NoNumber n m x y is also e = absurd cc
decided-possible (Same k) (Same q) n m x y is also e = possible-by (k == q) k q x y e
decided-possible (Differ p q) b n m x y (inl is) also e = absurd cc
decided-possible (Differ p q) b n m x y (inr is) also e = absurd cc
decided-possible a (Differ p q) n m x y is (inl also) e = absurd cc
decided-possible a (Differ p q) n m x y is (inr also) e = absurd cc

-- ---- reports

pub as-reported : (rs : List Shown) (r : Shown) (k : ℕ) (b : Bool) → In r rs → r.sequence ≡ k → r.revertible ≡ b → IsReported k b rs
as-reported rs r k b h ek eb = subst (λ b. IsReported k b rs) eb (subst (λ k. IsReported k r.revertible rs) ek h)

in-revertibles : (rs : List Shown) (k : ℕ) → In k (revertibles rs) → IsReported k true rs
in-revertibles rs k h =
    let o = from-map (λ (x : Shown). x.sequence) (filter (λ (x : Shown). x.revertible) rs) k h in
    let f = from-filter (λ (x : Shown). x.revertible) rs o.from o.here in
    as-reported rs o.from k true f.0 (sym o.is) f.1

in-others : (rs : List Shown) (k : ℕ) → In k (others rs) → IsReported k false rs
in-others rs k h =
    let o = from-map (λ (x : Shown). x.sequence) (filter (λ (x : Shown). not x.revertible) rs) k h in
    let f = from-filter (λ (x : Shown). not x.revertible) rs o.from o.here in
    as-reported rs o.from k false f.0 (sym o.is) (not-true o.from.revertible f.1)

to-revertibles : (rs : List Shown) (k : ℕ) → IsReported k true rs → In k (revertibles rs)
to-revertibles rs k h = to-map (λ (x : Shown). x.sequence) (filter (λ (x : Shown). x.revertible) rs) (record { sequence = k; revertible = true }) (to-filter (λ (x : Shown). x.revertible) rs (record { sequence = k; revertible = true }) h refl)

to-others : (rs : List Shown) (k : ℕ) → IsReported k false rs → In k (others rs)
to-others rs k h = to-map (λ (x : Shown). x.sequence) (filter (λ (x : Shown). not x.revertible) rs) (record { sequence = k; revertible = false }) (to-filter (λ (x : Shown). not x.revertible) rs (record { sequence = k; revertible = false }) h refl)

-- where the rest is to be committed, both were reported with its number
pub commit-tells : (rs : List Shown) (k : ℕ) → decision rs ≡ CommitRest k → IsReported k true rs × IsReported k false rs
unfolding decision
commit-tells rs k e = let p = decided-rest (numbers_in (revertibles rs)) (numbers_in (others rs)) k e in (in-revertibles rs k (numbers-same (revertibles rs) k p.0), in-others rs k (numbers-same (others rs) k p.1))

-- and it is where both were, and no other number
pub commit-holds : (rs : List Shown) (n : ℕ) → IsReported n true rs → IsReported n false rs → ((k : ℕ) → IsReported k true rs → k ≡ n) → ((k : ℕ) → IsReported k false rs → k ≡ n) → decision rs ≡ CommitRest n
unfolding decision
commit-holds rs n ht hf allt allf = ap (λ a. decided a (numbers_in (others rs))) (is-same (revertibles rs) (to-revertibles rs n ht) (λ k h. allt k (in-revertibles rs k h)))
    ∙ (ap (decided (Same n)) (is-same (others rs) (to-others rs n hf) (λ k h. allf k (in-others rs k h))) ∙ decided-both n)
  where
    by : (ns : List ℕ) → In n ns → (numbers_in ns ≡ NoNumber) ⊎ (numbers_in ns ≡ Same n) → numbers_in ns ≡ Same n
    by ns h (inl none) = absurd (numbers-some n ns h none)
    by ns h (inr is) = is

    is-same : (ns : List ℕ) → In n ns → ((a : ℕ) → In a ns → a ≡ n) → numbers_in ns ≡ Same n
    is-same ns h all = by ns h (numbers-one n ns all)

-- it is never impossible where the revertible ones have one number, and the others one
pub never-impossible : (rs : List Shown) (n m x y : ℕ) → ((k : ℕ) → IsReported k true rs → k ≡ n) → ((k : ℕ) → IsReported k false rs → k ≡ m) → decision rs ≡ Impossible x y → ⊥
unfolding decision
never-impossible rs n m x y allt allf e =
    decided-possible (numbers_in (revertibles rs)) (numbers_in (others rs)) n m x y (numbers-one n (revertibles rs) (λ k h. allt k (in-revertibles rs k h))) (numbers-one m (others rs) (λ k h. allf k (in-others rs k h))) e

-- where nothing is to do, or no member counts, none that is revertible was reported
decided-none : (a b : Numbers) → ((n : ℕ) → decided a b ≡ RevertAll n → ⊥) → ((n : ℕ) → decided a b ≡ CommitRest n → ⊥) → ((m n : ℕ) → decided a b ≡ RevertSome m n → ⊥) → ((x y : ℕ) → decided a b ≡ Impossible x y → ⊥) → a ≡ NoNumber
unfolding decided
decided-none NoNumber b f g h i = refl
decided-none (Same n) NoNumber f g h i = absurd (f n refl)
decided-none (Same n) (Same m) f g h i = absurd (by (n == m) (g n) (h m n))
  where
    by : (b : Bool) → (cond b (CommitRest n) (RevertSome m n) ≡ CommitRest n → ⊥) → (cond b (CommitRest n) (RevertSome m n) ≡ RevertSome m n → ⊥) → ⊥
    by true g h = g refl
    by false g h = h refl
decided-none (Same n) (Differ x y) f g h i = absurd (i x y refl)
decided-none (Differ x y) NoNumber f g h i = absurd (i x y refl)
decided-none (Differ x y) (Same m) f g h i = absurd (i x y refl)
decided-none (Differ x y) (Differ z w) f g h i = absurd (i z w refl)

none-reported : (rs : List Shown) → numbers_in (revertibles rs) ≡ NoNumber → (k : ℕ) → IsReported k true rs → ⊥
none-reported rs e k h = numbers-some k (revertibles rs) (to-revertibles rs k h) e

pub nothing-tells : (rs : List Shown) (n : ℕ) → decision rs ≡ Nothing n → (k : ℕ) → IsReported k true rs → ⊥
unfolding decision
nothing-tells rs n e = none-reported rs (decided-none (numbers_in (revertibles rs)) (numbers_in (others rs)) (λ q f. let g = sym e ∙ f in absurd cc) (λ q f. let g = sym e ∙ f in absurd cc) (λ p q f. let g = sym e ∙ f in absurd cc) (λ p q f. let g = sym e ∙ f in absurd cc))

pub nobody-tells : (rs : List Shown) → decision rs ≡ NoMember → (k : ℕ) → IsReported k true rs → ⊥
unfolding decision
nobody-tells rs e = none-reported rs (decided-none (numbers_in (revertibles rs)) (numbers_in (others rs)) (λ q f. let g = sym e ∙ f in absurd cc) (λ q f. let g = sym e ∙ f in absurd cc) (λ p q f. let g = sym e ∙ f in absurd cc) (λ p q f. let g = sym e ∙ f in absurd cc))
