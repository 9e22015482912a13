-- A table changed at one number, or at two: what holds of each row, and of each row and the one that it points to.
use Rattle.std.proofs.Common.{ℕ, ◌≡◌, ◌≢◌, ◌⊎◌, inl, inr, refl, sym, ap, ◌∙◌, subst, true, false, cond, nat_eq, Option, Some}
use Rattle.std.proofs.lemmas.Bool.Decides.{eqb_tells}
use Rattle.dr_logic.specs.Tables.{at, at2}
use Rattle.dr_model.specs.Table.{Row, Table}
use Rattle.dr_model.specs.Laws.{Each, Linked}
use Rattle.dr_logic.proofs.Tables.{at_same}

-- two numbers are one, or they differ
abbrev pub IsOrNot : ℕ → ℕ → Type 0
IsOrNot a b = ((nat_eq a b ≡ true) × (a ≡ b)) ⊎ ((nat_eq a b ≡ false) × (a ≢ b))

at_by : {X : Type 0} (P : ℕ → X → Type 0) (f : ℕ → X) (k : ℕ) (x : X) (q : ℕ) → IsOrNot q k → P k x → (q ≢ k → P q (f q)) → P q (at f k x q)
at_by P f k x q (inl is) here there = subst (λ b. P q (cond b x (f q))) (sym is.0) (subst (λ j. P j x) (sym is.1) here)
at_by P f k x q (inr not) here there = subst (λ b. P q (cond b x (f q))) (sym not.0) (there not.1)

-- what holds of the new value, and of the others as they were, holds of each
pub at_cases : {X : Type 0} (P : ℕ → X → Type 0) (f : ℕ → X) (k : ℕ) (x : X) → P k x → ((q : ℕ) → q ≢ k → P q (f q)) → (q : ℕ) → P q (at f k x q)
at_cases P f k x here there q = at_by P f k x q (eqb_tells q k) here (there q)

at_two_by : {X Y : Type 0} (P : ℕ → X → Y → Type 0) (f : ℕ → X) (g : ℕ → Y) (k : ℕ) (x : X) (y : Y) (q : ℕ) → IsOrNot q k → P k x y → (q ≢ k → P q (f q) (g q)) → P q (at f k x q) (at g k y q)
at_two_by P f g k x y q (inl is) here there = subst (λ b. P q (cond b x (f q)) (cond b y (g q))) (sym is.0) (subst (λ j. P j x y) (sym is.1) here)
at_two_by P f g k x y q (inr not) here there = subst (λ b. P q (cond b x (f q)) (cond b y (g q))) (sym not.0) (there not.1)

-- the same of two tables that are changed at one number
pub at_two : {X Y : Type 0} (P : ℕ → X → Y → Type 0) (f : ℕ → X) (g : ℕ → Y) (k : ℕ) (x : X) (y : Y) → P k x y → ((q : ℕ) → q ≢ k → P q (f q) (g q)) → (q : ℕ) → P q (at f k x q) (at g k y q)
at_two P f g k x y here there q = at_two_by P f g k x y q (eqb_tells q k) here (there q)

-- a table of tables changed at two numbers is one changed at the first
at2_by : {X : Type 0} (f : ℕ → ℕ → X) (j k : ℕ) (x : X) (p q : ℕ) → IsOrNot p j → at2 f j k x p q ≡ at f j (at (f j) k x) p q
at2_by f j k x p q (inl is) =
    ap (λ b. cond b (cond (nat_eq q k) x (f p q)) (f p q)) is.0 ∙ ap (λ i. cond (nat_eq q k) x (f i q)) is.1
    ∙ sym (ap (λ b. (cond b (at (f j) k x) (f p)) q) is.0)
at2_by f j k x p q (inr not) = ap (λ b. cond b (cond (nat_eq q k) x (f p q)) (f p q)) not.0 ∙ sym (ap (λ b. (cond b (at (f j) k x) (f p)) q) not.0)

pub at2_at : {X : Type 0} (f : ℕ → ℕ → X) (j k : ℕ) (x : X) → at2 f j k x ≡ at f j (at (f j) k x)
at2_at f j k x = λ i p q. at2_by f j k x p q (eqb_tells p j) i

at2_both : {X : Type 0} (P : ℕ → ℕ → X → Type 0) (f : ℕ → ℕ → X) (j k : ℕ) (x : X) (p q : ℕ) → IsOrNot p j → IsOrNot q k → P j k x → ((p ≡ j → q ≡ k → ⊥) → P p q (f p q)) → P p q (at2 f j k x p q)
at2_both P f j k x p q (inl is) (inl too) here there =
    subst (λ b. P p q (cond b (cond (nat_eq q k) x (f p q)) (f p q))) (sym is.0)
    (subst (λ b. P p q (cond b x (f p q))) (sym too.0) (subst (λ y. P y q x) (sym is.1) (subst (λ y. P j y x) (sym too.1) here)))
at2_both P f j k x p q (inl is) (inr not) here there =
    subst (λ b. P p q (cond b (cond (nat_eq q k) x (f p q)) (f p q))) (sym is.0)
    (subst (λ b. P p q (cond b x (f p q))) (sym not.0) (there (λ e. not.1)))
at2_both P f j k x p q (inr not) told here there = subst (λ b. P p q (cond b (cond (nat_eq q k) x (f p q)) (f p q))) (sym not.0) (there (λ e. absurd (not.1 e)))

-- the same of a table of tables
pub at2_cases : {X : Type 0} (P : ℕ → ℕ → X → Type 0) (f : ℕ → ℕ → X) (j k : ℕ) (x : X) → P j k x → ((p q : ℕ) → (p ≡ j → q ≡ k → ⊥) → P p q (f p q)) → (p q : ℕ) → P p q (at2 f j k x p q)
at2_cases P f j k x here there p q = at2_both P f j k x p q (eqb_tells p j) (eqb_tells q k) here (there p q)

pub at2_other : {X : Type 0} (f : ℕ → ℕ → X) (j k : ℕ) (x : X) (p q : ℕ) → (p ≡ j → q ≡ k → ⊥) → at2 f j k x p q ≡ f p q
at2_other f j k x p q apart = at2_cases (λ p q y. (p ≡ j → q ≡ k → ⊥) → y ≡ f p q) f j k x (λ apart. absurd (apart refl refl)) (λ p q ne apart. refl) p q apart

pub at_id : {X : Type 0} (f : ℕ → X) (k : ℕ) (q : ℕ) → at f k (f k) q ≡ f q
at_id f k q = at_cases (λ q y. y ≡ f q) f k (f k) refl (λ q ne. refl) q

-- a part that the new value shares with the old one is the same at each number
pub at_part : {X Y : Type 0} (g : X → Y) (f : ℕ → X) (k : ℕ) (x : X) → g x ≡ g (f k) → (q : ℕ) → g (at f k x q) ≡ g (f q)
at_part g f k x e q = at_cases (λ q y. g y ≡ g (f q)) f k x e (λ q ne. refl) q

pub at_is : {X : Type 0} (f : ℕ → X) (k : ℕ) (x : X) (q : ℕ) → k ≡ q → at f k x q ≡ x
at_is f k x q e = subst (λ q. at f k x q ≡ x) e (at_same f k x)

-- laws of one changed row: what holds of the others has to be known of the others alone
module _ (T : Table) (x : ℕ) (y : Row) where
  pub each-but : (P : ℕ → Row → Type 0) → P x y → ((v : ℕ) → v ≢ x → P v (T v)) → Each P (at T x y)
  each-but P here old = at_cases P T x y here old

  pub linked-but : (link : Row → Option ℕ) (R : ℕ → Row → ℕ → Row → Type 0)
      → ((u : ℕ) → u ≢ x → link y ≡ Some u → R x y u (T u))
      → (link y ≡ Some x → R x y x y)
      → ((v : ℕ) → v ≢ x → link (T v) ≡ Some x → R v (T v) x y)
      → ((v : ℕ) → v ≢ x → (u : ℕ) → u ≢ x → link (T v) ≡ Some u → R v (T v) u (T u))
      → Linked link R (at T x y)
  linked-but link R from loop onto old v u =
      at_cases (λ v r. link r ≡ Some u → R v r u (at T x y u)) T x y
      (λ l. at_cases (λ u s. link y ≡ Some u → R x y u s) T x y loop (λ q ne l. from q ne l) u l)
      (λ v ne l. at_cases (λ u s. link (T v) ≡ Some u → R v (T v) u s) T x y (λ l. onto v ne l) (λ q out l. old v ne q out l) u l)
      v

-- the same where the law held of all rows
module _ (T : Table) (x : ℕ) (y : Row) where
  pub each-at : (P : ℕ → Row → Type 0) → P x y → Each P T → Each P (at T x y)
  each-at P here old = each-but T x y P here (λ v ne. old v)

  pub linked-at : (link : Row → Option ℕ) (R : ℕ → Row → ℕ → Row → Type 0)
      → ((u : ℕ) → u ≢ x → link y ≡ Some u → R x y u (T u))
      → (link y ≡ Some x → R x y x y)
      → ((v : ℕ) → v ≢ x → link (T v) ≡ Some x → R v (T v) x y)
      → Linked link R T → Linked link R (at T x y)
  linked-at link R from loop onto old = linked-but T x y link R from loop onto (λ v ne u out. old v u)
