-- One entry of a table of who stands, where another one joins or leaves.
use Rattle.std.proofs.Common.{ℕ, ◌≡◌, ◌⊎◌, inl, inr, refl, ap, ◌∙◌, Bool, true, false, cond, ◌&&◌, nat_eq}
use Rattle.std.proofs.lemmas.Bool.{and_parts, eq-eqb, eqb-true}
use Rattle.dr_laws_closed.specs.Moments.{is_one}

-- whoever stands after one joined is that one, or stood; who stood, stands
pub added : (b y : Bool) → cond b true y ≡ true → (b ≡ true) ⊎ (y ≡ true)
added true y h = inl refl
added false y h = inr h

pub stays-with : (b y : Bool) → y ≡ true → cond b true y ≡ true
stays-with true y h = refl
stays-with false y h = h

-- who stood and isn't the one that left stands; the other way round it is `stood` of `dr_laws_attempts`
pub stays-without : (b y : Bool) → (b ≡ true → ⊥) → y ≡ true → cond b false y ≡ true
stays-without true y ne h = absurd (ne refl)
stays-without false y ne h = h

-- what the test of an entry says
pub is-same : (z k x s n a : ℕ) → z ≡ s → k ≡ n → x ≡ a → is_one s n a z k x ≡ true
is-same z k x s n a e f g = ap (λ b. b && (nat_eq k n && nat_eq x a)) (eq-eqb z s e) ∙ ap (λ b. b && nat_eq x a) (eq-eqb k n f) ∙ eq-eqb x a g

pub same-three : (z k x s n a : ℕ) → is_one s n a z k x ≡ true → (z ≡ s) × (k ≡ n) × (x ≡ a)
same-three z k x s n a h = let p = and_parts _ _ h in let q = and_parts _ _ p.1 in (eqb-true z s p.0, eqb-true k n q.0, eqb-true x a q.1)

pub is-same-two : (z x s a : ℕ) → z ≡ s → x ≡ a → (nat_eq z s && nat_eq x a) ≡ true
is-same-two z x s a e g = ap (λ b. b && nat_eq x a) (eq-eqb z s e) ∙ eq-eqb x a g

pub same-two : (z x s a : ℕ) → (nat_eq z s && nat_eq x a) ≡ true → (z ≡ s) × (x ≡ a)
same-two z x s a h = let p = and_parts _ _ h in (eqb-true z s p.0, eqb-true x a p.1)
