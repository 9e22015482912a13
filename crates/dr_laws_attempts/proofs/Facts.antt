-- Facts of one member as it is seen, and of a list of them in which one changes.
use Rattle.std.proofs.Common.{ℕ, ◌≡◌, ◌≢◌, ◌⊎◌, inl, inr, refl, ap, sym, ◌∙◌, Bool, true, false, cond, not, rules, List, [], ◌∷◌, subst}
use Rattle.std.proofs.lemmas.Bool.Decides.{nat_tests}
use Rattle.dr_model.specs.Groups.{In}
use Rattle.dr_model.specs.Attempts.{Seen, All, Any, counts, committed, number_shown, NoneCommitted, SomeCommitted}
use Rattle.dr_logic.proofs.Truth.{false_true}

pub bool_cases : (b : Bool) → (b ≡ true) ⊎ (b ≡ false)
bool_cases true = inl refl
bool_cases false = inr refl

-- what still is where something was taken away was there before, and isn't that
pub stood : (b y : Bool) → cond b false y ≡ true → (b ≡ false) × (y ≡ true)
stood true y h = absurd cc
stood false y h = (refl, h)

-- vs with w in place of v
pub record Update (vs : List Seen) (v w : Seen) (us : List Seen) : Type 0 where
  pub here : In v vs
  pub there : In w us
  pub back : (u : Seen) → In u us → (u ≡ w) ⊎ In u vs
  pub onto : (u : Seen) → In u vs → (u ≡ v) ⊎ In u us

pub all_by : (P : Seen → Type 0) (vs : List Seen) (w u : Seen) → (u ≡ w) ⊎ In u vs → P w → All P vs → P u
all_by P vs w u (inl is) here old = subst P (sym is) here
all_by P vs w u (inr was) here old = old u was

any_by : (P : Seen → Type 0) (us : List Seen) (v w u : Seen) → In w us → (u ≡ v) ⊎ In u us → (P v → P w) → P u → Any P us
any_by P us v w u there (inl is) f here = record { one = w; here = there; is = f (subst P is here) }
any_by P us v w u there (inr still) f here = record { one = u; here = still; is = here }

-- what holds of each, and of the new one, holds of each then; and what holds of one still holds of one
pub each : {vs us : List Seen} {v w : Seen} (P : Seen → Type 0) → Update vs v w us → P w → All P vs → All P us
each {vs} {us} {v} {w} P move here old u h = all_by P vs w u (move.back u h) here old

pub some : {vs us : List Seen} {v w : Seen} (P : Seen → Type 0) → Update vs v w us → (P v → P w) → Any P vs → Any P us
some {vs} {us} {v} {w} P move f old = any_by P us v w old.one move.there (move.onto old.one old.here) f old.is

-- one of the list passes, or none does
any_all_by : (f : Seen → Bool) (x : Seen) (xs : List Seen) → (f x ≡ true) ⊎ (f x ≡ false) → Any (λ v. f v ≡ true) xs ⊎ All (λ v. f v ≡ false) xs
    → Any (λ v. f v ≡ true) (x ∷ xs) ⊎ All (λ v. f v ≡ false) (x ∷ xs)
any_all_by f x xs (inl is) rest = inl (record { one = x; here = inl refl; is = is })
any_all_by f x xs (inr not) (inl a) = inl (record { one = a.one; here = inr a.here; is = a.is })
any_all_by f x xs (inr not) (inr none) = inr (λ v h. in_cons v h)
  where
    in_cons : (v : Seen) → In v (x ∷ xs) → f v ≡ false
    in_cons v (inl is) = subst (λ v. f v ≡ false) (sym is) not
    in_cons v (inr more) = none v more

pub any_all : (f : Seen → Bool) (vs : List Seen) → Any (λ v. f v ≡ true) vs ⊎ All (λ v. f v ≡ false) vs
any_all f [] = inr (λ v h. absurd h)
any_all f (x ∷ xs) = any_all_by f x xs (bool_cases (f x)) (any_all f xs)

pub record IsCommitted (n : ℕ) (v : Seen) : Type 0 where
  pub member : v.member ≡ true
  pub plain : v.revertible ≡ false
  pub numbered : v.sequence ≡ n

pub committed-parts : (n : ℕ) (v : Seen) → committed n v ≡ true → IsCommitted n v
committed-parts n v h = record { member = grind (rules, nat_tests); plain = grind (rules, nat_tests); numbered = grind (rules, nat_tests) }

pub is-committed : (n : ℕ) (v : Seen) → v.member ≡ true → v.revertible ≡ false → v.sequence ≡ n → committed n v ≡ true
is-committed n v m r e = grind (rules, nat_tests)

pub not-committed : (n : ℕ) (v : Seen) → (v.member ≡ true → v.revertible ≡ false → v.sequence ≡ n → ⊥) → committed n v ≡ false
not-committed n v never = not_by (committed n v) refl
  where
    not_by : (b : Bool) → committed n v ≡ b → b ≡ false
    not_by false e = refl
    not_by true e = let p = committed-parts n v e in absurd (never p.member p.plain p.numbered)

pub rev-not-committed : (n : ℕ) (v : Seen) → v.revertible ≡ true → committed n v ≡ false
rev-not-committed n v r = not-committed n v (λ m p e. false_true p r)

-- a target that counts and isn't revertible is a member's
pub counts-member : (v : Seen) → counts v ≡ true → v.revertible ≡ false → v.member ≡ true
counts-member v c r = grind rules

pub member-counts : (v : Seen) → v.member ≡ true → counts v ≡ true
member-counts v m = grind rules

pub rev-counts : (v : Seen) → v.revertible ≡ true → counts v ≡ true
rev-counts v m = grind rules

pub uncounted-plain : (v : Seen) → counts v ≡ false → v.revertible ≡ false
uncounted-plain v c = grind rules

pub shown-rev : (v : Seen) → v.revertible ≡ true → number_shown v ≡ v.previous
shown-rev v h = ap (λ b. cond b v.previous v.sequence) h

pub shown-plain : (v : Seen) → v.revertible ≡ false → number_shown v ≡ v.sequence
shown-plain v h = ap (λ b. cond b v.previous v.sequence) h

pub none-some : {P : Type 0} (n : ℕ) (vs : List Seen) → NoneCommitted n vs → SomeCommitted n vs → P
none-some n vs none had = false_true (none had.one had.here) had.is

-- what a committed one shows is its number: so none is where all show another one
pub apart-none : (n : ℕ) (v : Seen) → (v.member ≡ true → number_shown v ≢ n) → committed n v ≡ false
apart-none n v a = not-committed n v (λ m p e. a m (shown-plain v p ∙ e))
