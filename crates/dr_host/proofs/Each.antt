-- What holds of each pending write, and of what a search finds among them.
use Rattle.std.proofs.Common.{◌≡◌, ◌<◌, ◌≤◌, ◌∙◌, ap, IsSome, ℕ, Bor, Bool, true, false, cond, List, [], ◌∷◌, ◌++◌, filter, Option, Some, None, IfSome, refl, sym, subst, arith}
use Rattle.std.specs.List.{find}
use Rattle.std.specs.Option.{option_copied}
use Rattle.std.proofs.lemmas.Bool.Decides.{nat_tests}
use Rattle.dr_host.specs.declared.pending.Pending.{Pending}
use Rattle.dr_host.specs.Writes.{number, has_number, is_other, marked, EachPending, IsPending}

abbrev pub landed_is : Pending → Pending
landed_is p = record p { landed = true }

-- what does not look at whether a write has landed is kept where one is marked
pub each-marked : (P : Pending → Type 0) (n : ℕ) (ps : List Pending) → ((p : Pending) → P p → P (landed_is p)) → EachPending P ps → EachPending P (marked n ps)
each-marked P n [] keeps all = all
each-marked P n (p ∷ ps) keeps all =
    (elim (has_number n p) as (λ b. P (cond b (landed_is p) p)) [ true ↦ keeps p all.0 | false ↦ all.0 ], each-marked P n ps keeps all.1)

pub each-filter : (P : Pending → Type 0) (test : Pending → Bool) (ps : List Pending) → EachPending P ps → EachPending P (filter test ps)
each-filter P test [] all = all
each-filter P test (p ∷ ps) all = elim (test p) as (λ b. EachPending P (cond b (p ∷ filter test ps) (filter test ps))) [ true ↦ (all.0, each-filter P test ps all.1) | false ↦ each-filter P test ps all.1 ]

-- and where one is taken out
pub each-without : (P : Pending → Type 0) (n : ℕ) (ps : List Pending) → EachPending P ps → EachPending P (filter (is_other n) ps)
each-without P n ps all = each-filter P (is_other n) ps all

-- and by one more that it holds of
pub each-push : (P : Pending → Type 0) (ps : List Pending) (p : Pending) → EachPending P ps → P p → EachPending P (ps ++ p ∷ [])
each-push P [] p all one = (one, tt)
each-push P (q ∷ ps) p all one = (all.0, each-push P ps p all.1 one)

-- it holds of what a search finds
pub each-found : (P : Pending → Type 0) (test : Pending → Bool) (ps : List Pending) → EachPending P ps → IfSome (find test ps) P
each-found P test [] all = tt
each-found P test (p ∷ ps) all = elim (test p) as (λ b. IfSome (cond b (Some p) (find test ps)) P) [ true ↦ all.0 | false ↦ each-found P test ps all.1 ]

-- and what follows from it
pub each-widen : (P Q : Pending → Type 0) (ps : List Pending) → ((p : Pending) → P p → Q p) → EachPending P ps → EachPending Q ps
each-widen P Q [] f all = tt
each-widen P Q (p ∷ ps) f all = (f p all.0, each-widen P Q ps f all.1)

-- the write that a search by number finds has it
pub named-found : (n : ℕ) (ps : List Pending) → IfSome (find (has_number n) ps) (λ p. number p ≡ n)
named-found n [] = tt
named-found n (p ∷ ps) =
    elim (has_number n p) as (λ b. has_number n p ≡ b → IfSome (cond b (Some p) (find (has_number n) ps)) (λ p. number p ≡ n)) [
      | true ↦ λ is. grind (arith, nat_tests)
      | false ↦ λ is. named-found n ps
    ] refl

-- what a search found, behind its reference
pub copied-some : (P : Pending → Type 0) (r : Option (Bor Pending)) (o : Option Pending) → option_copied r ≡ o → IfSome o P → IfSome r (λ p. P p.now)
copied-some P None o is h = tt
copied-some P (Some p) o is h = subst (λ (o : Option Pending). IfSome o P) (sym is) h

-- ---- which are pending

if-some : {P Q : Pending → Type 0} (o : Option Pending) → ((p : Pending) → P p → Q p) → IfSome o P → IfSome o Q
if-some None f h = tt
if-some (Some p) f h = f p h

has-own : (p : Pending) → has_number (number p) p ≡ true
has-own p = grind (arith, nat_tests)

also-after : (test : Pending → Bool) (p : Pending) (ps : List Pending) → IsSome (find test ps) → IsSome (find test (p ∷ ps))
also-after test p ps h = elim (test p) as (λ b. IsSome (cond b (Some p) (find test ps))) [ true ↦ refl | false ↦ h ]

-- what a search finds is pending
pub found-pending : (test : Pending → Bool) (ps : List Pending) → IfSome (find test ps) (λ p. IsSome (find (has_number (number p)) ps))
found-pending test [] = tt
found-pending test (p ∷ ps) =
    elim (test p) as (λ b. IfSome (cond b (Some p) (find test ps)) (λ q. IsSome (find (has_number (number q)) (p ∷ ps)))) [
      | true ↦ subst (λ (b : Bool). IsSome (cond b (Some p) (find (has_number (number p)) ps))) (sym (has-own p)) refl
      | false ↦ if-some (find test ps) (λ q h. also-after (has_number (number q)) p ps h) (found-pending test ps)
    ]

pub found-is : (test : Pending → Bool) (ps qs : List Pending) (p : Pending) → ps ≡ qs → Some p ≡ find test ps → IsSome (find (has_number (number p)) qs)
found-is test ps qs p same is =
    let there : IsSome (find (has_number (number p)) ps) = subst (λ (o : Option Pending). IfSome o (λ q. IsSome (find (has_number (number q)) ps))) (sym is) (found-pending test ps) in
    subst (λ (xs : List Pending). IsSome (find (has_number (number p)) xs)) same there

-- the write that was issued last is found
pub found-push : (issued : ℕ) (ps : List Pending) (p : Pending) → EachPending (IsPending issued) ps → issued < number p → find (has_number (number p)) (ps ++ p ∷ []) ≡ Some p
found-push issued [] p all above = ap (λ b. cond b (Some p) None) (has-own p)
found-push issued (q ∷ ps) p all above =
    let last : number q ≤ issued = all.0.last in
    let other : has_number (number p) q ≡ false = grind (arith, nat_tests) in
    ap (λ b. cond b (Some q) (find (has_number (number p)) (ps ++ p ∷ []))) other ∙ found-push issued ps p all.1 above
