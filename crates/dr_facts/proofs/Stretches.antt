-- Where a server stopped in entries that others follow: how many came before.
use Rattle.std.proofs.Common.{ℕ, ◌≡◌, ◌<◌, ◌+◌, refl, ap, sym, ◌∙◌, subst, length, arith, List, [], ◌∷◌, ◌++◌, Option, Some, None}
use Rattle.dr_ids.specs.declared.refusal.Refusal.{Refusal}
use Rattle.dr_model.specs.Control.{World}
use Rattle.dr_model.specs.Carry.{Entry, Next, Pass, Do, End, Turn, Outcome, act, continue, go, carry, stopped_turn, stopped_next, stopped_at}

-- they end so, and then no entry after them counts
pub record Within (w : World) (es more : List Entry) : Type 0 where
  pub same : stopped_at w (es ++ more) ≡ stopped_at w es
  pub few : stopped_at w es < length es

abbrev Ended : Outcome → World → Refusal → Type 0
Ended o u r = o ≡ (u, Some r)

abbrev Here : ℕ → ℕ → ℕ → Type 0
Here more alone n = (more ≡ alone) × (alone < n + 1)

turn-within : (t : Turn) (next : World → Outcome) (later other : World → ℕ) (n : ℕ) (u : World) (r : Refusal) → ((v : World) → Ended (next v) u r → (other v ≡ later v) × (later v < n)) → Ended (continue t.0 t.1 next) u r
    → Here (stopped_turn t (λ v. other v + 1)) (stopped_turn t (λ v. later v + 1)) n
turn-within (v, None) next later other n u r each ends = let x = each v ends in let few = x.1 in (ap (λ k. k + 1) x.0, omega arith)
turn-within (v, Some s) next later other n u r each ends = (refl, omega arith)

next-within : (w : World) (x : Next) (next : World → Outcome) (later other : World → ℕ) (n : ℕ) (u : World) (r : Refusal) → ((v : World) → Ended (next v) u r → (other v ≡ later v) × (later v < n)) → Ended (go w x next) u r
    → Here (stopped_next w x (λ v. other v + 1)) (stopped_next w x (λ v. later v + 1)) n
next-within w Pass next later other n u r each ends = let x = each w ends in let few = x.1 in (ap (λ k. k + 1) x.0, omega arith)
next-within w (End q) next later other n u r each ends = (refl, omega arith)
next-within w (Do a) next later other n u r each ends = turn-within (act w a) next later other n u r each ends

within : (w : World) (es more : List Entry) (u : World) (r : Refusal) → Ended (carry w es) u r → (stopped_at w (es ++ more) ≡ stopped_at w es) × (stopped_at w es < length es)
unfolding carry stopped_at
within w [] more u r ends = absurd (let none : None ≡ Some r = ap (λ (o : Outcome). o.1) ends in cc)
within w (d ∷ ds) more u r ends =
    let x = next-within w (d w.control) (λ v. carry v ds) (λ v. stopped_at v ds) (λ v. stopped_at v (ds ++ more)) (length ds) u r (λ v e. within v ds more u r e) ends in
    let few = x.1 in (x.0, omega arith)

pub stopped-within : (w : World) (es more : List Entry) (u : World) (r : Refusal) → carry w es ≡ (u, Some r) → Within w es more
stopped-within w es more u r ends = let x = within w es more u r ends in record { same = x.0; few = x.1 }

-- they led on, and then all of them count
abbrev Led : Outcome → World → Type 0
Led o u = o ≡ (u, None)

turn-after : (t : Turn) (next : World → Outcome) (later : World → ℕ) (k n : ℕ) (u : World) → ((v : World) → Led (next v) u → later v ≡ n + k) → Led (continue t.0 t.1 next) u → stopped_turn t (λ v. later v + 1) ≡ (n + 1) + k
turn-after (v, None) next later k n u each ends = let is = each v ends in omega arith
turn-after (v, Some s) next later k n u each ends = absurd (let none = ap (λ (o : Outcome). o.1) ends in cc)

next-after : (w : World) (x : Next) (next : World → Outcome) (later : World → ℕ) (k n : ℕ) (u : World) → ((v : World) → Led (next v) u → later v ≡ n + k) → Led (go w x next) u → stopped_next w x (λ v. later v + 1) ≡ (n + 1) + k
next-after w Pass next later k n u each ends = let is = each w ends in omega arith
next-after w (End r) next later k n u each ends = absurd (let none : Some r ≡ None = ap (λ (o : Outcome). o.1) ends in cc)
next-after w (Do a) next later k n u each ends = turn-after (act w a) next later k n u each ends

pub stopped-after : (w : World) (es more : List Entry) (u : World) → carry w es ≡ (u, None) → stopped_at w (es ++ more) ≡ length es + stopped_at u more
unfolding carry stopped_at
stopped-after w [] more u ends = let is : stopped_at w more ≡ stopped_at u more = ap (λ (o : Outcome). stopped_at o.0 more) ends in omega arith
stopped-after w (d ∷ ds) more u ends = let is = next-after w (d w.control) (λ v. carry v ds) (λ v. stopped_at v (ds ++ more)) (stopped_at u more) (length ds) u (λ v e. stopped-after v ds more u e) ends in omega arith
