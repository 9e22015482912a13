-- What writes one after another make of a plant, and what they keep.
use Rattle.std.proofs.Common.{ℕ, ◌≡◌, ◌≢◌, Bool, true, false, List, [], ◌∷◌, ◌++◌, refl, ap, ◌∙◌, cond, sym, subst}
use Rattle.std.specs.Prelude.{Result, Ok, Err, is_err, is_ok, IsErr}
use Rattle.dr_logic.specs.Counts.{risen}
use Rattle.dr_plant.specs.State.{PlantState, after_write, can_write}
use Rattle.dr_plant.proofs.StateLemmas.{count-after_write, size-after_write, owner-after_write, apart-after_write, off-after_write, faults-after_write}
use Rattle.dr_plant.specs.Writes.{BlockWrite, write, after_writes, IsDevice, SameShape}

-- a write that is done, and the rest
pub goes : (s : PlantState) (dev : ℕ) (w : BlockWrite) (ws : List BlockWrite) → can_write s dev ≡ true → after_writes s dev (w ∷ ws) ≡ after_writes (after_write s dev w.block w.bytes) dev ws
unfolding after_writes
goes s dev w ws h = ap (λ x. cond x (after_writes (after_write s dev w.block w.bytes) dev ws) (after_write s dev w.block w.bytes, true)) h

-- a write that is stopped
pub stops : (s : PlantState) (dev : ℕ) (w : BlockWrite) (ws : List BlockWrite) → can_write s dev ≡ false → after_writes s dev (w ∷ ws) ≡ (after_write s dev w.block w.bytes, true)
unfolding after_writes
stops s dev w ws h = ap (λ x. cond x (after_writes (after_write s dev w.block w.bytes) dev ws) (after_write s dev w.block w.bytes, true)) h

-- no write is left
pub ends : (s : PlantState) (dev : ℕ) → after_writes s dev [] ≡ (s, false)
unfolding after_writes
ends s dev = refl

-- one write, by what the plant says of it
pub one_write : {A B : Type 0} (s t : PlantState) (dev b : ℕ) (bytes : List ℕ) (r : Result A B) → t ≡ after_write s dev b bytes → is_ok r ≡ can_write s dev → after_writes s dev (write b bytes ∷ []) ≡ (t, is_err r)
one_write s t dev b bytes (Ok x) e h = goes s dev (write b bytes) [] (sym h) ∙ ends _ dev ∙ (λ i. (sym e i, false))
one_write s t dev b bytes (Err x) e h = stops s dev (write b bytes) [] (sym h) ∙ (λ i. (sym e i, true))

pub err_pair : {A B : Type 0} (r : Result A B) (s t : PlantState) → IsErr r → t ≡ s → ◌≡◌ {A = PlantState × Bool} (s, true) (t, is_err r)
err_pair r s t h e i = (sym e i, sym h i)

-- what holds of the state after any writes: it holds at the start, and each write keeps it
pub along : (I : PlantState → Type 0) (dev : ℕ) → ((s : PlantState) (b : ℕ) (bytes : List ℕ) → I s → I (after_write s dev b bytes)) → (ws : List BlockWrite) (s : PlantState) → I s → I (after_writes s dev ws).0
along I dev kept [] s h = subst (λ (r : PlantState × Bool). I r.0) (sym (ends s dev)) h
along I dev kept (w ∷ ws) s h =
    elim (can_write s dev) as (λ v. can_write s dev ≡ v → I (after_writes s dev (w ∷ ws)).0) [
      | true ↦ λ c. subst (λ (r : PlantState × Bool). I r.0) (sym (goes s dev w ws c)) (along I dev kept ws (after_write s dev w.block w.bytes) (kept s w.block w.bytes h))
      | false ↦ λ c. subst (λ (r : PlantState × Bool). I r.0) (sym (stops s dev w ws c)) (kept s w.block w.bytes h)
    ] refl

pub shape-same : (s : PlantState) → SameShape s s
shape-same s = record { count = refl; size = refl; owner = refl }

pub shape-trans : (s t u : PlantState) → SameShape s t → SameShape t u → SameShape s u
shape-trans s t u p q = record { count = q.count ∙ p.count; size = q.size ∙ p.size; owner = q.owner ∙ p.owner }

pub shape-after_write : (s : PlantState) (dev b : ℕ) (bytes : List ℕ) → SameShape s (after_write s dev b bytes)
shape-after_write s dev b bytes = record { count = count-after_write s dev b bytes; size = size-after_write s dev b bytes; owner = owner-after_write s dev b bytes }

pub device-shape : (s t : PlantState) (dev n : ℕ) → SameShape s t → IsDevice s dev n → IsDevice t dev n
device-shape s t dev n h d = record { device = rw h.count d.device; blocks = rw h.size d.blocks }

-- writes keep the devices, their sizes and their owners
pub shape-after_writes : (s : PlantState) (dev : ℕ) (ws : List BlockWrite) → SameShape s (after_writes s dev ws).0
shape-after_writes s dev ws = along (λ t. SameShape s t) dev (λ t b bytes h. shape-trans s t _ h (shape-after_write t dev b bytes)) ws s (shape-same s)

-- writes to one device keep the blocks of every other
pub apart-after_writes : (s : PlantState) (dev : ℕ) (ws : List BlockWrite) (d b : ℕ) → d ≢ dev → (after_writes s dev ws).0.block d b ≡ s.block d b
apart-after_writes s dev ws d b ne = along (λ t. t.block d b ≡ s.block d b) dev (λ t k bytes h. apart-after_write t dev k bytes d b ne ∙ h) ws s refl

-- two lists of writes in a row
pub writes-append : (s : PlantState) (dev : ℕ) (xs ys : List BlockWrite) → after_writes s dev (xs ++ ys) ≡ cond (after_writes s dev xs).1 (after_writes s dev xs) (after_writes (after_writes s dev xs).0 dev ys)
writes-append s dev [] ys = ap (λ (p : PlantState × Bool). cond p.1 p (after_writes p.0 dev ys)) (sym (ends s dev))
writes-append s dev (w ∷ ws) ys =
    elim (can_write s dev) as (λ v. can_write s dev ≡ v → after_writes s dev (w ∷ (ws ++ ys)) ≡ cond (after_writes s dev (w ∷ ws)).1 (after_writes s dev (w ∷ ws)) (after_writes (after_writes s dev (w ∷ ws)).0 dev ys)) [
      | true ↦ λ h. goes s dev w (ws ++ ys) h ∙ writes-append (after_write s dev w.block w.bytes) dev ws ys ∙ ap (λ (p : PlantState × Bool). cond p.1 p (after_writes p.0 dev ys)) (sym (goes s dev w ws h))
      | false ↦ λ h. stops s dev w (ws ++ ys) h ∙ ap (λ (p : PlantState × Bool). cond p.1 p (after_writes p.0 dev ys)) (sym (stops s dev w ws h))
    ] refl

pub append-goes : (s t : PlantState) (dev : ℕ) (xs ys : List BlockWrite) → after_writes s dev xs ≡ (t, false) → after_writes s dev (xs ++ ys) ≡ after_writes t dev ys
append-goes s t dev xs ys h = writes-append s dev xs ys ∙ ap (λ (p : PlantState × Bool). cond p.1 p (after_writes p.0 dev ys)) h

pub append-stops : (s t : PlantState) (dev : ℕ) (xs ys : List BlockWrite) → after_writes s dev xs ≡ (t, true) → after_writes s dev (xs ++ ys) ≡ (t, true)
append-stops s t dev xs ys h = writes-append s dev xs ys ∙ ap (λ (p : PlantState × Bool). cond p.1 p (after_writes p.0 dev ys)) h

-- where writes were stopped, the owner is off, and one more fault is counted
pub off-after_writes : (s t : PlantState) (dev : ℕ) (ws : List BlockWrite) → after_writes s dev ws ≡ (t, true) → t.on (s.owner dev) ≡ false
off-after_writes s t dev [] h = let e : false ≡ true = ap (λ (r : PlantState × Bool). r.1) (sym (ends s dev) ∙ h) in absurd (cc)
off-after_writes s t dev (w ∷ ws) h =
    elim (can_write s dev) as (λ v. can_write s dev ≡ v → t.on (s.owner dev) ≡ false) [
      | true ↦ λ c. ap (λ (f : ℕ → ℕ). t.on (f dev)) (sym (owner-after_write s dev w.block w.bytes)) ∙ off-after_writes (after_write s dev w.block w.bytes) t dev ws (sym (goes s dev w ws c) ∙ h)
      | false ↦ λ c. ap (λ (r : PlantState × Bool). r.0.on (s.owner dev)) (sym h ∙ stops s dev w ws c) ∙ off-after_write s dev w.block w.bytes c
    ] refl

pub faults-after_writes : (s t : PlantState) (dev : ℕ) (ws : List BlockWrite) → after_writes s dev ws ≡ (t, true) → t.faults ≡ risen s.faults
faults-after_writes s t dev [] h = let e : false ≡ true = ap (λ (r : PlantState × Bool). r.1) (sym (ends s dev) ∙ h) in absurd (cc)
faults-after_writes s t dev (w ∷ ws) h =
    elim (can_write s dev) as (λ v. can_write s dev ≡ v → t.faults ≡ risen s.faults) [
      | true ↦ λ c.
          faults-after_writes (after_write s dev w.block w.bytes) t dev ws (sym (goes s dev w ws c) ∙ h)
          ∙ ap risen (faults-after_write s dev w.block w.bytes ∙ ap (λ v. cond v s.faults (risen s.faults)) c)
      | false ↦ λ c. ap (λ (r : PlantState × Bool). r.0.faults) (sym h ∙ stops s dev w ws c) ∙ faults-after_write s dev w.block w.bytes ∙ ap (λ v. cond v s.faults (risen s.faults)) c
    ] refl

-- where every write was done, the count of faults is as before
pub same_faults-after_writes : (s t : PlantState) (dev : ℕ) (ws : List BlockWrite) → after_writes s dev ws ≡ (t, false) → t.faults ≡ s.faults
same_faults-after_writes s t dev [] h = ap (λ (r : PlantState × Bool). r.0.faults) (sym h ∙ ends s dev)
same_faults-after_writes s t dev (w ∷ ws) h =
    elim (can_write s dev) as (λ v. can_write s dev ≡ v → t.faults ≡ s.faults) [
      | true ↦ λ c.
          same_faults-after_writes (after_write s dev w.block w.bytes) t dev ws (sym (goes s dev w ws c) ∙ h)
          ∙ faults-after_write s dev w.block w.bytes ∙ ap (λ v. cond v s.faults (risen s.faults)) c
      | false ↦ λ c. let e : true ≡ false = ap (λ (r : PlantState × Bool). r.1) (sym (stops s dev w ws c) ∙ h) in absurd (cc)
    ] refl
