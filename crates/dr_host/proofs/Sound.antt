-- What stays true of every host, and the order of its pending writes.
use Rattle.std.proofs.Common.{◌≡◌, ℕ, zero, suc, ◌+◌, ◌<◌, ◌≤◌, Bool, true, false, cond, List, [], ◌∷◌, ◌++◌, length, filter, get_or, slice_set, Some, None, refl, sym, ◌∙◌, ap, arith, length-append}
use Rattle.std.specs.List.{find, position}
use Rattle.std.proofs.lemmas.List.Quantifiers.{position-Some}
use Rattle.std.proofs.lemmas.Bool.Decides.{nat_tests}
use Rattle.dr_config.proofs.Lists.{none-found}
use Rattle.dr_host.specs.declared.pending.Pending.{Pending}
use Rattle.dr_host.proofs.Each.{landed_is, each-marked, each-filter, each-without, each-push, each-widen}
use Rattle.dr_host.specs.Writes.{Writes, number, has_number, is_other, marked, written, with_write, with_marked, without, IsPending, EachPending, Ascends, IsSoundHost}
use Rattle.dr_logic.proofs.Lists.{filter-shorter}

-- ---- the order

above-marked : (k n : ℕ) (ps : List Pending) → EachPending (λ q. k < number q) ps → EachPending (λ q. k < number q) (marked n ps)
above-marked k n ps all = each-marked (λ q. k < number q) n ps (λ p h. h) all

pub ascends-marked : (n : ℕ) (ps : List Pending) → Ascends ps → Ascends (marked n ps)
ascends-marked n [] h = tt
ascends-marked n (p ∷ ps) h =
    (elim (has_number n p) as (λ b. EachPending (λ q. number (cond b (landed_is p) p) < number q) (marked n ps)) [ true ↦ above-marked (number p) n ps h.0 | false ↦ above-marked (number p) n ps h.0 ], ascends-marked n ps h.1)

pub ascends-without : (test : Pending → Bool) (ps : List Pending) → Ascends ps → Ascends (filter test ps)
ascends-without test [] h = tt
ascends-without test (p ∷ ps) h =
    elim (test p) as (λ b. Ascends (cond b (p ∷ filter test ps) (filter test ps))) [
      | true ↦ (each-filter (λ q. number p < number q) test ps h.0, ascends-without test ps h.1)
      | false ↦ ascends-without test ps h.1
    ]

pub length-marked : (n : ℕ) (ps : List Pending) → length (marked n ps) ≡ length ps
length-marked n [] = refl
length-marked n (p ∷ ps) = ap suc (length-marked n ps)

pub ascends-push : (issued : ℕ) (ps : List Pending) (p : Pending) → EachPending (IsPending issued) ps → issued < number p → Ascends ps → Ascends (ps ++ p ∷ [])
ascends-push issued [] p all above h = (tt, tt)
ascends-push issued (q ∷ ps) p all above h =
    let last : number q ≤ issued = all.0.last in
    let below : number q < number p = omega arith in
    (each-push (λ r. number q < number r) ps p h.0 below, ascends-push issued ps p all.1 above h.1)

-- ---- marking at the place of a number

unmarked : (n k : ℕ) (ps : List Pending) → k ≡ n → EachPending (λ q. k < number q) ps → marked n ps ≡ ps
unmarked n k [] e all = refl
unmarked n k (p ∷ ps) e all =
    let above : k < number p = all.0 in
    let other : has_number n p ≡ false = grind (arith, nat_tests) in
    (λ i. cond (other i) (landed_is p) p ∷ unmarked n k ps e all.1 i)

pub marked-none : (n : ℕ) (ps : List Pending) → find (has_number n) ps ≡ None → marked n ps ≡ ps
marked-none n [] h = refl
marked-none n (p ∷ ps) h =
    elim (has_number n p) as (λ b. cond b (Some p) (find (has_number n) ps) ≡ None → (cond b (landed_is p) p ∷ marked n ps) ≡ p ∷ ps) [
      | true ↦ λ h. absurd cc
      | false ↦ λ h. ap (λ xs. p ∷ xs) (marked-none n ps h)
    ] h

marked-at : (n i : ℕ) (ps : List Pending) (d : Pending) → Ascends ps → i < length ps → has_number n (get_or ps i d) ≡ true → ((k : ℕ) → k < i → has_number n (get_or ps k d) ≡ false)
    → slice_set ps i (landed_is (get_or ps i d)) ≡ marked n ps
marked-at n i [] d h within here before = absurd (omega arith)
marked-at n zero (p ∷ ps) d h within here before =
    let same : number p ≡ n = grind (arith, nat_tests) in
    sym (λ i. cond (here i) (landed_is p) p ∷ unmarked n (number p) ps same h.0 i)
marked-at n (suc i) (p ∷ ps) d h within here before =
    (λ j. sym (ap (λ b. cond b (landed_is p) p) (before 0 (omega arith))) j ∷ marked-at n i ps d h.1 (omega arith) here (λ k low. before (suc k) (omega arith)) j)

-- as a position gives it
pub marked-place : (n i : ℕ) (xs ps : List Pending) (p : Pending) → xs ≡ ps → Ascends ps → position (has_number n) xs ≡ Some i → p ≡ get_or ps i p → slice_set ps i (landed_is p) ≡ marked n ps
marked-place n i xs ps p same h place is =
    let at = position-Some (has_number n) ps i p (sym (ap (position (has_number n)) same) ∙ place) in
    ap (λ x. slice_set ps i (landed_is x)) is ∙ marked-at n i ps p h at.0 at.1 at.2

pub unmarked-place : (n : ℕ) (xs ps : List Pending) → xs ≡ ps → position (has_number n) xs ≡ None → ps ≡ marked n ps
unmarked-place n xs ps same none = sym (marked-none n ps (none-found (has_number n) ps (sym (ap (position (has_number n)) same) ∙ none)))

-- ---- what is true of every host

later : (issued : ℕ) (p : Pending) → IsPending issued p → IsPending (issued + 1) p
later issued p h = let last : number p ≤ issued = h.last in record { first = h.first; last = omega arith; some = h.some; within = h.within }

pub sound-with_write : (h : Writes) (v track offset : ℕ) (bytes : List ℕ) → length h.pending < 64 → 1 ≤ length bytes → offset + length bytes ≤ 64 → IsSoundHost h → IsSoundHost (with_write h v track offset bytes)
sound-with_write h v track offset bytes room some within s =
    let p : Pending = written (h.issued + 1) v track offset bytes in
    let long = length-append h.pending (p ∷ []) in
    let above : h.issued < number p = omega arith in
    record {
      few = omega (arith, long);
      each = each-push (IsPending (h.issued + 1)) h.pending p (each-widen (IsPending h.issued) (IsPending (h.issued + 1)) h.pending (later h.issued) s.each)
          (record { first = omega arith; last = omega arith; some = some; within = within });
      order = ascends-push h.issued h.pending p s.each above s.order;
    }

pub sound-marked : (h : Writes) (n : ℕ) → IsSoundHost h → IsSoundHost (with_marked h n)
sound-marked h n s = record {
  few = let few : length h.pending ≤ 64 = s.few in omega (arith, length-marked n h.pending);
  each = each-marked (IsPending h.issued) n h.pending (λ p q. record { first = q.first; last = q.last; some = q.some; within = q.within }) s.each;
  order = ascends-marked n h.pending s.order;
}

pub sound-without : (h : Writes) (n : ℕ) → IsSoundHost h → IsSoundHost (without h n)
sound-without h n s = record {
  few = let few : length h.pending ≤ 64 = s.few in omega (arith, filter-shorter (is_other n) h.pending);
  each = each-without (IsPending h.issued) n h.pending s.each;
  order = ascends-without (is_other n) h.pending s.order;
}
