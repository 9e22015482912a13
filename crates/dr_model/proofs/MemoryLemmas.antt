-- Sizes of a journal's memory: they grow with the number of events, hold it, and aren't past the most events of a run.
use Rattle.std.proofs.Common.{ℕ, zero, suc, ◌≡◌, ◌<◌, ◌≤◌, ◌+◌, ◌-◌, ◌*◌, min, max, refl, ap, ◌∙◌, subst, arith, Bool, true, false, cond, nat_le}
use Rattle.std.proofs.lemmas.Bool.{leb-true, leb-false, le-leb, lt-leb}
use Rattle.std.proofs.lemmas.Bool.Decides.{nat_tests}
use Rattle.dr_model.specs.Limits.{most_events}
use Rattle.dr_model.specs.Log.{size_from, memory_for}

-- the next size
abbrev next : ℕ → ℕ
next size = min (size * 2) most_events

next-greater : (m size : ℕ) → size ≤ m → size ≤ min (size * 2) m
next-greater m size le = grind (arith, nat_tests, le)

pub next-most : (m size : ℕ) → min (size * 2) m ≤ m
next-most m size = grind (arith, nat_tests)

-- ---- a size by the steps of a loop

pub size-none : (more size n : ℕ) → more ≡ 0 → size_from more size n ≡ most_events
unfolding size_from
size-none more size n is = ap (λ m. size_from m size n) is

pub size-here : (more size n : ℕ) → 0 < more → n ≤ size → size_from more size n ≡ size
unfolding size_from
size-here zero size n some le = absurd (omega (arith, some))
size-here (suc left) size n some le = ap (λ b. cond b size (size_from left (next size) n)) (le-leb n size le)

pub size-next : (more size n : ℕ) → 0 < more → size < n → size_from more size n ≡ size_from (more - 1) (next size) n
unfolding size_from
size-next zero size n some lt = absurd (omega (arith, some))
size-next (suc left) size n some lt =
    ap (λ b. cond b size (size_from left (next size) n)) (lt-leb n size lt) ∙ ap (λ m. size_from m (next size) n) (let e : left ≡ suc left - 1 = omega arith in e)

pub memory-none : memory_for 0 ≡ 0
unfolding memory_for
memory-none = refl

pub memory-some : (n : ℕ) → (n ≡ 0 → ⊥) → memory_for n ≡ size_from 7 8192 n
unfolding memory_for
memory-some zero some = absurd (some refl)
memory-some (suc n) some = refl

-- ---- sizes grow

from-least : (more size p n : ℕ) → p ≤ size → size ≤ most_events → p ≤ size_from more size n
unfolding size_from
from-least zero size p n le most = omega (arith, le, most)
from-least (suc more) size p n le most = by (nat_le n size) (from-least more (next size) p n (let up = next-greater most_events size most in omega (arith, le, up)) (next-most most_events size))
  where
    by : (b : Bool) → p ≤ size_from more (next size) n → p ≤ cond b size (size_from more (next size) n)
    by true rest = le
    by false rest = rest

from-most : (more size n : ℕ) → size ≤ most_events → size_from more size n ≤ most_events
unfolding size_from
from-most zero size n most = omega arith
from-most (suc more) size n most = by (nat_le n size) (from-most more (next size) n (next-most most_events size))
  where
    by : (b : Bool) → size_from more (next size) n ≤ most_events → cond b size (size_from more (next size) n) ≤ most_events
    by true rest = most
    by false rest = rest

from-fits : (more size n : ℕ) → n ≤ most_events → n ≤ size_from more size n
unfolding size_from
from-fits zero size n few = few
from-fits (suc more) size n few = by (nat_le n size) refl (from-fits more (next size) n few)
  where
    by : (b : Bool) → nat_le n size ≡ b → n ≤ size_from more (next size) n → n ≤ cond b size (size_from more (next size) n)
    by true is rest = leb-true n size is
    by false is rest = rest

from-grows : (more size a b : ℕ) → a ≤ b → size ≤ most_events → size_from more size a ≤ size_from more size b
unfolding size_from
from-grows zero size a b le most = omega arith
from-grows (suc more) size a b le most = by (nat_le a size) (nat_le b size) refl refl (from-grows more (next size) a b le (next-most most_events size))
  where
    by : (x y : Bool) → nat_le a size ≡ x → nat_le b size ≡ y → size_from more (next size) a ≤ size_from more (next size) b
        → cond x size (size_from more (next size) a) ≤ cond y size (size_from more (next size) b)
    by true true is is' rest = omega arith
    by true false is is' rest = from-least more (next size) size b (next-greater most_events size most) (next-most most_events size)
    by false true is is' rest = absurd (let up = leb-false a size is in let down = leb-true b size is' in omega (arith, le, up, down))
    by false false is is' rest = rest

-- ---- the memory of a journal

pub memory-most : (n : ℕ) → memory_for n ≤ most_events
unfolding memory_for
memory-most zero = omega arith
memory-most (suc n) = from-most 7 8192 (suc n) (omega arith)

pub memory-fits : (n : ℕ) → n ≤ most_events → n ≤ memory_for n
unfolding memory_for
memory-fits zero few = omega arith
memory-fits (suc n) few = from-fits 7 8192 (suc n) few

pub memory-grows : (a b : ℕ) → a ≤ b → memory_for a ≤ memory_for b
unfolding memory_for
memory-grows zero b le = omega arith
memory-grows (suc a) zero le = absurd (omega (arith, le))
memory-grows (suc a) (suc b) le = from-grows 7 8192 (suc a) (suc b) le (omega arith)

-- where so many events with their room don't fit into the memory that there is
pub memory-short : (len spare room cap most : ℕ) → len + room ≤ most_events → most_events ≤ most → cap < len + max room (memory_for (min (len + room) most) - len) → memory_for (len + spare) ≤ cap
    → memory_for (len + spare) < memory_for (len + room)
memory-short len spare room cap most few wide short holds =
    let exact : min (len + room) most ≡ len + room = grind (arith, nat_tests, few, wide) in
    by (memory_for (len + room)) (memory-fits (len + room) few) (subst (λ n. cap < len + max room (memory_for n - len)) exact short)
  where
    by : (size : ℕ) → len + room ≤ size → cap < len + max room (size - len) → memory_for (len + spare) < size
    by size fits short = sized (memory_for (len + spare)) size fits short holds
      where
        sized : (old size : ℕ) → len + room ≤ size → cap < len + max room (size - len) → old ≤ cap → old < size
        sized old size fits short holds = grind (arith, nat_tests, fits, short, holds)
