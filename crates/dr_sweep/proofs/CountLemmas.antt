-- Counts of device writes, of which one is raised.
use Rattle.std.proofs.Common.{ℕ, ◌≡◌, ◌≢◌, ◌<◌, ◌≤◌, ◌+◌, ◌⊎◌, inl, inr, List, length, set, replicate, ap, ◌∙◌, sym, subst, arith}
use Rattle.std.specs.List.{sum}
use Rattle.std.proofs.lemmas.Bool.{cases_eq, cases_lt}
use Rattle.std.proofs.lemmas.List.{get_or-set_same, get_or-set_other, get_or_past, get_or-replicate, length-set, set-set, set-get_or}
use Rattle.std.proofs.lemmas.List.Sums.{sum_by-set, get_or-le-sum_by}
use Rattle.dr_plan.specs.Points.{count_at}
use Rattle.dr_sweep.specs.Counts.{with_count, one_more, first_counts}

-- a count that isn't 0 has a place among the counts
pub counted-within : (writes : List ℕ) (place n : ℕ) → count_at writes place ≡ n + 1 → place < length writes
counted-within writes place n is = by (cases_lt place (length writes))
  where
    by : (place < length writes) ⊎ (length writes ≤ place) → place < length writes
    by (inl lt) = lt
    by (inr past) = absurd (let none = get_or_past writes place 0 past in omega (arith, none, is))

-- no count is greater than all together
pub count-within-sum : (writes : List ℕ) (place : ℕ) → place < length writes → count_at writes place ≤ sum writes
count-within-sum writes place lt = get_or-le-sum_by (λ w. w) writes place 0 lt

-- ---- one more

pub more-same : (writes : List ℕ) (place : ℕ) → place < length writes → count_at (one_more place writes) place ≡ count_at writes place + 1
more-same writes place lt = get_or-set_same writes place (count_at writes place + 1) 0 lt

pub more-other : (writes : List ℕ) (place other : ℕ) → other ≢ place → count_at (one_more place writes) other ≡ count_at writes other
more-other writes place other apart = get_or-set_other writes place other (count_at writes place + 1) 0 apart

pub more-length : (writes : List ℕ) (place : ℕ) → length (one_more place writes) ≡ length writes
more-length writes place = length-set writes place (count_at writes place + 1)

pub more-sum : (writes : List ℕ) (place : ℕ) → place < length writes → sum (one_more place writes) ≡ sum writes + 1
more-sum writes place lt = let both = sum_by-set (λ w. w) writes place (count_at writes place + 1) 0 lt in omega (arith, both)

-- with what it was before it is as before
pub more-back : (writes : List ℕ) (place n : ℕ) → place < length writes → count_at (one_more place writes) place ≡ n + 1 → with_count place n (one_more place writes) ≡ writes
more-back writes place n lt is =
    set-set writes place (count_at writes place + 1) n
    ∙ ap (set writes place) (let raised = more-same writes place lt in let same : n ≡ count_at writes place = omega (arith, raised, is) in same)
    ∙ set-get_or writes place 0

-- ---- another count, with one more somewhere else

pub with-same : (writes : List ℕ) (other n : ℕ) → other < length writes → count_at (with_count other n writes) other ≡ n
with-same writes other n lt = get_or-set_same writes other n 0 lt

-- no count of one is greater than that of the other
pub raised-later : (writes : List ℕ) (place other n : ℕ) → other ≢ place → other < length writes → place < length writes → (z : ℕ) → count_at (with_count other n writes) z ≤ count_at (with_count other n (one_more place writes)) z
raised-later writes place other n apart lt within z = by (cases_eq z other) (cases_eq z place)
  where
    left : z ≢ other → count_at (with_count other n writes) z ≡ count_at writes z
    left away = get_or-set_other writes other z n 0 away

    right : z ≢ other → count_at (with_count other n (one_more place writes)) z ≡ count_at (one_more place writes) z
    right away = get_or-set_other (one_more place writes) other z n 0 away

    by : (z ≡ other) ⊎ (z ≢ other) → (z ≡ place) ⊎ (z ≢ place) → count_at (with_count other n writes) z ≤ count_at (with_count other n (one_more place writes)) z
    by (inl is) h =
        subst (λ y. count_at (with_count other n writes) y ≤ count_at (with_count other n (one_more place writes)) y) (sym is)
        (let a = with-same writes other n lt in let b = with-same (one_more place writes) other n (let size = more-length writes place in omega (arith, size, lt)) in omega (arith, a, b))
    by (inr away) (inl is) =
        let a = left away in
        let b = right away in
        let c = ap (count_at (one_more place writes)) is in
        let d = more-same writes place within in
        let e = ap (count_at writes) is in
        omega (arith, a, b, c, d, e)
    by (inr away) (inr far) = let a = left away in let b = right away in let c = more-other writes place z far in omega (arith, a, b, c)

-- with a greater one no count is smaller; and none is greater than that one, or than all together
pub with-more : (writes : List ℕ) (other n : ℕ) → other < length writes → count_at writes other ≤ n → (z : ℕ) → count_at writes z ≤ count_at (with_count other n writes) z
with-more writes other n lt more z = by (cases_eq z other)
  where
    by : (z ≡ other) ⊎ (z ≢ other) → count_at writes z ≤ count_at (with_count other n writes) z
    by (inl is) = let a = ap (count_at writes) is in let b = ap (count_at (with_count other n writes)) is in let c = with-same writes other n lt in omega (arith, a, b, c, more)
    by (inr away) = let a = get_or-set_other writes other z n 0 away in omega (arith, a)

pub with-most : (writes : List ℕ) (other n most : ℕ) → other < length writes → n ≤ most → sum writes ≤ most → (z : ℕ) → count_at (with_count other n writes) z ≤ most
with-most writes other n most lt low all z = by (cases_eq z other) (cases_lt z (length writes))
  where
    by : (z ≡ other) ⊎ (z ≢ other) → (z < length writes) ⊎ (length writes ≤ z) → count_at (with_count other n writes) z ≤ most
    by (inl is) h = let a = ap (count_at (with_count other n writes)) is in let b = with-same writes other n lt in omega (arith, a, b, low)
    by (inr away) (inl within) = let a = get_or-set_other writes other z n 0 away in let c = count-within-sum writes z within in omega (arith, a, c, all)
    by (inr away) (inr past) = let a = get_or-set_other writes other z n 0 away in let none = get_or_past writes z 0 past in omega (arith, a, none)

-- so no count of it is greater than before, or than all together
pub with-few : (writes : List ℕ) (other n most : ℕ) → other < length writes → n ≤ count_at writes other → sum writes ≤ most → (z : ℕ) → count_at (with_count other n writes) z ≤ most
with-few writes other n most lt less all z = by (cases_eq z other) (cases_lt z (length writes))
  where
    by : (z ≡ other) ⊎ (z ≢ other) → (z < length writes) ⊎ (length writes ≤ z) → count_at (with_count other n writes) z ≤ most
    by (inl is) h =
        let a = ap (count_at (with_count other n writes)) is in
        let b = with-same writes other n lt in
        let c = count-within-sum writes other lt in
        omega (arith, a, b, c, less, all)
    by (inr away) (inl within) = let a = get_or-set_other writes other z n 0 away in let c = count-within-sum writes z within in omega (arith, a, c, all)
    by (inr away) (inr past) = let a = get_or-set_other writes other z n 0 away in let none = get_or_past writes z 0 past in omega (arith, a, none)

-- ---- the first counts

pub first-same : (server write : ℕ) → server < 8 → count_at (first_counts server write) server ≡ write
first-same server write lt = get_or-set_same (replicate 8 0) server write 0 lt

none_there : (other : ℕ) → count_at (replicate 8 0) other ≡ 0
none_there other = by (cases_lt other 8)
  where
    by : (other < 8) ⊎ (8 ≤ other) → count_at (replicate 8 0) other ≡ 0
    by (inl lt) = get_or-replicate 8 other 0 0 lt
    by (inr past) = get_or_past (replicate 8 0) other 0 past

pub first-other : (server write other : ℕ) → other ≢ server → count_at (first_counts server write) other ≡ 0
first-other server write other apart = get_or-set_other (replicate 8 0) server other write 0 apart ∙ none_there other

pub first-sum : (server write : ℕ) → server < 8 → sum (first_counts server write) ≡ write
first-sum server write lt = let both = sum_by-set (λ w. w) (replicate 8 0) server write 0 lt in let none = none_there server in omega (arith, both, none)

pub first-length : (server write : ℕ) → length (first_counts server write) ≡ 8
first-length server write = length-set (replicate 8 0) server write
