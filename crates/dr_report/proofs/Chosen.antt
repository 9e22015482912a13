-- Some of a list, and what is known of them.
use Rattle.std.proofs.Common.{◌≡◌, ℕ, ◌+◌, ◌<◌, Bool, true, false, not, ◌&&◌, cond, List, [], ◌∷◌, ◌++◌, length, map, filter, drop, drop-cons, add-one, get_or, refl, ap, sym, ◌∙◌, subst, arith, append_assoc, Some, None, option_map, ◌==◌, if◌then◌else◌}
use Rattle.std.specs.List.{find, flat_map, list_all, slice_get}
use Rattle.std.proofs.lemmas.Bool.Decides.{nat_tests}
use Rattle.std.proofs.lemmas.List.Concat.{flat_map-cons}
use Rattle.dr_model.specs.Decisions.{first_and_other, numbers_in, Shown, shown_by}
use Rattle.dr_model.specs.PlantImage.{ended}
use Rattle.dr_model.specs.Recovery.{common}
use Rattle.dr_facts.proofs.Texts.{ended-append}

-- what some of a list give, by what is known of each
pub some-known : {X Y Z : Type 0} (p : Y → Bool) (f : Y → Z) (g : X → Y) (xs : List X) → map f (filter p (map g xs)) ≡ map (λ x. f (g x)) (filter (λ x. p (g x)) xs)
some-known p f g [] = refl
some-known p f g (x ∷ xs) = by (p (g x)) (some-known p f g xs)
  where
    by : (b : Bool) → map f (filter p (map g xs)) ≡ map (λ x. f (g x)) (filter (λ x. p (g x)) xs)
        → map f (cond b (g x ∷ filter p (map g xs)) (filter p (map g xs))) ≡ map (λ x. f (g x)) (cond b (x ∷ filter (λ x. p (g x)) xs) (filter (λ x. p (g x)) xs))
    by true e = ap (λ ys. f (g x) ∷ ys) e
    by false e = e

-- the first of a list, by what is known of each
pub first-known : {X Y : Type 0} (p : Y → Bool) (g : X → Y) (xs : List X) → find p (map g xs) ≡ option_map g (find (λ x. p (g x)) xs)
first-known p g [] = refl
first-known p g (x ∷ xs) = by (p (g x)) (first-known p g xs)
  where
    by : (b : Bool) → find p (map g xs) ≡ option_map g (find (λ x. p (g x)) xs) → cond b (Some (g x)) (find p (map g xs)) ≡ option_map g (cond b (Some x) (find (λ x. p (g x)) xs))
    by true e = refl
    by false e = e

-- numbers and flags of the same list
pub shown-both : {X : Type 0} (f : X → ℕ) (g : X → Bool) (xs : List X) → shown_by (map f xs) (map g xs) ≡ map (λ x. let s : Shown = record { sequence = f x; revertible = g x } in s) xs
shown-both f g [] = refl
shown-both f g (x ∷ xs) = ap (λ ys. (let s : Shown = record { sequence = f x; revertible = g x } in s) ∷ ys) (shown-both f g xs)

-- where all are one number, none differs from it
none-differs : (a : ℕ) (ns : List ℕ) → list_all (λ n. n == a) ns ≡ true → find (λ n. not (n == a)) ns ≡ None
none-differs a [] all = refl
none-differs a (n ∷ ns) all = by (n == a) (none-differs a ns) all
  where
    by : (b : Bool) → (list_all (λ n. n == a) ns ≡ true → find (λ n. not (n == a)) ns ≡ None) → (b && list_all (λ n. n == a) ns) ≡ true → cond (not b) (Some n) (find (λ n. not (n == a)) ns) ≡ None
    by true further e = further e
    by false further e = absurd cc

-- else they have no common number
one-differs : (a : ℕ) (ns : List ℕ) → list_all (λ n. n == a) ns ≡ false → common (first_and_other a (find (λ n. not (n == a)) ns)) ≡ None
one-differs a [] all = absurd cc
one-differs a (n ∷ ns) all = by (n == a) (one-differs a ns) all
  where
    by : (b : Bool) → (list_all (λ n. n == a) ns ≡ false → common (first_and_other a (find (λ n. not (n == a)) ns)) ≡ None) → (b && list_all (λ n. n == a) ns) ≡ false
        → common (first_and_other a (cond (not b) (Some n) (find (λ n. not (n == a)) ns))) ≡ None
    by true further e = further e
    by false further e = refl

first-is : (b : ℕ) (ns : List ℕ) → list_all (λ n. n == b) (b ∷ ns) ≡ list_all (λ n. n == b) ns
first-is b ns = ap (λ v. v && list_all (λ n. n == b) ns) (let same : (b == b) ≡ true = grind (arith, nat_tests) in same)

pub common-all : (ns : List ℕ) (a : ℕ) → Some a ≡ slice_get ns 0 → list_all (λ n. n == a) ns ≡ true → Some a ≡ common (numbers_in ns)
common-all [] a first all = absurd cc
common-all (b ∷ ns) a first all =
    let is : a ≡ b = cc in
    let each : list_all (λ n. n == b) (b ∷ ns) ≡ true = subst (λ x. list_all (λ n. n == x) (b ∷ ns) ≡ true) is all in
    ap (λ x. Some x) is ∙ sym (ap (λ o. common (first_and_other b o)) (none-differs b ns (sym (first-is b ns) ∙ each)))

pub common-none : (ns : List ℕ) (a : ℕ) → Some a ≡ slice_get ns 0 → list_all (λ n. n == a) ns ≡ false → None ≡ common (numbers_in ns)
common-none [] a first all = absurd cc
common-none (b ∷ ns) a first all =
    let is : a ≡ b = cc in
    let some : list_all (λ n. n == b) (b ∷ ns) ≡ false = subst (λ x. list_all (λ n. n == x) (b ∷ ns) ≡ false) is all in
    sym (one-differs b ns (sym (first-is b ns) ∙ some))

-- lines of some of a list: the first one's, and those of the others
lines-first : {X : Type 0} (p : X → Bool) (lines : X → List (List ℕ)) (x : X) (xs : List X) → flat_map lines (filter p (x ∷ xs)) ≡ (if p x then lines x else []) ++ flat_map lines (filter p xs)
lines-first p lines x xs = by (p x)
  where
    by : (b : Bool) → flat_map lines (cond b (x ∷ filter p xs) (filter p xs)) ≡ (if b then lines x else []) ++ flat_map lines (filter p xs)
    by true = flat_map-cons lines x (filter p xs)
    by false = refl

-- the lines of one more
pub lines-turn : {X Y : Type 0} (p : Y → Bool) (lines : Y → List (List ℕ)) (g : X → Y) (t : List ℕ) (xs : List X) (i : ℕ) (x : X) → i < length xs → x ≡ get_or xs i x
    → (t ++ ended (if p (g x) then lines (g x) else [])) ++ ended (flat_map lines (filter p (map g (drop (i + 1) xs)))) ≡ t ++ ended (flat_map lines (filter p (map g (drop i xs))))
lines-turn p lines g t xs i x lt is =
    let rest : List (List ℕ) = flat_map lines (filter p (map g (drop (i + 1) xs))) in
    let here : List (List ℕ) = if p (g x) then lines (g x) else [] in
    append_assoc t (ended here) (ended rest) ∙ ap (λ r. t ++ r) (sym (ended-append here rest))
    ∙ ap (λ r. t ++ ended r) (sym (lines-first p lines (g x) (map g (drop (i + 1) xs))))
    ∙ ap (λ y. t ++ ended (flat_map lines (filter p (g y ∷ map g (drop (i + 1) xs))))) is
    ∙ ap (λ n. t ++ ended (flat_map lines (filter p (g (get_or xs i x) ∷ map g (drop n xs))))) (add-one i)
    ∙ ap (λ ys. t ++ ended (flat_map lines (filter p (map g ys)))) (sym (drop-cons xs i x lt))
