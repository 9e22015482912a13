-- What is told of the first elements of a list: one element more.
use Rattle.std.proofs.Common.{ℕ, zero, suc, ◌≡◌, ◌+◌, Bool, true, false, cond, arith, List, [], ◌∷◌, ◌++◌, map, filter, take, slice_get, refl, sym, ◌∙◌, ap, subst, append_assoc, inl, inr, Some}
use Rattle.std.specs.List.{flat_map}
use Rattle.std.proofs.lemmas.List.{append-nil, map-append}
use Rattle.std.proofs.lemmas.List.Concat.{flat_map_single}
use Rattle.std.proofs.lemmas.List.Elements.{filter-append, All-append, All-cons, All-nil}
use Rattle.std.specs.Prelude.{All}
use Rattle.std.proofs.lemmas.Grind.{flat_map-append}
use Rattle.dr_model.specs.Groups.{In}

-- the first i + 1 are the first i and the one at place i
pub take-next : {X : Type 0} (xs : List X) (i : ℕ) (x : X) → slice_get xs i ≡ Some x → take (i + 1) xs ≡ take i xs ++ x ∷ []
take-next {X} xs i x at = ap (λ k. take k xs) (let e : i + 1 ≡ suc i = omega arith in e) ∙ next xs i at
  where
    next : (xs : List X) (i : ℕ) → slice_get xs i ≡ Some x → take (suc i) xs ≡ take i xs ++ x ∷ []
    next [] i h = absurd cc
    next (y ∷ ys) zero h = let e : y ≡ x = cc in ap (λ z. z ∷ []) e
    next (y ∷ ys) (suc i) h = ap (λ zs. y ∷ zs) (next ys i h)

-- what those tell that pass a test
pub chosen-next : {X Y : Type 0} (g : X → List Y) (p : X → Bool) (xs : List X) (i : ℕ) (x : X) → slice_get xs i ≡ Some x → flat_map g (filter p (take (i + 1) xs)) ≡ flat_map g (filter p (take i xs)) ++ cond (p x) (g x) []
chosen-next {X} {Y} g p xs i x at =
    ap (λ ys. flat_map g (filter p ys)) (take-next xs i x at) ∙ ap (flat_map g) (filter-append p (take i xs) (x ∷ [])) ∙ flat_map-append g (filter p (take i xs)) (filter p (x ∷ [])) ∙ ap (λ ys. flat_map g (filter p (take i xs)) ++ ys) (one (p x))
  where
    one : (b : Bool) → flat_map g (cond b (x ∷ []) []) ≡ cond b (g x) []
    one true = append-nil (g x)
    one false = refl

-- one line each
pub picked-next : {X Y : Type 0} (f : X → Y) (p : X → Bool) (xs : List X) (i : ℕ) (x : X) → slice_get xs i ≡ Some x → map f (filter p (take (i + 1) xs)) ≡ map f (filter p (take i xs)) ++ cond (p x) (f x ∷ []) []
picked-next f p xs i x at =
    sym (flat_map_single f (filter p (take (i + 1) xs))) ∙ chosen-next (λ y. f y ∷ []) p xs i x at ∙ ap (λ ys. ys ++ cond (p x) (f x ∷ []) []) (flat_map_single f (filter p (take i xs)))

-- what each tells
pub each-next : {X Y : Type 0} (g : X → List Y) (xs : List X) (i : ℕ) (x : X) → slice_get xs i ≡ Some x → flat_map g (take (i + 1) xs) ≡ flat_map g (take i xs) ++ g x
each-next g xs i x at =
    ap (flat_map g) (take-next xs i x at) ∙ flat_map-append g (take i xs) (x ∷ []) ∙ ap (λ ys. flat_map g (take i xs) ++ ys) (append-nil (g x))

-- one line of each
pub mapped-next : {X Y : Type 0} (f : X → Y) (xs : List X) (i : ℕ) (x : X) → slice_get xs i ≡ Some x → (y : Y) → y ≡ f x → map f (take (i + 1) xs) ≡ map f (take i xs) ++ y ∷ []
mapped-next f xs i x at y is = ap (map f) (take-next xs i x at) ∙ map-append f (take i xs) (x ∷ []) ∙ ap (λ z. map f (take i xs) ++ z ∷ []) (sym is)

-- what holds of each
pub all-next : {X : Type 0} (P : X → Type 0) (xs : List X) (i : ℕ) (x : X) → slice_get xs i ≡ Some x → All P (take i xs) → P x → All P (take (i + 1) xs)
all-next P xs i x at each one = subst (All P) (sym (take-next xs i x at)) (All-append P (take i xs) (x ∷ []) each (All-cons P x [] one (All-nil P)))

-- lines behind lines
pub told-next : {Y : Type 0} (old so_far line next : List Y) (events new : List Y) → events ≡ old ++ so_far → new ≡ events ++ line → next ≡ so_far ++ line → new ≡ old ++ next
told-next old so_far line next events new before one more = one ∙ ap (λ es. es ++ line) before ∙ append_assoc old so_far line ∙ ap (λ es. old ++ es) (sym more)

-- what is at a place is in the list
pub in-at : {X : Type 0} (xs : List X) (i : ℕ) (x : X) → slice_get xs i ≡ Some x → In x xs
in-at [] i x at = absurd cc
in-at (y ∷ ys) zero x at = inl (let e : x ≡ y = cc in e)
in-at (y ∷ ys) (suc i) x at = inr (in-at ys i x at)
