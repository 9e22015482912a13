-- Positions and first elements of lists: under `map`, beside each other, and with one more element.
use Rattle.std.proofs.Common.{◌≡◌, ℕ, suc, zero, ◌+◌, ◌<◌, ◌≤◌, Bool, true, false, not, cond, ◌⊎◌, inl, inr, List, [], ◌∷◌, ◌++◌, length, map, slice_get, Some, None, refl, sym, ◌∙◌, ap, subst, arith, eqb, ltb, get_or, replicate, length-append}
use Rattle.std.specs.List.{position, position_or_len, prefix_len, find}
use Rattle.std.specs.Option.{option_or}
use Rattle.std.proofs.lemmas.List.{length-map}
use Rattle.std.proofs.lemmas.List.Folds.{find_at, find-append, position_or_len_push}
use Rattle.std.proofs.lemmas.List.Sums.{prefix_len-le-length}
use Rattle.std.proofs.lemmas.List.Quantifiers.{position-Some}
use Rattle.std.proofs.lemmas.Option.{get_or_from_slice_get, slice_get_past, slice_get_within, none-some}
use Rattle.std.proofs.lemmas.Bool.Decides.{nat_tests}

prefix_len-map : {A B : Type 0} (f : A → B) (p : B → Bool) (xs : List A) → prefix_len p (map f xs) ≡ prefix_len (λ x. p (f x)) xs
prefix_len-map f p [] = refl
prefix_len-map f p (x ∷ xs) = ap (λ n. cond (p (f x)) (1 + n) 0) (prefix_len-map f p xs)

-- the position among what f gives of the elements
pub position-map : {A B : Type 0} (f : A → B) (p : B → Bool) (xs : List A) → position p (map f xs) ≡ position (λ x. p (f x)) xs
position-map f p xs = rw (prefix_len-map f (λ y. not (p y)) xs, length-map xs f) refl

-- an index below the length has an element
pub element-at : {A : Type 0} (xs : List A) (i : ℕ) → i < length xs → (x : A) × (slice_get xs i ≡ Some x)
element-at [] i h = absurd (omega arith)
element-at (x ∷ xs) zero h = (x, refl)
element-at (x ∷ xs) (suc i) h = element-at xs i (omega arith)

position-parts : {A : Type 0} (p : A → Bool) (xs : List A) (i : ℕ) → position p xs ≡ Some i → (i < length xs) × (position_or_len p xs ≡ i)
position-parts p xs i h = grind (arith, nat_tests)

-- a position is an index
pub position-within : {A : Type 0} (p : A → Bool) (xs : List A) (i : ℕ) → position p xs ≡ Some i → i < length xs
position-within p xs i h = (position-parts p xs i h).0

-- at a position stands the first element that passes
pub found-at : {A : Type 0} (p : A → Bool) (xs : List A) (i : ℕ) → position p xs ≡ Some i → (x : A) × (slice_get xs i ≡ Some x) × (find p xs ≡ Some x) × (p x ≡ true)
found-at {A} p xs i h =
    let parts = position-parts p xs i h in
    let e = element-at xs i parts.0 in
    let passes : p (get_or xs i e.0) ≡ true = (position-Some p xs i e.0 h).1 in
    let same : get_or xs i e.0 ≡ e.0 = get_or_from_slice_get xs i e.0 e.0 e.1 in
    (e.0, e.1, find_at p xs ∙ (ap (slice_get xs) parts.1 ∙ e.1), subst (λ (x : A). p x ≡ true) same passes)

-- the first element that passes stands at the position
pub position-of-found : {A : Type 0} (p : A → Bool) (xs : List A) (x : A) → find p xs ≡ Some x → (i : ℕ) × (position p xs ≡ Some i) × (slice_get xs i ≡ Some x) × (p x ≡ true)
position-of-found {A} p xs x h =
    let at : slice_get xs (position_or_len p xs) ≡ Some x = sym (find_at p xs) ∙ h in
    let within : position_or_len p xs < length xs = slice_get_within xs (position_or_len p xs) x at in
    let place : position p xs ≡ Some (position_or_len p xs) = grind (arith, nat_tests) in
    let passes : p (get_or xs (position_or_len p xs) x) ≡ true = (position-Some p xs (position_or_len p xs) x place).1 in
    let same : get_or xs (position_or_len p xs) x ≡ x = get_or_from_slice_get xs (position_or_len p xs) x x at in
    (position_or_len p xs, place, at, subst (λ (y : A). p y ≡ true) same passes)

-- where there is no position, no element passes
pub none-found : {A : Type 0} (p : A → Bool) (xs : List A) → position p xs ≡ None → find p xs ≡ None
none-found p xs h =
    let past : length xs ≤ position_or_len p xs = grind (arith, nat_tests) in
    find_at p xs ∙ slice_get_past xs (position_or_len p xs) past

push-step : (l n : ℕ) (b : Bool) → l ≤ n → cond (ltb (cond (eqb l n) (n + cond b 0 1) l) (n + 1)) (Some (cond (eqb l n) (n + cond b 0 1) l)) None ≡ option_or (cond (ltb l n) (Some l) None) (cond b (Some n) None)
push-step l n b h = elim b as (λ b. cond (ltb (cond (eqb l n) (n + cond b 0 1) l) (n + 1)) (Some (cond (eqb l n) (n + cond b 0 1) l)) None ≡ option_or (cond (ltb l n) (Some l) None) (cond b (Some n) None)) [ true ↦ grind (arith, nat_tests) | false ↦ grind (arith, nat_tests) ]

-- the position with one more element
pub position-push : {A : Type 0} (p : A → Bool) (xs : List A) (y : A) → position p (xs ++ y ∷ []) ≡ option_or (position p xs) (cond (p y) (Some (length xs)) None)
position-push p xs y = rw (position_or_len_push p xs y, length-append xs (y ∷ [])) (push-step (position_or_len p xs) (length xs) (p y) (prefix_len-le-length (λ x. not (p x)) xs))

-- the first element that passes, with one more element
pub find-push : {A : Type 0} (p : A → Bool) (xs : List A) (y : A) → find p (xs ++ y ∷ []) ≡ option_or (find p xs) (cond (p y) (Some y) None)
find-push p xs y = find-append p xs (y ∷ [])

-- an element of a list with one more: an earlier one, or the last
pub element-of-push : {A : Type 0} (xs : List A) (y : A) (i : ℕ) (x : A) → slice_get (xs ++ y ∷ []) i ≡ Some x → (slice_get xs i ≡ Some x) ⊎ ((i ≡ length xs) × (y ≡ x))
element-of-push [] y zero x h = inr (refl, grind arith)
element-of-push [] y (suc i) x h = absurd (none-some x h)
element-of-push (z ∷ xs) y zero x h = inl h
element-of-push (z ∷ xs) y (suc i) x h =
    elim (element-of-push xs y i x h) [ inl a ↦ inl a | inr b ↦ inr (omega (arith, b.0), b.1) ]

-- a list of copies says the copy at its indices, and past its end where that is the default
pub copies : {A : Type 0} (n : ℕ) (x : A) (k : ℕ) → get_or (replicate n x) k x ≡ x
copies zero x k = refl
copies (suc n) x zero = refl
copies (suc n) x (suc k) = copies n x k
