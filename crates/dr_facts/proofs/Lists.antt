-- What is in a list, what is found in one, and numbers that come once.
use Rattle.std.proofs.Common.{ℕ, suc, ◌≡◌, ◌≢◌, ◌⊎◌, ◌≤◌, length, arith, inl, inr, refl, ap, sym, ◌∙◌, subst, Bool, true, false, cond, ◌&&◌, ◌||◌, nat_eq, List, [], ◌∷◌, ◌++◌, map, filter, None, Some}
use Rattle.std.specs.List.{find, list_any, list_all}
use Rattle.std.proofs.lemmas.Bool.{and_parts, cases_Bool, eqb-true, eq-eqb}
use Rattle.std.proofs.lemmas.Option.{same_Some}
use Rattle.dr_model.specs.Tables.{Once}
use Rattle.dr_model.specs.Groups.{In}
use Rattle.dr_logic.proofs.Truth.{false_true}

-- no less is in a longer list
pub in-first : {X : Type 0} (xs ys : List X) (x : X) → In x xs → In x (xs ++ ys)
in-first [] ys x h = absurd h
in-first (z ∷ xs) ys x (inl is) = inl is
in-first (z ∷ xs) ys x (inr more) = inr (in-first xs ys x more)

pub in-second : {X : Type 0} (xs ys : List X) (x : X) → In x ys → In x (xs ++ ys)
in-second [] ys x h = h
in-second (z ∷ xs) ys x h = inr (in-second xs ys x h)

pub in-joined : {X : Type 0} (xs ys : List X) (x : X) → In x (xs ++ ys) → In x xs ⊎ In x ys
in-joined [] ys x h = inr h
in-joined (z ∷ xs) ys x (inl is) = inl (inl is)
in-joined (z ∷ xs) ys x (inr more) = by (in-joined xs ys x more)
  where
    by : In x xs ⊎ In x ys → In x (z ∷ xs) ⊎ In x ys
    by (inl h) = inl (inr h)
    by (inr h) = inr h

-- what passes a test stays
pub from-filter : {X : Type 0} (p : X → Bool) (xs : List X) (x : X) → In x (filter p xs) → In x xs × (p x ≡ true)
from-filter p [] x h = absurd h
from-filter p (z ∷ xs) x h = by (λ k. let r : In x xs × (p x ≡ true) = from-filter p xs x k in (inr r.0, r.1)) (cases_Bool (p z)) h
  where
    kept : (In x (filter p xs) → In x (z ∷ xs) × (p x ≡ true)) → p z ≡ true → In x (z ∷ filter p xs) → In x (z ∷ xs) × (p x ≡ true)
    kept further e (inl is) = (inl is, ap p is ∙ e)
    kept further e (inr k) = further k

    by : (In x (filter p xs) → In x (z ∷ xs) × (p x ≡ true)) → (p z ≡ true) ⊎ (p z ≡ false) → In x (cond (p z) (z ∷ filter p xs) (filter p xs)) → In x (z ∷ xs) × (p x ≡ true)
    by further (inl e) k = kept further e (subst (λ b. In x (cond b (z ∷ filter p xs) (filter p xs))) e k)
    by further (inr e) k = further (subst (λ b. In x (cond b (z ∷ filter p xs) (filter p xs))) e k)

pub to-filter : {X : Type 0} (p : X → Bool) (xs : List X) (x : X) → In x xs → p x ≡ true → In x (filter p xs)
to-filter p [] x h e = absurd h
to-filter p (z ∷ xs) x (inl is) e = subst (λ b. In x (cond b (z ∷ filter p xs) (filter p xs))) (sym (sym (ap p is) ∙ e)) (inl is)
to-filter p (z ∷ xs) x (inr more) e = by (p z) (to-filter p xs x more e)
  where
    by : (b : Bool) → In x (filter p xs) → In x (cond b (z ∷ filter p xs) (filter p xs))
    by true further = inr further
    by false further = further

-- what is found is there, and where nothing is found none passes
pub found : {X : Type 0} (p : X → Bool) (xs : List X) (x : X) → find p xs ≡ Some x → In x xs × (p x ≡ true)
found p [] x h = absurd cc
found p (z ∷ xs) x h = by (found p xs x) (cases_Bool (p z)) h
  where
    by : (find p xs ≡ Some x → In x xs × (p x ≡ true)) → (p z ≡ true) ⊎ (p z ≡ false) → cond (p z) (Some z) (find p xs) ≡ Some x → In x (z ∷ xs) × (p x ≡ true)
    by further (inl e) k = let is : z ≡ x = (same_Some _ _ (sym (ap (λ b. cond b (Some z) (find p xs)) e) ∙ k)) in (inl (sym is), sym (ap p is) ∙ e)
    by further (inr e) k = let r = further (sym (ap (λ b. cond b (Some z) (find p xs)) e) ∙ k) in (inr r.0, r.1)

pub not-found : {X : Type 0} (p : X → Bool) (xs : List X) (x : X) → find p xs ≡ None → In x xs → p x ≡ false
not-found p [] x h i = absurd i
not-found p (z ∷ xs) x h i = by (not-found p xs x) (cases_Bool (p z)) h i
  where
    by : (find p xs ≡ None → In x xs → p x ≡ false) → (p z ≡ true) ⊎ (p z ≡ false) → cond (p z) (Some z) (find p xs) ≡ None → In x (z ∷ xs) → p x ≡ false
    by further (inl e) k j = let no : Some z ≡ None = sym (ap (λ b. cond b (Some z) (find p xs)) e) ∙ k in absurd cc
    by further (inr e) k (inl is) = ap p is ∙ e
    by further (inr e) k (inr more) = further (sym (ap (λ b. cond b (Some z) (find p xs)) e) ∙ k) more

pub any-some : {X : Type 0} (p : X → Bool) (xs : List X) (x : X) → In x xs → p x ≡ true → list_any p xs ≡ true
any-some p [] x h e = absurd h
any-some p (z ∷ xs) x (inl is) e = ap (λ b. b || list_any p xs) (sym (ap p is) ∙ e)
any-some p (z ∷ xs) x (inr more) e = by (p z) (any-some p xs x more e)
  where
    by : (b : Bool) → list_any p xs ≡ true → (b || list_any p xs) ≡ true
    by true further = refl
    by false further = further

pub some-any : {X : Type 0} (p : X → Bool) (xs : List X) → list_any p xs ≡ true → (x : X) × (In x xs × (p x ≡ true))
some-any p [] h = absurd cc
some-any {X = X} p (z ∷ xs) h = by (some-any p xs) (cases_Bool (p z)) h
  where
    by : (list_any p xs ≡ true → (x : X) × (In x xs × (p x ≡ true))) → (p z ≡ true) ⊎ (p z ≡ false) → (p z || list_any p xs) ≡ true → (x : X) × (In x (z ∷ xs) × (p x ≡ true))
    by further (inl e) k = (z, (inl refl, e))
    by further (inr e) k = let r = further (sym (ap (λ b. b || list_any p xs) e) ∙ k) in (r.0, (inr r.1.0, r.1.1))

pub any-none : {X : Type 0} (p : X → Bool) (xs : List X) (x : X) → list_any p xs ≡ false → In x xs → p x ≡ false
any-none p xs x h i = by (cases_Bool (p x))
  where
    by : (p x ≡ true) ⊎ (p x ≡ false) → p x ≡ false
    by (inl e) = false_true h (any-some p xs x i e)
    by (inr e) = e

pub all-each : {X : Type 0} (p : X → Bool) (xs : List X) (x : X) → list_all p xs ≡ true → In x xs → p x ≡ true
all-each p [] x h i = absurd i
all-each p (z ∷ xs) x h (inl is) = ap p is ∙ (and_parts (p z) (list_all p xs) h).0
all-each p (z ∷ xs) x h (inr more) = all-each p xs x (and_parts (p z) (list_all p xs) h).1 more

pub each-all : {X : Type 0} (p : X → Bool) (xs : List X) → ((x : X) → In x xs → p x ≡ true) → list_all p xs ≡ true
each-all p [] h = refl
each-all p (z ∷ xs) h = ap (λ b. b && list_all p xs) (h z (inl refl)) ∙ each-all p xs (λ x i. h x (inr i))

pub record Image {X Y : Type 0} (f : X → Y) (xs : List X) (y : Y) : Type 0 where
  pub from : X
  pub here : In from xs
  pub is : y ≡ f from

pub from-map : {X Y : Type 0} (f : X → Y) (xs : List X) (y : Y) → In y (map f xs) → Image f xs y
from-map f [] y h = absurd h
from-map f (z ∷ xs) y (inl is) = record { from = z; here = inl refl; is = is }
from-map f (z ∷ xs) y (inr more) = let r = from-map f xs y more in record { from = r.from; here = inr r.here; is = r.is }

pub to-map : {X Y : Type 0} (f : X → Y) (xs : List X) (x : X) → In x xs → In (f x) (map f xs)
to-map f [] x h = absurd h
to-map f (z ∷ xs) x (inl is) = inl (ap f is)
to-map f (z ∷ xs) x (inr more) = inr (to-map f xs x more)

-- where numbers come once, those with one number are one
first-only : {X : Type 0} (f : X → ℕ) (x : X) (xs : List X) (y : X) → list_any (nat_eq (f x)) (map f xs) ≡ false → In y xs → f y ≢ f x
first-only f x xs y once i e = false_true once (any-some (nat_eq (f x)) (map f xs) (f y) (to-map f xs y i) (eq-eqb (f x) (f y) (sym e)))

pub once-same : {X : Type 0} (f : X → ℕ) (xs : List X) (x y : X) → Once (map f xs) → In x xs → In y xs → f x ≡ f y → x ≡ y
once-same f [] x y once i j e = absurd i
once-same f (z ∷ xs) x y once (inl is) (inl also) e = is ∙ sym also
once-same f (z ∷ xs) x y once (inl is) (inr j) e = absurd (first-only f z xs y once.0 j (sym e ∙ ap f is))
once-same f (z ∷ xs) x y once (inr i) (inl also) e = absurd (first-only f z xs x once.0 i (e ∙ ap f also))
once-same f (z ∷ xs) x y once (inr i) (inr j) e = once-same f xs x y once.1 i j e

pub once-later : {X : Type 0} (f : X → ℕ) (z : X) (xs : List X) (y : X) → Once (map f (z ∷ xs)) → In y xs → f y ≢ f z
once-later f z xs y once i = first-only f z xs y once.0 i

-- a number that is met is one of them
here-or-later : (n m : ℕ) (ns : List ℕ) → (nat_eq n m ≡ true) ⊎ (nat_eq n m ≡ false) → (nat_eq n m || list_any (nat_eq n) ns) ≡ true → (list_any (nat_eq n) ns ≡ true → In n ns) → In n (m ∷ ns)
here-or-later n m ns (inl y) k further = inl (eqb-true n m y)
here-or-later n m ns (inr o) k further = inr (further (sym (ap (λ b. b || list_any (nat_eq n) ns) o) ∙ k))

pub is-met : (n : ℕ) (ns : List ℕ) → list_any (nat_eq n) ns ≡ true → In n ns
is-met n [] h = absurd cc
is-met n (m ∷ ns) h = here-or-later n m ns (cases_Bool (nat_eq n m)) h (is-met n ns)

-- one more that is none of them
pub once-more : {X : Type 0} (f : X → ℕ) (xs : List X) (y : X) → Once (map f xs) → ((x : X) → In x xs → f x ≢ f y) → Once (map f (xs ++ y ∷ []))
once-more f [] y once apart = (refl, tt)
once-more f (z ∷ xs) y once apart = (by (cases_Bool (list_any (nat_eq (f z)) (map f (xs ++ y ∷ [])))), once-more f xs y once.1 (λ x i. apart x (inr i)))
  where
    either : Image f (xs ++ y ∷ []) (f z) → ⊥
    either r = which (in-joined xs (y ∷ []) r.from r.here)
      where
        which : In r.from xs ⊎ In r.from (y ∷ []) → ⊥
        which (inl i) = first-only f z xs r.from once.0 i (sym r.is)
        which (inr (inl is)) = apart z (inl refl) (r.is ∙ ap f is)
        which (inr (inr none)) = none

    by : (list_any (nat_eq (f z)) (map f (xs ++ y ∷ [])) ≡ true) ⊎ (list_any (nat_eq (f z)) (map f (xs ++ y ∷ [])) ≡ false) → list_any (nat_eq (f z)) (map f (xs ++ y ∷ [])) ≡ false
    by (inr e) = e
    by (inl e) = absurd (either (from-map f (xs ++ y ∷ []) (f z) (is-met (f z) (map f (xs ++ y ∷ [])) e)))

-- fewer of them
any-fewer : {X : Type 0} (f : X → ℕ) (p : X → Bool) (n : ℕ) (xs : List X) → list_any (nat_eq n) (map f xs) ≡ false → list_any (nat_eq n) (map f (filter p xs)) ≡ false
any-fewer f p n xs none = by (cases_Bool (list_any (nat_eq n) (map f (filter p xs))))
  where
    by : (list_any (nat_eq n) (map f (filter p xs)) ≡ true) ⊎ (list_any (nat_eq n) (map f (filter p xs)) ≡ false) → list_any (nat_eq n) (map f (filter p xs)) ≡ false
    by (inr e) = e
    by (inl e) =
        let r = from-map f (filter p xs) n (is-met n (map f (filter p xs)) e) in
        false_true none (any-some (nat_eq n) (map f xs) (f r.from) (to-map f xs r.from (from-filter p xs r.from r.here).0) (eq-eqb n (f r.from) r.is))

pub once-filter : {X : Type 0} (f : X → ℕ) (p : X → Bool) (xs : List X) → Once (map f xs) → Once (map f (filter p xs))
once-filter f p [] once = tt
once-filter f p (z ∷ xs) once = by (p z) (once-filter f p xs once.1)
  where
    by : (b : Bool) → Once (map f (filter p xs)) → Once (map f (cond b (z ∷ filter p xs) (filter p xs)))
    by true again = (any-fewer f p (f z) xs once.0, again)
    by false again = again

-- numbers that come once, each of which is one of a list, are no more than it has
without-one : (x : ℕ) (ys : List ℕ) → In x ys → List ℕ
without-one x [] h = absurd h
without-one x (y ∷ ys) (inl is) = ys
without-one x (y ∷ ys) (inr more) = y ∷ without-one x ys more

without-length : (x : ℕ) (ys : List ℕ) (h : In x ys) → length ys ≡ suc (length (without-one x ys h))
unfolding without-one
without-length x [] h = absurd h
without-length x (y ∷ ys) (inl is) = refl
without-length x (y ∷ ys) (inr more) = ap suc (without-length x ys more)

without-keeps : (x z : ℕ) (ys : List ℕ) (h : In x ys) → z ≢ x → In z ys → In z (without-one x ys h)
unfolding without-one
without-keeps x z [] h ne i = absurd i
without-keeps x z (y ∷ ys) (inl is) ne (inl also) = absurd (ne (also ∙ sym is))
without-keeps x z (y ∷ ys) (inl is) ne (inr i) = i
without-keeps x z (y ∷ ys) (inr more) ne (inl also) = inl also
without-keeps x z (y ∷ ys) (inr more) ne (inr i) = inr (without-keeps x z ys more ne i)

pub once-few : (xs ys : List ℕ) → Once xs → ((x : ℕ) → In x xs → In x ys) → length xs ≤ length ys
once-few [] ys once each = omega arith
once-few (x ∷ xs) ys once each =
    let here : In x ys = each x (inl refl) in
    let rest : length xs ≤ length (without-one x ys here) = once-few xs (without-one x ys here) once.1 (λ z i. without-keeps x z ys here (λ e. false_true once.0 (any-some (nat_eq x) xs z i (eq-eqb x z (sym e)))) (each z (inr i))) in
    let e : length ys ≡ suc (length (without-one x ys here)) = without-length x ys here in
    omega arith
