-- Sets of writes: what is gathered track by track and pair by pair, and which writes are in it.
use Rattle.std.proofs.Common.{◌≡◌, ◌↔◌, ℕ, ◌+◌, ◌<◌, ◌≤◌, ◌⊎◌, inl, inr, zero, suc, refl, sym, ap, subst, ◌∙◌, Bool, true, false, not, ◌||◌, cond, nat_eq, List, [], ◌∷◌, ◌++◌, length, map, take, get_or, filter, arith, append-nil}
use Rattle.std.specs.List.{flat_map, list_any, range_with_len}
use Rattle.std.proofs.lemmas.Bool.{cases_Bool, eqb-true, eq-eqb, cases_eq, or_right, not_from_false, false_from_ne_true}
use Rattle.std.proofs.Math.Bool.{or_assoc}
use Rattle.std.proofs.lemmas.List.{take_more}
use Rattle.std.proofs.lemmas.List.Elements.{filter_agree}
use Rattle.std.proofs.lemmas.List.Sums.{fold-append}
use Rattle.std.proofs.lemmas.List.Folds.{list_any-append, flat_map-map}
use Rattle.std.proofs.lemmas.List.FromFn.{map-range_with_len_more}
use Rattle.std.proofs.lemmas.List.Concat.{flat_map-append}
use Rattle.indexmap.specs.IndexSet.{insert_key, insert_all}
use Rattle.dr_logic.proofs.Truth.{or-none}
use Rattle.dr_model.specs.Histories.{Lists}
use Rattle.dr_model.specs.Groups.{In}
use Rattle.dr_facts.proofs.Lists.{in-first, in-second, in-joined, from-filter, to-filter, is-met, any-some}
use Rattle.dr_lost.specs.declared.lost.Pair.{Pair}
use Rattle.dr_lost.specs.Lost.{lacking, tracks_below, each_once, lost_at, lost_by, held_by, IsLost, IsHeld}

-- ---- gathered one after another

-- one more write
pub all-more : (ks xs : List ℕ) (i d : ℕ) → i < length xs → insert_key nat_eq (insert_all nat_eq ks (take i xs)) (get_or xs i d) ≡ insert_all nat_eq ks (take (i + 1) xs)
all-more ks xs i d h = sym (ap (insert_all nat_eq ks) (take_more xs i d h) ∙ fold-append (insert_key nat_eq) ks (take i xs) (get_or xs i d ∷ []))

pub range-more : {Y : Type 0} (f : ℕ → List Y) (a n : ℕ) → flat_map f (range_with_len a (n + 1)) ≡ flat_map f (range_with_len a n) ++ f (a + n)
range-more f a n =
    let id : ℕ → ℕ = λ x. x in
    sym (flat_map-map f id (range_with_len a (n + 1)))
    ∙ (ap (flat_map f) (map-range_with_len_more id a n (a + n) refl)
    ∙ (flat_map-append f (map id (range_with_len a n)) ((a + n) ∷ [])
    ∙ (ap (λ xs. xs ++ (f (a + n) ++ [])) (flat_map-map f id (range_with_len a n)) ∙ ap (λ xs. flat_map f (range_with_len a n) ++ xs) (append-nil (f (a + n))))))

-- one more track
pub tracks-more : (f : ℕ → List ℕ) (ks : List ℕ) (n : ℕ) → insert_all nat_eq (insert_all nat_eq ks (flat_map f (tracks_below n))) (f n) ≡ insert_all nat_eq ks (flat_map f (tracks_below (n + 1)))
unfolding tracks_below
tracks-more f ks n =
    let same : 0 + n ≡ n = omega arith in
    sym (ap (insert_all nat_eq ks) (range-more f 0 n ∙ ap (λ k. flat_map f (range_with_len 0 n) ++ f k) same) ∙ fold-append (insert_key nat_eq) ks (flat_map f (range_with_len 0 n)) (f n))

pub tracks-none : (f : ℕ → List ℕ) → flat_map f (tracks_below 0) ≡ []
unfolding tracks_below
tracks-none f = refl

-- one more pair, or volume
pub each-more : {X : Type 0} (f : X → List ℕ) (ks : List ℕ) (xs : List X) (i : ℕ) (d : X) → i < length xs → insert_all nat_eq (insert_all nat_eq ks (flat_map f (take i xs))) (f (get_or xs i d)) ≡ insert_all nat_eq ks (flat_map f (take (i + 1) xs))
each-more f ks xs i d h =
    let x = get_or xs i d in
    sym (ap (λ xs. insert_all nat_eq ks (flat_map f xs)) (take_more xs i d h)
    ∙ (ap (insert_all nat_eq ks) (flat_map-append f (take i xs) (x ∷ []) ∙ ap (λ ys. flat_map f (take i xs) ++ ys) (append-nil (f x)))
    ∙ fold-append (insert_key nat_eq) ks (flat_map f (take i xs)) (f x)))

-- ---- what is in a set

inserted-any : (w x : ℕ) (ks : List ℕ) → list_any (nat_eq w) (insert_key nat_eq ks x) ≡ (list_any (nat_eq w) ks || nat_eq w x)
inserted-any w x ks = by (cases_Bool (list_any (nat_eq x) ks)) (cases_Bool (nat_eq w x))
  where
    put : (b : Bool) → list_any (nat_eq x) ks ≡ b → list_any (nat_eq w) (insert_key nat_eq ks x) ≡ list_any (nat_eq w) (cond b ks (ks ++ x ∷ []))
    put b e = ap (λ b. list_any (nat_eq w) (cond b ks (ks ++ x ∷ []))) e

    by : (list_any (nat_eq x) ks ≡ true) ⊎ (list_any (nat_eq x) ks ≡ false) → (nat_eq w x ≡ true) ⊎ (nat_eq w x ≡ false) → list_any (nat_eq w) (insert_key nat_eq ks x) ≡ (list_any (nat_eq w) ks || nat_eq w x)
    by (inl there) (inl is) =
        let same : w ≡ x = eqb-true w x is in
        put true there ∙ (ap (λ q. list_any (nat_eq q) ks) same ∙ (there ∙ sym (or_right (list_any (nat_eq w) ks) (nat_eq w x) is)))
    by (inl there) (inr other) = put true there ∙ sym (or-none (list_any (nat_eq w) ks) (nat_eq w x) other)
    by (inr new) cases = put false new ∙ (list_any-append (nat_eq w) ks (x ∷ []) ∙ ap (λ b. list_any (nat_eq w) ks || b) (or-none (nat_eq w x) false refl))

once-any : (w : ℕ) (xs ks : List ℕ) → list_any (nat_eq w) (insert_all nat_eq ks xs) ≡ (list_any (nat_eq w) ks || list_any (nat_eq w) xs)
once-any w [] ks = sym (or-none (list_any (nat_eq w) ks) false refl)
once-any w (x ∷ xs) ks = once-any w xs (insert_key nat_eq ks x) ∙ (ap (λ b. b || list_any (nat_eq w) xs) (inserted-any w x ks) ∙ or_assoc (list_any (nat_eq w) ks) (nat_eq w x) (list_any (nat_eq w) xs))

pub once-same : (w : ℕ) (xs : List ℕ) → list_any (nat_eq w) (each_once xs) ≡ list_any (nat_eq w) xs
once-same w xs = once-any w xs []

pub met-is : (n : ℕ) (ns : List ℕ) → In n ns → list_any (nat_eq n) ns ≡ true
met-is n ns h = any-some (nat_eq n) ns n h (eq-eqb n n refl)

-- ---- what is gathered

pub from-flat : {X Y : Type 0} (f : X → List Y) (xs : List X) (w : Y) → In w (flat_map f xs) → (x : X) × (In x xs × In w (f x))
from-flat f [] w h = absurd h
from-flat {X} {Y} f (z ∷ xs) w h = by (from-flat f xs w) (in-joined (f z) (flat_map f xs) w h)
  where
    by : (In w (flat_map f xs) → (x : X) × (In x xs × In w (f x))) → In w (f z) ⊎ In w (flat_map f xs) → (x : X) × (In x (z ∷ xs) × In w (f x))
    by further (inl here) = (z, (inl refl, here))
    by further (inr later) = let r = further later in (r.0, (inr r.1.0, r.1.1))

pub to-flat : {X : Type 0} (f : X → List ℕ) (xs : List X) (x : X) (w : ℕ) → In x xs → In w (f x) → In w (flat_map f xs)
to-flat f [] x w h k = absurd h
to-flat f (z ∷ xs) x w (inl is) k = in-first (f z) (flat_map f xs) w (subst (λ y. In w (f y)) is k)
to-flat f (z ∷ xs) x w (inr more) k = in-second (f z) (flat_map f xs) w (to-flat f xs x w more k)

pub range-in : (n a t : ℕ) → a ≤ t → t < a + n → In t (range_with_len a n)
range-in zero a t low high = absurd (omega (arith, low, high))
range-in (suc n) a t low high = by (cases_eq t a) (λ ne. range-in n (a + 1) t (omega (arith, ne, low)) (omega (arith, high)))
  where
    by : (t ≡ a) ⊎ (t ≡ a → ⊥) → ((t ≡ a → ⊥) → In t (range_with_len (a + 1) n)) → In t (range_with_len a (suc n))
    by (inl is) further = inl is
    by (inr ne) further = inr (further ne)

pub range-below : (n a t : ℕ) → In t (range_with_len a n) → t < a + n
range-below zero a t h = absurd h
range-below (suc n) a t (inl is) = omega (arith, is)
range-below (suc n) a t (inr more) = omega (arith, range-below n (a + 1) t more)

pub tracks-in : (n t : ℕ) → t < n → In t (tracks_below n)
unfolding tracks_below
tracks-in n t h = range-in n 0 t (omega arith) (omega arith)

pub in-tracks : (n t : ℕ) → In t (tracks_below n) → t < n
unfolding tracks_below
in-tracks n t h = let k : t < 0 + n = range-below n 0 t h in omega arith

unmet : (w : ℕ) (left : List ℕ) → (In w left → ⊥) → not (list_any (nat_eq w) left) ≡ true
unmet w left gone = not_from_false (list_any (nat_eq w) left) (false_from_ne_true (list_any (nat_eq w) left) (λ met. gone (is-met w left met)))

-- ---- what is lost, and what is held

module _ (n : ℕ) (stop end : Lists) (pairs : List Pair) (w : ℕ) where
  abbrev all_lost : List ℕ
  all_lost = flat_map (lost_by n stop end) pairs

  lost-here : list_any (nat_eq w) (each_once all_lost) ≡ true → IsLost n stop end pairs w
  lost-here h =
      let p = from-flat (lost_by n stop end) pairs w (is-met w all_lost (sym (once-same w all_lost) ∙ h)) in
      let t = from-flat (lost_at stop end p.0) (tracks_below n) w p.1.1 in
      let left = end p.0.first t.0 in
      let kept = from-filter (λ v. not (list_any (nat_eq v) left)) (stop p.0.second t.0) w t.1.1 in
      record {
        pair = p.0;
        track = t.0;
        among = p.1.0;
        below = in-tracks n t.0 t.1.0;
        held = kept.0;
        gone = λ i. (let never : not true ≡ true = sym (ap not (met-is w left i)) ∙ kept.1 in absurd (cc));
      }

  lost-there : IsLost n stop end pairs w → list_any (nat_eq w) (each_once all_lost) ≡ true
  lost-there l =
      let left = end l.pair.first l.track in
      let kept = to-filter (λ v. not (list_any (nat_eq v) left)) (stop l.pair.second l.track) w l.held (unmet w left l.gone) in
      once-same w all_lost
      ∙ met-is w all_lost (to-flat (lost_by n stop end) pairs l.pair w l.among (to-flat (lost_at stop end l.pair) (tracks_below n) l.track w (tracks-in n l.track l.below) kept))

  -- a write is lost exactly where it is in the set of what pairs lost
  pub lost-members : (keys : List ℕ) → keys ≡ each_once all_lost → (list_any (nat_eq w) keys ≡ true) ↔ IsLost n stop end pairs w
  lost-members keys is = (λ h. lost-here (sym (ap (list_any (nat_eq w)) is) ∙ h), λ l. ap (list_any (nat_eq w)) is ∙ lost-there l)

module _ (n : ℕ) (lists : Lists) (volumes : List ℕ) (w : ℕ) where
  abbrev all_held : List ℕ
  all_held = flat_map (held_by n lists) volumes

  held-here : list_any (nat_eq w) (each_once all_held) ≡ true → IsHeld n lists volumes w
  held-here h =
      let v = from-flat (held_by n lists) volumes w (is-met w all_held (sym (once-same w all_held) ∙ h)) in
      let t = from-flat (lists v.0) (tracks_below n) w v.1.1 in
      record { volume = v.0; track = t.0; among = v.1.0; below = in-tracks n t.0 t.1.0; held = t.1.1 }

  held-there : IsHeld n lists volumes w → list_any (nat_eq w) (each_once all_held) ≡ true
  held-there l =
      once-same w all_held
      ∙ met-is w all_held (to-flat (held_by n lists) volumes l.volume w l.among (to-flat (lists l.volume) (tracks_below n) l.track w (tracks-in n l.track l.below) l.held))

  -- a write is held exactly where it is in the set of what volumes hold
  pub held-members : (keys : List ℕ) → keys ≡ each_once all_held → (list_any (nat_eq w) keys ≡ true) ↔ IsHeld n lists volumes w
  held-members keys is = (λ h. held-here (sym (ap (list_any (nat_eq w)) is) ∙ h), λ l. ap (list_any (nat_eq w)) is ∙ held-there l)

-- what a set lacks, by the list that the set was made of
pub lacking-set : (keys left writes : List ℕ) → keys ≡ each_once left → filter (λ w. not (list_any (nat_eq w) keys)) writes ≡ lacking writes left
lacking-set keys left writes is = filter_agree (λ w. not (list_any (nat_eq w) keys)) (λ w. not (list_any (nat_eq w) left)) (λ w. ap not (ap (list_any (nat_eq w)) is ∙ once-same w left)) writes
