-- Tracks that are sent one after the other: which comes next, and when all were sent.
use Rattle.std.proofs.Common.{ℕ, zero, suc, ◌≡◌, ◌≢◌, ◌≤◌, ◌<◌, ◌+◌, Bool, true, false, not, ◌&&◌, cond, List, [], ◌∷◌, ◌++◌, length, take, drop, filter, nat_le, arith, inl, inr, ◌⊎◌, refl, sym, ◌∙◌, ap, subst, Option, Some, None, slice_get}
use Rattle.std.specs.List.{range_with_len}
use Rattle.std.specs.FinSet.{contains, remove}
use Rattle.std.proofs.lemmas.List.{append_assoc, append-nil, take_all, length-take-le}
use Rattle.std.proofs.lemmas.Bool.{leb-true}
use Rattle.std.proofs.lemmas.Bool.Decides.{eqb_tells, nat_tests}
use Rattle.dr_bits.proofs.Laws.{contains-remove_tracks}
use Rattle.dr_ids.specs.declared.refusal.Refusal.{Refusal}
use Rattle.dr_model.specs.Control.{World}
use Rattle.dr_model.specs.Carry.{Entry}
use Rattle.dr_model.specs.ReadStops.{Ends}
use Rattle.dr_model.specs.Layout.{Tracks}
use Rattle.dr_model.specs.Relations.{in_order}
use Rattle.dr_model.specs.PairEntries.{send_entries, sends, tracks_to_send}
use Rattle.dr_moves.specs.Turns.{Leads}
use Rattle.dr_flash.proofs.CheckLemmas.{same-test, differ-test}
use Rattle.dr_moves.specs.Followed.{FailsFollowed}
use Rattle.dr_gcopy.specs.Sending.{enough}
use Rattle.dr_facts.proofs.Costs.{in_order-short}
use Rattle.dr_moves.proofs.LeadLemmas.{then-leads, then-fails, fails-first}

-- the sends of two lists
sends-append : (ids : List ℕ) (a b : ℕ) (xs ys : List ℕ) → sends ids a b (xs ++ ys) ≡ sends ids a b xs ++ sends ids a b ys
sends-append ids a b [] ys = refl
sends-append ids a b (x ∷ xs) ys = ap (λ es. send_entries ids a b x ++ es) (sends-append ids a b xs ys) ∙ sym (append_assoc (send_entries ids a b x) (sends ids a b xs) (sends ids a b ys))

-- one more track was sent
pub sent-next : (ids : List ℕ) (a b t : ℕ) (xs : List ℕ) (w v u : World) → Leads w (sends ids a b xs) v → Leads v (send_entries ids a b t) u → Leads w (sends ids a b (xs ++ t ∷ [])) u
sent-next ids a b t xs w v u first more =
    subst (λ es. Leads w es u) (sym (sends-append ids a b xs (t ∷ []) ∙ ap (λ es. sends ids a b xs ++ es) (append-nil (send_entries ids a b t))))
    (then-leads w v u (sends ids a b xs) (send_entries ids a b t) first more)

-- the next one failed
pub sent-failed : (armed : ℕ → Bool) (ids : List ℕ) (a b t : ℕ) (xs more : List ℕ) (w v u : World) (follows : List Entry) (r : Option Refusal) → Leads w (sends ids a b xs) v → FailsFollowed armed v (send_entries ids a b t) follows u r
    → FailsFollowed armed w (sends ids a b (xs ++ t ∷ more)) follows u r
sent-failed armed ids a b t xs more w v u follows r first fails = record {
  middle = fails.middle;
  fails = subst (λ es. (ds : List Entry) → Ends armed fails.middle r w (es ++ ds)) (sym (sends-append ids a b xs (t ∷ more)))
      (then-fails armed w v fails.middle r (sends ids a b xs) (send_entries ids a b t ++ sends ids a b more) first
      (fails-first armed v fails.middle r (send_entries ids a b t) (sends ids a b more) fails.fails));
  followed = fails.followed;
}

-- the tracks of a set from its lowest on
past-same : (f g : ℕ → Bool) (n a k : ℕ) → k < a → ((j : ℕ) → j ≢ k → g j ≡ f j) → filter f (range_with_len a n) ≡ filter g (range_with_len a n)
past-same f g zero a k past same = refl
past-same f g (suc n) a k past same =
    let rest = past-same f g n (a + 1) k (omega (arith, past)) same in
    let ne : a ≢ k = (λ e. absurd (omega (arith, past, e))) in
    λ i. cond (sym (same a ne) i) (a ∷ rest i) (rest i)

next-by : (f g : ℕ → Bool) (n a k : ℕ) (ys : List ℕ) → filter f (range_with_len a n) ≡ k ∷ ys → g k ≡ false → ((j : ℕ) → j ≢ k → g j ≡ f j) → filter g (range_with_len a n) ≡ ys
next-by f g zero a k ys is gone same = absurd cc
next-by f g (suc n) a k ys is gone same =
    elim (f a) as (λ b. f a ≡ b → cond b (a ∷ filter f (range_with_len (a + 1) n)) (filter f (range_with_len (a + 1) n)) ≡ k ∷ ys → cond (g a) (a ∷ filter g (range_with_len (a + 1) n)) (filter g (range_with_len (a + 1) n)) ≡ ys) [
      | true ↦ λ member e.
          let x : a ≡ k = cc in
          let rest : filter f (range_with_len (a + 1) n) ≡ ys = cc in
          ap (λ b. cond b (a ∷ filter g (range_with_len (a + 1) n)) (filter g (range_with_len (a + 1) n))) (ap g x ∙ gone)
          ∙ sym (past-same f g n (a + 1) k (omega (arith, x)) same) ∙ rest
      | false ↦ λ absent e.
          let off : g a ≡ false = elim (eqb_tells a k) as (λ _. g a ≡ false) [ inl p ↦ ap g p.1 ∙ gone | inr p ↦ same a p.1 ∙ absent ] in
          ap (λ b. cond b (a ∷ filter g (range_with_len (a + 1) n)) (filter g (range_with_len (a + 1) n))) off ∙ next-by f g n (a + 1) k ys e gone same
    ] refl is

pub in_order-next : (n k : ℕ) (s : Tracks) (ys : List ℕ) → in_order n s ≡ k ∷ ys → in_order n (remove s k) ≡ ys
unfolding in_order
in_order-next n k s ys is =
    next-by (contains s) (contains (remove s k)) n 0 k ys is
    (contains-remove_tracks s k k ∙ ap (λ b. not b && contains s k) (same-test k k refl))
    (λ j ne. contains-remove_tracks s k j ∙ ap (λ b. not b && contains s j) (differ-test j k ne))

-- a list by its first element
pub first-some : (xs : List ℕ) (k : ℕ) → Some k ≡ slice_get xs 0 → xs ≡ k ∷ drop 1 xs
first-some [] k h = absurd cc
first-some (x ∷ xs) k h = let e : x ≡ k = cc in ap (λ z. z ∷ xs) e

pub first-none : (xs : List ℕ) → None ≡ slice_get xs 0 → xs ≡ []
first-none [] h = refl
first-none (x ∷ xs) h = absurd cc

-- the element behind the first i
pub take-next : (xs : List ℕ) (i k : ℕ) (ys : List ℕ) → drop i xs ≡ k ∷ ys → take (suc i) xs ≡ take i xs ++ k ∷ []
take-next [] i k ys h = absurd (none i h)
  where
    none : (i : ℕ) → drop i [] ≡ k ∷ ys → ⊥
    none zero h = cc
    none (suc i) h = cc
take-next (x ∷ xs) zero k ys h = let e : x ≡ k = cc in ap (λ z. z ∷ []) e
take-next (x ∷ xs) (suc i) k ys h = ap (λ zs. x ∷ zs) (take-next xs i k ys h)

pub drop-next : (xs : List ℕ) (i k : ℕ) (ys : List ℕ) → drop i xs ≡ k ∷ ys → drop (suc i) xs ≡ ys
drop-next [] i k ys h = absurd (none i h)
  where
    none : (i : ℕ) → drop i [] ≡ k ∷ ys → ⊥
    none zero h = cc
    none (suc i) h = cc
drop-next (x ∷ xs) zero k ys h = cc
drop-next (x ∷ xs) (suc i) k ys h = drop-next xs i k ys h

pub more-next : (xs : List ℕ) (i k : ℕ) (ys : List ℕ) → drop i xs ≡ k ∷ ys → i < length xs
more-next [] i k ys h = absurd (none i h)
  where
    none : (i : ℕ) → drop i [] ≡ k ∷ ys → ⊥
    none zero h = cc
    none (suc i) h = cc
more-next (x ∷ xs) zero k ys h = omega arith
more-next (x ∷ xs) (suc i) k ys h = let e = more-next xs i k ys h in omega (arith, e)

pub split-next : (xs : List ℕ) (i k : ℕ) (ys : List ℕ) → drop i xs ≡ k ∷ ys → xs ≡ take i xs ++ k ∷ ys
split-next [] i k ys h = absurd (none i h)
  where
    none : (i : ℕ) → drop i [] ≡ k ∷ ys → ⊥
    none zero h = cc
    none (suc i) h = cc
split-next (x ∷ xs) zero k ys h = h
split-next (x ∷ xs) (suc i) k ys h = ap (λ zs. x ∷ zs) (split-next xs i k ys h)

take-past : (xs : List ℕ) (i m k : ℕ) (ys : List ℕ) → drop i xs ≡ k ∷ ys → i < m → (more : List ℕ) × (take m xs ≡ take i xs ++ k ∷ more)
take-past [] i m k ys h lt = absurd (none i h)
  where
    none : (i : ℕ) → drop i [] ≡ k ∷ ys → ⊥
    none zero h = cc
    none (suc i) h = cc
take-past (x ∷ xs) i zero k ys h lt = absurd (omega (arith, lt))
take-past (x ∷ xs) zero (suc m) k ys h lt = let e : x ≡ k = cc in (take m xs, ap (λ z. z ∷ take m xs) e)
take-past (x ∷ xs) (suc i) (suc m) k ys h lt = let e = take-past xs i m k ys h (omega (arith, lt)) in (e.0, ap (λ zs. x ∷ zs) e.1)

none-left : (xs : List ℕ) (i : ℕ) → drop i xs ≡ [] → length xs ≤ i
none-left [] i h = omega arith
none-left (x ∷ xs) zero h = absurd cc
none-left (x ∷ xs) (suc i) h = let e = none-left xs i h in omega (arith, e)

-- so many were sent, of at most so many
abbrev pub Within : Option ℕ → ℕ → Type 0
Within None i = Unit {0}
Within (Some m) i = i ≤ m

lt-of : (m i : ℕ) → nat_le m i ≡ false → i < m
lt-of m i h = grind (arith, nat_tests, h)

pub within-next : (most : Option ℕ) (i : ℕ) → enough most i ≡ false → Within most (i + 1)
within-next None i h = tt
within-next (Some m) i h = let e = lt-of m i h in omega (arith, e)

module _ (n : ℕ) (s : Tracks) (i : ℕ) where
  abbrev xs : List ℕ
  xs = in_order n s

  enough-sent : (most : Option ℕ) → Within most i → enough most i ≡ true → take i xs ≡ tracks_to_send most n s
  enough-sent None within h = absurd cc
  enough-sent (Some m) within h = let e = leb-true m i h in let same : i ≡ m = omega (arith, within, e) in ap (λ k. take k xs) same

  whole-sent : (most : Option ℕ) → Within most i → length xs ≤ i → take i xs ≡ tracks_to_send most n s
  whole-sent None within h = (take_all i xs h)
  whole-sent (Some m) within h = (take_all i xs h) ∙ sym ((take_all m xs (omega (arith, within, h))))

  -- all were sent
  pub all-sent : (most : Option ℕ) → Within most i → (enough most i ≡ true) ⊎ (drop i xs ≡ []) → take i xs ≡ tracks_to_send most n s
  all-sent most within (inl h) = enough-sent most within h
  all-sent most within (inr h) = whole-sent most within (none-left xs i h)

  pub end-sent : (most : Option ℕ) → Within most i → n ≤ i → take i xs ≡ tracks_to_send most n s
  end-sent most within h = let few = in_order-short n s in whole-sent most within (omega (arith, few, h))

  pub count-sent : (most : Option ℕ) → i ≤ length xs → take i xs ≡ tracks_to_send most n s → i ≡ length (tracks_to_send most n s)
  count-sent most few is = sym ((length-take-le i xs few)) ∙ ap length is

  -- the next one
  pub next-sent : (most : Option ℕ) (k : ℕ) (ys : List ℕ) → drop i xs ≡ k ∷ ys → enough most i ≡ false → (more : List ℕ) × (tracks_to_send most n s ≡ take i xs ++ k ∷ more)
  next-sent None k ys h left = (ys, split-next xs i k ys h)
  next-sent (Some m) k ys h left = take-past xs i m k ys h (lt-of m i left)
