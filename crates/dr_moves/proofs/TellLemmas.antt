-- The events of a relationship that has ended, track by track.
use Rattle.std.proofs.Common.{ℕ, zero, suc, ◌≡◌, ◌<◌, ◌≤◌, ◌+◌, ◌-◌, Bool, true, false, not, ◌&&◌, List, [], ◌∷◌, ◌++◌, length, map, arith, sym, ◌∙◌, ap, cond}
use Rattle.std.specs.Prelude.{filter, max}
use Rattle.std.specs.List.{range_with_len}
use Rattle.std.specs.FinSet.{contains}
use Rattle.std.proofs.lemmas.List.{append_assoc}
use Rattle.dr_bits.specs.Membership.{lt_true}
use Rattle.dr_bits.specs.Tracks.{Tracks}
use Rattle.dr_model.specs.Relations.{rest, in_order}
use Rattle.dr_model.specs.Moves.{told_blank}
use Rattle.dr_model.specs.declared.event.Event.{Event}
use Rattle.dr_model.specs.declared.event.Event.TheVariants.{Blanked}
use Rattle.dr_moves.proofs.SetLaws.{contains-rest}
use Rattle.dr_facts.proofs.Costs.{blanks-few}

-- those from a track on
abbrev pub blanked_from : ℕ → ℕ → Tracks → ℕ → List Event
blanked_from v n own t = map (Blanked v) (filter (contains (rest n own)) (range_with_len t (n - t)))

pub blanked-all : (v n : ℕ) (own : Tracks) → blanked_from v n own 0 ≡ told_blank v n own
unfolding in_order
blanked-all v n own = ap (λ m. map (Blanked v) (filter (contains (rest n own)) (range_with_len 0 m))) (let e : n - 0 ≡ n = omega arith in e)

next-track : (v n t : ℕ) (own : Tracks) → t < n → blanked_from v n own t ≡ map (Blanked v) (cond (contains (rest n own) t) (t ∷ filter (contains (rest n own)) (range_with_len (t + 1) (n - (t + 1)))) (filter (contains (rest n own)) (range_with_len (t + 1) (n - (t + 1)))))
next-track v n t own low = ap (λ m. map (Blanked v) (filter (contains (rest n own)) (range_with_len t m))) (let e : n - t ≡ suc (n - (t + 1)) = omega arith in e)

pub blanked-skips : (v n t : ℕ) (own : Tracks) → t < n → contains own t ≡ true → blanked_from v n own t ≡ blanked_from v n own (t + 1)
blanked-skips v n t own low held =
    next-track v n t own low
    ∙ ap (λ b. map (Blanked v) (cond b (t ∷ filter (contains (rest n own)) (range_with_len (t + 1) (n - (t + 1)))) (filter (contains (rest n own)) (range_with_len (t + 1) (n - (t + 1))))))
    (contains-rest n own t ∙ (λ i. lt_true t n low i && not (held i)))

pub blanked-goes : (v n t : ℕ) (own : Tracks) → t < n → contains own t ≡ false → blanked_from v n own t ≡ Blanked v t ∷ blanked_from v n own (t + 1)
blanked-goes v n t own low new =
    next-track v n t own low
    ∙ ap (λ b. map (Blanked v) (cond b (t ∷ filter (contains (rest n own)) (range_with_len (t + 1) (n - (t + 1)))) (filter (contains (rest n own)) (range_with_len (t + 1) (n - (t + 1))))))
    (contains-rest n own t ∙ (λ i. lt_true t n low i && not (new i)))

-- a track's event was told
pub told-more : (xs ys all : List Event) (e : Event) (left more : List Event) → left ≡ e ∷ more → ys ≡ xs ++ e ∷ [] → xs ++ left ≡ all → ys ++ more ≡ all
told-more xs ys all e left more is told h =
    ap (λ zs. zs ++ more) told ∙ append_assoc xs (e ∷ []) more ∙ ap (λ zs. xs ++ zs) (sym is) ∙ h

-- at most an event for each track
few-blanked : (f : ℕ → Bool) (v a n : ℕ) → length (map (Blanked v) (filter f (range_with_len a n))) ≤ n
few-blanked f v a zero = omega arith
few-blanked f v a (suc n) = more (f a) (few-blanked f v (a + 1) n)
  where
    more : (b : Bool) → length (map (Blanked v) (filter f (range_with_len (a + 1) n))) ≤ n → length (map (Blanked v) (cond b (a ∷ filter f (range_with_len (a + 1) n)) (filter f (range_with_len (a + 1) n)))) ≤ suc n
    more true h = omega (arith, h)
    more false h = omega (arith, h)

pub room-blanked : (v n : ℕ) (own : Tracks) → max (length (told_blank v n own)) (length (told_blank v n own) + 1) ≤ n + 1
room-blanked v n own = let h = blanks-few v n own in omega (arith, h)
