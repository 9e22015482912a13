-- Where in a journal an attempt was cut last, and who stands in its group: the tables, event by event, are those of places.
use Rattle.std.proofs.Common.{ℕ, ◌≡◌, inl, inr, refl, ap, sym, ◌∙◌, true, cond, ◌&&◌, nat_eq, List, [], ◌∷◌, ◌++◌, subst}
use Rattle.std.proofs.lemmas.Bool.Decides.{eqb_tells}
use Rattle.std.proofs.lemmas.List.{append_assoc}
use Rattle.std.proofs.lemmas.List.Sums.{fold-append}
use Rattle.std.specs.List.{fold}
use Rattle.dr_model.specs.declared.event.Event.{Event}
use Rattle.dr_model.specs.declared.event.Event.TheVariants.{Cut, Flashed, Reverted, Left}
use Rattle.dr_model.specs.Histories.{Histories, histories, after_event, lists}
use Rattle.dr_model.specs.Groups.{In}
use Rattle.dr_model.specs.Cuts.{CutAt}
use Rattle.dr_model.specs.ClosedCuts.{InGroup, LastCut}
use Rattle.dr_facts.proofs.Tables.{IsOrNot, at2_other}
use Rattle.dr_laws_cuts.proofs.Places.{snoc, head-same, tail-same, nowhere, earlier}
use Rattle.dr_laws_closed.specs.Moments.{Moments, Memory, Standing, no_memory, none_stands, memory, memory_event, moments_after, moments, is_one, standing, standing_event}
use Rattle.dr_laws_closed.proofs.Standings.{stays-with, stays-without, is-same, same-two, same-three}
use Rattle.dr_logic.proofs.Tables.{at2_same}

-- ---- event by event

history-fold : (p : Memory) (es : List Event) → (fold memory_event p es).history ≡ fold after_event p.history es
history-fold p [] = refl
history-fold p (e ∷ es) = history-fold (memory_event p e) es

pub memory-history : (events : List Event) → (memory events).history ≡ histories events
unfolding memory histories
memory-history events = history-fold no_memory events

pub memory-append : (events more : List Event) → memory (events ++ more) ≡ fold memory_event (memory events) more
unfolding memory
memory-append events more = fold-append memory_event no_memory events more

pub moments-append : (events more : List Event) → moments (events ++ more) ≡ (fold memory_event (memory events) more).moments
moments-append events more = ap (λ (p : Memory). p.moments) (memory-append events more)

pub standing-append : (events more : List Event) → standing (events ++ more) ≡ fold standing_event (standing events) more
unfolding standing
standing-append events more = fold-append standing_event none_stands events more

-- ---- the last cut

-- two last places are one
module _ (s n : ℕ) where
  one-last : (a z : ℕ) (before behind other rest : List Event) → ((v : ℕ) → CutAt behind s n v → ⊥) → ((v : ℕ) → CutAt rest s n v → ⊥) → before ++ Cut s n a ∷ behind ≡ other ++ Cut s n z ∷ rest → other ≡ before
  one-last a z [] behind [] rest last also same = refl
  one-last a z [] behind (y ∷ ys) rest last also same = absurd (last z (record { before = ys; behind = rest; is = tail-same (Cut s n a) y behind (ys ++ Cut s n z ∷ rest) same }))
  one-last a z (x ∷ xs) behind [] rest last also same = absurd (also a (record { before = xs; behind = behind; is = sym (tail-same x (Cut s n z) (xs ++ Cut s n a ∷ behind) rest same) }))
  one-last a z (x ∷ xs) behind (y ∷ ys) rest last also same =
      ap (λ e. e ∷ ys) (sym (head-same x y (xs ++ Cut s n a ∷ behind) (ys ++ Cut s n z ∷ rest) same))
      ∙ ap (λ es. x ∷ es) (one-last a z xs behind ys rest last also (tail-same x y (xs ++ Cut s n a ∷ behind) (ys ++ Cut s n z ∷ rest) same))

  pub last-one : (events : List Event) (p q : LastCut events s n) → q.place.before ≡ p.place.before
  last-one events p q = one-last p.volume q.volume p.place.before p.place.behind q.place.before q.place.behind p.last q.last (sym p.place.is ∙ q.place.is)

  -- the event is a cut for that attempt
  abbrev IsCutFor : Event → Type 0
  IsCutFor (Cut z k x) = (s ≡ z) × (n ≡ k)
  IsCutFor e = ⊥

  -- the last place, and what its moment holds
  pub record Last (events : List Event) : Type 0 where
    pub place : LastCut events s n
    pub lists : (v t : ℕ) → moments events s n v t ≡ lists place.place.before v t

  -- where an attempt was cut there is a last place
  abbrev HasLast : List Event → Type 0
  HasLast es = (a : ℕ) → CutAt es s n a → Last es

  none-last : HasLast []
  none-last a p = absurd (nowhere p.before p.behind (Cut s n a) p.is)

  longer : (es : List Event) (e : Event) → (IsCutFor e → ⊥) → (moments_after (memory es) e) s n ≡ moments es s n → Last es → Last (es ++ e ∷ [])
  longer es e not same l = record {
    place = record {
      volume = l.place.volume;
      place = record { before = l.place.place.before; behind = l.place.place.behind ++ e ∷ []; is = ap (λ j. j ++ e ∷ []) l.place.place.is ∙ append_assoc l.place.place.before (Cut s n l.place.volume ∷ l.place.place.behind) (e ∷ []) };
      last = λ v q. elim (earlier s n v l.place.place.behind e q.before q.behind q.is) [
        | inl is ↦ not (subst IsCutFor (sym is) (refl, refl))
        | inr p ↦ l.place.last v p
      ];
    };
    lists = λ v t. ap (λ (M : Moments). M s n v t) (moments-append es (e ∷ [])) ∙ ap (λ l. l v t) same ∙ l.lists v t;
  }

  newest : (es : List Event) (a : ℕ) → Last (es ++ Cut s n a ∷ [])
  newest es a = record {
    place = record { volume = a; place = record { before = es; behind = []; is = refl }; last = λ v q. nowhere q.before q.behind (Cut s n v) q.is };
    lists = λ v t. ap (λ (M : Moments). M s n v t) (moments-append es (Cut s n a ∷ [])) ∙ ap (λ l. l v t) (at2_same (moments es) s n (memory es).history.now) ∙ ap (λ (h : Histories). h.now v t) (memory-history es);
  }

  last-by : (es : List Event) (z k x : ℕ) → IsOrNot s z → IsOrNot n k → HasLast es → HasLast (es ++ Cut z k x ∷ [])
  last-by es z k x (inl is) (inl too) old = λ a p. subst (λ j. Last (es ++ Cut j k x ∷ [])) is.1 (subst (λ j. Last (es ++ Cut s j x ∷ [])) too.1 (newest es x))
  last-by es z k x (inr not) told old = λ a p. elim (earlier s n a es (Cut z k x) p.before p.behind p.is) [
    | inl is ↦ absurd (not.1 (subst IsCutFor (sym is) (refl, refl)).0)
    | inr q ↦ longer es (Cut z k x) (λ h. not.1 h.0) (at2_other (moments es) z k (memory es).history.now s n (λ e f. not.1 e)) (old a q)
  ]
  last-by es z k x (inl is) (inr not) old = λ a p. elim (earlier s n a es (Cut z k x) p.before p.behind p.is) [
    | inl same ↦ absurd (not.1 (subst IsCutFor (sym same) (refl, refl)).1)
    | inr q ↦ longer es (Cut z k x) (λ h. not.1 h.1) (at2_other (moments es) z k (memory es).history.now s n (λ e f. not.1 f)) (old a q)
  ]

  last-other : (es : List Event) (e : Event) → (IsCutFor e → ⊥) → (moments_after (memory es) e) s n ≡ moments es s n → HasLast es → HasLast (es ++ e ∷ [])
  last-other es e not same old a p = elim (earlier s n a es e p.before p.behind p.is) [
    | inl is ↦ absurd (not (subst IsCutFor (sym is) (refl, refl)))
    | inr q ↦ longer es e not same (old a q)
  ]

  last-step : (es : List Event) (e : Event) → HasLast es → HasLast (es ++ e ∷ [])
  last-step es (Cut z k x) old = last-by es z k x (eqb_tells s z) (eqb_tells n k) old
  last-step es e old = last-other es e (λ h. h) refl old

  pub has-last : (events : List Event) → HasLast events
  has-last = snoc HasLast none-last last-step

  -- so the moment is what volumes held at each last place
  pub moment-at : (events : List Event) (p : LastCut events s n) (v t : ℕ) → moments events s n v t ≡ lists p.place.before v t
  moment-at events p v t =
      let l : Last events = has-last events p.volume p.place in
      l.lists v t ∙ ap (λ es. lists es v t) (last-one events p l.place)

-- ---- who stands in a group

module _ (s n a : ℕ) where
  -- events that leave it standing
  abbrev NotOut : Event → Type 0
  NotOut e = ((c : ℕ) → Reverted s n a c ≡ e → ⊥) × (Left s a ≡ e → ⊥)

  is-out : (z k x c : ℕ) → NotOut (Reverted z k x c) → is_one z k x s n a ≡ true → ⊥
  is-out z k x c not h = let e = same-three s n a z k x h in not.0 c (ap (λ j. Reverted j n a c) e.0 ∙ ap (λ j. Reverted z j a c) e.1 ∙ ap (λ j. Reverted z k j c) e.2)

  has-left : (z x : ℕ) → NotOut (Left z x) → (nat_eq s z && nat_eq a x) ≡ true → ⊥
  has-left z x not h = let e = same-two s a z x h in not.1 (ap (λ j. Left j a) e.0 ∙ ap (λ j. Left z j) e.1)

  still-stands : (g : Standing) (e : Event) → NotOut e → g s n a ≡ true → standing_event g e s n a ≡ true
  still-stands g (Flashed z k x b c) not h = stays-with _ _ h
  still-stands g (Reverted z k x c) not h = stays-without _ _ (is-out z k x c not) h
  still-stands g (Left z x) not h = stays-without _ _ (has-left z x not) h
  still-stands g e not h = h

  stands-on : (g : Standing) (es : List Event) → ((c : ℕ) → In (Reverted s n a c) es → ⊥) → (In (Left s a) es → ⊥) → g s n a ≡ true → fold standing_event g es s n a ≡ true
  stands-on g [] stands stays h = h
  stands-on g (e ∷ es) stands stays h = stands-on (standing_event g e) es (λ c i. stands c (inr i)) (λ i. stays (inr i)) (still-stands g e (λ c is. stands c (inl is), λ is. stays (inl is)) h)

  flashed-then : (g : Standing) (b c : ℕ) → standing_event g (Flashed s n a b c) s n a ≡ true
  flashed-then g b c = ap (λ k. cond k true (g s n a)) (is-same s n a s n a refl refl refl)

  pub group-stands : (events : List Event) → InGroup events s n a → standing events s n a ≡ true
  group-stands events p =
      ap (λ es. standing es s n a) p.is ∙ (ap (λ (g : Standing). g s n a) (standing-append p.before (Flashed s n a p.from p.target ∷ p.behind))
      ∙ stands-on (standing_event (standing p.before) (Flashed s n a p.from p.target)) p.behind p.stands p.stays (flashed-then (standing p.before) p.from p.target))
