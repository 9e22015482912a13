-- Who stands in the group of a number, and who stands committed with it: the tables, event by event, are those of places.
use Rattle.std.proofs.Common.{ℕ, ◌≡◌, inl, inr, refl, ap, sym, ◌∙◌, true, cond, ◌&&◌, nat_eq, List, [], ◌∷◌, ◌++◌, subst}
use Rattle.std.proofs.lemmas.List.{append_assoc}
use Rattle.std.specs.List.{fold}
use Rattle.dr_model.specs.declared.event.Event.{Event}
use Rattle.dr_model.specs.declared.event.Event.TheVariants.{Flashed, Committed, Reverted, Left}
use Rattle.dr_model.specs.Groups.{In}
use Rattle.dr_model.specs.ClosedCuts.{InGroup}
use Rattle.dr_model.specs.NewestGroup.{StandsCommitted}
use Rattle.dr_facts.proofs.Lists.{in-joined}
use Rattle.dr_laws_cuts.proofs.Places.{snoc}
use Rattle.dr_laws_closed.specs.Moments.{Standing, is_one, standing, standing_event}
use Rattle.dr_laws_closed.proofs.Standings.{added, stays-with, stays-without, is-same, is-same-two, same-two, same-three}
use Rattle.dr_laws_attempts.proofs.Facts.{stood}
use Rattle.dr_laws_closed.proofs.Places.{standing-append}
use Rattle.dr_laws_targets.specs.Committeds.{committeds, committed_event}
use Rattle.dr_laws_targets.proofs.Told.{committeds-append}
use Rattle.dr_logic.proofs.Truth.{false_true}

-- ---- an event more behind a place

last-is : (x e : Event) → In x (e ∷ []) → x ≡ e
last-is x e (inl is) = is
last-is x e (inr none) = absurd none

-- an event that isn't in a list isn't in the longer one either, where the last event is of another kind
still-none : (P : Event → Type 0) (es : List Event) (e x : Event) → P x → (P e → ⊥) → (In x es → ⊥) → In x (es ++ e ∷ []) → ⊥
still-none P es e x is not none i = elim (in-joined es (e ∷ []) x i) [
  | inl old ↦ none old
  | inr last ↦ not (subst P (last-is x e last) is)
]

module _ (s n a : ℕ) where
  -- ---- who stands in a group

  -- the event takes it out of the group
  abbrev TakesOut : Event → Type 0
  TakesOut (Reverted z k x c) = (s ≡ z) × (n ≡ k) × (a ≡ x)
  TakesOut (Left z x) = (s ≡ z) × (a ≡ x)
  TakesOut e = ⊥

  abbrev IsInGroup : List Event → Type 0
  IsInGroup es = standing es s n a ≡ true → InGroup es s n a

  none-in-group : IsInGroup []
  unfolding standing
  none-in-group h = false_true refl h

  stands-longer : (es : List Event) (e : Event) → (TakesOut e → ⊥) → InGroup es s n a → InGroup (es ++ e ∷ []) s n a
  stands-longer es e not p = record {
    before = p.before;
    behind = p.behind ++ e ∷ [];
    from = p.from;
    target = p.target;
    is = ap (λ j. j ++ e ∷ []) p.is ∙ append_assoc p.before (Flashed s n a p.from p.target ∷ p.behind) (e ∷ []);
    stands = λ c i. still-none TakesOut p.behind e (Reverted s n a c) (refl, refl, refl) not (p.stands c) i;
    stays = λ i. still-none TakesOut p.behind e (Left s a) (refl, refl) not p.stays i;
  }

  just-flashed : (es : List Event) (z k x b c : ℕ) → (s ≡ z) × (n ≡ k) × (a ≡ x) → InGroup (es ++ Flashed z k x b c ∷ []) s n a
  just-flashed es z k x b c h = record {
    before = es;
    behind = [];
    from = b;
    target = c;
    is = ap (λ j. es ++ Flashed j k x b c ∷ []) (sym h.0) ∙ ap (λ j. es ++ Flashed s j x b c ∷ []) (sym h.1) ∙ ap (λ j. es ++ Flashed s n j b c ∷ []) (sym h.2);
    stands = λ c i. i;
    stays = λ i. i;
  }

  group-by : (es : List Event) (e : Event) → IsInGroup es → standing_event (standing es) e s n a ≡ true → InGroup (es ++ e ∷ []) s n a
  group-by es (Flashed z k x b c) old h = elim (added (is_one z k x s n a) (standing es s n a) h) [
    | inl is ↦ just-flashed es z k x b c (same-three s n a z k x is)
    | inr was ↦ stands-longer es (Flashed z k x b c) (λ t. t) (old was)
  ]
  group-by es (Reverted z k x c) old h =
      let p = stood (is_one z k x s n a) (standing es s n a) h in
      stands-longer es (Reverted z k x c) (λ t. false_true p.0 (is-same s n a z k x t.0 t.1 t.2)) (old p.1)
  group-by es (Left z x) old h =
      let p = stood (nat_eq s z && nat_eq a x) (standing es s n a) h in
      stands-longer es (Left z x) (λ t. false_true p.0 (is-same-two s a z x t.0 t.1)) (old p.1)
  group-by es e old h = stands-longer es e (λ t. t) (old h)

  group-step : (es : List Event) (e : Event) → IsInGroup es → IsInGroup (es ++ e ∷ [])
  group-step es e old h = group-by es e old (sym (ap (λ (g : Standing). g s n a) (standing-append es (e ∷ []))) ∙ h)

  pub in-group : (events : List Event) → IsInGroup events
  in-group = snoc IsInGroup none-in-group group-step

  -- ---- who stands committed

  -- the event takes it out of the session
  abbrev TakesLeave : Event → Type 0
  TakesLeave (Left z x) = (s ≡ z) × (a ≡ x)
  TakesLeave e = ⊥

  abbrev IsCommitted : List Event → Type 0
  IsCommitted es = committeds es s n a ≡ true → StandsCommitted es s n a

  none-committed : IsCommitted []
  unfolding committeds
  none-committed h = false_true refl h

  committed-longer : (es : List Event) (e : Event) → (TakesLeave e → ⊥) → StandsCommitted es s n a → StandsCommitted (es ++ e ∷ []) s n a
  committed-longer es e not p = record {
    before = p.before;
    behind = p.behind ++ e ∷ [];
    target = p.target;
    is = ap (λ j. j ++ e ∷ []) p.is ∙ append_assoc p.before (Committed s n a p.target ∷ p.behind) (e ∷ []);
    stays = λ i. still-none TakesLeave p.behind e (Left s a) (refl, refl) not p.stays i;
  }

  just-committed : (es : List Event) (z k x c : ℕ) → (s ≡ z) × (n ≡ k) × (a ≡ x) → StandsCommitted (es ++ Committed z k x c ∷ []) s n a
  just-committed es z k x c h = record {
    before = es;
    behind = [];
    target = c;
    is = ap (λ j. es ++ Committed j k x c ∷ []) (sym h.0) ∙ ap (λ j. es ++ Committed s j x c ∷ []) (sym h.1) ∙ ap (λ j. es ++ Committed s n j c ∷ []) (sym h.2);
    stays = λ i. i;
  }

  committed-by : (es : List Event) (e : Event) → IsCommitted es → committed_event (committeds es) e s n a ≡ true → StandsCommitted (es ++ e ∷ []) s n a
  committed-by es (Committed z k x c) old h = elim (added (is_one z k x s n a) (committeds es s n a) h) [
    | inl is ↦ just-committed es z k x c (same-three s n a z k x is)
    | inr was ↦ committed-longer es (Committed z k x c) (λ t. t) (old was)
  ]
  committed-by es (Left z x) old h =
      let p = stood (nat_eq s z && nat_eq a x) (committeds es s n a) h in
      committed-longer es (Left z x) (λ t. false_true p.0 (is-same-two s a z x t.0 t.1)) (old p.1)
  committed-by es e old h = committed-longer es e (λ t. t) (old h)

  committed-step : (es : List Event) (e : Event) → IsCommitted es → IsCommitted (es ++ e ∷ [])
  committed-step es e old h = committed-by es e old (sym (ap (λ (g : Standing). g s n a) (committeds-append es (e ∷ []))) ∙ h)

  pub committed-found : (events : List Event) → IsCommitted events
  committed-found = snoc IsCommitted none-committed committed-step

  -- and who was committed goes on to stand so until the target leaves
  has-left : (z x : ℕ) → (Left s a ≡ Left z x → ⊥) → (nat_eq s z && nat_eq a x) ≡ true → ⊥
  has-left z x not h = let e = same-two s a z x h in not (ap (λ j. Left j a) e.0 ∙ ap (λ j. Left z j) e.1)

  still-committed : (g : Standing) (e : Event) → (Left s a ≡ e → ⊥) → g s n a ≡ true → committed_event g e s n a ≡ true
  still-committed g (Committed z k x c) not h = stays-with _ _ h
  still-committed g (Left z x) not h = stays-without _ _ (has-left z x not) h
  still-committed g e not h = h

  committed-on : (g : Standing) (es : List Event) → (In (Left s a) es → ⊥) → g s n a ≡ true → fold committed_event g es s n a ≡ true
  committed-on g [] stays h = h
  committed-on g (e ∷ es) stays h = committed-on (committed_event g e) es (λ i. stays (inr i)) (still-committed g e (λ is. stays (inl is)) h)

  committed-then : (g : Standing) (c : ℕ) → committed_event g (Committed s n a c) s n a ≡ true
  committed-then g c = ap (λ k. cond k true (g s n a)) (is-same s n a s n a refl refl refl)

  pub committed-stands : (events : List Event) → StandsCommitted events s n a → committeds events s n a ≡ true
  committed-stands events p =
      ap (λ es. committeds es s n a) p.is ∙ (ap (λ (g : Standing). g s n a) (committeds-append p.before (Committed s n a p.target ∷ p.behind))
      ∙ committed-on (committed_event (committeds p.before) (Committed s n a p.target)) p.behind p.stays (committed-then (committeds p.before) p.target))
