-- Where in a journal a volume was cut for a number.
use Rattle.std.proofs.Common.{ℕ, ◌≡◌, ◌⊎◌, inl, inr, refl, ap, sym, ◌∙◌, Bool, true, List, [], ◌∷◌, ◌++◌, Some, subst}
use Rattle.std.proofs.lemmas.Bool.Decides.{eqb_tells}
use Rattle.std.proofs.lemmas.List.{append-nil, append_assoc}
use Rattle.std.specs.Prelude.{is_some}
use Rattle.dr_model.specs.declared.event.Event.{Event}
use Rattle.dr_model.specs.declared.event.Event.TheVariants.{Cut}
use Rattle.dr_model.specs.Histories.{lists}
use Rattle.dr_model.specs.Cuts.{Cuts, Past, CutAt, past, cuts, past_event, cuts_after}
use Rattle.dr_laws_cuts.specs.Once.{no_past, AllNew, CutOnce, LastCutAt}
use Rattle.dr_facts.proofs.Tables.{IsOrNot, at2_cases, at2_other}
use Rattle.dr_laws_cuts.proofs.Journal.{cuts-push, cut-pushed}
use Rattle.dr_logic.proofs.Truth.{false_true}
use Rattle.dr_logic.proofs.Tables.{at2_same}

-- induction at the end of a list
snoc-from : {X : Type 0} (P : List X → Type 0) → ((xs : List X) (x : X) → P xs → P (xs ++ x ∷ [])) → (todo done : List X) → P done → P (done ++ todo)
snoc-from P step [] done p = subst P (sym (append-nil done)) p
snoc-from P step (x ∷ xs) done p = subst P (append_assoc done (x ∷ []) xs) (snoc-from P step xs (done ++ x ∷ []) (step done x p))

pub snoc : {X : Type 0} (P : List X → Type 0) → P [] → ((xs : List X) (x : X) → P xs → P (xs ++ x ∷ [])) → (xs : List X) → P xs
snoc P none step xs = snoc-from P step xs [] none

pub head-same : (x y : Event) (xs ys : List Event) → x ∷ xs ≡ y ∷ ys → x ≡ y
head-same x y xs ys h = cc

pub tail-same : (x y : Event) (xs ys : List Event) → x ∷ xs ≡ y ∷ ys → xs ≡ ys
tail-same x y xs ys h = cc

module _ (n a : ℕ) where
  cut-then : Past → Bool
  cut-then p = is_some (p.cuts.by n a)

  -- a volume that was cut stays so, and is not cut again
  still-cut : (p : Past) (e : Event) → is_some (p.cuts.by n a) ≡ true → is_some ((past_event p e).cuts.by n a) ≡ true
  still-cut p (Cut z k x) h = at2_cases (λ j y o. is_some (p.cuts.by j y) ≡ true → is_some o ≡ true) p.cuts.by k x (Some z) (λ h. refl) (λ j y ne h. h) n a h
  still-cut p e h = h

  now-cut : (p : Past) (s : ℕ) → is_some ((past_event p (Cut s n a)).cuts.by n a) ≡ true
  now-cut p s = ap is_some (at2_same p.cuts.by n a (Some s))

  no-more-cuts : (p : Past) (s : ℕ) (before behind : List Event) → is_some (p.cuts.by n a) ≡ true → AllNew p (before ++ Cut s n a ∷ behind) → ⊥
  unfolding AllNew
  no-more-cuts p s [] behind is new = false_true (ap is_some new.0) is
  no-more-cuts p s (e ∷ es) behind is new = no-more-cuts (past_event p e) s es behind (still-cut p e is) new.1

  -- so there is one place
  one-place : (p : Past) (s z : ℕ) (before behind other rest : List Event) → AllNew p (before ++ Cut s n a ∷ behind) → before ++ Cut s n a ∷ behind ≡ other ++ Cut z n a ∷ rest → other ≡ before
  unfolding AllNew
  one-place p s z [] behind [] rest new same = refl
  one-place p s z [] behind (y ∷ ys) rest new same =
      absurd (no-more-cuts (past_event p (Cut s n a)) z ys rest (now-cut p s) (subst (AllNew (past_event p (Cut s n a))) (tail-same _ _ behind (ys ++ Cut z n a ∷ rest) same) new.1))
  one-place p s z (x ∷ xs) behind [] rest new same =
      absurd (no-more-cuts (past_event p x) s xs behind (subst (λ e. is_some ((past_event p e).cuts.by n a) ≡ true) (sym (head-same x (Cut z n a) _ _ same)) (now-cut p z)) new.1)
  one-place p s z (x ∷ xs) behind (y ∷ ys) rest new same =
      let tails : xs ++ Cut s n a ∷ behind ≡ ys ++ Cut z n a ∷ rest = tail-same x y _ _ same in
      let heads : x ≡ y = head-same x y _ _ same in
      ap (λ e. e ∷ ys) (sym heads) ∙ ap (λ es. x ∷ es) (one-place (past_event p x) s z xs behind ys rest new.1 tails)

pub cut-once : (events : List Event) → CutOnce events → (n a s z : ℕ) (place : CutAt events s n a) (other : CutAt events z n a) → other.before ≡ place.before
cut-once events once n a s z place other = one-place n a no_past s z place.before place.behind other.before other.behind (subst (AllNew no_past) place.is once) (sym place.is ∙ other.is)

-- a place in a list that has one event more
pub nowhere : (before behind : List Event) (c : Event) → [] ≡ before ++ c ∷ behind → ⊥
nowhere [] behind c h = absurd cc
nowhere (x ∷ xs) behind c h = absurd cc

pub earlier : (s n a : ℕ) (es : List Event) (e : Event) (before behind : List Event) → es ++ e ∷ [] ≡ before ++ Cut s n a ∷ behind → (e ≡ Cut s n a) ⊎ CutAt es s n a
earlier s n a [] e [] behind same = inl (head-same e (Cut s n a) [] behind same)
earlier s n a [] e (y ∷ ys) behind same = absurd (nowhere ys behind (Cut s n a) (tail-same e y [] (ys ++ Cut s n a ∷ behind) same))
earlier s n a (x ∷ xs) e [] behind same = inr (record { before = []; behind = xs; is = ap (λ y. y ∷ xs) (head-same x (Cut s n a) (xs ++ e ∷ []) behind same) })
earlier s n a (x ∷ xs) e (y ∷ ys) behind same =
    let heads : x ≡ y = head-same x y (xs ++ e ∷ []) (ys ++ Cut s n a ∷ behind) same in
    elim (earlier s n a xs e ys behind (tail-same x y (xs ++ e ∷ []) (ys ++ Cut s n a ∷ behind) same)) [
      | inl is ↦ inl is
      | inr p ↦ inr (record { before = y ∷ p.before; behind = p.behind; is = ap (λ j. j ∷ xs) heads ∙ ap (λ es. y ∷ es) p.is })
    ]

module _ (n a : ℕ) where
  -- the event cuts volume a for number n
  abbrev IsCutOf : Event → Type 0
  IsCutOf (Cut z k x) = (n ≡ k) × (a ≡ x)
  IsCutOf e = ⊥

  abbrev IsFound : List Event → Type 0
  IsFound es = (s : ℕ) → (cuts es).by n a ≡ Some s → LastCutAt es s n a

  found-none : IsFound []
  unfolding past
  found-none s h = absurd cc

  longer : (es : List Event) (e : Event) → (IsCutOf e → ⊥) → (cuts_after (past es) e).by n a ≡ (cuts es).by n a → (cuts_after (past es) e).held n a ≡ (cuts es).held n a → IsFound es → IsFound (es ++ e ∷ [])
  longer es e not by held old s h =
      let f = old s (sym by ∙ (sym (ap (λ (c : Cuts). c.by n a) (cuts-push es e)) ∙ h)) in
      record {
        place = record {
          before = f.place.before;
          behind = f.place.behind ++ e ∷ [];
          is = ap (λ j. j ++ e ∷ []) f.place.is ∙ append_assoc f.place.before (Cut s n a ∷ f.place.behind) (e ∷ []);
        };
        held = λ t. ap (λ (c : Cuts). c.held n a t) (cuts-push es e) ∙ ap (λ l. l t) held ∙ f.held t;
        last = λ z q. elim (earlier z n a f.place.behind e q.before q.behind q.is) [
          | inl is ↦ not (subst IsCutOf (sym is) (refl, refl))
          | inr p ↦ f.last z p
        ];
      }

  here-found : (es : List Event) (z : ℕ) → IsFound (es ++ Cut z n a ∷ [])
  here-found es z s h =
      let some : Some z ≡ Some s = sym (at2_same (cuts es).by n a (Some z)) ∙ (sym (ap (λ (c : Cuts). c.by n a) (cut-pushed es z n a)) ∙ h) in
      let same : z ≡ s = cc in
      record {
        place = record { before = es; behind = []; is = ap (λ j. es ++ Cut j n a ∷ []) same };
        held = λ t. ap (λ (c : Cuts). c.held n a t) (cut-pushed es z n a) ∙ ap (λ l. l t) (at2_same (cuts es).held n a (lists es a));
        last = λ y q. nowhere q.before q.behind (Cut y n a) q.is;
      }

  found-by : (es : List Event) (z k x : ℕ) → IsOrNot n k → IsOrNot a x → IsFound es → IsFound (es ++ Cut z k x ∷ [])
  found-by es z k x (inl is) (inl too) old = subst (λ j. IsFound (es ++ Cut z j x ∷ [])) is.1 (subst (λ y. IsFound (es ++ Cut z n y ∷ [])) too.1 (here-found es z))
  found-by es z k x (inr not) told old = longer es (Cut z k x) (λ h. not.1 h.0)
      (at2_other (cuts es).by k x (Some z) n a (λ e f. not.1 e)) (at2_other (cuts es).held k x ((past es).history.now x) n a (λ e f. not.1 e)) old
  found-by es z k x (inl is) (inr not) old = longer es (Cut z k x) (λ h. not.1 h.1)
      (at2_other (cuts es).by k x (Some z) n a (λ e f. not.1 f)) (at2_other (cuts es).held k x ((past es).history.now x) n a (λ e f. not.1 f)) old

  found-step : (es : List Event) (e : Event) → IsFound es → IsFound (es ++ e ∷ [])
  found-step es (Cut z k x) old = found-by es z k x (eqb_tells n k) (eqb_tells a x) old
  found-step es e old = longer es e (λ h. h) refl refl old

  pub cut-found : (events : List Event) (s : ℕ) → (cuts events).by n a ≡ Some s → LastCutAt events s n a
  cut-found = snoc IsFound found-none found-step
