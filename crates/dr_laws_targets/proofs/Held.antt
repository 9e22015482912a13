-- What the lists of volumes have: only writes that were stored, and each that was acknowledged, unless its list was replaced since.
use Rattle.std.proofs.Common.{ℕ, ◌≡◌, ◌⊎◌, inl, inr, refl, ap, sym, ◌∙◌, List, [], ◌∷◌, ◌++◌, subst}
use Rattle.std.proofs.lemmas.List.{append_assoc}
use Rattle.dr_logic.specs.Tables.{at, at2}
use Rattle.dr_model.specs.declared.event.Event.{Event}
use Rattle.dr_model.specs.declared.event.Event.TheVariants.{Volume, Ack, Mirrored, Sent, Flashed, Reverted, Set, Back, Blanked}
use Rattle.dr_model.specs.Histories.{Lists, Histories, joined, after_event, histories, lists}
use Rattle.dr_model.specs.Groups.{In}
use Rattle.dr_model.specs.HeldWrites.{IsMirrored, WasAcknowledged, WasReplaced, Replaces}
use Rattle.dr_model.proofs.Images.{histories-push}
use Rattle.dr_facts.proofs.Lists.{in-first, in-second, in-joined}
use Rattle.dr_facts.proofs.Tables.{at_cases, at2_cases}
use Rattle.dr_facts.proofs.Heard.{OfEach, OfJoined, each-event}
use Rattle.dr_laws_cuts.proofs.Places.{snoc}
use Rattle.dr_logic.proofs.Tables.{at2_same}

-- ---- each write of a list was stored

module _ (P : ℕ → Type 0) where
  -- each write of a list is such, and each of all lists
  abbrev Each : List ℕ → Type 0
  Each ws = (u : ℕ) → In u ws → P u

  -- of those that volumes hold, and of those that are kept aside
  abbrev EachHeld : Histories → Type 0
  EachHeld h = OfEach (λ t ws. Each ws) h

  -- what the event writes is such
  abbrev Writes : Event → Type 0
  Writes (Ack n) = P n
  Writes (Mirrored n v) = P n
  Writes e = Unit {0}

  one-more : (ws : List ℕ) (n : ℕ) → Each ws → P n → Each (ws ++ n ∷ [])
  one-more ws n old new u i = elim (in-joined ws (n ∷ []) u i) [
    | inl was ↦ old u was
    | inr last ↦ last-of u last
  ]
    where
      last-of : (u : ℕ) → In u (n ∷ []) → P u
      last-of u (inl is) = subst P (sym is) new
      last-of u (inr none) = absurd none

  joins : (h : Histories) (e : Event) → Writes e → EachHeld h → OfJoined (λ t ws. Each ws) h e
  joins h (Ack n) new old = one-more (h.now (h.write n).volume (h.write n).track) n (old.0 (h.write n).volume (h.write n).track) new
  joins h (Mirrored n x) new old = one-more (h.now (h.write n).volume (h.write n).track) n (old.0 (h.write n).volume (h.write n).track) new
  joins h e new old = tt

  event-held : (h : Histories) (e : Event) → Writes e → EachHeld h → EachHeld (after_event h e)
  event-held h e new old = each-event (λ t ws. Each ws) (λ t u i. absurd i) h e (joins h e new old) old

-- what was stored stays so, and what an event writes was stored by it
abbrev IsHeard : List Event → ℕ → Type 0
IsHeard events u = In (Ack u) events ⊎ IsMirrored events u

stored-first : (es more : List Event) (u : ℕ) → IsHeard es u → IsHeard (es ++ more) u
stored-first es more u (inl told) = inl (in-first es more (Ack u) told)
stored-first es more u (inr p) = inr (record { secondary = p.secondary; told = in-first es more (Mirrored u p.secondary) p.told })

stored-now : (es : List Event) (e : Event) → Writes (IsHeard (es ++ e ∷ [])) e
stored-now es (Ack n) = inl (in-second es (Ack n ∷ []) (Ack n) (inl refl))
stored-now es (Mirrored n x) = inr (record { secondary = x; told = in-second es (Mirrored n x ∷ []) (Mirrored n x) (inl refl) })
stored-now es e = tt

abbrev AllStored : List Event → Type 0
AllStored es = EachHeld (IsHeard es) (histories es)

none-stored : AllStored []
unfolding histories
none-stored = (λ v t u i. absurd i, λ v t u i. absurd i)

stored-step : (es : List Event) (e : Event) → AllStored es → AllStored (es ++ e ∷ [])
stored-step es e old =
    subst (EachHeld (IsHeard (es ++ e ∷ []))) (sym (histories-push es e))
    (event-held (IsHeard (es ++ e ∷ [])) (histories es) e (stored-now es e)
    (λ v t u i. stored-first es (e ∷ []) u (old.0 v t u i), λ v t u i. stored-first es (e ∷ []) u (old.1 v t u i)))

pub held-stored : (events : List Event) (u v t : ℕ) → In u (lists events v t) → In (Ack u) events ⊎ IsMirrored events u
held-stored events u v t i = (snoc AllStored none-stored stored-step events).0 v t u i

-- ---- what was acknowledged stays in its list until that is replaced

module _ (u : ℕ) where
  volume-or : (l : Lists) (x : ℕ) (new : ℕ → List ℕ) (v t : ℕ) → In u (l v t) → In u (at l x new v t) ⊎ (v ≡ x)
  volume-or l x new v t = at_cases (λ v f. In u (l v t) → In u (f t) ⊎ (v ≡ x)) l x new (λ i. inr refl) (λ v ne i. inl i) v

  track-or : (l : Lists) (x q : ℕ) (new : List ℕ) (v t : ℕ) → In u (l v t) → In u (at2 l x q new v t) ⊎ ((v ≡ x) × (t ≡ q))
  track-or l x q new = at2_cases (λ v t ws. In u (l v t) → In u ws ⊎ ((v ≡ x) × (t ≡ q))) l x q new (λ i. inr (refl, refl)) (λ v t ne i. inl i)

  -- an acknowledgement leaves all that a list has
  ack-stays : (h : Histories) (n v t : ℕ) → In u (h.now v t) → In u ((after_event h (Ack n)).now v t)
  ack-stays h n = at2_cases (λ v t ws. In u (h.now v t) → In u ws) h.now (h.write n).volume (h.write n).track (joined h n)
      (in-first (h.now (h.write n).volume (h.write n).track) (n ∷ []) u) (λ v t ne i. i)

  pub stays-or : (h : Histories) (e : Event) (v t : ℕ) → In u (h.now v t) → In u ((after_event h e).now v t) ⊎ Replaces h.write v t e
  stays-or h (Volume x server tracks) v t i = volume-or h.now x (λ t. []) v t i
  stays-or h (Ack n) v t i = inl (ack-stays h n v t i)
  stays-or h (Mirrored n x) v t i = track-or h.now x (h.write n).track (joined h n) v t i
  stays-or h (Sent x q to) v t i = track-or h.now to q (h.now x q) v t i
  stays-or h (Flashed s n a b c) v t i = volume-or h.now c (h.now b) v t i
  stays-or h (Reverted s n a c) v t i = volume-or h.now c (h.aside c) v t i
  stays-or h (Set x from) v t i = volume-or h.now x (h.now from) v t i
  stays-or h (Back x q from) v t i = track-or h.now x q (h.now from q) v t i
  stays-or h (Blanked x q) v t i = track-or h.now x q [] v t i
  stays-or h e v t i = inl i

  -- the write is in its list as it is acknowledged
  joined-now : (h : Histories) → In u ((after_event h (Ack u)).now (h.write u).volume (h.write u).track)
  joined-now h = subst (In u) (sym (at2_same h.now (h.write u).volume (h.write u).track (joined h u))) (in-second (h.now (h.write u).volume (h.write u).track) (u ∷ []) u (inl refl))

  module _ (v t : ℕ) where
    abbrev IsKept : List Event → Type 0
    IsKept es = In u (lists es v t) ⊎ WasReplaced es u v t

    kept-longer : (es : List Event) (e : Event) → In (Ack u) es → IsKept es → IsKept (es ++ e ∷ [])
    kept-longer es e told (inl i) = elim (stays-or (histories es) e v t i) [
      | inl stays ↦ inl (subst (λ (h : Histories). In u (h.now v t)) (sym (histories-push es e)) stays)
      | inr gone ↦ inr (record { before = es; behind = []; event = e; is = refl; acknowledged = told; replaces = gone })
    ]
    kept-longer es e told (inr p) = inr (record {
      before = p.before;
      behind = p.behind ++ e ∷ [];
      event = p.event;
      is = ap (λ j. j ++ e ∷ []) p.is ∙ append_assoc p.before (p.event ∷ p.behind) (e ∷ []);
      acknowledged = p.acknowledged;
      replaces = p.replaces;
    })

    module _ (before : List Event) where
      abbrev KeptBehind : List Event → Type 0
      KeptBehind behind = IsKept (before ++ Ack u ∷ behind)

      kept-step : (behind : List Event) (e : Event) → KeptBehind behind → KeptBehind (behind ++ e ∷ [])
      kept-step behind e old =
          subst IsKept (append_assoc before (Ack u ∷ behind) (e ∷ []))
          (kept-longer (before ++ Ack u ∷ behind) e (in-second before (Ack u ∷ behind) (Ack u) (inl refl)) old)

      kept-first : ((histories before).write u).volume ≡ v → ((histories before).write u).track ≡ t → KeptBehind []
      kept-first volume track =
          inl (subst (λ (h : Histories). In u (h.now v t)) (sym (histories-push before (Ack u)))
          (subst (λ x. In u ((after_event (histories before) (Ack u)).now x t)) volume
          (subst (λ q. In u ((after_event (histories before) (Ack u)).now ((histories before).write u).volume q)) track (joined-now (histories before)))))

pub acknowledged-kept : (events : List Event) (u v t : ℕ) → WasAcknowledged events u v t → In u (lists events v t) ⊎ WasReplaced events u v t
acknowledged-kept events u v t p = subst (IsKept u v t) (sym p.is) (snoc (KeptBehind u v t p.before) (kept-first u v t p.before p.volume p.track) (kept-step u v t p.before) p.behind)
