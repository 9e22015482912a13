-- Two journals that tell the same, but for what host writes lay on their tracks. In the other one write u lays one byte, and no other write
-- lays any: so what a track holds there says whether u is one of its writes.
use Rattle.std.proofs.Common.{ℕ, suc, ◌≡◌, ◌≢◌, ◌⊎◌, inl, inr, refl, ap, sym, ◌∙◌, subst, Bool, true, false, cond, nat_eq, List, [], ◌∷◌, ◌++◌, length, take, ◌||◌}
use Rattle.std.specs.List.{list_any, fold}
use Rattle.std.proofs.lemmas.Bool.{ne_eqb, eqb-true, eq-eqb, or_parts}
use Rattle.std.proofs.lemmas.Bool.Decides.{eqb_tells}
use Rattle.dr_logic.specs.Tables.{at, at2}
use Rattle.dr_facts.proofs.Tables.{IsOrNot}
use Rattle.dr_model.specs.declared.event.Event.{Event}
use Rattle.dr_model.specs.declared.event.Event.TheVariants.{Volume as VolumeDefined, Issue, Ack, Mirrored, Sent, Flashed, Committed, Reverted, Set, Back, Blanked, Cut, Answer, Shown}
use Rattle.dr_model.specs.Histories.{Lists, Write, Histories, no_history, joined}
use Rattle.dr_model.specs.Cuts.{Past, past, cuts, no_cuts, past_event, cut_for}
use Rattle.dr_laws_closed.specs.Moments.{Standing, standing, standing_event, none_stands}
use Rattle.dr_laws_targets.specs.Committeds.{committeds, committed_event}
use Rattle.dr_laws_recovery.proofs.OnTracks.{is_issue}

-- an event answers a step or shows a track
abbrev pub is_said : Event → Bool
is_said (Answer line code a b c) = true
is_said (Shown line v t bytes) = true
is_said e = false

-- what write n lays in the other journal
abbrev pub mark : ℕ → ℕ → List ℕ
mark u n = cond (nat_eq n u) (1 ∷ []) []

-- the same write is issued, and lays that
pub record Remarked (u : ℕ) (e f : Event) : Type 0 where
  pub number : ℕ
  pub volume : ℕ
  pub track : ℕ
  pub offset : ℕ
  pub len : ℕ
  pub bytes : List ℕ
  pub is : e ≡ Issue number volume track offset len bytes
  pub other : f ≡ Issue number volume track 0 1 (mark u number)

-- one is the other and issues no write, or so; or both answer or show
abbrev pub AlikeEvent : ℕ → Event → Event → Type 0
AlikeEvent u e f = ((e ≡ f) × (is_issue e ≡ false)) ⊎ (Remarked u e f ⊎ ((is_said e ≡ true) × (is_said f ≡ true)))

-- event by event
abbrev pub AlikeEvents : ℕ → List Event → List Event → Type 0
AlikeEvents u [] [] = Unit {0}
AlikeEvents u (e ∷ es) (f ∷ fs) = AlikeEvent u e f × AlikeEvents u es fs
AlikeEvents u es fs = ⊥

abbrev pub NoIssue : List Event → Type 0
NoIssue es = list_any is_issue es ≡ false

module _ (u : ℕ) where
  pub alike-append : (es fs more moref : List Event) → AlikeEvents u es fs → AlikeEvents u more moref → AlikeEvents u (es ++ more) (fs ++ moref)
  alike-append [] [] more moref a b = b
  alike-append [] (f ∷ fs) more moref a b = absurd a
  alike-append (e ∷ es) [] more moref a b = absurd a
  alike-append (e ∷ es) (f ∷ fs) more moref a b = (a.0, alike-append es fs more moref a.1 b)

  pub alike-same : (es : List Event) → NoIssue es → AlikeEvents u es es
  alike-same [] none = tt
  alike-same (e ∷ es) none = let both = or_parts (is_issue e) (list_any is_issue es) none in (inl (refl, both.0), alike-same es both.1)

  pub alike-length : (es fs : List Event) → AlikeEvents u es fs → length fs ≡ length es
  alike-length [] [] a = refl
  alike-length [] (f ∷ fs) a = absurd a
  alike-length (e ∷ es) [] a = absurd a
  alike-length (e ∷ es) (f ∷ fs) a = ap suc (alike-length es fs a.1)

  -- ---- what lists, cuts and groups make of them

  -- the same lists and cuts, and writes on the same tracks, of which u alone may lay a byte
  pub record SamePast (p q : Past) : Type 0 where
    pub now : q.history.now ≡ p.history.now
    pub aside : q.history.aside ≡ p.history.aside
    pub cuts : q.cuts ≡ p.cuts
    pub volume : (n : ℕ) → (q.history.write n).volume ≡ (p.history.write n).volume
    pub track : (n : ℕ) → (q.history.write n).track ≡ (p.history.write n).track
    pub offset : (n : ℕ) → (q.history.write n).offset ≡ 0
    pub others : (n : ℕ) → n ≢ u → (q.history.write n).bytes ≡ []

  joined-same : (h k : Histories) (n : ℕ) → k.now ≡ h.now → (k.write n).volume ≡ (h.write n).volume → (k.write n).track ≡ (h.write n).track → joined k n ≡ joined h n
  joined-same h k n now volume track = λ i. now i (volume i) (track i) ++ n ∷ []

  -- events that change lists, and no write
  with-lists : (p q x y : Past) → SamePast p q → y.history.now ≡ x.history.now → y.history.aside ≡ x.history.aside → y.cuts ≡ x.cuts → x.history.write ≡ p.history.write → y.history.write ≡ q.history.write → SamePast x y
  with-lists p q x y s now aside cuts one other = record {
    now = now;
    aside = aside;
    cuts = cuts;
    volume = λ n. ap (λ (f : ℕ → Write). (f n).volume) other ∙ s.volume n ∙ sym (ap (λ (f : ℕ → Write). (f n).volume) one);
    track = λ n. ap (λ (f : ℕ → Write). (f n).track) other ∙ s.track n ∙ sym (ap (λ (f : ℕ → Write). (f n).track) one);
    offset = λ n. ap (λ (f : ℕ → Write). (f n).offset) other ∙ s.offset n;
    others = λ n ne. ap (λ (f : ℕ → Write). (f n).bytes) other ∙ s.others n ne;
  }

  -- an event that is in both
  event-same : (p q : Past) (e : Event) → SamePast p q → is_issue e ≡ false → SamePast (past_event p e) (past_event q e)
  event-same p q (VolumeDefined v server tracks) s none = with-lists p q _ _ s (ap (λ (l : Lists). at l v (λ t. [])) s.now) s.aside s.cuts refl refl
  event-same p q (Issue n v t offset len bytes) s none = absurd cc
  event-same p q (Ack n) s none = with-lists p q _ _ s (λ i. at2 (s.now i) (s.volume n i) (s.track n i) (joined-same p.history q.history n s.now (s.volume n) (s.track n) i)) s.aside s.cuts refl refl
  event-same p q (Mirrored n v) s none = with-lists p q _ _ s (λ i. at2 (s.now i) v (s.track n i) (joined-same p.history q.history n s.now (s.volume n) (s.track n) i)) s.aside s.cuts refl refl
  event-same p q (Sent v t to) s none = with-lists p q _ _ s (ap (λ (l : Lists). at2 l to t (l v t)) s.now) s.aside s.cuts refl refl
  event-same p q (Flashed i n a b c) s none = with-lists p q _ _ s (ap (λ (l : Lists). at l c (l b)) s.now) (λ j. at (s.aside j) c (s.now j c)) s.cuts refl refl
  event-same p q (Committed i n a c) s none = with-lists p q _ _ s s.now (ap (λ (l : Lists). at l c (λ t. [])) s.aside) s.cuts refl refl
  event-same p q (Reverted i n a c) s none = with-lists p q _ _ s (λ j. at (s.now j) c (s.aside j c)) s.aside s.cuts refl refl
  event-same p q (Set v from) s none = with-lists p q _ _ s (ap (λ (l : Lists). at l v (l from)) s.now) s.aside s.cuts refl refl
  event-same p q (Back v t from) s none = with-lists p q _ _ s (ap (λ (l : Lists). at2 l v t (l from t)) s.now) s.aside s.cuts refl refl
  event-same p q (Blanked v t) s none = with-lists p q _ _ s (ap (λ (l : Lists). at2 l v t []) s.now) s.aside s.cuts refl refl
  event-same p q (Cut i n a) s none = with-lists p q _ _ s s.now s.aside (λ j. cut_for i n a (s.now j) (s.cuts j)) refl refl
  event-same p q e s none = with-lists p q _ _ s s.now s.aside s.cuts refl refl

  said-past : (p : Past) (e : Event) → is_said e ≡ true → past_event p e ≡ p
  said-past p (Answer line code a b c) is = refl
  said-past p (Shown line v t bytes) is = refl
  said-past p e is = absurd cc

  marked-empty : (n : ℕ) → n ≢ u → take 1 (mark u n) ≡ []
  marked-empty n ne = ap (λ b. take 1 (cond b (1 ∷ []) [])) (ne_eqb n u ne)

  at-field : {X : Type 0} (get : Write → X) (f g : ℕ → Write) (n : ℕ) (x y : Write) → get y ≡ get x → ((k : ℕ) → get (g k) ≡ get (f k)) → (k : ℕ) → get (at g n y k) ≡ get (at f n x k)
  at-field get f g n x y here else k = by (nat_eq k n)
    where
      by : (b : Bool) → get (cond b y (g k)) ≡ get (cond b x (f k))
      by true = here
      by false = else k

  event-alike : (p q : Past) (e f : Event) → SamePast p q → AlikeEvent u e f → SamePast (past_event p e) (past_event q f)
  event-alike p q e f s (inl a) = subst (λ f. SamePast (past_event p e) (past_event q f)) a.0 (event-same p q e s a.1)
  event-alike p q e f s (inr (inl r)) =
      let x : Event = Issue r.number r.volume r.track r.offset r.len r.bytes in
      let y : Event = Issue r.number r.volume r.track 0 1 (mark u r.number) in
      subst (λ e. SamePast (past_event p e) (past_event q f)) (sym r.is) (subst (λ f. SamePast (past_event p x) (past_event q f)) (sym r.other) issued)
    where
      w : Write
      w = record { volume = r.volume; track = r.track; offset = r.offset; bytes = take r.len r.bytes }

      o : Write
      o = record { volume = r.volume; track = r.track; offset = 0; bytes = take 1 (mark u r.number) }

      offset-empty : (k : ℕ) → (b : Bool) → (cond b o (q.history.write k)).offset ≡ 0
      offset-empty k true = refl
      offset-empty k false = s.offset k

      other-empty : (k : ℕ) → k ≢ u → (b : Bool) → nat_eq k r.number ≡ b → (cond b o (q.history.write k)).bytes ≡ []
      other-empty k ne true is = marked-empty r.number (λ e. ne (eqb-true k r.number is ∙ e))
      other-empty k ne false is = s.others k ne

      issued : SamePast (past_event p (Issue r.number r.volume r.track r.offset r.len r.bytes)) (past_event q (Issue r.number r.volume r.track 0 1 (mark u r.number)))
      issued = record {
        now = s.now;
        aside = s.aside;
        cuts = s.cuts;
        volume = at-field (λ (w : Write). w.volume) p.history.write q.history.write r.number w o refl s.volume;
        track = at-field (λ (w : Write). w.track) p.history.write q.history.write r.number w o refl s.track;
        offset = λ k. offset-empty k (nat_eq k r.number);
        others = λ k ne. other-empty k ne (nat_eq k r.number) refl;
      }
  event-alike p q e f s (inr (inr a)) = subst (λ x. SamePast x (past_event q f)) (sym (said-past p e a.0)) (subst (SamePast p) (sym (said-past q f a.1)) s)

  fold-alike : (es fs : List Event) (p q : Past) → SamePast p q → AlikeEvents u es fs → SamePast (fold past_event p es) (fold past_event q fs)
  fold-alike [] [] p q s a = s
  fold-alike [] (f ∷ fs) p q s a = absurd a
  fold-alike (e ∷ es) [] p q s a = absurd a
  fold-alike (e ∷ es) (f ∷ fs) p q s a = fold-alike es fs (past_event p e) (past_event q f) (event-alike p q e f s a.0) a.1

  abbrev start : Past
  start = record { history = no_history; cuts = no_cuts }

  pub past-alike : (es fs : List Event) → AlikeEvents u es fs → SamePast (past es) (past fs)
  unfolding past
  past-alike es fs a = fold-alike es fs start start (record { now = refl; aside = refl; cuts = refl; volume = λ n. refl; track = λ n. refl; offset = λ n. refl; others = λ n ne. refl }) a

  -- ---- a write that was issued lays its byte

  abbrev Lays : Past → Type 0
  Lays q = (q.history.write u).bytes ≡ 1 ∷ []

  kept-laid : (q : Past) (e : Event) → is_issue e ≡ false → Lays q → Lays (past_event q e)
  kept-laid q (Issue n v t offset len bytes) none lays = absurd cc
  kept-laid q e none lays = lays

  marked-laid : (b : Bool) → b ≡ true → take {A = ℕ} 1 (cond b (1 ∷ []) []) ≡ 1 ∷ []
  marked-laid true is = refl
  marked-laid false is = absurd cc

  issued-laid : (q : Past) (n v t : ℕ) → u ≡ n → Lays (past_event q (Issue n v t 0 1 (mark u n)))
  issued-laid q n v t is =
      ap (λ b. (cond b (record { volume = v; track = t; offset = 0; bytes = take 1 (mark u n) }) (q.history.write u)).bytes) (eq-eqb u n is)
      ∙ marked-laid (nat_eq n u) (eq-eqb n u (sym is))

  other-laid : (q : Past) (n v t : ℕ) → u ≢ n → Lays q → Lays (past_event q (Issue n v t 0 1 (mark u n)))
  other-laid q n v t ne lays = ap (λ b. (cond b (record { volume = v; track = t; offset = 0; bytes = take 1 (mark u n) }) (q.history.write u)).bytes) (ne_eqb u n ne) ∙ lays

  lays-alike : (q : Past) (e f : Event) → AlikeEvent u e f → Lays q → Lays (past_event q f)
  lays-alike q e f (inl a) lays = subst (λ f. Lays (past_event q f)) a.0 (kept-laid q e a.1 lays)
  lays-alike q e f (inr (inl r)) lays = subst (λ f. Lays (past_event q f)) (sym r.other) (by (eqb_tells u r.number))
    where
      by : IsOrNot u r.number → Lays (past_event q (Issue r.number r.volume r.track 0 1 (mark u r.number)))
      by (inl is) = issued-laid q r.number r.volume r.track is.1
      by (inr not) = other-laid q r.number r.volume r.track not.1 lays
  lays-alike q e f (inr (inr a)) lays = subst Lays (sym (said-past q f a.1)) lays

  -- the event issues write u
  abbrev pub issues_it : Event → Bool
  issues_it (Issue n v t offset len bytes) = nat_eq u n
  issues_it e = false

  not-it : (e : Event) → is_issue e ≡ false → issues_it e ≡ false
  not-it (Issue n v t offset len bytes) none = absurd cc
  not-it e none = refl

  said-not : (e : Event) → is_said e ≡ true → issues_it e ≡ false
  said-not (Answer line code a b c) is = refl
  said-not (Shown line v t bytes) is = refl
  said-not e is = absurd cc

  begins-laid : (q : Past) (e f : Event) → AlikeEvent u e f → issues_it e ≡ true → Lays (past_event q f)
  begins-laid q e f (inl a) it = absurd (let none : true ≡ false = sym it ∙ not-it e a.1 in cc)
  begins-laid q e f (inr (inl r)) it = subst (λ f. Lays (past_event q f)) (sym r.other) (issued-laid q r.number r.volume r.track (eqb-true u r.number (sym (ap issues_it r.is) ∙ it)))
  begins-laid q e f (inr (inr a)) it = absurd (let none : true ≡ false = sym it ∙ said-not e a.0 in cc)

  fold-laid : (es fs : List Event) (q : Past) → AlikeEvents u es fs → Lays q → Lays (fold past_event q fs)
  fold-laid [] [] q a lays = lays
  fold-laid [] (f ∷ fs) q a lays = absurd a
  fold-laid (e ∷ es) [] q a lays = absurd a
  fold-laid (e ∷ es) (f ∷ fs) q a lays = fold-laid es fs (past_event q f) a.1 (lays-alike q e f a.0 lays)

  laid-once : (es fs : List Event) (q : Past) → AlikeEvents u es fs → list_any issues_it es ≡ true → Lays (fold past_event q fs)
  laid-once [] [] q a it = absurd cc
  laid-once [] (f ∷ fs) q a it = absurd a
  laid-once (e ∷ es) [] q a it = absurd a
  laid-once (e ∷ es) (f ∷ fs) q a it = by (issues_it e) refl it (laid-once es fs (past_event q f) a.1)
    where
      by : (b : Bool) → issues_it e ≡ b → (b || list_any issues_it es) ≡ true → (list_any issues_it es ≡ true → Lays (fold past_event (past_event q f) fs)) → Lays (fold past_event (past_event q f) fs)
      by true is any later = fold-laid es fs (past_event q f) a.1 (begins-laid q e f a.0 is)
      by false is any later = later any

  pub past-laid : (es fs : List Event) → AlikeEvents u es fs → list_any issues_it es ≡ true → ((past fs).history.write u).bytes ≡ 1 ∷ []
  unfolding past
  past-laid es fs a it = laid-once es fs start a it

  -- ---- and who stands in groups

  standing-event : (g : Standing) (e f : Event) → AlikeEvent u e f → standing_event g f ≡ standing_event g e
  standing-event g e f (inl a) = ap (standing_event g) (sym a.0)
  standing-event g e f (inr (inl r)) = ap (standing_event g) r.other ∙ sym (ap (standing_event g) r.is)
  standing-event g e f (inr (inr a)) = said-standing g f a.1 ∙ sym (said-standing g e a.0)
    where
      said-standing : (g : Standing) (e : Event) → is_said e ≡ true → standing_event g e ≡ g
      said-standing g (Answer line code a b c) is = refl
      said-standing g (Shown line v t bytes) is = refl
      said-standing g e is = absurd cc

  committed-event : (g : Standing) (e f : Event) → AlikeEvent u e f → committed_event g f ≡ committed_event g e
  committed-event g e f (inl a) = ap (committed_event g) (sym a.0)
  committed-event g e f (inr (inl r)) = ap (committed_event g) r.other ∙ sym (ap (committed_event g) r.is)
  committed-event g e f (inr (inr a)) = said-committed g f a.1 ∙ sym (said-committed g e a.0)
    where
      said-committed : (g : Standing) (e : Event) → is_said e ≡ true → committed_event g e ≡ g
      said-committed g (Answer line code a b c) is = refl
      said-committed g (Shown line v t bytes) is = refl
      said-committed g e is = absurd cc

  tables-alike : (step : Standing → Event → Standing) → ((g : Standing) (e f : Event) → AlikeEvent u e f → step g f ≡ step g e) → (es fs : List Event) (g : Standing) → AlikeEvents u es fs → fold step g fs ≡ fold step g es
  tables-alike step each [] [] g a = refl
  tables-alike step each [] (f ∷ fs) g a = absurd a
  tables-alike step each (e ∷ es) [] g a = absurd a
  tables-alike step each (e ∷ es) (f ∷ fs) g a = ap (λ g. fold step g fs) (each g e f a.0) ∙ tables-alike step each es fs (step g e) a.1

  pub standing-alike : (es fs : List Event) → AlikeEvents u es fs → standing fs ≡ standing es
  unfolding standing
  standing-alike es fs a = tables-alike standing_event standing-event es fs none_stands a

  pub committeds-alike : (es fs : List Event) → AlikeEvents u es fs → committeds fs ≡ committeds es
  unfolding committeds
  committeds-alike es fs a = tables-alike committed_event committed-event es fs none_stands a
