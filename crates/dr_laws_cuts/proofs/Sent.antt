-- In a sound world the cuts hold on secondaries; and what changes no track and cuts no volume leaves what is held of a cut.
use Rattle.std.proofs.Common.{ℕ, ◌≡◌, ◌<◌, ap, sym, ◌∙◌, false, List, [], ◌∷◌, ◌++◌, subst}
use Rattle.std.proofs.lemmas.List.{append_assoc}
use Rattle.std.specs.FinSet.{contains}
use Rattle.dr_model.specs.declared.event.Event.{Event}
use Rattle.dr_model.specs.declared.event.Event.TheVariants.{Cut}
use Rattle.dr_model.specs.Histories.{Write, histories, lists}
use Rattle.dr_model.specs.Contents.{image}
use Rattle.dr_model.specs.Layout.{Fields, Tracks}
use Rattle.dr_model.specs.Control.{World}
use Rattle.dr_model.specs.Pairs.{primary_of, secondary_of, sealed}
use Rattle.dr_model.specs.Table.{table}
use Rattle.dr_model.specs.Laws.{SoundRows, Blank, fields}
use Rattle.dr_model.specs.Cuts.{CutAt, SealedCut, SealsHold}
use Rattle.dr_laws_cuts.specs.Once.{NoCut, NoCuts}
use Rattle.dr_laws_cuts.specs.Sound.{SoundCuts}
use Rattle.dr_laws_cuts.specs.Sent.{SentCut, SentHold, CutsHold}
use Rattle.dr_laws_cuts.proofs.Still.{plain-second}
use Rattle.dr_laws_cuts.proofs.Places.{head-same, tail-same, nowhere, cut-found, cut-once}
use Rattle.dr_laws_cuts.proofs.Seals.{is-of, seals-hold}

module _ (w : World) (rows : SoundRows (table w)) (k : SoundCuts w) where
  sent-holds : SentHold w
  sent-holds u v rec sends takes =
      let n : ℕ = (fields (table w) u).attempt in
      let by = is-of _ ((k.laws.cut u).recorder rec) in
      let found = cut-found n u w.events by.value by.is in
      record {
        session = by.value;
        place = found.place;
        only = λ z other. cut-once w.events k.once n u by.value z found.place other;
        tracks = λ t lt out.
            rows.images.plain v (plain-second (table w) rows v u takes) t lt
            ∙ k.laws.sent u v sends rec takes t (subst (λ m. t < m) (sym (rows.parts.secondary u v sends).same_tracks) lt) out
            ∙ ap (image (histories w.events).write) (found.held t);
      }

  pub cuts-hold : CutsHold w
  cuts-hold = record { sent = sent-holds; sealed = seals-hold w k.laws rows k.once; blank = rows.images.blank }

-- a cut in a journal that goes on with no cut stands before that
record Before (events : List Event) (s n a : ℕ) (before : List Event) : Type 0 where
  behind : List Event
  is : events ≡ before ++ Cut s n a ∷ behind

not-later : (s n a : ℕ) (more before behind : List Event) → NoCuts more → more ≡ before ++ Cut s n a ∷ behind → ⊥
not-later s n a [] before behind quiet same = nowhere before behind (Cut s n a) same
not-later s n a (e ∷ es) [] behind quiet same = subst NoCut (head-same e (Cut s n a) es behind same) quiet.0
not-later s n a (e ∷ es) (y ∷ ys) behind quiet same = not-later s n a es ys behind quiet.1 (tail-same e y es (ys ++ Cut s n a ∷ behind) same)

before-of : (s n a : ℕ) (events more before behind : List Event) → NoCuts more → events ++ more ≡ before ++ Cut s n a ∷ behind → Before events s n a before
before-of s n a [] more before behind quiet same = absurd (not-later s n a more before behind quiet same)
before-of s n a (x ∷ xs) more [] behind quiet same = record { behind = xs; is = ap (λ y. y ∷ xs) (head-same x (Cut s n a) (xs ++ more) behind same) }
before-of s n a (x ∷ xs) more (y ∷ ys) behind quiet same =
    let p = before-of s n a xs more ys behind quiet (tail-same x y (xs ++ more) (ys ++ Cut s n a ∷ behind) same) in
    record { behind = p.behind; is = ap (λ z. z ∷ xs) (head-same x y (xs ++ more) (ys ++ Cut s n a ∷ behind) same) ∙ ap (λ es. y ∷ es) p.is }

-- on these tracks volume v holds the one cut of number k of volume u
pub record Held (w : World) (v k u : ℕ) (On : ℕ → Type 0) : Type 0 where
  pub session : ℕ
  pub place : CutAt w.events session k u
  pub only : (s : ℕ) (other : CutAt w.events s k u) → other.before ≡ place.before
  pub tracks : (t : ℕ) → t < (table w v).volume.tracks → On t → w.contents v t ≡ image (histories w.events).write (lists place.before u t)

-- on each track, and on those that aren't out of sync
abbrev pub every : ℕ → Type 0
every t = Unit {0}

abbrev pub sent_of : Tracks → ℕ → Type 0
sent_of out t = contains out t ≡ false

pub sealed-held : (w : World) (v u : ℕ) → SealedCut w v u → Held w v (fields (table w) v).seal u every
sealed-held w v u h = record { session = h.session; place = h.place; only = h.only; tracks = λ t lt on. h.tracks t lt }

pub held-sealed : (w : World) (v u : ℕ) → Held w v (fields (table w) v).seal u every → SealedCut w v u
held-sealed w v u h = record { session = h.session; place = h.place; only = h.only; tracks = λ t lt. h.tracks t lt tt }

-- a primary that records and has sent all
pub sent-held : (w : World) (u v : ℕ) → SentCut w u v → ((t : ℕ) → contains (fields (table w) u).out_of_sync t ≡ false) → Held w v (fields (table w) u).attempt u every
sent-held w u v h all = record { session = h.session; place = h.place; only = h.only; tracks = λ t lt on. h.tracks t lt (all t) }

-- from w to x no track changes, no volume is cut, and no host write is issued; of the fields of volumes seals alone may change
pub record Stays (w x : World) : Type 0 where
  pub sizes : (v : ℕ) → (table x v).volume.tracks ≡ (table w v).volume.tracks
  pub fields : (v : ℕ) → fields (table x) v ≡ sealed (fields (table x) v).seal (fields (table w) v)
  pub contents : (v t : ℕ) → x.contents v t ≡ w.contents v t
  pub more : List Event
  pub quiet : NoCuts more
  pub events : x.events ≡ w.events ++ more
  pub writes : (histories x.events).write ≡ (histories w.events).write

module _ (w x : World) (st : Stays w x) where
  pub held-stays : (v k u : ℕ) (On : ℕ → Type 0) → Held w v k u On → Held x v k u On
  held-stays v k u On h = record {
    session = h.session;
    place = record {
      before = h.place.before;
      behind = h.place.behind ++ st.more;
      is = st.events ∙ ap (λ es. es ++ st.more) h.place.is ∙ append_assoc h.place.before (Cut h.session k u ∷ h.place.behind) st.more;
    };
    only = λ z other.
        let p = before-of z k u w.events st.more other.before other.behind st.quiet (sym st.events ∙ other.is) in
        h.only z (record { before = other.before; behind = p.behind; is = p.is });
    tracks = λ t lt on.
        st.contents v t ∙ h.tracks t (subst (λ n. t < n) (st.sizes v) lt) on
        ∙ ap (λ (g : ℕ → Write). image g (lists h.place.before u t)) (sym st.writes);
  }

  -- what was sent stays sent
  sent-as : (u v : ℕ) → SentCut w u v → Held x v (fields (table w) u).attempt u (sent_of (fields (table w) u).out_of_sync)
  sent-as u v h = held-stays v _ u _ (record { session = h.session; place = h.place; only = h.only; tracks = h.tracks })

  as-sent : (u v : ℕ) → Held x v (fields (table x) u).attempt u (sent_of (fields (table x) u).out_of_sync) → SentCut x u v
  as-sent u v h = record { session = h.session; place = h.place; only = h.only; tracks = h.tracks }

  sent-stays : SentHold w → SentHold x
  sent-stays old u v rec sends takes =
      as-sent u v
      (subst (λ (f : Fields). Held x v f.attempt u (sent_of f.out_of_sync)) (sym (st.fields u))
      (sent-as u v (old u v
      (sym (ap (λ (f : Fields). f.recording) (st.fields u)) ∙ rec)
      (sym (ap secondary_of (st.fields u)) ∙ sends)
      (sym (ap primary_of (st.fields v)) ∙ takes))))

  blank-stays : Blank (table w) → Blank (table x)
  blank-stays old v t is = st.contents v t ∙ old v t (sym (ap (λ (f : Fields). contains f.blank t) (st.fields v)) ∙ is)

  -- and so do the cuts, with what is sealed
  pub cuts-stay : SealsHold x → CutsHold w → CutsHold x
  cuts-stay seals old = record { sent = sent-stays old.sent; sealed = seals; blank = blank-stays old.blank }

  -- where seals stay too
  pub seals-stay : ((v : ℕ) → fields (table x) v ≡ fields (table w) v) → SealsHold w → SealsHold x
  seals-stay same old v u of nz =
      let f : fields (table x) v ≡ fields (table w) v = same v in
      let seal : (fields (table x) v).seal ≡ (fields (table w) v).seal = ap (λ (f : Fields). f.seal) f in
      held-sealed x v u (subst (λ k. Held x v k u every) (sym seal)
      (held-stays v _ u every (sealed-held w v u (old v u (sym (ap primary_of f) ∙ of) (λ z. nz (seal ∙ z))))))
