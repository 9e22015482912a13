-- A freeze window of a pair: what the secondary holds of each track, and what leaves it so.
use Rattle.std.proofs.Common.{ℕ, ◌≡◌, ◌<◌, ◌+◌, ◌⊎◌, inl, inr, refl, ap, sym, ◌∙◌, subst, Bool, true, false, cond, not, ◌&&◌, ◌||◌, nat_eq, List, [], ◌∷◌, ◌++◌, Option, Some, None}
use Rattle.std.proofs.lemmas.List.{append-nil}
use Rattle.std.proofs.lemmas.List.Folds.{list_any-append}
use Rattle.std.proofs.lemmas.Bool.{and_parts}
use Rattle.std.specs.List.{list_any, fold}
use Rattle.std.specs.FinSet.{contains}
use Rattle.dr_model.specs.declared.event.Event.{Event}
use Rattle.dr_model.specs.Histories.{Write, histories}
use Rattle.dr_model.specs.Contents.{image, laid, with_write}
use Rattle.dr_model.specs.Layout.{Fields}
use Rattle.dr_model.specs.Control.{World}
use Rattle.dr_model.specs.Pairs.{secondary_of, primary_of, is_metro, is_full_duplex, is_suspended, is_primary_of}
use Rattle.dr_model.specs.Entries.{fields_at}
use Rattle.dr_model.specs.Table.{table, waiting}
use Rattle.dr_model.specs.Laws.{SoundRows}
use Rattle.dr_model.proofs.Images.{image-push}
use Rattle.dr_laws_freezes.specs.Windows.{stays_with, later_mirrored, is_ack, unacked_on}
use Rattle.dr_laws_sound.proofs.KeepsParts.{unrelated_primary}
use Rattle.dr_laws_sound.proofs.FitsPairs.{its-second, its-first}
use Rattle.dr_logic.proofs.Truth.{or-none}

-- Full Duplex, or Suspended and long busy
abbrev pub is_firm : Fields → Bool
is_firm f = is_full_duplex f.primary_state || (is_suspended f.primary_state && f.long_busy)

-- the write that was mirrored last, where it is one on track t that wasn't acknowledged
abbrev pub unacked : List Event → ℕ → Option ℕ → List ℕ
unacked events t g = unacked_on events t [] g

-- what isn't acknowledged, as the write says that it is
pub unacked-is : (events : List Event) (t n : ℕ) (g : Option ℕ) → unacked events t g ≡ n ∷ [] → g ≡ Some n
unacked-is events t n None h = absurd cc
unacked-is events t n (Some k) h = by (nat_eq ((histories events).write k).track t && not (list_any (is_ack k) events)) h
  where
    by : (b : Bool) → cond b (k ∷ []) [] ≡ n ∷ [] → Some k ≡ Some n
    by true h = let same : k ≡ n = cc in ap (λ j. Some j) same
    by false h = absurd cc

-- where there is one, what waits isn't looked at
pub ahead-is : (events : List Event) (t n : ℕ) (ws : List ℕ) (g : Option ℕ) → unacked events t g ≡ n ∷ [] → unacked_on events t ws g ≡ n ∷ []
ahead-is events t n ws None h = absurd cc
ahead-is events t n ws (Some k) h = h

-- what isn't acknowledged waits, at another moment too
pub still-waits : (ev ev' : List Event) (t : ℕ) (g : Option ℕ) (ws ws' : List ℕ) → unacked ev' t g ≡ unacked ev t g → ws' ≡ ws → unacked_on ev t ws g ≡ ws → unacked_on ev' t ws' g ≡ ws'
still-waits ev ev' t None ws ws' same waits h = refl
still-waits ev ev' t (Some k) ws ws' same waits h = same ∙ h ∙ sym waits

-- other events say nothing of it
pub unacked-told : (events es : List Event) (t : ℕ) (g : Option ℕ) → ((n : ℕ) → g ≡ Some n → (histories (events ++ es)).write n ≡ (histories events).write n) → ((n : ℕ) → g ≡ Some n → list_any (is_ack n) es ≡ false)
    → unacked (events ++ es) t g ≡ unacked events t g
unacked-told events es t None write acks = refl
unacked-told events es t (Some n) write acks =
    λ i. cond (nat_eq (write n refl i).track t && not ((list_any-append (is_ack n) events es ∙ or-none (list_any (is_ack n) events) _ (acks n refl)) i)) (n ∷ []) []

module _ (v q : ℕ) where
  -- as in a window v and q stand at each moment
  pub record Stays (w : World) : Type 0 where
    pub to : secondary_of (fields_at w.control v) ≡ Some q
    pub takes : primary_of (fields_at w.control q) ≡ Some v
    pub firm : is_firm (fields_at w.control v) ≡ true

  pub stays : (w : World) → stays_with q v w.control ≡ true → Stays w
  stays w h =
      let both = and_parts (is_primary_of q (fields_at w.control v)) _ h in
      let more = and_parts (is_firm (fields_at w.control v)) _ both.1 in
      record { to = its-second q (fields_at w.control v) both.0; takes = its-first v (fields_at w.control q) more.1; firm = more.0 }

  -- both contain the same, and what q stored first has landed
  pub record Same (w : World) (g : Option ℕ) (t : ℕ) : Type 0 where
    pub settled : unacked_on w.events t (waiting w.control.pending v t) g ≡ waiting w.control.pending v t
    pub bytes : w.contents q t ≡ w.contents v t

  -- or q has stored a write that hasn't landed, and the track is out of sync
  pub record Ahead (w : World) (g : Option ℕ) (t : ℕ) : Type 0 where
    pub n : ℕ
    pub stored : unacked w.events t g ≡ n ∷ []
    pub none : waiting w.control.pending v t ≡ []
    pub bytes : w.contents q t ≡ with_write (histories w.events).write (w.contents v t) n
    pub out : contains (fields_at w.control v).out_of_sync t ≡ true

  abbrev pub Holds : World → Option ℕ → ℕ → Type 0
  Holds w g t = Same w g t ⊎ Ahead w g t

  -- A window at a moment: g is the write that q stored last since it began, and the tag is the write that goes on, where
  -- its secondary has stored it.
  pub record Window (tag g : Option ℕ) (w : World) : Type 0 where
    pub metro : is_metro (fields_at w.control v).primary ≡ true
    pub low : (n : ℕ) → g ≡ Some n → n < w.control.issued + 1
    pub on_v : (n : ℕ) → g ≡ Some n → ((histories w.events).write n).volume ≡ v
    pub tag_low : (n : ℕ) → tag ≡ Some n → n < w.control.issued + 1
    pub goes_on : (n : ℕ) → tag ≡ Some n → ((histories w.events).write n).volume ≡ v → g ≡ Some n
    pub tracks : (t : ℕ) → t < (w.control.volume v).tracks → Holds w g t

  -- there q holds what its primary holds, and that write
  pub window-image : (tag g : Option ℕ) (w : World) → SoundRows (table w) → Stays w → Window tag g w → (t : ℕ) → t < (w.control.volume v).tracks
      → w.contents q t ≡ image (histories w.events).write ((histories w.events).now v t ++ unacked_on w.events t (waiting w.control.pending v t) g)
  window-image tag g w rows st x t lt = by (x.tracks t lt)
    where
      write : ℕ → Write
      write = (histories w.events).write

      now : List ℕ
      now = (histories w.events).now v t

      plain : w.contents v t ≡ image write (now ++ waiting w.control.pending v t)
      plain = rows.images.plain v (unrelated_primary (table w) rows.parts v st.to) t lt

      by : Holds w g t → w.contents q t ≡ image write (now ++ unacked_on w.events t (waiting w.control.pending v t) g)
      by (inl s) = s.bytes ∙ plain ∙ ap (λ ws. image write (now ++ ws)) (sym s.settled)
      by (inr a) =
          a.bytes ∙ ap (λ b. with_write write b a.n) (plain ∙ ap (λ ws. image write (now ++ ws)) a.none ∙ ap (image write) (append-nil now))
          ∙ sym (image-push write now a.n) ∙ ap (λ ws. image write (now ++ ws)) (sym (ahead-is w.events t a.n (waiting w.control.pending v t) g a.stored))

  -- from w to u nothing of the window changes; these events are told
  pub record Quiet (w u : World) (es : List Event) (g : Option ℕ) : Type 0 where
    pub events : u.events ≡ w.events ++ es
    pub writes : (n : ℕ) → n < w.control.issued + 1 → (histories u.events).write n ≡ (histories w.events).write n
    pub issued : (n : ℕ) → n < w.control.issued + 1 → n < u.control.issued + 1
    pub last : fold (later_mirrored q) g es ≡ g
    pub acks : (n : ℕ) → g ≡ Some n → list_any (is_ack n) es ≡ false
    pub waits : (t : ℕ) → waiting u.control.pending v t ≡ waiting w.control.pending v t
    pub size : (u.control.volume v).tracks ≡ (w.control.volume v).tracks
    pub primary : (t : ℕ) → t < (w.control.volume v).tracks → u.contents v t ≡ w.contents v t
    pub secondary : (t : ℕ) → t < (w.control.volume v).tracks → u.contents q t ≡ w.contents q t
    pub out : (t : ℕ) → contains (fields_at w.control v).out_of_sync t ≡ true → contains (fields_at u.control v).out_of_sync t ≡ true
    pub metro : is_metro (fields_at w.control v).primary ≡ true → is_metro (fields_at u.control v).primary ≡ true

  module _ (w u : World) (es : List Event) (tag g : Option ℕ) (x : Window tag g w) (y : Quiet w u es g) where
    unacked-same : (t : ℕ) → unacked u.events t g ≡ unacked w.events t g
    unacked-same t = ap (λ es. unacked es t g) y.events ∙ unacked-told w.events es t g (λ n is. ap (λ es. (histories es).write n) (sym y.events) ∙ y.writes n (x.low n is)) y.acks

    holds-quiet : (t : ℕ) → t < (w.control.volume v).tracks → Holds w g t → Holds u g t
    holds-quiet t lt (inl s) = inl (record { settled = still-waits w.events u.events t g (waiting w.control.pending v t) (waiting u.control.pending v t) (unacked-same t) (y.waits t) s.settled; bytes = y.secondary t lt ∙ s.bytes ∙ sym (y.primary t lt) })
    holds-quiet t lt (inr a) =
        let write : (histories u.events).write a.n ≡ (histories w.events).write a.n = y.writes a.n (x.low a.n (unacked-is w.events t a.n g a.stored)) in
        inr (record {
          n = a.n;
          stored = unacked-same t ∙ a.stored;
          none = y.waits t ∙ a.none;
          bytes = y.secondary t lt ∙ a.bytes ∙ sym (λ i. laid (write i).offset (write i).bytes (y.primary t lt i));
          out = y.out t a.out;
        })

    pub window-quiet : (next : Option ℕ) → ((n : ℕ) → next ≡ Some n → tag ≡ Some n) → Window next (fold (later_mirrored q) g es) u
    window-quiet next less = subst (λ g. Window next g u) (sym y.last) (record {
      metro = y.metro x.metro;
      low = λ n is. y.issued n (x.low n is);
      on_v = λ n is. ap (λ (r : Write). r.volume) (y.writes n (x.low n is)) ∙ x.on_v n is;
      tag_low = λ n is. y.issued n (x.tag_low n (less n is));
      goes_on = λ n is on. x.goes_on n (less n is) (ap (λ (r : Write). r.volume) (sym (y.writes n (x.tag_low n (less n is)))) ∙ on);
      tracks = λ t lt. let here : t < (w.control.volume v).tracks = subst (λ n. t < n) y.size lt in holds-quiet t here (x.tracks t here);
    })
