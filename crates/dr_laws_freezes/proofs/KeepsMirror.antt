-- A freeze window lasts as its secondary stores a host write, and as that lands.
use Rattle.std.proofs.Common.{ℕ, ◌≡◌, ◌≢◌, ◌<◌, ◌+◌, inl, inr, refl, ap, sym, ◌∙◌, subst, Bool, true, false, cond, not, ◌&&◌, ◌||◌, nat_eq, List, [], ◌∷◌, ◌++◌, Option, Some, None}
use Rattle.std.proofs.lemmas.List.Folds.{list_any-append}
use Rattle.std.proofs.lemmas.Bool.{ne_eqb, eq-eqb, or_right}
use Rattle.std.proofs.lemmas.Bool.Decides.{eqb_tells}
use Rattle.std.specs.List.{list_any}
use Rattle.std.specs.FinSet.{contains}
use Rattle.dr_logic.specs.Tables.{at}
use Rattle.dr_model.specs.declared.event.Event.{Event}
use Rattle.dr_model.specs.declared.event.Event.TheVariants.{Ack}
use Rattle.dr_model.specs.Histories.{Write, histories}
use Rattle.dr_model.specs.Contents.{with_write}
use Rattle.dr_model.specs.Control.{Pending, Volume, Fuse, World}
use Rattle.dr_model.specs.Pairs.{is_metro}
use Rattle.dr_model.specs.Moves.{Move, Mirror, LandBoth, tracks_after, keeps_staged, moved_keeping}
use Rattle.dr_model.specs.Entries.{fields_at}
use Rattle.dr_model.specs.Table.{table, waiting}
use Rattle.dr_model.specs.Laws.{SoundRows}
use Rattle.dr_laws_freezes.specs.Windows.{is_ack, unacked_on}
use Rattle.dr_facts.proofs.Tables.{IsOrNot, at_part}
use Rattle.dr_laws_sound.proofs.Turns.{next_of, carried_in}
use Rattle.dr_laws_sound.proofs.RowsAfter.{calm, changed, bytes-after}
use Rattle.dr_laws_freezes.proofs.WindowTracks.{unacked, unacked-is, Stays, Holds, Window}
use Rattle.dr_laws_freezes.proofs.WindowMoves.{MayCome, OnlyOut, Unacked}
use Rattle.dr_laws_freezes.proofs.KeepsWindow.{two}
use Rattle.dr_logic.proofs.Choices.{chosen}
use Rattle.dr_logic.proofs.Truth.{false_true}
use Rattle.dr_logic.proofs.Tables.{at_same, at_other}

-- of a write on another track nothing is unacknowledged here
pub off-track : (events : List Event) (t n : ℕ) → ((histories events).write n).track ≢ t → unacked events t (Some n) ≡ []
off-track events t n ne = ap (λ b. cond (b && not (list_any (is_ack n) events)) (n ∷ []) []) (ne_eqb _ t ne)

pub on-track : (events : List Event) (t n : ℕ) → ((histories events).write n).track ≡ t → list_any (is_ack n) events ≡ false → unacked events t (Some n) ≡ n ∷ []
on-track events t n is none = λ i. cond (eq-eqb _ t is i && not (none i)) (n ∷ []) []

none-left : (b : Bool) (n : ℕ) → cond (b && false) (n ∷ []) [] ≡ []
none-left true n = refl
none-left false n = refl

pub acked : (events : List Event) (t n : ℕ) → list_any (is_ack n) events ≡ true → unacked events t (Some n) ≡ []
acked events t n is = ap (λ b. cond (nat_eq ((histories events).write n).track t && not b) (n ∷ []) []) is ∙ none-left (nat_eq ((histories events).write n).track t) n

-- the write that waited is acknowledged
pub acked-here : (ev ev' : List Event) (t n : ℕ) (g : Option ℕ) (ws ws' : List ℕ) → unacked_on ev t ws g ≡ n ∷ [] → list_any (is_ack n) ev' ≡ true → ws' ≡ [] → unacked_on ev' t ws' g ≡ ws'
acked-here ev ev' t n None ws ws' h ack gone = refl
acked-here ev ev' t n (Some k) ws ws' h ack gone = ap (unacked ev' t) (unacked-is ev t n (Some k) h) ∙ acked ev' t n ack ∙ sym gone

pub just-acked : (events : List Event) (n : ℕ) → list_any (is_ack n) (events ++ Ack n ∷ []) ≡ true
just-acked events n = list_any-append (is_ack n) events (Ack n ∷ []) ∙ or_right (list_any (is_ack n) events) _ (ap (λ b. b || false) (eq-eqb n n refl))

pub still-unacked : (events es : List Event) (n : ℕ) → list_any (is_ack n) events ≡ false → list_any (is_ack n) es ≡ false → list_any (is_ack n) (events ++ es) ≡ false
still-unacked events es n a b = list_any-append (is_ack n) events es ∙ (λ i. a i || b i)

is-some : (P : ℕ → Type 0) (n k : ℕ) → Some n ≡ Some k → P n → P k
is-some P n k is p = let e : n ≡ k = cc in subst P e p

module _ (v q : ℕ) (w : World) (rows : SoundRows (table w)) (st : Stays v q w) (tag g : Option ℕ) (win : Window v q tag g w) where
  abbrev write : ℕ → Write
  write = (histories w.events).write

  -- q stores the write
  module _ (t n : ℕ) (may : MayCome w (Mirror q t v n)) (only : OnlyOut w v t) (unacked : Unacked w n) (on : ℕ → Bool) (fuse : ℕ → Option Fuse) (es : List Event) (same : (histories (w.events ++ es)).write ≡ write) (quiet : list_any (is_ack n) es ≡ false) where
    abbrev m : Move
    m = Mirror q t v n

    abbrev W : World
    W = changed w m on fuse w.control.pending (w.events ++ es)

    abbrev row : Volume
    row = moved_keeping (keeps_staged m) (w.control.volume q) (next_of w m) (carried_in w m)

    apart : v ≢ q
    apart = two v q w rows st

    here_v : W.control.volume v ≡ w.control.volume v
    here_v = at_other w.control.volume q row v apart

    bytes_v : (j : ℕ) → W.contents v j ≡ w.contents v j
    bytes_v j = ap (λ (c : ℕ → List ℕ). c j) (at_other w.contents q (tracks_after (next_of w m) (carried_in w m) (w.contents q)) v apart)

    bytes_q : (j : ℕ) → W.contents q j ≡ at (w.contents q) t (with_write write (w.contents v t) n) j
    bytes_q j = ap (λ (c : ℕ → List ℕ). c j) (at_same w.contents q (tracks_after (next_of w m) (carried_in w m) (w.contents q))) ∙ bytes-after w rows.images.blank m j

    track : ((histories W.events).write n).track ≡ t
    track = ap (λ (f : ℕ → Write). (f n).track) same ∙ may.ready.track

    stores : (j : ℕ) → j < (w.control.volume v).tracks → IsOrNot j t → Holds v q W (Some n) j
    stores j lt (inl is) = inr (record {
      n = n;
      stored = on-track W.events j n (track ∙ sym is.1) (still-unacked w.events es n unacked quiet);
      none = calm w v may.ready.from_idle j;
      bytes = bytes_q j ∙ ap (at (w.contents q) t (with_write write (w.contents v t) n)) is.1 ∙ at_same (w.contents q) t _ ∙ (λ i. with_write write (w.contents v (sym is.1 i)) n)
          ∙ sym (λ i. with_write (same i) (bytes_v j i) n);
      out = ap (λ (y : Volume). contains y.fields.out_of_sync j) here_v ∙ ap (contains (fields_at w.control v).out_of_sync) is.1 ∙ may.allowed.out;
    })
    stores j lt (inr not) = by (win.tracks j lt)
      where
        by : Holds v q w g j → Holds v q W (Some n) j
        by (inr a) = false_true (only j not.1) a.out
        by (inl s) = inl (record {
          settled = off-track W.events j n (λ e. not.1 (sym e ∙ track)) ∙ sym (calm w v may.ready.from_idle j);
          bytes = bytes_q j ∙ at_other (w.contents q) t _ j not.1 ∙ s.bytes ∙ sym (bytes_v j);
        })

    pub window-mirrored : (next : Option ℕ) → ((k : ℕ) → next ≡ Some k → Some n ≡ Some k) → Window v q next (Some n) W
    window-mirrored next is = record {
      metro = ap (λ (y : Volume). is_metro y.fields.primary) here_v ∙ win.metro;
      low = λ k e. is-some (λ k. k < w.control.issued + 1) n k e may.ready.number;
      on_v = λ k e. is-some (λ k. ((histories W.events).write k).volume ≡ v) n k e (ap (λ (f : ℕ → Write). (f n).volume) same ∙ may.ready.volume);
      tag_low = λ k e. is-some (λ k. k < w.control.issued + 1) n k (is k e) may.ready.number;
      goes_on = λ k e on. is k e;
      tracks = λ j lt. stores j (subst (λ (y : Volume). j < y.tracks) here_v lt) (eqb_tells j t);
    }

  -- it lands on v
  module _ (t n : ℕ) (may : MayCome w (LandBoth n v t)) (last : g ≡ Some n) (on : ℕ → Bool) (fuse : ℕ → Option Fuse) (ps : List Pending) (es : List Event) (same : (histories (w.events ++ es)).write ≡ write)
      (here : unacked (w.events ++ es) t (Some n) ≡ waiting ps v t) (else : (j : ℕ) → j ≢ t → waiting ps v j ≡ waiting w.control.pending v j) where
    abbrev m2 : Move
    m2 = LandBoth n v t

    abbrev W2 : World
    W2 = changed w m2 on fuse ps (w.events ++ es)

    abbrev row2 : Volume
    row2 = moved_keeping (keeps_staged m2) (w.control.volume v) (next_of w m2) (carried_in w m2)

    apart2 : q ≢ v
    apart2 e = two v q w rows st (sym e)

    to-q : may.allowed.to ≡ q
    to-q = sym (chosen _ _ may.allowed.to may.allowed.sends).1 ∙ (chosen _ _ q st.to).1

    bytes2_q : (j : ℕ) → W2.contents q j ≡ w.contents q j
    bytes2_q j = ap (λ (c : ℕ → List ℕ). c j) (at_other w.contents v (tracks_after (next_of w m2) (carried_in w m2) (w.contents v)) q apart2)

    bytes2_v : (j : ℕ) → W2.contents v j ≡ at (w.contents v) t (with_write write (w.contents v t) n) j
    bytes2_v j = ap (λ (c : ℕ → List ℕ). c j) (at_same w.contents v (tracks_after (next_of w m2) (carried_in w m2) (w.contents v))) ∙ bytes-after w rows.images.blank m2 j

    track2 : ((histories W2.events).write n).track ≡ t
    track2 = ap (λ (f : ℕ → Write). (f n).track) same ∙ may.ready.track

    lands : (j : ℕ) → j < (w.control.volume v).tracks → IsOrNot j t → Holds v q W2 (Some n) j
    lands j lt (inl is) = inl (record {
      settled = subst (λ j. unacked (w.events ++ es) j (Some n) ≡ waiting ps v j) (sym is.1) here;
      bytes = bytes2_q j ∙ ap (w.contents q) is.1 ∙ ap (λ u. w.contents u t) (sym to-q) ∙ may.allowed.equal ∙ sym (at_same (w.contents v) t _)
          ∙ ap (at (w.contents v) t (with_write write (w.contents v t) n)) (sym is.1) ∙ sym (bytes2_v j);
    })
    lands j lt (inr not) = by (win.tracks j lt)
      where
        none : unacked w.events j g ≡ []
        none = ap (unacked w.events j) last ∙ off-track w.events j n (λ e. not.1 (sym e ∙ may.ready.track))

        held : unacked_on w.events j (waiting w.control.pending v j) g ≡ []
        held = ap (unacked_on w.events j (waiting w.control.pending v j)) last ∙ off-track w.events j n (λ e. not.1 (sym e ∙ may.ready.track))

        by : Holds v q w g j → Holds v q W2 (Some n) j
        by (inr a) = let no : [] ≡ a.n ∷ [] = sym none ∙ a.stored in absurd cc
        by (inl s) = inl (record {
          settled = off-track W2.events j n (λ e. not.1 (sym e ∙ track2)) ∙ sym held ∙ s.settled ∙ sym (else j not.1);
          bytes = bytes2_q j ∙ s.bytes ∙ sym (at_other (w.contents v) t _ j not.1) ∙ sym (bytes2_v j);
        })

    pub window-landed : Window v q None (Some n) W2
    window-landed = record {
      metro = at_part (λ (y : Volume). is_metro y.fields.primary) w.control.volume v row2 refl v ∙ win.metro;
      low = λ k e. win.low k (last ∙ e);
      on_v = λ k e. ap (λ (f : ℕ → Write). (f k).volume) same ∙ win.on_v k (last ∙ e);
      tag_low = λ k e. absurd cc;
      goes_on = λ k e on. absurd cc;
      tracks = λ j lt. lands j (subst (λ s. j < s) (at_part (λ (y : Volume). y.tracks) w.control.volume v row2 refl v) lt) (eqb_tells j t);
    }
