-- A freeze window lasts in each kind of move that does what windows ask, whether or not its server stops in it.
use Rattle.std.proofs.Common.{ℕ, ◌≡◌, ◌≢◌, ◌⊎◌, inl, inr, refl, ap, sym, ◌∙◌, Bool, true, false, cond, ◌||◌, List, [], ◌∷◌, ◌++◌, Option, Some, rules}
use Rattle.std.proofs.lemmas.Bool.{and_from, ne_eqb, or_left}
use Rattle.std.proofs.lemmas.Bool.Decides.{nat_tests}
use Rattle.std.specs.List.{list_any, fold}
use Rattle.std.specs.Cmp.{unsigned_tied, nat_cmp_total}
use Rattle.std.specs.FinSet.{contains, contains-union, remove, members}
use Rattle.dr_facts.proofs.Parts.{metro-second}
use Rattle.dr_model.specs.declared.event.Event.{Event}
use Rattle.dr_model.specs.declared.event.Event.TheVariants.{Ack, Mirrored, Stopped}
use Rattle.dr_model.specs.Histories.{Write, histories}
use Rattle.dr_model.specs.Layout.{Tracks, Fields, is_part}
use Rattle.dr_model.specs.Control.{Pending, Volume, Fuse, World}
use Rattle.dr_model.specs.Pairs.{secondary_of, is_metro, is_engaged, voided}
use Rattle.dr_model.specs.Moves.{Move, Land, Overwrite, Keep, Withdraw, Fetch, Reverse, Restore, Release, Store, Strike, Suspend, MakePrimary, DropPrimary, TakeOver, FallBack, Yield, Unsync, Mirror, LandBoth, Lift, Restart, Finish, target, told, told_in_stop, settled, settled_in_stop, tracks_after, keeps_staged, moved_keeping}
use Rattle.dr_model.specs.Entries.{fields_at}
use Rattle.dr_model.specs.Table.{Table, table, waiting}
use Rattle.dr_model.specs.Rows.{next_bytes}
use Rattle.dr_model.specs.Laws.{SoundRows, source}
use Rattle.dr_model.specs.Allowed.{Allowed}
use Rattle.dr_laws_freezes.specs.Windows.{later_mirrored, is_ack}
use Rattle.dr_facts.proofs.Tables.{at_cases, at_part}
use Rattle.dr_facts.proofs.Emits.{Tag, Acks, Mirrors, Sets, Of, AllOf, Lists, any-lists, each-told, told-onto}
use Rattle.dr_laws_sound.proofs.Turns.{next_of, carried_in}
use Rattle.dr_laws_sound.proofs.RowsAfter.{changed, bytes-after}
use Rattle.dr_laws_sound.proofs.Due.{waiting-settled, waiting-marked_else, none_landed}
use Rattle.dr_laws_sound.proofs.KeepsParts.{unrelated, unrelated_primary}
use Rattle.dr_laws_freezes.proofs.WindowTracks.{Stays, Window, Quiet}
use Rattle.dr_laws_freezes.proofs.WindowMoves.{MayCome, is_locked, WindowMay}
use Rattle.dr_laws_sound.proofs.FitsDrain.{still-out}
use Rattle.dr_logic.proofs.Choices.{chosen}
use Rattle.dr_logic.proofs.Sets.{still_in}
use Rattle.dr_logic.proofs.Truth.{false_true}
use Rattle.dr_logic.proofs.Options.{none_some}
use Rattle.dr_logic.proofs.Tables.{at_same}

still-removed : (s : Tracks) (t q : ℕ) → q ≢ t → contains s q ≡ true → contains (remove s t) q ≡ true
still-removed s t q ne h = grind (members, rules, nat_tests, unsigned_tied)

-- kinds of events that neither acknowledge a write nor mirror one
abbrev stores_none : Tag → Bool
stores_none Acks = false
stores_none Mirrors = false
stores_none k = true

-- nor make a volume the target of another one
abbrev pub takes_none : Tag → Bool
takes_none Acks = false
takes_none Mirrors = false
takes_none Sets = false
takes_none k = true

abbrev pub TakesNone : List Event → Type 0
TakesNone es = AllOf (Of takes_none) es

-- events after which the last write that q stored is the same, and by which it isn't acknowledged
pub record Deaf (q : ℕ) (g : Option ℕ) (es : List Event) : Type 0 where
  pub last : fold (later_mirrored q) g es ≡ g
  pub acks : (n : ℕ) → g ≡ Some n → list_any (is_ack n) es ≡ false

module _ (p : Tag → Bool) (acks : p Acks ≡ false) where
  no-ack : (n : ℕ) (e : Event) → Of p e → is_ack n e ≡ false
  no-ack n (Ack k) h = false_true acks h
  no-ack n e h = refl

  pub unacked : (n : ℕ) → Lists (Of p) (λ es. list_any (is_ack n) es ≡ false)
  unacked n = any-lists (Of p) (is_ack n) (no-ack n)

  same-last : p Mirrors ≡ false → (q : ℕ) (g : Option ℕ) (e : Event) → Of p e → later_mirrored q g e ≡ g
  same-last mirrors q g (Mirrored n u) h = false_true mirrors h
  same-last mirrors q g e h = refl

  pub deaf : p Mirrors ≡ false → (q : ℕ) (g : Option ℕ) → Lists (Of p) (Deaf q g)
  deaf mirrors q g = record {
    none = record { last = refl; acks = λ n is. refl };
    more = λ e es h behind. record {
      last = ap (λ g. fold (later_mirrored q) g es) (same-last mirrors q g e h) ∙ behind.last;
      acks = λ n is. (unacked n).more e es h (behind.acks n is);
    };
  }

module _ (v q : ℕ) (w : World) (rows : SoundRows (table w)) (st : Stays v q w) where
  abbrev write : ℕ → Write
  write = (histories w.events).write

  abbrev T : Table
  T = table w

  pub first : is_part (fields_at w.control v).primary ≡ true
  first = (chosen _ _ q st.to).0

  second : is_part (fields_at w.control q).secondary ≡ true
  second = (chosen _ _ v st.takes).0

  pub two : v ≢ q
  two e = (rows.parts.secondary v q st.to).apart (ap (λ j. (w.control.volume j).server) e)

  abbrev Ours : ℕ → Type 0
  Ours x = (x ≡ v) ⊎ (x ≡ q)

  -- neither is a target
  pub no-target : {P : Type 0} (x s : ℕ) → Ours x → source (T x) ≡ Some s → P
  no-target x s (inl e) h = none_some (unrelated_primary T rows.parts v st.to) (ap (λ j. source (T j)) (sym e) ∙ h)
  no-target x s (inr e) h = none_some (unrelated T rows.parts q st.takes) (ap (λ j. source (T j)) (sym e) ∙ h)

  -- a move that doesn't come to the pair's own write, and no restore onto it
  abbrev pub Else : Move → Type 0
  Else (Mirror x t u n) = x ≢ q
  Else (LandBoth n x t) = x ≢ v
  Else (Restore x t u) = (x ≢ v) × (x ≢ q)
  Else m = Unit {0}

  module _ (tag g : Option ℕ) (win : Window v q tag g w) where
    pub locked : is_locked (fields_at w.control v) ≡ true
    locked = and_from _ _ win.metro st.firm

    not-locked : {P : Type 0} (x : ℕ) → x ≡ v → is_locked (fields_at w.control x) ≡ false → P
    not-locked x e h = false_true (ap (λ j. is_locked (fields_at w.control j)) (sym e) ∙ h) locked

    is-second : {P : Type 0} (x : ℕ) → x ≡ v → is_part (fields_at w.control x).secondary ≡ true → P
    is-second x e h = false_true (metro-second (T v) (rows.parts.fit v) win.metro) (ap (λ j. is_part (fields_at w.control j).secondary) (sym e) ∙ h)

    -- its own tracks stay
    own-bytes : (m : Move) → Allowed write T m → WindowMay tag w m → Else m → Ours (target m) → (t : ℕ) → next_bytes write m T t ≡ w.contents (target m) t
    own-bytes (Land n x t) a fair else (inl e) j = not-locked x e fair
    own-bytes (Land n x t) a fair else (inr e) j = false_true a.first (ap (λ j. is_part (fields_at w.control j).secondary) e ∙ second)
    own-bytes (Overwrite n x t) a fair else ours j = no-target x a.from ours a.related
    own-bytes (Keep x t) a fair else ours j = no-target x a.from ours a.related
    own-bytes (Withdraw x) a fair else ours j = no-target x a.from ours a.related
    own-bytes (Fetch x t) a fair else ours j = no-target x a.from ours a.related
    own-bytes (Reverse x left) a fair else ours j = no-target x a.resync.from ours a.resync.related
    own-bytes (Release x t) a fair else ours j = no-target x a.from ours a.related
    own-bytes (Restore x t u) a fair else (inl e) j = absurd (else.0 e)
    own-bytes (Restore x t u) a fair else (inr e) j = absurd (else.1 e)
    own-bytes (Store x t u last) a fair else (inl e) j = is-second x e (chosen _ _ u a.takes).0
    own-bytes (Store x t u last) a fair else (inr e) j =
        let same : u ≡ v = sym (chosen _ _ u a.takes).1 ∙ ap (λ j. (fields_at w.control j).secondary_partner) e ∙ (chosen _ _ v st.takes).1 in
        at_cases (λ j c. c ≡ w.contents x j) (w.contents x) t (w.contents u t) (fair (ap (λ j. is_locked (fields_at w.control j)) same ∙ locked)) (λ j ne. refl) j
    own-bytes (Mirror x t u n) a fair else (inl e) j = is-second x e (chosen _ _ u a.takes).0
    own-bytes (Mirror x t u n) a fair else (inr e) j = absurd (else e)
    own-bytes (LandBoth n x t) a fair else (inl e) j = absurd (else e)
    own-bytes (LandBoth n x t) a fair else (inr e) j = false_true a.land.first (ap (λ j. is_part (fields_at w.control j).secondary) e ∙ second)
    own-bytes m a fair else ours j = refl

    -- no track of the primary comes in sync
    own-out : (m : Move) → Allowed write T m → WindowMay tag w m → Else m → secondary_of (next_of w m) ≡ Some q → target m ≡ v → (t : ℕ) → contains (fields_at w.control (target m)).out_of_sync t ≡ true → contains (next_of w m).out_of_sync t ≡ true
    own-out (Land n x t) a fair else to e j h = not-locked x e fair
    own-out (Restore x t u) a fair else to e j h = absurd (else.0 e)
    own-out (Store x t u last) a fair else to e j h = is-second x e (chosen _ _ u a.takes).0
    own-out (Mirror x t u n) a fair else to e j h = is-second x e (chosen _ _ u a.takes).0
    own-out (Strike x t last) a fair else to e j h =
        still-removed _ t j (λ is. false_true (fair (ap (λ j. is_locked (fields_at w.control j)) e ∙ locked)) (ap (contains (fields_at w.control x).out_of_sync) (sym is) ∙ h)) h
    own-out (Suspend x busy) a fair else to e j h = let f : Fields = fields_at w.control x in still-out (is_engaged f) f.out_of_sync f.change_recording j h
    own-out (Lift x) a fair else to e j h = let f : Fields = fields_at w.control x in still-out f.coordination f.out_of_sync f.change_recording j h
    own-out (Restart x) a fair else to e j h = let f : Fields = fields_at w.control x in still-out (is_engaged f) f.out_of_sync f.change_recording j h
    own-out (Finish x n) a fair else to e j h = let f : Fields = fields_at w.control x in still-out (is_engaged f) f.out_of_sync f.change_recording j h
    own-out (MakePrimary x u kind state full) a fair else to e j h = false_true fair (ap (λ j. is_part (fields_at w.control j).primary) e ∙ first)
    own-out (DropPrimary x) a fair else to e j h = none_some refl to
    own-out (TakeOver x) a fair else to e j h = is-second x e a.second
    own-out (FallBack x more state) a fair else to e j h = let f : Fields = fields_at w.control x in
        contains-union nat_cmp_total (voided f).out_of_sync more j ∙ or_left _ _ (still-out (is_engaged f) f.out_of_sync f.change_recording j h)
    own-out (Yield x u kind state) a fair else to e j h = none_some refl to
    own-out (Unsync x t) a fair else to e j h = still_in _ t j h
    own-out (LandBoth n x t) a fair else to e j h = absurd (else e)
    own-out m a fair else to e j h = h

    own-metro : (m : Move) → Allowed write T m → WindowMay tag w m → secondary_of (next_of w m) ≡ Some q → target m ≡ v → is_metro (fields_at w.control (target m)).primary ≡ true → is_metro (next_of w m).primary ≡ true
    own-metro (MakePrimary x u kind state full) a fair to e h = false_true fair (ap (λ j. is_part (fields_at w.control j).primary) e ∙ first)
    own-metro (DropPrimary x) a fair to e h = none_some refl to
    own-metro (TakeOver x) a fair to e h = is-second x e a.second
    own-metro (Yield x u kind state) a fair to e h = none_some refl to
    own-metro m a fair to e h = h

    -- a write that lands lands elsewhere
    other-ack : (n x : ℕ) → (write n).volume ≡ x → x ≢ v → Deaf q g (Ack n ∷ [])
    other-ack n x on ne = record {
      last = refl;
      acks = λ k is. ap (λ b. b || false) (ne_eqb n k (λ e. ne (sym on ∙ ap (λ j. (write j).volume) e ∙ win.on_v k is)));
    }

    not-overwritten : (n x t : ℕ) → Allowed write T (Overwrite n x t) → x ≢ v
    not-overwritten n x t a e = no-target x a.from (inl e) a.related

    pub deaf-told : (m : Move) → MayCome w m → WindowMay tag w m → Else m → (u : Volume) → Deaf q g (told m u)
    deaf-told (Land n x t) may fair else u = other-ack n x may.ready.volume (λ e. not-locked x e fair)
    deaf-told (Overwrite n x t) may fair else u = other-ack n x may.ready.volume (not-overwritten n x t may.allowed)
    deaf-told (LandBoth n x t) may fair else u = other-ack n x may.ready.volume else
    deaf-told (Mirror x t y n) may fair else u = record { last = ap (λ b. cond b (Some n) g) (ne_eqb x q else); acks = λ k is. refl }
    deaf-told m may fair else u = each-told stores_none (Deaf q g) (deaf stores_none refl refl q g) m u refl

    pub deaf-stop : (m : Move) → MayCome w m → WindowMay tag w m → Else m → (u : Volume) (s k : ℕ) → Deaf q g (told_in_stop m u ++ Stopped s k ∷ [])
    deaf-stop (Land n x t) may fair else u s k = record { last = refl; acks = λ k is. refl }
    deaf-stop (Overwrite n x t) may fair else u s k = record { last = refl; acks = λ k is. refl }
    deaf-stop (LandBoth n x t) may fair else u s k = record { last = refl; acks = λ k is. refl }
    deaf-stop (Mirror x t y n) may fair else u s k = record { last = ap (λ b. cond b (Some n) g) (ne_eqb x q else); acks = λ k is. refl }
    deaf-stop m may fair else u s k = told-onto stores_none (Deaf q g) (deaf stores_none refl refl q g) m u (Stopped s k ∷ []) refl (record { last = refl; acks = λ k is. refl })

    pub waits-done : (m : Move) → MayCome w m → (t : ℕ) → waiting (settled m w.control.pending) v t ≡ waiting w.control.pending v t
    waits-done (Land n x y) may t = waiting-settled n v t w.control.pending (none_landed x y _ may.ready.coming)
    waits-done (Overwrite n x y) may t = waiting-settled n v t w.control.pending (none_landed x y _ may.ready.coming)
    waits-done (LandBoth n x y) may t = waiting-settled n v t w.control.pending (none_landed x y _ may.ready.coming)
    waits-done m may t = refl

    pub waits-stop : (m : Move) → MayCome w m → WindowMay tag w m → Else m → (t : ℕ) → waiting (settled_in_stop m w.control.pending) v t ≡ waiting w.control.pending v t
    waits-stop (Land n x y) may fair else t = waiting-marked_else n x y v t w.control.pending (inl (λ e. not-locked x (sym e) fair)) may.ready.coming
    waits-stop (Overwrite n x y) may fair else t = waiting-marked_else n x y v t w.control.pending (inl (λ e. not-overwritten n x y may.allowed (sym e))) may.ready.coming
    waits-stop (LandBoth n x y) may fair else t = waiting-marked_else n x y v t w.control.pending (inl (λ e. else (sym e))) may.ready.coming
    waits-stop m may fair else t = refl

    -- the world after it
    module _ (m : Move) (may : MayCome w m) (fair : WindowMay tag w m) (else : Else m) (on : ℕ → Bool) (fuse : ℕ → Option Fuse) (ps : List Pending) (es : List Event) where
      abbrev W : World
      W = changed w m on fuse ps (w.events ++ es)

      abbrev x1 : ℕ
      x1 = target m

      abbrev row1 : Volume
      row1 = moved_keeping (keeps_staged m) (w.control.volume x1) (next_of w m) (carried_in w m)

      ours-stay : (u : ℕ) → Ours u → (t : ℕ) → W.contents u t ≡ w.contents u t
      ours-stay u ours t =
          at_cases (λ u (c : ℕ → List ℕ). Ours u → c t ≡ w.contents u t) w.contents x1 (tracks_after (next_of w m) (carried_in w m) (w.contents x1))
          (λ ours. bytes-after w rows.images.blank m t ∙ own-bytes m may.allowed fair else ours t) (λ u ne ours. refl) u ours

      pub quiet-changed : (histories (w.events ++ es)).write ≡ write → Deaf q g es → ((t : ℕ) → waiting ps v t ≡ waiting w.control.pending v t) → Stays v q W → Quiet v q w W es g
      quiet-changed same deaf waits st2 = record {
        events = refl;
        writes = λ n lt. ap (λ (f : ℕ → Write). f n) same;
        issued = λ n lt. lt;
        last = deaf.last;
        acks = deaf.acks;
        waits = waits;
        size = at_part (λ (y : Volume). y.tracks) w.control.volume x1 row1 refl v;
        primary = λ t lt. ours-stay v (inl refl) t;
        secondary = λ t lt. ours-stay q (inr refl) t;
        out = λ t h. at_cases (λ j (y : Volume). j ≡ v → contains (fields_at w.control j).out_of_sync t ≡ true → contains y.fields.out_of_sync t ≡ true) w.control.volume x1 row1
            (λ e h. own-out m may.allowed fair else (to e) e t h) (λ j ne e h. h) v refl h;
        metro = λ h. at_cases (λ j (y : Volume). j ≡ v → is_metro (fields_at w.control j).primary ≡ true → is_metro y.fields.primary ≡ true) w.control.volume x1 row1
            (λ e h. own-metro m may.allowed fair (to e) e h) (λ j ne e h. h) v refl h;
      }
        where
          to : x1 ≡ v → secondary_of (next_of w m) ≡ Some q
          to e = ap (λ (y : Volume). secondary_of y.fields) (sym (at_same w.control.volume x1 row1)) ∙ ap (λ j. secondary_of (fields_at W.control j)) e ∙ st2.to
