-- A freeze window lasts from each moment of a run to the next.
use Rattle.std.proofs.Common.{ℕ, ◌≡◌, ◌≢◌, ◌<◌, ◌+◌, ◌⊎◌, inl, inr, refl, ap, sym, ◌∙◌, subst, true, false, cond, not, ◌||◌, List, [], ◌∷◌, ◌++◌, filter, Option, Some, None}
use Rattle.std.proofs.Math.Bool.{or-false}
use Rattle.std.proofs.lemmas.List.{append-nil}
use Rattle.std.proofs.lemmas.Bool.{ne_eqb, eq-eqb, eqb-false}
use Rattle.std.proofs.lemmas.Bool.Decides.{eqb_tells}
use Rattle.std.specs.List.{list_any, fold}
use Rattle.std.specs.FinSet.{contains}
use Rattle.dr_model.specs.declared.event.Event.{Event}
use Rattle.dr_model.specs.declared.event.Event.TheVariants.{Ack, Mirrored, Stopped}
use Rattle.dr_model.specs.Histories.{Write, histories, lists}
use Rattle.dr_model.specs.Contents.{with_write}
use Rattle.dr_model.specs.Control.{Pending, Volume, Fuse, World, is_volume}
use Rattle.dr_model.specs.Pairs.{is_metro}
use Rattle.dr_model.specs.Moves.{Move, Mirror, LandBoth, Restore, target, told, told_in_stop, landed, settled, settled_in_stop, marked, is_other}
use Rattle.dr_model.specs.Carry.{acknowledged}
use Rattle.dr_model.specs.Sessions.{Session}
use Rattle.dr_model.specs.Entries.{fields_at}
use Rattle.dr_model.specs.Table.{table, waiting}
use Rattle.dr_model.specs.Groups.{In}
use Rattle.dr_model.specs.Laws.{SoundRows}
use Rattle.dr_laws_freezes.specs.Windows.{later_mirrored, is_ack, is_back_to}
use Rattle.dr_facts.proofs.Tables.{IsOrNot, at_part}
use Rattle.dr_laws_sound.proofs.Turns.{done, done_in_stop}
use Rattle.dr_laws_sound.proofs.RowsAfter.{calm}
use Rattle.dr_laws_sound.proofs.Due.{waiting-marked_else, waiting-marked_here}
use Rattle.dr_facts.proofs.Issued.{told-writes, with-told}
use Rattle.dr_laws_sound.proofs.Unissued.{stopped-writes}
use Rattle.dr_laws_freezes.proofs.InSync.{is_synced, Clean, LeavesOneOut}
use Rattle.dr_laws_freezes.proofs.WindowTracks.{unacked, still-waits, Stays, Holds, Window, Quiet, window-quiet, unacked-told}
use Rattle.dr_laws_freezes.proofs.WindowMoves.{MayCome, WindowMay, tag_after}
use Rattle.dr_facts.proofs.Emits.{Of, of-all}
use Rattle.dr_laws_freezes.proofs.KeepsWindow.{takes_none, TakesNone, locked, Deaf, deaf, Else, deaf-told, deaf-stop, waits-done, waits-stop, quiet-changed}
use Rattle.dr_laws_freezes.proofs.KeepsLists.{ListGrows, NoRestore, acked-none, grows-apart, apart-told, apart-stop}
use Rattle.dr_laws_freezes.proofs.KeepsMirror.{off-track, on-track, acked, acked-here, just-acked, still-unacked, window-mirrored, window-landed}
use Rattle.dr_logic.proofs.Choices.{chosen}

-- a landed write that is acknowledged: no other waits on its track
pub record Acknowledges (w : World) (n : ℕ) : Type 0 where
  pub number : n < w.control.issued + 1
  pub volume : ℕ
  pub track : ℕ
  pub on_volume : ((histories w.events).write n).volume ≡ volume
  pub on_track : ((histories w.events).write n).track ≡ track
  pub here : waiting w.control.pending volume track ≡ n ∷ []
  pub gone : waiting (filter (is_other n) w.control.pending) volume track ≡ []
  pub else : (u q : ℕ) → (u ≢ volume) ⊎ (q ≢ track) → waiting (filter (is_other n) w.control.pending) u q ≡ waiting w.control.pending u q

-- from w to u no volume changes that is defined, and no write lands, nor goes that is on a volume with a track out of sync; these events are told
pub record Unchanged (w u : World) (es : List Event) : Type 0 where
  pub events : u.events ≡ w.events ++ es
  pub takes : TakesNone es
  pub writes : (n : ℕ) → n < w.control.issued + 1 → (histories u.events).write n ≡ (histories w.events).write n
  pub issued : (n : ℕ) → n < w.control.issued + 1 → n < u.control.issued + 1
  pub waits : (v t : ℕ) → waiting u.control.pending v t ≡ waiting w.control.pending v t
  pub there : (v : ℕ) → is_volume w.control v ≡ true → is_volume u.control v ≡ true
  pub volume : (v : ℕ) → is_volume w.control v ≡ true → u.control.volume v ≡ w.control.volume v
  pub holds : (v : ℕ) → (fields_at u.control v).flash_hold ≡ true → (fields_at w.control v).flash_hold ≡ true
  pub contents : (v : ℕ) → is_volume w.control v ≡ true → (t : ℕ) → u.contents v t ≡ w.contents v t
  pub lists : (v : ℕ) → is_volume w.control v ≡ true → (t : ℕ) → lists u.events v t ≡ lists w.events v t
  pub synced : (v : ℕ) → is_synced (fields_at u.control v) ≡ true → u.control.volume v ≡ w.control.volume v
  pub pends : (p : Pending) → In p w.control.pending → (Clean (fields_at w.control p.volume) → ⊥) → In p u.control.pending
  pub acked : (n : ℕ) → list_any (is_ack n) w.events ≡ true → (histories u.events).write n ≡ (histories w.events).write n

-- a world with other sessions
abbrev pub others : World → List Session → World
others w ss = record w { control = record w.control { sessions = ss } }

-- one moment of a run and the next, each with the write that goes on
pub data Step (tag : Option ℕ) (w : World) : Option ℕ → World → Type 0 where
  Does : (m : Move) → (f : Option Fuse) → MayCome w m → WindowMay tag w m → LeavesOneOut w m → Step tag w (tag_after m tag) (done w m f)
  Stops : (m : Move) → (f : Option Fuse) → MayCome w m → WindowMay tag w m → LeavesOneOut w m → Step tag w None (done_in_stop w m f)
  Acks : (n : ℕ) → Acknowledges w n → Step tag w None (acknowledged w n)
  Others : (next : Option ℕ) → (u : World) → (ss : List Session) → Step tag w next u → Step tag w next (others u ss)
  Passes : (next : Option ℕ) → (u : World) → (es : List Event) → Unchanged w u es → ((n : ℕ) → next ≡ Some n → tag ≡ Some n) → Step tag w next u

module _ (v q : ℕ) where
  abbrev pub Backless : List Event → Type 0
  Backless es = (list_any (is_back_to v) es ≡ false) × (list_any (is_back_to q) es ≡ false)

  -- the window at the next moment, with what was told since
  pub record Next (g next : Option ℕ) (w u : World) : Type 0 where
    pub told : List Event
    pub events : u.events ≡ w.events ++ told
    pub size : (u.control.volume v).tracks ≡ (w.control.volume v).tracks
    pub window : Window v q next (fold (later_mirrored q) g told) u
    pub grows : ListGrows v w u told

  module _ (w : World) (rows : SoundRows (table w)) (st : Stays v q w) (tag g : Option ℕ) (win : Window v q tag g w) where
    abbrev write : ℕ → Write
    write = (histories w.events).write

    -- a move of the pair's own write, or any other
    abbrev Other : Move → Type 0
    Other m = Else v q w rows st m

    data Kind : Move → Type 0 where
      Own : (t n : ℕ) → Kind (Mirror q t v n)
      Lands : (t n : ℕ) → Kind (LandBoth n v t)
      Plain : (m : Move) → Other m → ((n : ℕ) → tag_after m tag ≡ Some n → tag ≡ Some n) → Kind m
      Mirrors : (x t u n : ℕ) → x ≢ q → u ≢ v → Kind (Mirror x t u n)

    kind-mirror : (x t u n : ℕ) → MayCome w (Mirror x t u n) → IsOrNot x q → Kind (Mirror x t u n)
    kind-mirror x t u n may (inl is) =
        let same : u ≡ v = sym (chosen _ _ u may.allowed.takes).1 ∙ ap (λ j. (fields_at w.control j).secondary_partner) is.1 ∙ (chosen _ _ v st.takes).1 in
        subst (λ x. Kind (Mirror x t u n)) (sym is.1) (subst (λ u. Kind (Mirror q t u n)) (sym same) (Own t n))
    kind-mirror x t u n may (inr not) =
        Mirrors x t u n not.1 (λ e. not.1 (sym (chosen _ _ x may.allowed.sends).1 ∙ ap (λ j. (fields_at w.control j).primary_partner) e ∙ (chosen _ _ q st.to).1))

    kind-landed : (n x t : ℕ) → IsOrNot x v → Kind (LandBoth n x t)
    kind-landed n x t (inl is) = subst (λ x. Kind (LandBoth n x t)) (sym is.1) (Lands t n)
    kind-landed n x t (inr not) = Plain (LandBoth n x t) not.1 (λ n h. absurd cc)

    -- no restore stores a track of the pair
    abbrev Off : Move → Type 0
    Off (Restore x t u) = (x ≢ v) × (x ≢ q)
    Off m = Unit {0}

    off-done : (m : Move) (u : Volume) → Backless (told m u) → Off m
    off-done (Restore x t y) u back = (eqb-false x v (sym (or-false _) ∙ back.0), eqb-false x q (sym (or-false _) ∙ back.1))
    off-done m u back = tt

    off-stop : (m : Move) (u : Volume) (s k : ℕ) → Backless (told_in_stop m u ++ Stopped s k ∷ []) → Off m
    off-stop (Restore x t y) u s k back = (eqb-false x v (sym (or-false _) ∙ back.0), eqb-false x q (sym (or-false _) ∙ back.1))
    off-stop m u s k back = tt

    kind : (m : Move) → MayCome w m → Off m → Kind m
    kind (Mirror x t u n) may off = kind-mirror x t u n may (eqb_tells x q)
    kind (LandBoth n x t) may off = kind-landed n x t (eqb_tells x v)
    kind (Restore x t u) may off = Plain (Restore x t u) off (λ n h. h)
    kind m may off = Plain m tt (λ n h. h)

    -- a write that goes on elsewhere
    retagged : (W : World) (g : Option ℕ) (n : ℕ) → n < W.control.issued + 1 → (((histories W.events).write n).volume ≢ v) → Window v q None g W → Window v q (Some n) g W
    retagged W g n lt ne x = record {
      metro = x.metro;
      low = x.low;
      on_v = x.on_v;
      tag_low = λ k is. let e : n ≡ k = cc in subst (λ k. k < W.control.issued + 1) e lt;
      goes_on = λ k is on. let e : n ≡ k = cc in absurd (ne (ap (λ k. ((histories W.events).write k).volume) e ∙ on));
      tracks = x.tracks;
    }

    q-mirrored : (n : ℕ) → later_mirrored q g (Mirrored n q) ≡ Some n
    q-mirrored n = ap (λ b. cond b (Some n) g) (eq-eqb q q refl)

    done-quiet : (m : Move) (f : Option Fuse) (next : Option ℕ) → MayCome w m → WindowMay tag w m → Other m → Stays v q (done w m f) → ((n : ℕ) → next ≡ Some n → tag ≡ Some n) → Window v q next (fold (later_mirrored q) g (told m (w.control.volume (target m)))) (done w m f)
    done-quiet m f next may fair else st2 less =
        let u : Volume = w.control.volume (target m) in
        window-quiet v q w (done w m f) (told m u) tag g win
        (quiet-changed v q w rows st tag g win m may fair else (done w m f).control.on (done w m f).control.fuse (settled m w.control.pending) (told m u) (with-told w (told m u) (told-writes (histories w.events) m u)) (deaf-told v q w rows st tag g win m may fair else u)
        (waits-done v q w rows st tag g win m may) st2) next less

    does-by : (m : Move) (f : Option Fuse) → MayCome w m → WindowMay tag w m → Stays v q (done w m f) → Kind m → Window v q (tag_after m tag) (fold (later_mirrored q) g (told m (w.control.volume (target m)))) (done w m f)
    does-by _ f may fair st2 (Own t n) =
        let m : Move = Mirror q t v n in
        subst (λ g. Window v q (Some n) g (done w m f)) (sym (q-mirrored n))
        (window-mirrored v q w rows st tag g win t n may (fair.0 (locked v q w rows st tag g win)) fair.1 (done w m f).control.on (done w m f).control.fuse (Mirrored n q ∷ []) (with-told w (Mirrored n q ∷ []) refl) refl (Some n) (λ k h. h))
    does-by _ f may fair st2 (Lands t n) =
        let m : Move = LandBoth n v t in
        let last : g ≡ Some n = win.goes_on n fair.0 may.ready.volume in
        subst (λ g. Window v q None g (done w m f)) (sym last)
        (window-landed v q w rows st tag g win t n may last (done w m f).control.on (done w m f).control.fuse (settled m w.control.pending) (Ack n ∷ []) (with-told w (Ack n ∷ []) refl)
        (acked (w.events ++ Ack n ∷ []) t n (just-acked w.events n) ∙ sym (waits-done v q w rows st tag g win m may t ∙ calm w v may.ready.idle t)) (λ j ne. waits-done v q w rows st tag g win m may j))
    does-by _ f may fair st2 (Plain m else less) = done-quiet m f (tag_after m tag) may fair else st2 less
    does-by _ f may fair st2 (Mirrors x t u n ne other) =
        let m : Move = Mirror x t u n in
        let same : (histories (w.events ++ Mirrored n x ∷ [])).write ≡ write = with-told w (Mirrored n x ∷ []) refl in
        retagged (done w m f) _ n may.ready.number (λ e. other (sym may.ready.volume ∙ ap (λ (g : ℕ → Write). (g n).volume) (sym same) ∙ e)) (done-quiet m f None may fair ne st2 (λ k h. absurd cc))

    -- and where the server stopped
    abbrev stop-told : Move → List Event
    stop-told m = told_in_stop m (w.control.volume (target m)) ++ Stopped (w.control.volume (target m)).server (landed m) ∷ []

    stop-quiet : (m : Move) (f : Option Fuse) → MayCome w m → WindowMay tag w m → Other m → Stays v q (done_in_stop w m f) → Window v q None (fold (later_mirrored q) g (stop-told m)) (done_in_stop w m f)
    stop-quiet m f may fair else st2 =
        let u : Volume = w.control.volume (target m) in
        window-quiet v q w (done_in_stop w m f) (stop-told m) tag g win
        (quiet-changed v q w rows st tag g win m may fair else (done_in_stop w m f).control.on (done_in_stop w m f).control.fuse (settled_in_stop m w.control.pending) (stop-told m) (stopped-writes w m) (deaf-stop v q w rows st tag g win m may fair else u u.server (landed m))
        (waits-stop v q w rows st tag g win m may fair else) st2) None (λ k h. absurd cc)

    stops-by : (m : Move) (f : Option Fuse) → MayCome w m → WindowMay tag w m → Stays v q (done_in_stop w m f) → Kind m → Window v q None (fold (later_mirrored q) g (stop-told m)) (done_in_stop w m f)
    stops-by _ f may fair st2 (Own t n) =
        let m : Move = Mirror q t v n in
        subst (λ g. Window v q None g (done_in_stop w m f)) (sym (q-mirrored n))
        (window-mirrored v q w rows st tag g win t n may (fair.0 (locked v q w rows st tag g win)) fair.1 (done_in_stop w m f).control.on (done_in_stop w m f).control.fuse (stop-told m) (stopped-writes w m) refl None (λ k h. absurd cc))
    stops-by _ f may fair st2 (Lands t n) =
        let m : Move = LandBoth n v t in
        let last : g ≡ Some n = win.goes_on n fair.0 may.ready.volume in
        let ps : List Pending = w.control.pending in
        let here : waiting (marked n ps) v t ≡ n ∷ [] = waiting-marked_here n v t ps may.ready.coming (calm w v may.ready.idle t) ∙ may.ready.one in
        let stored : unacked (w.events ++ stop-told m) t (Some n) ≡ n ∷ [] = on-track (w.events ++ stop-told m) t n (ap (λ (g : ℕ → Write). (g n).track) (stopped-writes w m) ∙ may.ready.track) (still-unacked w.events (stop-told m) n fair.1 refl) in
        subst (λ g. Window v q None g (done_in_stop w m f)) (sym last)
        (window-landed v q w rows st tag g win t n may last (done_in_stop w m f).control.on (done_in_stop w m f).control.fuse (settled_in_stop m ps) (stop-told m) (stopped-writes w m)
        (stored ∙ sym here) (λ j ne. waiting-marked_else n v t v j ps (inr ne) may.ready.coming))
    stops-by _ f may fair st2 (Plain m else less) = stop-quiet m f may fair else st2
    stops-by _ f may fair st2 (Mirrors x t u n ne other) = stop-quiet (Mirror x t u n) f may fair ne st2

    -- a landed write is acknowledged
    module _ (n : ℕ) (a : Acknowledges w n) where
      abbrev after : World
      after = acknowledged w n

      same : (histories after.events).write ≡ write
      same = with-told w (Ack n ∷ []) refl

      unacked-else : (j : ℕ) (g : Option ℕ) → (g ≡ Some n → (write n).track ≢ j) → unacked after.events j g ≡ unacked w.events j g
      unacked-else j None ne = refl
      unacked-else j (Some k) ne = elim (eqb_tells n k) [
        | inl is ↦
            let no : ((write k).track ≢ j) = λ e. ne (ap (λ k. Some k) (sym is.1)) (ap (λ k. (write k).track) is.1 ∙ e) in
            off-track after.events j k (λ e. no (ap (λ (g : ℕ → Write). (g k).track) (sym same) ∙ e)) ∙ sym (off-track w.events j k no)
        | inr not ↦ unacked-told w.events (Ack n ∷ []) j (Some k) (λ i is. ap (λ (g : ℕ → Write). g i) same) (λ i is. let e : k ≡ i = cc in ap (λ b. b || false) (ne_eqb n i (λ d. not.1 (d ∙ sym e))))
      ]

      holds-else : (j : ℕ) → (g ≡ Some n → (write n).track ≢ j) → (v ≢ a.volume) ⊎ (j ≢ a.track) → Holds v q w g j → Holds v q after g j
      holds-else j ne apart (inl s) = inl (record { settled = still-waits w.events after.events j g (waiting w.control.pending v j) (waiting after.control.pending v j) (unacked-else j g ne) (a.else v j apart) s.settled; bytes = s.bytes })
      holds-else j ne apart (inr x) = inr (record { n = x.n; stored = unacked-else j g ne ∙ x.stored; none = a.else v j apart ∙ x.none; bytes = x.bytes ∙ sym (λ i. with_write (same i) (w.contents v j) x.n); out = x.out })

      holds-here : (j : ℕ) → a.volume ≡ v → j ≡ a.track → Holds v q w g j → Holds v q after g j
      holds-here j on is (inl s) =
          let here : waiting w.control.pending v j ≡ n ∷ [] = (λ i. waiting w.control.pending (sym on i) (is i)) ∙ a.here in
          let gone : waiting after.control.pending v j ≡ [] = (λ i. waiting after.control.pending (sym on i) (is i)) ∙ a.gone in
          inl (record { settled = acked-here w.events after.events j n g (waiting w.control.pending v j) (waiting after.control.pending v j) (s.settled ∙ here) (just-acked w.events n) gone; bytes = s.bytes })
      holds-here j on is (inr x) =
          let no : [] ≡ n ∷ [] = sym x.none ∙ (λ i. waiting w.control.pending (sym on i) (is i)) ∙ a.here in
          absurd cc

      holds-acked : (j : ℕ) → IsOrNot a.volume v → IsOrNot j a.track → Holds v q w g j → Holds v q after g j
      holds-acked j (inl on) (inl is) h = holds-here j on.1 is.1 h
      holds-acked j (inl on) (inr not) h = holds-else j (λ e d. not.1 (sym d ∙ a.on_track)) (inr not.1) h
      holds-acked j (inr ne) told h = holds-else j (λ e. absurd (ne.1 (sym a.on_volume ∙ win.on_v n e))) (inl (λ e. ne.1 (sym e))) h

      window-acked : Window v q None g after
      window-acked = record {
        metro = win.metro;
        low = win.low;
        on_v = λ k is. ap (λ (g : ℕ → Write). (g k).volume) same ∙ win.on_v k is;
        tag_low = λ k is. absurd cc;
        goes_on = λ k is on. absurd cc;
        tracks = λ j lt. holds-acked j (eqb_tells a.volume v) (eqb_tells j a.track) (win.tracks j lt);
      }

    -- nothing of the pair changes
    unchanged : (u : World) (es : List Event) → Unchanged w u es → Quiet v q w u es g
    unchanged u es x =
        let there_v : is_volume w.control v ≡ true = (rows.parts.primary q v st.takes).defined in
        let there_q : is_volume w.control q ≡ true = (rows.parts.secondary v q st.to).defined in
        let hears : Deaf q g es = of-all (Of takes_none) (Deaf q g) (deaf takes_none refl refl q g) es x.takes in
        record {
          events = x.events;
          writes = x.writes;
          issued = x.issued;
          last = hears.last;
          acks = hears.acks;
          waits = x.waits v;
          size = ap (λ (y : Volume). y.tracks) (x.volume v there_v);
          primary = λ t lt. x.contents v there_v t;
          secondary = λ t lt. x.contents q there_q t;
          out = λ t h. ap (λ (y : Volume). contains y.fields.out_of_sync t) (x.volume v there_v) ∙ h;
          metro = λ h. ap (λ (y : Volume). is_metro y.fields.primary) (x.volume v there_v) ∙ h;
        }

    no-restore : (m : Move) → Off m → NoRestore v m
    no-restore (Restore x t u) off = λ e. off.0 (sym e)
    no-restore m off = tt

    unchanged-list : (u : World) (es : List Event) → Unchanged w u es → ListGrows v w u es
    unchanged-list u es x = record {
      list = λ t. x.lists v (rows.parts.primary q v st.takes).defined t ∙ sym (append-nil (lists w.events v t)) ∙ ap (λ ns. lists w.events v t ++ ns) (sym (acked-none (histories u.events).write v t es x.takes));
      writes = x.acked;
    }

    -- which sessions there are is nothing to the window
    same-holds : (u : World) (ss : List Session) (g : Option ℕ) (t : ℕ) → Holds v q u g t → Holds v q (others u ss) g t
    same-holds u ss g t (inl s) = inl (record { settled = s.settled; bytes = s.bytes })
    same-holds u ss g t (inr a) = inr (record { n = a.n; stored = a.stored; none = a.none; bytes = a.bytes; out = a.out })

    same-next : (next : Option ℕ) (u : World) (ss : List Session) → Next g next w u → Next g next w (others u ss)
    same-next next u ss x = record {
      told = x.told;
      events = x.events;
      size = x.size;
      window = let y = x.window in record { metro = y.metro; low = y.low; on_v = y.on_v; tag_low = y.tag_low; goes_on = y.goes_on; tracks = λ t lt. same-holds u ss (fold (later_mirrored q) g x.told) t (y.tracks t lt) };
      grows = let y = x.grows in record { list = y.list; writes = y.writes };
    }

    pub window-step : (next : Option ℕ) (u : World) → Step tag w next u → Stays v q u → ((es : List Event) → u.events ≡ w.events ++ es → Backless es) → Next g next w u
    window-step _ _ (Does m f may fair asks) st2 back =
        let u : Volume = w.control.volume (target m) in
        let off : Off m = off-done m u (back _ refl) in
        record {
          told = told m u;
          events = refl;
          size = at_part (λ (y : Volume). y.tracks) w.control.volume (target m) _ refl v;
          window = does-by m f may fair st2 (kind m may off);
          grows = grows-apart v w (done w m f) (told m u) refl (apart-told v q w rows st win.metro m may.allowed (no-restore m off) u);
        }
    window-step _ _ (Stops m f may fair asks) st2 back =
        let u : Volume = w.control.volume (target m) in
        let off : Off m = off-stop m u u.server (landed m) (back _ refl) in
        record {
          told = stop-told m;
          events = refl;
          size = at_part (λ (y : Volume). y.tracks) w.control.volume (target m) _ refl v;
          window = stops-by m f may fair st2 (kind m may off);
          grows = grows-apart v w (done_in_stop w m f) (stop-told m) refl (apart-stop v q w rows st win.metro m may.allowed (no-restore m off) u u.server (landed m));
        }
    window-step _ _ (Acks n a) st2 back =
        record { told = Ack n ∷ []; events = refl; size = refl; window = window-acked n a; grows = grows-apart v w (acknowledged w n) (Ack n ∷ []) refl (tt, tt) }
    window-step _ _ (Others next u ss step) st2 back = same-next next u ss (window-step next u step (record { to = st2.to; takes = st2.takes; firm = st2.firm }) back)
    window-step _ _ (Passes next u es x less) st2 back =
        record { told = es; events = x.events; size = (unchanged u es x).size; window = window-quiet v q w u es tag g win (unchanged u es x) next less; grows = unchanged-list u es x }
