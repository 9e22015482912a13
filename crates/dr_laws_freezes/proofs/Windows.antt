-- Freeze windows of a run whose moments come one after the other as they may: their law.
use Rattle.std.proofs.Common.{ℕ, ◌≡◌, ◌<◌, ◌+◌, inl, refl, ap, sym, ◌∙◌, subst, true, ◌||◌, List, [], ◌∷◌, ◌++◌, append_assoc, drop, length, Option, Some, None}
use Rattle.std.specs.Prelude.{All}
use Rattle.std.proofs.Math.Seq.{drop-append_seam}
use Rattle.std.proofs.lemmas.List.{append-nil}
use Rattle.std.proofs.lemmas.List.Folds.{list_any-append}
use Rattle.std.proofs.lemmas.List.Sums.{fold-append}
use Rattle.std.proofs.lemmas.List.Elements.{All-head, All-tail}
use Rattle.std.proofs.lemmas.Bool.{and_parts, or_parts}
use Rattle.std.specs.List.{list_any, fold}
use Rattle.std.specs.FinSet.{contains}
use Rattle.dr_model.specs.declared.event.Event.{Event}
use Rattle.dr_model.specs.declared.event.Event.TheVariants.{Ack, Stopped}
use Rattle.dr_model.specs.Layout.{Fields}
use Rattle.dr_model.specs.Relations.{is_bare}
use Rattle.dr_model.specs.Contents.{image}
use Rattle.dr_model.specs.Histories.{histories, lists}
use Rattle.dr_model.specs.Control.{World, nothing}
use Rattle.dr_model.specs.Pairs.{is_metro, is_full_duplex}
use Rattle.dr_model.specs.Moves.{target, told, told_in_stop, landed}
use Rattle.dr_model.specs.Entries.{fields_at}
use Rattle.dr_model.specs.WriteEntries.{partner_of}
use Rattle.dr_model.specs.Table.{table, waiting}
use Rattle.dr_model.specs.Laws.{SoundRows, Lone, servers}
use Rattle.dr_model.specs.Runs.{Task}
use Rattle.dr_laws_freezes.specs.Moments.{moments_from, moments}
use Rattle.dr_laws_freezes.specs.Windows.{LssPairs, is_in, IsSoundWindow, is_clean, stays_with, is_back_to, later_mirrored, last_mirrored, unacked_on, last_of, told_since, frozen, acked_on, HoldsWhatCame, FreezeCut}
use Rattle.dr_laws_freezes.proofs.WindowTracks.{Stays, stays, Window, window-image}
use Rattle.dr_facts.proofs.Parts.{two-partners}
use Rattle.dr_laws_freezes.proofs.InSync.{Fresh}
use Rattle.dr_laws_freezes.proofs.KeepsLists.{ListGrows, grows-none, grows-more}
use Rattle.dr_laws_freezes.proofs.KeepsStep.{Step, Does, Stops, Acks, Others, Passes, Backless, Next, window-step}
use Rattle.dr_facts.proofs.Tracks.{bare-has}
use Rattle.dr_logic.proofs.Truth.{false_true}

-- what holds of each moment: the write that goes on is on a track that is out of sync, no pending write is acknowledged, and no two have landed
-- on one server
pub record Good (tag : Option ℕ) (w : World) : Type 0 where
  pub rows : SoundRows (table w)
  pub low : (n : ℕ) → tag ≡ Some n → n < w.control.issued + 1
  pub out : (n : ℕ) → tag ≡ Some n → contains (fields_at w.control ((histories w.events).write n).volume).out_of_sync ((histories w.events).write n).track ≡ true
  pub fresh : Fresh w
  pub lone : Lone (servers w.control) w.control.pending

-- moments that come one after the other
pub data Chain : Option ℕ → World → List World → Type 0 where
  Last : (tag : Option ℕ) → (w : World) → Good tag w → Chain tag w []
  Then : (tag next : Option ℕ) → (w u : World) → (us : List World) → Good tag w → Step tag w next u → Chain next u us → Chain tag w (u ∷ us)

pub good : (tag : Option ℕ) (w : World) (us : List World) → Chain tag w us → Good tag w
good _ _ _ (Last tag w g) = g
good _ _ _ (Then tag next w u us g s c) = g

-- those from a later one on
pub record From (w : World) (us : List World) : Type 0 where
  pub tag : Option ℕ
  pub chain : Chain tag w us

pub chain-from : (before : List World) (tag : Option ℕ) (w : World) (us : List World) (first : World) (rest : List World) → Chain tag w us → w ∷ us ≡ before ++ first ∷ rest → From first rest
chain-from [] tag w us first rest c e =
    let here : w ≡ first = cc in let there : us ≡ rest = cc in
    record { tag = tag; chain = subst (Chain tag first) there (subst (λ w. Chain tag w us) here c) }
chain-from (b ∷ []) _ _ _ first rest (Last tag w g) e = absurd cc
chain-from (b ∷ c ∷ bs) _ _ _ first rest (Last tag w g) e = absurd cc
chain-from (b ∷ bs) _ _ _ first rest (Then tag next w u us g s c) e = let there : u ∷ us ≡ bs ++ first ∷ rest = cc in chain-from bs next u us first rest c there

-- what was told since another moment
pub record Grows (w u : World) : Type 0 where
  pub told : List Event
  pub events : u.events ≡ w.events ++ told

pub step-grows : (tag : Option ℕ) (w : World) (next : Option ℕ) (u : World) → Step tag w next u → Grows w u
step-grows tag w _ _ (Does m f may fair asks) = record { told = told m (w.control.volume (target m)); events = refl }
step-grows tag w _ _ (Stops m f may fair asks) = record { told = told_in_stop m (w.control.volume (target m)) ++ Stopped (w.control.volume (target m)).server (landed m) ∷ []; events = refl }
step-grows tag w _ _ (Acks n a) = record { told = Ack n ∷ []; events = refl }
step-grows tag w _ _ (Others next u ss step) = let g = step-grows tag w next u step in record { told = g.told; events = g.events }
step-grows tag w _ _ (Passes next u es x less) = record { told = es; events = x.events }

pub told-on : (w u x : World) (es fs : List Event) → u.events ≡ w.events ++ es → x.events ≡ u.events ++ fs → x.events ≡ w.events ++ (es ++ fs)
told-on w u x es fs is more = more ∙ ap (λ es. es ++ fs) is ∙ append_assoc w.events es fs

grows-on : (w u x : World) (es : List Event) → u.events ≡ w.events ++ es → Grows u x → Grows w x
grows-on w u x es is g = record { told = es ++ g.told; events = told-on w u x es g.told is g.events }

pub chain-grows : (later after : List World) (tag : Option ℕ) (w : World) (us : List World) → us ≡ later ++ after → Chain tag w us → Grows w (last_of w later)
chain-grows [] after tag w us e c = record { told = []; events = sym (append-nil w.events) }
chain-grows (x ∷ xs) after _ _ _ e (Last tag w g) = absurd cc
chain-grows (x ∷ xs) after _ _ _ e (Then tag next w u us g s c) =
    let here : u ≡ x = cc in let there : us ≡ xs ++ after = cc in
    let one = step-grows tag w next u s in
    subst (λ x. Grows w (last_of x xs)) here (grows-on w u (last_of u xs) one.told one.events (chain-grows xs after next u us there c))

module _ (v q : ℕ) where
  abbrev Bare : World → World → Type 0
  Bare w x = (es : List Event) → x.events ≡ w.events ++ es → Backless v q es

  bare-parts : (es fs : List Event) → Backless v q (es ++ fs) → Backless v q es × Backless v q fs
  bare-parts es fs b =
      let x = or_parts (list_any (is_back_to v) es) _ (sym (list_any-append (is_back_to v) es fs) ∙ b.0) in
      let y = or_parts (list_any (is_back_to q) es) _ (sym (list_any-append (is_back_to q) es fs) ∙ b.1) in
      ((x.0, y.0), (x.1, y.1))

  -- the window where it ends
  pub record Ends (g : Option ℕ) (w x : World) : Type 0 where
    told : List Event
    events : x.events ≡ w.events ++ told
    tag : Option ℕ
    pub rows : SoundRows (table x)
    pub stay : Stays v q x
    pub size : (x.control.volume v).tracks ≡ (w.control.volume v).tracks
    window : Window v q tag (fold (later_mirrored q) g told) x
    grows : ListGrows v w x told

  abbrev Stay : World → Type 0
  Stay w = stays_with q v w.control ≡ true

  bare-first : (w u x : World) (es : List Event) → u.events ≡ w.events ++ es → Grows u x → Bare w x → Backless v q es
  bare-first w u x es is rest bare = (bare-parts es rest.told (bare (es ++ rest.told) (told-on w u x es rest.told is rest.events))).0

  bare-rest : (w u x : World) (es : List Event) → u.events ≡ w.events ++ es → Bare w x → Bare u x
  bare-rest w u x es is bare fs rest = (bare-parts es fs (bare (es ++ fs) (told-on w u x es fs is rest))).1

  joined : (g next : Option ℕ) (w u x : World) (one : Next v q g next w u) → Ends (fold (later_mirrored q) g one.told) u x → Ends g w x
  joined g next w u x one end = record {
    told = one.told ++ end.told;
    events = told-on w u x one.told end.told one.events end.events;
    tag = end.tag;
    rows = end.rows;
    stay = end.stay;
    size = end.size ∙ one.size;
    window = subst (λ g. Window v q end.tag g x) (sym (fold-append (later_mirrored q) g one.told end.told)) end.window;
    grows = grows-more v w u x one.told end.told one.events one.grows end.grows;
  }

  carry-on : (g next : Option ℕ) (w u x : World) → Next v q g next w u → Bare w x → ((g : Option ℕ) → Window v q next g u → Bare u x → Ends g u x) → Ends g w x
  carry-on g next w u x one bare more = joined g next w u x one (more (fold (later_mirrored q) g one.told) one.window (bare-rest w u x one.told one.events bare))

  further : (tag next g : Option ℕ) (w u x : World) → Good tag w → Step tag w next u → Stay w → Stay u → Window v q tag g w → Grows u x → Bare w x → Next v q g next w u
  further tag next g w u x k s at_w at_u win rest bare = window-step v q w k.rows (stays v q w at_w) tag g win next u s (stays v q u at_u) (λ es is. bare-first w u x es is rest bare)

  lasts : (later after : List World) (tag g : Option ℕ) (w : World) (us : List World) → us ≡ later ++ after → Chain tag w us → Window v q tag g w → All Stay (w ∷ later) → Bare w (last_of w later) → Ends g w (last_of w later)
  lasts [] after tag g w us e c x all bare = record {
    told = [];
    events = sym (append-nil w.events);
    tag = tag;
    rows = (good tag w us c).rows;
    stay = stays v q w (All-head Stay w [] all);
    size = refl;
    window = x;
    grows = grows-none v w;
  }
  lasts (y ∷ ys) after _ g _ _ e (Last tag w k) x all bare = absurd cc
  lasts (y ∷ ys) after _ g _ _ e (Then tag next w u us k s c) x all bare =
      let here : u ≡ y = cc in let there : us ≡ ys ++ after = cc in
      let all2 : All Stay (u ∷ ys) = subst (λ y. All Stay (y ∷ ys)) (sym here) (All-tail Stay w (y ∷ ys) all) in
      let bare2 : Bare w (last_of u ys) = subst (λ y. Bare w (last_of y ys)) (sym here) bare in
      subst (λ y. Ends g w (last_of y ys)) here
      (carry-on g next w u (last_of u ys) (further tag next g w u (last_of u ys) k s (All-head Stay w (y ∷ ys) all) (All-head Stay u ys all2) x (chain-grows ys after next u us there c) bare2) bare2
      (λ g win bare. lasts ys after next g u us there c win all2 bare))

  -- as it begins
  begins : (tag : Option ℕ) (w : World) → Good tag w → Stays v q w → is_clean (fields_at w.control v) ≡ true → Window v q tag None w
  begins tag w k st clean =
      let f : Fields = fields_at w.control v in
      let a = and_parts (is_metro f.primary) _ clean in
      let b = and_parts (is_full_duplex f.primary_state) _ a.1 in
      let bare = and_parts (is_bare f.out_of_sync) _ b.1 in
      record {
        metro = a.0;
        low = λ n is. absurd cc;
        on_v = λ n is. absurd cc;
        tag_low = k.low;
        goes_on = λ n is on. let x = (histories w.events).write n in
            false_true (bare-has f.out_of_sync x.track bare.0) (ap (λ j. contains (fields_at w.control j).out_of_sync x.track) (sym on) ∙ k.out n is);
        tracks = λ t lt. inl (record {
          settled = refl;
          bytes = sym (k.rows.pairs v q st.to (inl st.takes) t lt (λ i. bare-has f.out_of_sync t bare.0 i || bare-has f.change_recording t bare.1 i) (two-partners (table w q) v (k.rows.parts.fit q) st.takes));
        });
      }

-- a sound window of a run whose moments are such a chain
module _ (tasks : List Task) (tag : Option ℕ) (chain : Chain tag nothing (moments_from nothing tasks)) (set : LssPairs) (before later after : List World) (first : World) (is : moments tasks ≡ before ++ (first ∷ later ++ after))
    (sound : IsSoundWindow set first later (told_since first (last_of first later))) (v : ℕ) (in_set : is_in set first.control v ≡ true) where
  abbrev q : ℕ
  q = partner_of first.control v

  abbrev last : World
  last = last_of first later

  abbrev since : List Event
  since = told_since first last

  since-told : (es : List Event) → last.events ≡ first.events ++ es → since ≡ es
  since-told es e = ap (drop (length first.events)) e ∙ drop-append_seam first.events es

  pub window-ends : Ends v q None first last
  window-ends =
      let from : From first (later ++ after) = chain-from before tag nothing (moments_from nothing tasks) first (later ++ after) chain is in
      let stay = sound.stay v in_set in
      let st : Stays v q first = stays v q first (All-head (Stay v q) first later stay) in
      let bare : Bare v q first last = λ es e. subst (Backless v q) (since-told es e) (sound.primaries v in_set, sound.secondaries v in_set) in
      lasts v q later after from.tag None first (later ++ after) refl from.chain (begins v q from.tag first (good from.tag first (later ++ after) from.chain) st (sound.clean v in_set)) stay bare

  cut : (t : ℕ) → t < (first.control.volume v).tracks → last.contents q t ≡ image (histories last.events).write (frozen last since q v t)
  cut t lt =
      let end : Ends v q None first last = window-ends in
      let size : (last.control.volume v).tracks ≡ (first.control.volume v).tracks = end.size in
      window-image v q end.tag _ last end.rows end.stay end.window t (subst (λ n. t < n) (sym size) lt)
      ∙ ap (λ es. image (histories last.events).write (lists last.events v t ++ unacked_on last.events t (waiting last.control.pending v t) (last_mirrored q es))) (sym (since-told end.told end.events))

  pub kept : (t : ℕ) → HoldsWhatCame first last v t
  kept t =
      let end : Ends v q None first last = window-ends in
      end.grows.list t ∙ ap (λ es. lists first.events v t ++ acked_on (histories last.events).write v t es) (sym (since-told end.told end.events))

-- every such run keeps the law
pub freeze-cut : (tasks : List Task) (tag : Option ℕ) → Chain tag nothing (moments_from nothing tasks) → FreezeCut tasks
freeze-cut tasks tag chain set before later after first is sound v t in_set lt =
    (cut tasks tag chain set before later after first is sound v in_set t lt, kept tasks tag chain set before later after first is sound v in_set t)
