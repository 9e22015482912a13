-- What a track was is sent first where it collides with what comes to its volume, if it can be; and a host write that collides is allowed along: then it lands.
use Rattle.std.proofs.Common.{ℕ, ◌≡◌, ◌≢◌, ◌<◌, refl, ap, sym, ◌∙◌, subst, Bool, true, false, cond, not, ◌&&◌, ◌||◌, List, [], ◌∷◌, ◌++◌, append_assoc, map, filter, Option, Some, None}
use Rattle.std.specs.Prelude.{is_some}
use Rattle.std.specs.Option.{option_or}
use Rattle.std.specs.List.{list_any}
use Rattle.std.specs.FinSet.{contains}
use Rattle.std.proofs.lemmas.Bool.{and_parts, eq-eqb, not-false, and_right, false_from_ne_true}
use Rattle.std.proofs.lemmas.List.{map-append}
use Rattle.std.proofs.lemmas.Simd.{map-map}
use Rattle.dr_ids.specs.declared.refusal.Refusal.{Refusal}
use Rattle.dr_model.specs.declared.state.Part.TheVariants.{Global}
use Rattle.dr_model.specs.Layout.{Fields, is_part}
use Rattle.dr_model.specs.Pairs.{secondary_of, primary_of, is_metro, is_kind, is_last, is_secondary_of, is_cascaded, collides}
use Rattle.dr_model.specs.Views.{source_of}
use Rattle.dr_model.specs.Control.{Fuse, Pending, Volume, World}
use Rattle.dr_model.specs.Moves.{Move, Suspend, Store, Strike, target, is_write, tracks_after}
use Rattle.dr_model.specs.Carry.{Make, Pass, Do, Entry}
use Rattle.dr_model.specs.Entries.{copies_from, fields_at, is_running, is_settled, relation_state, keep_on, land_alone}
use Rattle.dr_model.specs.PairEntries.{has_path, are_linked, reach_refusal, belongs_to, send_refusal, flashed_refusal, store_on, strike_on, sends_first, where_sent, suspend_unsent, send_first}
use Rattle.dr_model.specs.WriteEntries.{partner_of, land_collided}
use Rattle.dr_model.specs.Table.{table}
use Rattle.dr_model.specs.Laws.{Sound}
use Rattle.dr_model.specs.Allowed.{Runs}
use Rattle.dr_facts.proofs.Sets.{if_true, not_removed}
use Rattle.dr_laws_cuts.proofs.Still.{plain-receives}
use Rattle.dr_laws_sound.proofs.Turns.{done, next_of, carried_in}
use Rattle.dr_laws_sound.proofs.RowsAfter.{idle}
use Rattle.dr_laws_sound.proofs.KeepsStructure.{kind_part}
use Rattle.dr_laws_sound.proofs.KeepsParts.{unrelated, unrelated_primary}
use Rattle.dr_laws_sound.proofs.KeepsSound.{Along, Then, decides}
use Rattle.dr_laws_sound.proofs.Cases.{one-passed}
use Rattle.dr_laws_sound.proofs.CopyFirst.{Still, from, copy-first}
use Rattle.dr_laws_sound.proofs.Lands.{Unrestored, unrestored, Unflashed, unflashed, waits, plain-lands, held_back, back-parts}
use Rattle.dr_laws_sound.proofs.FitsPairs.{its-first, row, runs-done, part-same}
use Rattle.dr_logic.proofs.Choices.{chosen, choose_some}
use Rattle.dr_facts.proofs.Refusals.{none-both, met}
use Rattle.dr_facts.proofs.Tables.{at_part}
use Rattle.dr_facts.proofs.Relations.{copies-from}
use Rattle.dr_facts.proofs.Parts.{global_metro}
use Rattle.dr_logic.proofs.Truth.{and-second-false, false_true}
use Rattle.dr_logic.proofs.Tables.{at_same, at_other}

-- a move that leaves who is restored onto whom
pub unrestored-done : (v : ℕ) (k : World) (m : Move) (h : Option Fuse) → source_of (next_of k m) ≡ source_of (fields_at k.control (target m)) → (next_of k m).reversing ≡ (fields_at k.control (target m)).reversing → Unrestored k v → Unrestored (done k m h) v
unrestored-done v k m h source reversing still = λ x is r. still x (sym (part-same k m h source_of source x) ∙ is) (sym (part-same k m h (λ (g : Fields). g.reversing) reversing x) ∙ r)

-- or who is revertible
pub unflashed-done : (v : ℕ) (k : World) (m : Move) (h : Option Fuse) → source_of (next_of k m) ≡ source_of (fields_at k.control (target m)) → (next_of k m).revertible ≡ (fields_at k.control (target m)).revertible → Unflashed k v → Unflashed (done k m h) v
unflashed-done v k m h source revertible calm = λ x is r. calm x (sym (part-same k m h source_of source x) ∙ is) (sym (part-same k m h (λ (g : Fields). g.revertible) revertible x) ∙ r)

-- a primary is no target
pub plain-primary : (w : World) → Sound w → (v : ℕ) → is_part (fields_at w.control v).primary ≡ true → (fields_at w.control v).related ≡ false
plain-primary w s v first = by (fields_at w.control v).related refl
  where
    by : (b : Bool) → (fields_at w.control v).related ≡ b → b ≡ false
    by true is = false_true ((s.rows.parts.fit v).no_primary is) first
    by false is = refl

-- of the targets of a volume none is so
none-among : (g f : ℕ → Bool) → ((x : ℕ) → g x ≡ true → f x ≡ true → ⊥) → (xs : List ℕ) → list_any f (filter g xs) ≡ false
none-among g f none [] = refl
none-among g f none (x ∷ xs) = by (g x) refl (f x) refl (none-among g f none xs)
  where
    by : (p : Bool) → g x ≡ p → (q : Bool) → f x ≡ q → list_any f (filter g xs) ≡ false → list_any f (cond p (x ∷ filter g xs) (filter g xs)) ≡ false
    by true is true so more = absurd (none x is so)
    by true is false so more = (λ i. so i || more i)
    by false is q so more = more

-- of the secondary of a primary that still has to send none is revertible
pub never-flashed : (w : World) → Sound w → (v u t : ℕ) → secondary_of (fields_at w.control v) ≡ Some u → primary_of (fields_at w.control u) ≡ Some v → (fields_at w.control v).recording ≡ true → contains (fields_at w.control v).out_of_sync t ≡ true → Unflashed w u
never-flashed w s v u t to takes rec out x h r = false_true (s.rows.seals.flashed v u x to takes h rec r t) out

pub never-refused : (w : World) → Sound w → (u : ℕ) → from w u ≡ None → Unflashed w u → flashed_refusal u w.control ≡ None
never-refused w s u plain none =
    ap (λ b. cond b (Some (relation_state w.control u)) None)
    (λ i. (unrelated-plain (fields_at w.control u).related (fields_at w.control u).revertible _ plain i) || none-among (λ x. copies_from u (fields_at w.control x)) (λ x. (fields_at w.control x).revertible) (λ x is r. none x (copies-from u (fields_at w.control x) is) r) w.control.volumes i)
  where
    unrelated-plain : (b c : Bool) (o : ℕ) → cond b (Some o) None ≡ None → (b && c) ≡ false
    unrelated-plain true c o h = absurd cc
    unrelated-plain false c o h = refl

-- the entries of a send, and others after them
pub sent-joined : (v u t : ℕ) (more : List Entry) (vs : List ℕ)
    → map (where_sent v u t) (map (keep_on u t) vs ++ store_on v u t ∷ strike_on v t ∷ []) ++ more ≡ map (λ x. where_sent v u t (keep_on u t x)) vs ++ where_sent v u t (store_on v u t) ∷ where_sent v u t (strike_on v t) ∷ more
sent-joined v u t more vs =
    let sent : Entry → Entry = where_sent v u t in
    ap (λ ds. ds ++ more) (map-append sent (map (keep_on u t) vs) (store_on v u t ∷ strike_on v t ∷ []) ∙ ap (λ ds. ds ++ sent (store_on v u t) ∷ sent (strike_on v t) ∷ []) (map-map sent (keep_on u t) vs))
    ∙ append_assoc (map (λ x. sent (keep_on u t x)) vs) (sent (store_on v u t) ∷ sent (strike_on v t) ∷ []) more

-- v can send what track t was to its secondary u
pub record Sends (v u t : ℕ) (k : World) : Type 0 where
  pub path : has_path v u k.control ≡ true
  pub linked : are_linked v u k.control ≡ true
  pub on_u : Runs k u
  pub belongs : belongs_to v u k.control ≡ true
  pub hits : collides (fields_at k.control v) t ≡ true
  pub to : secondary_of (fields_at k.control v) ≡ Some u

none-refused : (p r l b : Bool) (x y z q : Refusal) → p ≡ true → r ≡ true → l ≡ true → b ≡ true
    → option_or (cond (not p) (Some x) (cond (not r) (Some y) (cond (not l) (Some z) None))) (cond b None (Some q)) ≡ None
none-refused true true true true x y z q ip ir il ib = refl
none-refused true true true false x y z q ip ir il ib = absurd cc
none-refused true true false b x y z q ip ir il ib = absurd cc
none-refused true false l b x y z q ip ir il ib = absurd cc
none-refused false r l b x y z q ip ir il ib = absurd cc

pub sends-now : (v u t : ℕ) (k : World) → Sound k → Sends v u t k → sends_first v u t k.control ≡ true
sends-now v u t k s x =
    let none : send_refusal v u k.control ≡ None = none-refused (has_path v u k.control) (is_running u k.control) (are_linked v u k.control) (belongs_to v u k.control) _ _ _ _ x.path x.on_u x.linked x.belongs in
    let takes = its-first v (fields_at k.control u) x.belongs in
    let both = and_parts (fields_at k.control v).recording _ (and_parts (is_kind Global (fields_at k.control v).primary) _ x.hits).1 in
    let plain : flashed_refusal u k.control ≡ None = never-refused k s u (unrelated (table k) s.rows.parts u takes) (never-flashed k s v u t x.to takes both.0 both.1) in
    λ i. x.hits i && (not (is_some (none i)) && not (is_some (plain i)))

sends-at : (v u t : ℕ) (k : World) → send_refusal v u k.control ≡ None → collides (fields_at k.control v) t ≡ true → secondary_of (fields_at k.control v) ≡ Some u → Sends v u t k
sends-at v u t k none hits to =
    let both = none-both (reach_refusal v u k.control) _ none in
    let first = one-passed (not (has_path v u k.control)) _ _ both.0 in
    let second = one-passed (not (is_running u k.control)) _ _ first.1 in
    let third = one-passed (not (are_linked v u k.control)) _ _ second.1 in
    record {
      path = not-false (has_path v u k.control) first.0;
      linked = not-false (are_linked v u k.control) third.0;
      on_u = not-false (is_running u k.control) second.0;
      belongs = met (belongs_to v u k.control) _ both.1;
      hits = hits;
      to = to;
    }

-- the secondary of a Global Copy primary has no other part
pub second-plain : (w : World) → Sound w → (v u : ℕ) → secondary_of (fields_at w.control v) ≡ Some u → primary_of (fields_at w.control u) ≡ Some v → is_kind Global (fields_at w.control v).primary ≡ true → is_part (fields_at w.control u).primary ≡ false
second-plain w s v u to takes global =
    false_from_ne_true _ (λ first. global_metro (fields_at w.control v).primary global (ap is_metro (sym (s.rows.seals.kinds u v takes to)) ∙ ((s.rows.parts.fit u).both first (chosen _ _ v takes).0).takes))

-- a secondary that isn't cascaded has no other part
pub uncascaded-second : (f : Fields) → is_cascaded f ≡ false → is_part f.secondary ≡ true → is_part f.primary ≡ false
uncascaded-second f not second = false_from_ne_true _ (λ first. false_true (and-second-false (is_part f.primary) (is_part f.secondary) not first) second)

-- the third site isn't the first
pub third-apart : (w : World) → Sound w → (v u c : ℕ) → primary_of (fields_at w.control u) ≡ Some v → secondary_of (fields_at w.control u) ≡ Some c → c ≢ v
third-apart w s v u c takes leads e =
    let first = chosen (is_part (fields_at w.control u).primary) _ c leads in
    let second = chosen (is_part (fields_at w.control u).secondary) _ v takes in
    ((s.rows.parts.fit u).both first.0 second.0).apart (first.1 ∙ e ∙ sym second.1)

-- ---- what a track of v was is sent to u first

module _ (v u t : ℕ) (L : World → Type 0) where
  -- L lasts over the entries of the send, and says that v leads
  pub record Lasting : Type 0 where
    pub runs : (k : World) → L k → Runs k v
    pub leads : (k : World) → L k → secondary_of (fields_at k.control v) ≡ Some u
    pub low : (k : World) → Sound k → L k → t < (k.control.volume v).tracks
    pub stays : (k j : World) → Sound k → L k → Still k j → L j
    pub suspends : (k : World) (h : Option Fuse) → Sound k → L k → L (done k (Suspend v false) h)
    pub stores : (k : World) (last : Bool) (h : Option Fuse) → Sound k → L k → L (done k (Store u t v last) h)
    pub strikes : (k : World) (last : Bool) (h : Option Fuse) → Sound k → L k → L (done k (Strike v t last) h)

  module _ (lasting : Lasting) (more : List Entry) (go : (k : World) → Sound k → L k → ((fields_at k.control v).recording ≡ true → contains (fields_at k.control v).out_of_sync t ≡ false) → Along k more) where
    -- nothing is sent any more
    passes : (ds : List Entry) (k : World) → sends_first v u t k.control ≡ false → Along k more → Along k (map (where_sent v u t) ds ++ more)
    passes [] k not on = on
    passes (d ∷ ds) k not on = decides k (where_sent v u t d) _ Pass (ap (λ b. cond b (d k.control) Pass) not) (passes ds k not on)

    -- the secondary has stored the track, and it is struck off
    struck : (k : World) (last : Bool) (h : Option Fuse) → Sound k → L k → Sends v u t k → v ≢ u → Sound (done k (Store u t v last) h) → Along (done k (Store u t v last) h) (where_sent v u t (strike_on v t) ∷ more)
    struck k last h s x send ne y =
        let store : Move = Store u t v last in
        let m : World = done k store h in
        let law : L m = lasting.stores k last h s x in
        let server : ((j : ℕ) → (m.control.volume j).server ≡ (k.control.volume j).server) = at_part (λ (z : Volume). z.server) k.control.volume u (row k store h) refl in
        let sent : Sends v u t m = record {
          path = send.path;
          linked = (λ i. k.control.link (server v i) (server u i)) ∙ send.linked;
          on_u = runs-done k store h u send.on_u;
          belongs = part-same k store h (is_secondary_of v) refl u ∙ send.belongs;
          hits = ap (λ (z : Volume). collides z.fields t) (at_other k.control.volume u (row k store h) v ne) ∙ send.hits;
          to = lasting.leads m law;
        } in
        let final : Bool = is_last (fields_at m.control v) t in
        let strike : Move = Strike v t final in
        let bytes_u : m.contents u t ≡ k.contents v t = ap (λ (g : ℕ → List ℕ). g t) (at_same k.contents u (tracks_after (next_of k store) (carried_in k store) (k.contents u))) ∙ if_true _ _ (eq-eqb t t refl) in
        let bytes_v : m.contents v t ≡ k.contents v t = ap (λ (g : ℕ → List ℕ). g t) (at_other k.contents u _ v ne) in
        decides m (where_sent v u t (strike_on v t)) _ (Do (Make strike)) (ap (λ b. cond b (strike_on v t m.control) Pass) (sends-now v u t m y sent)) (
          record {
            runs = lasting.runs m law;
            allowed = record { metro = λ last. (and_parts (is_metro (fields_at m.control v).primary) _ last).0; to = u; sends = lasting.leads m law; equal = bytes_u ∙ sym bytes_v };
            fits = tt;
            group = tt;
            ready = idle m v y.queue (lasting.runs m law);
          },
          λ g z. go (done m strike g) z (lasting.strikes m final g y law) (λ r. ap (λ (z : Volume). contains z.fields.out_of_sync t) (at_same m.control.volume v (row m strike g)) ∙ not_removed (fields_at m.control v).out_of_sync t),
        )

    abbrev send_and_go : List Entry
    send_and_go = where_sent v u t (store_on v u t) ∷ where_sent v u t (strike_on v t) ∷ more

    -- it is sent: the targets of the secondary keep it first
    goes : (w : World) → Sound w → L w → Sends v u t w → Along w (map (λ x. where_sent v u t (keep_on u t x)) w.control.volumes ++ send_and_go)
    goes w s x send =
        let f : Fields = fields_at w.control v in
        let to : secondary_of f ≡ Some u = lasting.leads w x in
        let takes : primary_of (fields_at w.control u) ≡ Some v = its-first v (fields_at w.control u) send.belongs in
        let fits = s.rows.parts.secondary v u to in
        let ne : v ≢ u = λ e. fits.apart (ap (λ j. (w.control.volume j).server) e) in
        let plain_u : from w u ≡ None = unrelated (table w) s.rows.parts u takes in
        let plain_v : from w v ≡ None = unrelated_primary (table w) s.rows.parts v to in
        let low_u : t < (w.control.volume u).tracks = subst (λ m. t < m) fits.same_tracks (lasting.low w s x) in
        let later : ((k : World) → Still w k → Sends v u t k) = λ k st.
        let here_v : k.control.volume v ≡ w.control.volume v = st.volume v plain_v in
        let here_u : k.control.volume u ≡ w.control.volume u = st.volume u plain_u in
        record {
          path = (λ i. has_path v u (record k.control { paths = st.paths i })) ∙ send.path;
          linked = (λ i. st.link i (here_v i).server (here_u i).server) ∙ send.linked;
          on_u = (λ i. st.on i (here_u i).server) ∙ send.on_u;
          belongs = ap (λ (z : Volume). is_secondary_of v z.fields) here_u ∙ send.belongs;
          hits = ap (λ (z : Volume). collides z.fields t) here_v ∙ send.hits;
          to = ap (λ (z : Volume). secondary_of z.fields) here_v ∙ send.to;
        } in
        copy-first u t w plain_u low_u send.on_u (λ y. where_sent v u t (keep_on u t y)) (λ k y sk st. ap (λ b. cond b (keep_on u t y k.control) Pass) (sends-now v u t k sk (later k st))) send_and_go
        (λ k sk st kept.
        let sent : Sends v u t k = later k st in
        let here_u : k.control.volume u ≡ w.control.volume u = st.volume u plain_u in
        let law : L k = lasting.stays w k s x st in
        let takes_k : primary_of (fields_at k.control u) ≡ Some v = its-first v (fields_at k.control u) sent.belongs in
        let g : Fields = fields_at k.control v in
        let last : Bool = is_last g t in
        let meets = and_parts (is_kind Global g.primary) _ sent.hits in
        decides k (where_sent v u t (store_on v u t)) _ (Do (Make (Store u t v last))) (ap (λ b. cond b (store_on v u t k.control) Pass) (sends-now v u t k sk sent)) (
          record {
            runs = sent.on_u;
            allowed = record {
              receives = plain-receives (table k) sk.rows u t (second-plain k sk v u sent.to takes_k meets.0) (subst (λ (z : Volume). t < z.tracks) (sym here_u) low_u) kept;
              sends = sent.to;
              takes = takes_k;
              out = (and_parts g.recording _ meets.1).1;
            };
            fits = tt;
            group = tt;
            ready = (idle k u sk.queue sent.on_u, idle k v sk.queue (lasting.runs k law));
          },
          λ h y. struck k last h sk law sent ne y,
        ))
        (λ y h r. false_true (s.rows.parts.free y u h r) (chosen (is_part (fields_at w.control u).secondary) _ v takes).0)
        (let both = and_parts f.recording _ (and_parts (is_kind Global f.primary) _ send.hits).1 in never-flashed w s v u t to takes both.0 both.1) s

    -- it isn't sent where it doesn't collide
    misses : (w : World) → Sound w → L w → collides (fields_at w.control v) t ≡ false → (ds : List Entry) → Along w (map (where_sent v u t) ds ++ more)
    misses w s x none ds =
        let f : Fields = fields_at w.control v in
        passes ds w (ap (λ b. b && (not (is_some (send_refusal v u w.control)) && not (is_some (flashed_refusal u w.control)))) none)
        (go w s x (λ r. and-second-false f.recording _ (and-second-false (is_kind Global f.primary) _ none ((s.rows.recorders v).global r)) r))

    -- where it does and can't be sent, v is suspended
    sends-or : (w : World) → Sound w → L w → (c : Bool) → collides (fields_at w.control v) t ≡ c → (o : Option Refusal) → send_refusal v u w.control ≡ o
        → Then w (cond (c && is_some o) (Do (Make (Suspend v false))) Pass) (λ k. Along k (map (where_sent v u t) (map (keep_on u t) w.control.volumes ++ store_on v u t ∷ strike_on v t ∷ []) ++ more))
    sends-or w s x false none o is = misses w s x none _
    sends-or w s x true hits None is = subst (Along w) (sym (sent-joined v u t more w.control.volumes)) (goes w s x (sends-at v u t w is hits (lasting.leads w x)))
    sends-or w s x true hits (Some r) is = (
      record { runs = lasting.runs w x; allowed = (chosen (is_part (fields_at w.control v).primary) _ u (lasting.leads w x)).0; fits = tt; group = tt; ready = idle w v s.queue (lasting.runs w x) },
      λ h y.
          let m : Move = Suspend v false in
          let k : World = done w m h in
          let idle_now : (fields_at k.control v).recording ≡ false = ap (λ (z : Volume). z.fields.recording) (at_same w.control.volume v (row w m h)) in
          misses k y (lasting.suspends w h s x) (and_right (is_kind Global (fields_at k.control v).primary) _ (ap (λ b. b && contains (fields_at k.control v).out_of_sync t) idle_now)) _,
    )

    pub sends-first : (w : World) → Sound w → L w → Along w (send_first w.control.volumes v u t ++ more)
    sends-first w s x = decides w (suspend_unsent v u t) _ _ refl (sends-or w s x (collides (fields_at w.control v) t) refl (send_refusal v u w.control) refl)

-- ---- before a host write that lands on v alone

module _ (w : World) (s : Sound w) (p : Pending) (one : filter (is_write p.w) w.control.pending ≡ p ∷ []) (on : Runs w p.volume) where
  abbrev n : ℕ
  n = p.w

  abbrev v : ℕ
  v = p.volume

  abbrev t : ℕ
  t = p.track

  abbrev u : ℕ
  u = partner_of w.control v

  abbrev f : Fields
  f = fields_at w.control v

  -- what lasts
  record Lasts (k : World) : Type 0 where
    on_v : Runs k v
    second : is_part (fields_at k.control v).secondary ≡ false
    plain : (fields_at k.control v).related ≡ false
    open_to : held_back (fields_at k.control v) ≡ false
    to : secondary_of (fields_at k.control v) ≡ Some u
    still : Unrestored k v
    calm : Unflashed k v
    one_is : filter (is_write n) k.control.pending ≡ p ∷ []
    volumes_are : k.control.volumes ≡ w.control.volumes

  lasts-still : (k j : World) → Sound k → Lasts k → Still k j → Lasts j
  lasts-still k j y x st =
      let here : j.control.volume v ≡ k.control.volume v = st.volume v (unrelated_primary (table k) y.rows.parts v x.to) in
      record {
        on_v = (λ i. st.on i (here i).server) ∙ x.on_v;
        second = ap (λ (y : Volume). is_part y.fields.secondary) here ∙ x.second;
        plain = ap (λ (y : Volume). y.fields.related) here ∙ x.plain;
        open_to = ap (λ (y : Volume). held_back y.fields) here ∙ x.open_to;
        to = ap (λ (y : Volume). secondary_of y.fields) here ∙ x.to;
        still = λ y h r. let was = st.turned y v h r in x.still y was.0 was.1;
        calm = λ y h r. let was = st.flashed y v h r in x.calm y was.0 was.1;
        one_is = ap (filter (is_write n)) st.pending ∙ x.one_is;
        volumes_are = st.volumes ∙ x.volumes_are;
      }

  lasts-done : (k : World) (m : Move) (h : Option Fuse) → is_part (next_of k m).secondary ≡ is_part (fields_at k.control (target m)).secondary → (next_of k m).related ≡ (fields_at k.control (target m)).related
      → held_back (next_of k m) ≡ held_back (fields_at k.control (target m)) → secondary_of (next_of k m) ≡ secondary_of (fields_at k.control (target m)) → source_of (next_of k m) ≡ source_of (fields_at k.control (target m))
      → (next_of k m).reversing ≡ (fields_at k.control (target m)).reversing → (next_of k m).revertible ≡ (fields_at k.control (target m)).revertible → (done k m h).control.pending ≡ k.control.pending → Lasts k → Lasts (done k m h)
  lasts-done k m h second related held to source reversing revertible pending x = record {
    on_v = runs-done k m h v x.on_v;
    second = part-same k m h (λ (g : Fields). is_part g.secondary) second v ∙ x.second;
    plain = part-same k m h (λ (g : Fields). g.related) related v ∙ x.plain;
    open_to = part-same k m h held_back held v ∙ x.open_to;
    to = part-same k m h secondary_of to v ∙ x.to;
    still = unrestored-done v k m h source reversing x.still;
    calm = unflashed-done v k m h source revertible x.calm;
    one_is = ap (filter (is_write n)) pending ∙ x.one_is;
    volumes_are = x.volumes_are;
  }

  lasting : Lasting v u t Lasts
  lasting = record {
    runs = λ k x. x.on_v;
    leads = λ k x. x.to;
    low = λ k y x. (waits k y p x.one_is).low;
    stays = lasts-still;
    suspends = λ k h y x. lasts-done k (Suspend v false) h refl refl ((back-parts (fields_at k.control v) x.open_to).1 ∙ sym x.open_to) refl refl refl refl refl x;
    stores = λ k last h y x. lasts-done k (Store u t v last) h refl refl refl refl refl refl refl refl x;
    strikes = λ k last h y x. lasts-done k (Strike v t last) h refl refl refl refl refl refl refl refl x;
  }

  pub collided : is_part f.secondary ≡ false → is_settled v w.control ≡ true → held_back f ≡ false → collides f t ≡ true → Along w (land_collided w.control n v t)
  collided second settled open_to hits =
      let first : is_part f.primary ≡ true = kind_part Global f.primary (and_parts (is_kind Global f.primary) _ hits).0 in
      sends-first v u t Lasts lasting (land_alone w.control.volumes n v t)
      (λ k y x sent. subst (λ vs. Along k (land_alone vs n v t)) x.volumes_are (plain-lands k y p x.one_is x.on_v x.second x.plain x.open_to sent x.still x.calm)) w s (record {
        on_v = on;
        second = second;
        plain = plain-primary w s v first;
        open_to = open_to;
        to = choose_some (is_part f.primary) f.primary_partner first;
        still = λ x h r. unrestored w s v settled x h r;
        calm = unflashed w s v settled;
        one_is = one;
        volumes_are = refl;
      })
