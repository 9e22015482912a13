-- The plan of a drain is allowed along: tracks are sent, and as a server stops, the primary is suspended.
use Rattle.std.proofs.Common.{ℕ, zero, suc, ◌≡◌, ◌≢◌, ◌<◌, ◌+◌, refl, ap, sym, ◌∙◌, subst, Bool, true, false, cond, ◌&&◌, ◌||◌, nat_eq, List, [], ◌∷◌, ◌++◌, append_assoc, filter, take, Option, Some, None, arith}
use Rattle.std.proofs.lemmas.List.{append-nil}
use Rattle.std.specs.Prelude.{is_some}
use Rattle.std.proofs.lemmas.Bool.{and_parts, eq-eqb, or_parts, ne_eqb, false≢true}
use Rattle.std.specs.List.{range_with_len, list_any}
use Rattle.std.specs.FinSet.{contains, union, remove, contains-union}
use Rattle.dr_ids.specs.declared.refusal.Refusal.{Refusal}
use Rattle.dr_model.specs.Layout.{Tracks, Fields, is_part}
use Rattle.dr_model.specs.Relations.{in_order}
use Rattle.dr_model.specs.Pairs.{is_metro, is_cascaded, holds_back, secondary_of, primary_of, is_last, is_engaged}
use Rattle.dr_model.specs.Control.{Control, Fuse, Volume, World}
use Rattle.dr_model.specs.Moves.{Move, Store, Strike, Suspend, target, tracks_after}
use Rattle.dr_model.specs.Carry.{Make, Pass, Do, Entry, Stretch, entries_in}
use Rattle.dr_model.specs.Entries.{is_revertible, stands_in, relation_state, fields_at, is_running, keep_on, copy_first}
use Rattle.dr_model.specs.PairEntries.{reach_refusal, refuse_if, belongs_to, send_refusal, suspend_where, flashed_refusal, held_refusal, store_on, strike_on, send_entries, sends, send_first, feeds, suspend_running, suspend_unless, suspend_after, tracks_to_send, is_copying}
use Rattle.dr_model.specs.WriteEntries.{partner_of}
use Rattle.dr_model.specs.Views.{source_of}
use Rattle.dr_facts.proofs.WriteStops.{drain-any}
use Rattle.dr_model.specs.Plans.{is_defined, drain_plan}
use Rattle.dr_model.specs.Table.{table}
use Rattle.dr_model.specs.Laws.{Sound, Once}
use Rattle.dr_model.specs.Allowed.{Runs}
use Rattle.dr_facts.proofs.Sets.{if_true, remove_other}
use Rattle.dr_laws_cuts.proofs.Still.{first as recorder-leads, plain-free}
use Rattle.dr_laws_sound.proofs.Turns.{done, next_of, carried_in}
use Rattle.dr_laws_sound.proofs.RowsAfter.{idle}
use Rattle.dr_laws_sound.proofs.KeepsParts.{unrelated, unrelated_primary}
use Rattle.dr_laws_sound.proofs.KeepsSound.{Along, EachAlong, Then, StepHolds, holds-moves, over, decides, checked}
use Rattle.dr_laws_sound.proofs.CopyFirst.{Still, from, copy-first}
use Rattle.dr_laws_sound.proofs.Lands.{Unflashed, unflashed-by}
use Rattle.dr_laws_sound.proofs.FitsFlash.{as_begun, sound-begun}
use Rattle.std.specs.Cmp.{nat_cmp_total}
use Rattle.dr_laws_sound.proofs.FitsPairs.{refused, reached, its-first, row, runs-done, part-same}
use Rattle.dr_laws_sound.proofs.FitsCollide.{unflashed-done, uncascaded-second, third-apart, Lasting, sends-first}
use Rattle.dr_logic.proofs.Choices.{chosen, choose_some, not_chosen}
use Rattle.dr_facts.proofs.Refusals.{none-both, met}
use Rattle.dr_facts.proofs.Tables.{at_part}
use Rattle.dr_logic.proofs.Truth.{and-second-false, false_true}
use Rattle.dr_logic.proofs.Tables.{at_same, at_other}

-- each of a list
abbrev pub AllOf : (ℕ → Type 0) → List ℕ → Type 0
AllOf P [] = Unit {0}
AllOf P (t ∷ ts) = P t × AllOf P ts

pub of-on : {P Q : ℕ → Type 0} → ((t : ℕ) → P t → Q t) → (ts : List ℕ) → AllOf P ts → AllOf Q ts
of-on f [] all = tt
of-on f (t ∷ ts) all = (f t all.0, of-on f ts all.1)

-- tracks of a set in order, at most so many: each is one of it, and none comes twice
of-cut : (P : ℕ → Type 0) (b : Bool) (t : ℕ) (ts : List ℕ) → (b ≡ true → P t) → AllOf P ts → AllOf P (cond b (t ∷ ts) ts)
of-cut P true t ts here all = (here refl, all)
of-cut P false t ts here all = all

of-filter : (P : ℕ → Type 0) (f : ℕ → Bool) → ((t : ℕ) → f t ≡ true → P t) → (ts : List ℕ) → AllOf P (filter f ts)
of-filter P f each [] = tt
of-filter P f each (t ∷ ts) = of-cut P (f t) t (filter f ts) (each t) (of-filter P f each ts)

of-in_order : (P : ℕ → Type 0) (m : ℕ) (s : Tracks) → ((t : ℕ) → contains s t ≡ true → P t) → AllOf P (in_order m s)
unfolding in_order
of-in_order P m s each = of-filter P (contains s) each (range_with_len 0 m)

of-take : (P : ℕ → Type 0) (k : ℕ) (ts : List ℕ) → AllOf P ts → AllOf P (take k ts)
of-take P zero ts all = tt
of-take P (suc k) [] all = tt
of-take P (suc k) (t ∷ ts) all = (all.0, of-take P k ts all.1)

of-sent : (P : ℕ → Type 0) (most : Option ℕ) (m : ℕ) (s : Tracks) → ((t : ℕ) → contains s t ≡ true → P t) → AllOf P (tracks_to_send most m s)
of-sent P None m s each = of-in_order P m s each
of-sent P (Some k) m s each = of-take P k (in_order m s) (of-in_order P m s each)

none-cut : (x : ℕ) (b : Bool) (t : ℕ) (ts rest : List ℕ) → list_any (nat_eq x) (t ∷ ts) ≡ false → (list_any (nat_eq x) ts ≡ false → list_any (nat_eq x) rest ≡ false) → list_any (nat_eq x) (cond b (t ∷ rest) rest) ≡ false
none-cut x b t ts rest h more = by b (or_parts (nat_eq x t) (list_any (nat_eq x) ts) h)
  where
    by : (b : Bool) → (nat_eq x t ≡ false) × (list_any (nat_eq x) ts ≡ false) → list_any (nat_eq x) (cond b (t ∷ rest) rest) ≡ false
    by true both = λ i. both.0 i || more both.1 i
    by false both = more both.1

none-filter : (x : ℕ) (f : ℕ → Bool) (ts : List ℕ) → list_any (nat_eq x) ts ≡ false → list_any (nat_eq x) (filter f ts) ≡ false
none-filter x f [] h = refl
none-filter x f (t ∷ ts) h = none-cut x (f t) t ts (filter f ts) h (none-filter x f ts)

none-take : (x k : ℕ) (ts : List ℕ) → list_any (nat_eq x) ts ≡ false → list_any (nat_eq x) (take k ts) ≡ false
none-take x zero ts h = refl
none-take x (suc k) [] h = refl
none-take x (suc k) (t ∷ ts) h = none-cut x true t ts (take k ts) h (none-take x k ts)

once-cut : (b : Bool) (t : ℕ) (ts : List ℕ) → list_any (nat_eq t) ts ≡ false → Once ts → Once (cond b (t ∷ ts) ts)
once-cut true t ts here once = (here, once)
once-cut false t ts here once = once

once-filter : (f : ℕ → Bool) (ts : List ℕ) → Once ts → Once (filter f ts)
once-filter f [] once = tt
once-filter f (t ∷ ts) once = once-cut (f t) t (filter f ts) (none-filter t f ts once.0) (once-filter f ts once.1)

once-take : (k : ℕ) (ts : List ℕ) → Once ts → Once (take k ts)
once-take zero ts once = tt
once-take (suc k) [] once = tt
once-take (suc k) (t ∷ ts) once = (none-take t k ts once.0, once-take k ts once.1)

none-later : (n b x : ℕ) → x < b → list_any (nat_eq x) (range_with_len b n) ≡ false
none-later zero b x lt = refl
none-later (suc n) b x lt = ap (λ c. c || list_any (nat_eq x) (range_with_len (b + 1) n)) (ne_eqb x b (λ e. let is : x ≡ b = e in absurd (omega arith))) ∙ none-later n (b + 1) x (omega arith)

once-range : (n b : ℕ) → Once (range_with_len b n)
once-range zero b = tt
once-range (suc n) b = (none-later n (b + 1) b (omega arith), once-range n (b + 1))

once-in_order : (m : ℕ) (s : Tracks) → Once (in_order m s)
unfolding in_order
once-in_order m s = once-filter (contains s) (range_with_len 0 m) (once-range m 0)

once-sent : (most : Option ℕ) (m : ℕ) (s : Tracks) → Once (tracks_to_send most m s)
once-sent None m s = once-in_order m s
once-sent (Some k) m s = once-take k (in_order m s) (once-in_order m s)

-- a track that is out of sync stays so in a void, and where another one is struck off
pub still-out : (e : Bool) (out changed : Tracks) (t : ℕ) → contains out t ≡ true → contains (cond e (union out changed) out) t ≡ true
still-out true out changed t h = contains-union nat_cmp_total out changed t ∙ ap (λ b. b || contains changed t) h
still-out false out changed t h = h

out-less : (s : Tracks) (t : ℕ) (ts : List ℕ) → list_any (nat_eq t) ts ≡ false → AllOf (λ q. contains s q ≡ true) ts → AllOf (λ q. contains (remove s t) q ≡ true) ts
out-less s t [] none all = tt
out-less s t (q ∷ ts) none all =
    let both = or_parts (nat_eq t q) (list_any (nat_eq t) ts) none in
    (remove_other s t q (λ e. false≢true (sym both.0 ∙ eq-eqb t q (sym e))) ∙ all.0, out-less s t ts both.1 all.1)

-- the entries of a stretch, and then those of the rest
pub stretch-first : (s : Stretch) (ss : List Stretch) → entries_in (s ∷ ss) ≡ s.entries ++ entries_in ss
stretch-first s [] = sym (append-nil s.entries)
stretch-first s (r ∷ ss) = refl

-- the entries that send one track to a cascaded secondary, and those of the rest
pub feeds-joined : (volumes : List ℕ) (a b c t : ℕ) (ts : List ℕ)
    → entries_in (feeds volumes a b c (t ∷ ts))
    ≡ suspend_where (send_refusal a b) a ∷ refuse_if (send_refusal a b) ∷ refuse_if (flashed_refusal b) ∷ refuse_if (held_refusal b) ∷ send_first volumes b c t ++ (copy_first volumes b t ++ store_on a b t ∷ strike_on a t ∷ entries_in (feeds volumes a b c ts))
feeds-joined volumes a b c t ts =
    let moves : Stretch = record { entries = copy_first volumes b t ++ store_on a b t ∷ strike_on a t ∷ []; follows = suspend_after a } in
    ap (λ ds. suspend_where (send_refusal a b) a ∷ refuse_if (send_refusal a b) ∷ refuse_if (flashed_refusal b) ∷ refuse_if (held_refusal b) ∷ send_first volumes b c t ++ ds)
    (stretch-first moves (feeds volumes a b c ts) ∙ append_assoc (copy_first volumes b t) (store_on a b t ∷ strike_on a t ∷ []) (entries_in (feeds volumes a b c ts)))

-- tracks of primary a, which has n, are sent to b, which is cascaded or not; o is the secondary of b
module _ (volumes : List ℕ) (a b n : ℕ) (is_fed : Bool) (o : Option ℕ) where
  -- what lasts
  record Sending (w : World) : Type 0 where
    on : Runs w a
    to : secondary_of (fields_at w.control a) ≡ Some b
    third : secondary_of (fields_at w.control b) ≡ o
    fed : is_cascaded (fields_at w.control b) ≡ is_fed
    size : (w.control.volume a).tracks ≡ n
    volumes_are : w.control.volumes ≡ volumes

  sending-done : (w : World) (m : Move) (f : Option Fuse) → secondary_of (next_of w m) ≡ secondary_of (fields_at w.control (target m)) → is_cascaded (next_of w m) ≡ is_cascaded (fields_at w.control (target m)) → Sending w → Sending (done w m f)
  sending-done w m f same cascaded x = record {
    on = runs-done w m f a x.on;
    to = part-same w m f secondary_of same a ∙ x.to;
    third = part-same w m f secondary_of same b ∙ x.third;
    fed = part-same w m f is_cascaded cascaded b ∙ x.fed;
    size = at_part (λ (u : Volume). u.tracks) w.control.volume (target m) (row w m f) refl a ∙ x.size;
    volumes_are = x.volumes_are;
  }

  sending-still : (w k : World) → from w a ≡ None → from w b ≡ None → Still w k → Sending w → Sending k
  sending-still w k plain_a plain_b st x =
      let here_a : k.control.volume a ≡ w.control.volume a = st.volume a plain_a in
      let here_b : k.control.volume b ≡ w.control.volume b = st.volume b plain_b in
      record {
        on = (λ i. st.on i (here_a i).server) ∙ x.on;
        to = ap (λ (u : Volume). secondary_of u.fields) here_a ∙ x.to;
        third = ap (λ (u : Volume). secondary_of u.fields) here_b ∙ x.third;
        fed = ap (λ (u : Volume). is_cascaded u.fields) here_b ∙ x.fed;
        size = ap (λ (u : Volume). u.tracks) here_a ∙ x.size;
        volumes_are = st.volumes ∙ x.volumes_are;
      }

  -- which are still to be sent
  abbrev Out : World → List ℕ → Type 0
  Out w ts = AllOf (λ t. contains (fields_at w.control a).out_of_sync t ≡ true) ts

  out-same : (w k : World) (ts : List ℕ) → k.control.volume a ≡ w.control.volume a → Out w ts → Out k ts
  out-same w k ts here out = subst (λ (u : Volume). AllOf (λ q. contains u.fields.out_of_sync q ≡ true) ts) (sym here) out

  not-itself : (w : World) → Sound w → Sending w → a ≢ b
  not-itself w s x e = (s.rows.parts.secondary a b x.to).apart (ap (λ j. (w.control.volume j).server) e)

  module _ (t : ℕ) (low : t < n) (ts : List ℕ) (apart : list_any (nat_eq t) ts ≡ false) (more : List Entry) (go : (k : World) → Sound k → Sending k → Out k ts → Along k more) where
    -- b has stored the track, and a strikes it off
    strikes : (k : World) (last : Bool) (f : Option Fuse) → Sending k → Out k ts → a ≢ b → Sound (done k (Store b t a last) f) → Along (done k (Store b t a last) f) (strike_on a t ∷ more)
    strikes k last f x out ne y =
        let m : World = done k (Store b t a last) f in
        let lasts : Sending m = sending-done k (Store b t a last) f refl refl x in
        let outs : Out m ts = out-same k m ts (at_other k.control.volume b (row k (Store b t a last) f) a ne) out in
        let strike : Move = Strike a t (is_last (fields_at m.control a) t) in
        let bytes_b : m.contents b t ≡ k.contents a t = ap (λ (g : ℕ → List ℕ). g t) (at_same k.contents b (tracks_after (next_of k (Store b t a last)) (carried_in k (Store b t a last)) (k.contents b))) ∙ if_true _ _ (eq-eqb t t refl) in
        let bytes_a : m.contents a t ≡ k.contents a t = ap (λ (g : ℕ → List ℕ). g t) (at_other k.contents b _ a ne) in
        decides m (strike_on a t) more (Do (Make strike)) refl (
          record { runs = lasts.on; allowed = record { metro = λ last. (and_parts (is_metro (fields_at m.control a).primary) _ last).0; to = b; sends = lasts.to; equal = bytes_b ∙ sym bytes_a }; fits = tt; group = tt; ready = idle m a y.queue lasts.on },
          λ g z. go _ z (sending-done m strike g refl refl lasts)
              (subst (λ s. AllOf (λ q. contains s q ≡ true) ts) (sym (ap (λ (u : Volume). u.fields.out_of_sync) (at_same m.control.volume a (row m strike g)))) (out-less (fields_at m.control a).out_of_sync t ts apart outs)),
        )

    -- what b stores comes to it as any track does
    record Takes (w : World) : Type 0 where
      sending : Sending w
      out : Out w (t ∷ ts)
      on_b : Runs w b
      takes : primary_of (fields_at w.control b) ≡ Some a
      calm : Unflashed w b
      free : (fields_at w.control b).coordination ≡ false

    abbrev Sent : World → Type 0
    Sent w = (fields_at w.control b).recording ≡ true → contains (fields_at w.control b).out_of_sync t ≡ false

    plain_b : (w : World) → Sound w → Takes w → from w b ≡ None
    plain_b w s x = unrelated (table w) s.rows.parts b x.takes

    takes-still : (w k : World) → Sound w → Takes w → Still w k → Takes k
    takes-still w k s x st =
        let plain_a : from w a ≡ None = unrelated_primary (table w) s.rows.parts a x.sending.to in
        let here_b : k.control.volume b ≡ w.control.volume b = st.volume b (plain_b w s x) in
        record {
          sending = sending-still w k plain_a (plain_b w s x) st x.sending;
          out = out-same w k (t ∷ ts) (st.volume a plain_a) x.out;
          on_b = (λ i. st.on i (here_b i).server) ∙ x.on_b;
          takes = ap (λ (u : Volume). primary_of u.fields) here_b ∙ x.takes;
          calm = λ u h r. let was = st.flashed u b h r in x.calm u was.0 was.1;
          free = ap (λ (u : Volume). u.fields.coordination) here_b ∙ x.free;
        }

    -- the targets of b keep it first
    stores : (w : World) → Sound w → Takes w → Sent w → Along w (copy_first volumes b t ++ store_on a b t ∷ strike_on a t ∷ more)
    stores w s x sent =
        let fits = s.rows.parts.secondary a b x.sending.to in
        let low_b : t < (w.control.volume b).tracks = subst (λ m. t < m) (sym x.sending.size ∙ fits.same_tracks) low in
        subst (λ vs. Along w (copy_first vs b t ++ store_on a b t ∷ strike_on a t ∷ more)) x.sending.volumes_are
        (copy-first b t w (plain_b w s x) low_b x.on_b (keep_on b t) (λ k u y st. refl) _
        (λ k sk st kept.
        let here_b : k.control.volume b ≡ w.control.volume b = st.volume b (plain_b w s x) in
        let y : Takes k = takes-still w k s x st in
        let last : Bool = is_last (fields_at k.control a) t in
        decides k (store_on a b t) _ (Do (Make (Store b t a last))) refl (
          record {
            runs = y.on_b;
            allowed = record {
              receives = record { low = subst (λ (u : Volume). t < u.tracks) (sym here_b) low_b; kept = kept; free = y.free; sent = subst (λ (u : Volume). u.fields.recording ≡ true → contains u.fields.out_of_sync t ≡ false) (sym here_b) sent };
              sends = y.sending.to;
              takes = y.takes;
              out = y.out.0;
            };
            fits = tt;
            group = tt;
            ready = (idle k b sk.queue y.on_b, idle k a sk.queue y.sending.on);
          },
          λ f z. strikes k last f y.sending y.out.1 (not-itself k sk y.sending) z,
        ))
        (λ u h r. false_true (s.rows.parts.free u b h r) (chosen (is_part (fields_at w.control b).secondary) _ a x.takes).0) x.calm s)

    -- where b can be reached and is its secondary, and the source of no revertible relationship
    passes : (w : World) → Sound w → Sending w → Out w (t ∷ ts) → (rest : List Entry) → (Runs w b → primary_of (fields_at w.control b) ≡ Some a → Unflashed w b → Along w rest) → Along w (refuse_if (send_refusal a b) ∷ refuse_if (flashed_refusal b) ∷ rest)
    passes w s x out rest then_so =
        refused w (send_refusal a b) _ s (λ none.
        refused w (flashed_refusal b) _ s (λ plain.
        let free = none-both (reach_refusal a b w.control) _ none in
        then_so (reached w a b free.0) (its-first a (fields_at w.control b) (met (belongs_to a b w.control) _ free.1)) (unflashed-by w s b (not_chosen (stands_in is_revertible w.control b) (relation_state w.control b) plain))))

    suspends : (w : World) → Sound w → Sending w → Out w (t ∷ ts) → (rest : List Entry) → ((k : World) → Sound k → Sending k → Out k (t ∷ ts) → Along k rest) → Along w (suspend_where (send_refusal a b) a ∷ rest)
    suspends w s x out rest then_so = decides w (suspend_where (send_refusal a b) a) _ _ refl (by (send_refusal a b w.control))
      where
        by : (o : Option Refusal) → Then w (cond (is_some o) (Do (Make (Suspend a false))) Pass) (λ v. Along v rest)
        by None = then_so w s x out
        by (Some r) = (
          record { runs = x.on; allowed = (chosen (is_part (fields_at w.control a).primary) _ b x.to).0; fits = tt; group = tt; ready = idle w a s.queue x.on },
          λ f y. then_so _ y (sending-done w (Suspend a false) f refl refl x) (subst (λ s. AllOf (λ q. contains s q ≡ true) (t ∷ ts)) (sym (ap (λ (u : Volume). u.fields.out_of_sync) (at_same w.control.volume a (row w (Suspend a false) f))))
              (let g : Fields = fields_at w.control a in of-on (still-out (is_engaged g) g.out_of_sync g.change_recording) (t ∷ ts) out)),
        )

    -- b has no other part
    sends-one : is_fed ≡ false → (w : World) → Sound w → Sending w → Out w (t ∷ ts) → Along w (send_entries volumes a b t ++ more)
    sends-one unfed w s x out =
        subst (λ ds. Along w (suspend_where (send_refusal a b) a ∷ refuse_if (send_refusal a b) ∷ refuse_if (flashed_refusal b) ∷ ds)) (sym (append_assoc (copy_first volumes b t) (store_on a b t ∷ strike_on a t ∷ []) more))
        (suspends w s x out _ (λ k y z left.
        passes k y z left _ (λ on_b takes calm.
        let plain : is_part (fields_at k.control b).primary ≡ false = uncascaded-second (fields_at k.control b) (z.fed ∙ unfed) (chosen _ _ a takes).0 in
        stores k y (record { sending = z; out = left; on_b = on_b; takes = takes; calm = calm; free = plain-free (table k) y.rows b plain }) (λ rec. false_true plain (recorder-leads (table k) y.rows b rec)))))

    -- b is cascaded, and sends on to c what the track was
    module _ (c : ℕ) (leads : o ≡ Some c) where
      to_c : (w : World) → Takes w → secondary_of (fields_at w.control b) ≡ Some c
      to_c w x = x.sending.third ∙ leads

      takes-done : (w : World) (m : Move) (f : Option Fuse) → a ≢ target m → secondary_of (next_of w m) ≡ secondary_of (fields_at w.control (target m)) → is_cascaded (next_of w m) ≡ is_cascaded (fields_at w.control (target m)) → primary_of (next_of w m) ≡ primary_of (fields_at w.control (target m))
          → source_of (next_of w m) ≡ source_of (fields_at w.control (target m)) → (next_of w m).revertible ≡ (fields_at w.control (target m)).revertible → (fields_at (done w m f).control b).coordination ≡ false → Takes w → Takes (done w m f)
      takes-done w m f ne secondary cascaded primary source revertible free x = record {
        sending = sending-done w m f secondary cascaded x.sending;
        out = out-same w (done w m f) (t ∷ ts) (at_other w.control.volume (target m) (row w m f) a ne) x.out;
        on_b = runs-done w m f b x.on_b;
        takes = part-same w m f primary_of primary b ∙ x.takes;
        calm = unflashed-done b w m f source revertible x.calm;
        free = free;
      }

      lasting : Lasting b c t Takes
      lasting = record {
        runs = λ k x. x.on_b;
        leads = to_c;
        low = λ k y x. subst (λ m. t < m) (sym x.sending.size ∙ (y.rows.parts.secondary a b x.sending.to).same_tracks) low;
        stays = λ k j y x st. takes-still k j y x st;
        suspends = λ k h y x. takes-done k (Suspend b false) h (not-itself k y x.sending) refl refl refl refl refl (ap (λ (u : Volume). u.fields.coordination) (at_same k.control.volume b (row k (Suspend b false) h))) x;
        stores = λ k last h y x. takes-done k (Store c t b last) h (λ e. third-apart k y a b c x.takes (to_c k x) (sym e)) refl refl refl refl refl (part-same k (Store c t b last) h (λ (g : Fields). g.coordination) refl b ∙ x.free) x;
        strikes = λ k last h y x. takes-done k (Strike b t last) h (not-itself k y x.sending) refl refl refl refl refl (part-same k (Strike b t last) h (λ (g : Fields). g.coordination) refl b ∙ x.free) x;
      }

      feeds-one : is_fed ≡ true → (w : World) → Sound w → Sending w → Out w (t ∷ ts)
          → Along w (suspend_where (send_refusal a b) a ∷ refuse_if (send_refusal a b) ∷ refuse_if (flashed_refusal b) ∷ refuse_if (held_refusal b) ∷ send_first volumes b c t ++ (copy_first volumes b t ++ store_on a b t ∷ strike_on a t ∷ more))
      feeds-one is w s x out =
          suspends w s x out _ (λ k y z left.
          passes k y z left _ (λ on_b takes calm.
          refused k (held_refusal b) _ y (λ unheld.
          let free : (fields_at k.control b).coordination ≡ false = and-second-false (is_cascaded (fields_at k.control b)) _ (not_chosen (holds_back (fields_at k.control b)) _ unheld) (z.fed ∙ is) in
          subst (λ vs. Along k (send_first vs b c t ++ (copy_first volumes b t ++ store_on a b t ∷ strike_on a t ∷ more))) z.volumes_are
          (sends-first b c t Takes lasting _ (λ j sj u sent. stores j sj u sent) k y (record { sending = z; out = left; on_b = on_b; takes = takes; calm = calm; free = free })))))

  sends-all : is_fed ≡ false → (ts : List ℕ) → AllOf (λ t. t < n) ts → Once ts → (w : World) → Sound w → Sending w → Out w ts → Along w (sends volumes a b ts)
  sends-all unfed [] low once w s x out = over w s
  sends-all unfed (t ∷ ts) low once w s x out = sends-one t low.0 ts once.0 (sends volumes a b ts) (λ k y z out. sends-all unfed ts low.1 once.1 k y z out) unfed w s x out

  feeds-all : (c : ℕ) → o ≡ Some c → is_fed ≡ true → (ts : List ℕ) → AllOf (λ t. t < n) ts → Once ts → (w : World) → Sound w → Sending w → Out w ts → Along w (entries_in (feeds volumes a b c ts))
  feeds-all c leads is [] low once w s x out = over w s
  feeds-all c leads is (t ∷ ts) low once w s x out =
      subst (Along w) (sym (feeds-joined volumes a b c t ts))
      (feeds-one t low.0 ts once.0 (entries_in (feeds volumes a b c ts)) (λ k y z out. feeds-all c leads is ts low.1 once.1 k y z out) c leads is w s x out)

-- where a server stopped, a primary whose own runs is suspended
suspends-running : (a : ℕ) (w : World) → Sound w → Then w (suspend_running a w.control) (λ v. Along v [])
suspends-running a w s = by (is_part (fields_at w.control a).primary && is_running a w.control) refl
  where
    by : (c : Bool) → (is_part (fields_at w.control a).primary && is_running a w.control) ≡ c → Then w (cond c (Do (Make (Suspend a false))) Pass) (λ v. Along v [])
    by true is = let both = and_parts (is_part (fields_at w.control a).primary) _ is in (record { runs = both.1; allowed = both.0; fits = tt; group = tt; ready = idle w a s.queue both.1 }, λ f y. over _ y)
    by false is = over w s

pub suspends-after : (a : ℕ) (w : World) → Sound w → Along w (suspend_after a)
suspends-after a w s = decides w (suspend_running a) [] _ refl (suspends-running a w s)

-- or only where the server of b is off
suspends-unless : (b a : ℕ) (w : World) → Sound w → Along w (suspend_unless b a ∷ [])
suspends-unless b a w s = decides w (suspend_unless b a) [] _ refl (by (is_running b w.control))
  where
    by : (c : Bool) → Then w (cond c Pass (suspend_running a w.control)) (λ v. Along v [])
    by true = over w s
    by false = suspends-running a w s

-- what follows a stop in a drain
pub drains-after : (k : Control) (a : ℕ) (most : Option ℕ) (n : ℕ) → EachAlong ((drain_plan k a most).follows n)
drains-after k a most n = drain-any EachAlong k a (tracks_to_send most (k.volume a).tracks (fields_at k a).out_of_sync) n (suspends-after a, tt) (λ is. (suspends-after (partner_of k a), (suspends-unless (partner_of k a) a, tt)))

module _ (w : World) (s : Sound w) where
  pub along-drain : (a : ℕ) (most : Option ℕ) → Along (as_begun w) (drain_plan w.control a most).entries
  along-drain a most =
      let start : World = as_begun w in
      let x : Sound start = sound-begun w s in
      let f : Fields = fields_at w.control a in
      let b : ℕ = f.primary_partner in
      let n : ℕ = (w.control.volume a).tracks in
      let ts : List ℕ = tracks_to_send most n f.out_of_sync in
      let low = of-sent (λ t. t < n) most n f.out_of_sync (s.rows.structure.lawful a).sets.out_of_sync_low in
      let out = of-sent (λ t. contains f.out_of_sync t ≡ true) most n f.out_of_sync (λ t h. h) in
      checked start (is_defined a) _ _ x (λ there.
      checked start (is_running a) _ _ x (λ on.
      checked start (is_copying a) _ _ x (λ copying.
      by start x b n ts low (once-sent most n f.out_of_sync) (is_cascaded (fields_at w.control b)) refl
      (record { on = on; to = choose_some (is_part f.primary) b (and_parts (is_part f.primary) _ copying).0; third = refl; fed = refl; size = refl; volumes_are = refl }) out)))
    where
      by : (start : World) → Sound start → (b n : ℕ) (ts : List ℕ) → AllOf (λ t. t < n) ts → Once ts → (c : Bool) → is_cascaded (fields_at w.control b) ≡ c → Sending w.control.volumes a b n (is_cascaded (fields_at w.control b)) (secondary_of (fields_at w.control b)) start → Out w.control.volumes a b n (is_cascaded (fields_at w.control b)) (secondary_of (fields_at w.control b)) start ts
          → Along start (entries_in (cond c (feeds w.control.volumes a b (fields_at w.control b).primary_partner ts) (record { entries = sends w.control.volumes a b ts; follows = suspend_after a } ∷ [])))
      by start x b n ts low once false is sending out = sends-all w.control.volumes a b n _ _ is ts low once start x sending out
      by start x b n ts low once true is sending out = feeds-all w.control.volumes a b n _ _ (fields_at w.control b).primary_partner (choose_some _ _ (and_parts (is_part (fields_at w.control b).primary) _ is).0) is ts low once start x sending out

  pub holds-drain : (a : ℕ) (most : Option ℕ) → StepHolds w (drain_plan w.control a most)
  holds-drain a most = holds-moves w (drain_plan w.control a most) (sound-begun w s) (along-drain a most) (drains-after w.control a most) (λ k x. x)
