-- From one moment of a freeze window to the next, the list of a primary grows by what is acknowledged on it alone.
use Rattle.std.proofs.Common.{ℕ, ◌≡◌, ◌≢◌, inl, inr, refl, ap, sym, ◌∙◌, true, false, cond, ◌&&◌, ◌||◌, nat_eq, List, [], ◌∷◌, ◌++◌, append_assoc, Some, None}
use Rattle.std.proofs.lemmas.List.{append-nil}
use Rattle.std.proofs.lemmas.List.Folds.{list_any-append}
use Rattle.std.proofs.lemmas.Bool.{eq-eqb, or_left, or_right}
use Rattle.std.proofs.lemmas.Bool.Decides.{eqb_tells}
use Rattle.std.specs.List.{list_any, fold}
use Rattle.dr_model.specs.Pairs.{is_metro}
use Rattle.dr_facts.proofs.Parts.{metro-second}
use Rattle.dr_model.specs.declared.event.Event.{Event}
use Rattle.dr_model.specs.declared.event.Event.TheVariants.{Ack, Stopped}
use Rattle.dr_model.specs.Histories.{Write, Histories, histories, lists, joined, after_event}
use Rattle.dr_model.specs.Layout.{is_part}
use Rattle.dr_model.specs.Control.{Volume, World}
use Rattle.dr_model.specs.Moves.{Move, Land, Relate, Withdraw, Resync, Reverse, Restore, Release, Store, Mirror, Flash, Revert, told, told_in_stop}
use Rattle.dr_model.specs.Entries.{fields_at}
use Rattle.dr_model.specs.Table.{table}
use Rattle.dr_model.specs.Laws.{SoundRows, source}
use Rattle.dr_model.specs.Allowed.{Allowed}
use Rattle.dr_model.proofs.Images.{histories-append}
use Rattle.dr_laws_freezes.specs.Windows.{is_ack, acked_in, acked_on}
use Rattle.dr_facts.specs.Heard.{Unheard, AllUnheard}
use Rattle.dr_facts.proofs.Tables.{IsOrNot}
use Rattle.dr_facts.proofs.Heard.{unheard-event, unheard-write, unheard-writes, unheard-append, unheard-blanked, unheard-restored, unheard-told}
use Rattle.dr_facts.proofs.Emits.{Of}
use Rattle.dr_laws_freezes.proofs.WindowTracks.{Stays}
use Rattle.dr_laws_freezes.proofs.KeepsWindow.{first, no-target, takes_none, TakesNone}
use Rattle.dr_logic.proofs.Choices.{chosen}
use Rattle.dr_logic.proofs.Truth.{false_true}

-- of an acknowledgement nothing is asked: it may be of a write on v
abbrev OfAny : ℕ → Type 0
OfAny n = Unit {0}

-- events that leave the list of v as it is, but for what they acknowledge, and each write as it was issued
abbrev pub Apart : ℕ → Event → Type 0
Apart v e = Unheard OfAny v e

abbrev pub AllApart : ℕ → List Event → Type 0
AllApart v es = AllUnheard OfAny v es

-- what one event does to the list
ack-by : (h : Histories) (n v t : ℕ) → IsOrNot v (h.write n).volume → IsOrNot t (h.write n).track → (after_event h (Ack n)).now v t ≡ h.now v t ++ acked_in h.write v t (Ack n)
ack-by h n v t (inl on) (inl is) =
    let x : Write = h.write n in
    (λ i. cond (on.0 i) (cond (is.0 i) (joined h n) (h.now v t)) (h.now v t))
    ∙ (λ i. h.now (sym on.1 i) (sym is.1 i) ++ n ∷ [])
    ∙ sym (λ i. h.now v t ++ cond (on.0 i && is.0 i) (n ∷ []) [])
ack-by h n v t (inl on) (inr not) =
    (λ i. cond (on.0 i) (cond (not.0 i) (joined h n) (h.now v t)) (h.now v t)) ∙ sym (append-nil (h.now v t))
    ∙ sym (λ i. h.now v t ++ cond (on.0 i && not.0 i) (n ∷ []) [])
ack-by h n v t (inr not) told =
    let x : Write = h.write n in
    (λ i. cond (not.0 i) (cond (nat_eq t x.track) (joined h n) (h.now v t)) (h.now v t)) ∙ sym (append-nil (h.now v t))
    ∙ sym (λ i. h.now v t ++ cond (not.0 i && nat_eq t x.track) (n ∷ []) [])

apart-event : (h : Histories) (e : Event) (v t : ℕ) → Apart v e → (after_event h e).now v t ≡ h.now v t ++ acked_in h.write v t e
apart-event h (Ack n) v t a = ack-by h n v t (eqb_tells v (h.write n).volume) (eqb_tells t (h.write n).track)
apart-event h e v t a = unheard-event OfAny h e v t a (λ n is any. absurd cc) ∙ sym (append-nil (h.now v t))

apart-lists : (es : List Event) (h : Histories) (v t : ℕ) → AllApart v es → (fold after_event h es).now v t ≡ h.now v t ++ acked_on h.write v t es
apart-lists [] h v t a = sym (append-nil (h.now v t))
apart-lists (e ∷ es) h v t a =
    apart-lists es (after_event h e) v t a.1
    ∙ (λ i. apart-event h e v t a.0 i ++ acked_on (unheard-write OfAny h e v a.0 i) v t es)
    ∙ append_assoc (h.now v t) (acked_in h.write v t e) (acked_on h.write v t es)

-- which of these events acknowledge a write on the track
acked-append : (f : ℕ → Write) (v t : ℕ) (es fs : List Event) → acked_on f v t (es ++ fs) ≡ acked_on f v t es ++ acked_on f v t fs
acked-append f v t [] fs = refl
acked-append f v t (e ∷ es) fs = ap (λ ns. acked_in f v t e ++ ns) (acked-append f v t es fs) ∙ sym (append_assoc (acked_in f v t e) (acked_on f v t es) (acked_on f v t fs))

acked-event : (f g : ℕ → Write) (v t : ℕ) (e : Event) → ((n : ℕ) → is_ack n e ≡ true → f n ≡ g n) → acked_in f v t e ≡ acked_in g v t e
acked-event f g v t (Ack n) same = λ i. let x : Write = same n (eq-eqb n n refl) i in cond (nat_eq v x.volume && nat_eq t x.track) (n ∷ []) []
acked-event f g v t e same = refl

acked-same : (f g : ℕ → Write) (v t : ℕ) (es : List Event) → ((n : ℕ) → list_any (is_ack n) es ≡ true → f n ≡ g n) → acked_on f v t es ≡ acked_on g v t es
acked-same f g v t [] same = refl
acked-same f g v t (e ∷ es) same =
    let one = acked-event f g v t e (λ n h. same n (or_left (is_ack n e) (list_any (is_ack n) es) h)) in
    let more = acked-same f g v t es (λ n h. same n (or_right (is_ack n e) (list_any (is_ack n) es) h)) in
    λ i. one i ++ more i

none-acked : (f : ℕ → Write) (v t : ℕ) (e : Event) → Of takes_none e → acked_in f v t e ≡ []
none-acked f v t (Ack n) h = absurd cc
none-acked f v t e h = refl

pub acked-none : (f : ℕ → Write) (v t : ℕ) (es : List Event) → TakesNone es → acked_on f v t es ≡ []
acked-none f v t [] a = refl
acked-none f v t (e ∷ es) a = λ i. none-acked f v t e a.0 i ++ acked-none f v t es a.1 i

-- from w to u, where these events were told
pub record ListGrows (v : ℕ) (w u : World) (es : List Event) : Type 0 where
  pub list : (t : ℕ) → lists u.events v t ≡ lists w.events v t ++ acked_on (histories u.events).write v t es
  pub writes : (n : ℕ) → list_any (is_ack n) w.events ≡ true → (histories u.events).write n ≡ (histories w.events).write n

pub grows-none : (v : ℕ) (w : World) → ListGrows v w w []
grows-none v w = record { list = λ t. sym (append-nil (lists w.events v t)); writes = λ n h. refl }

pub grows-apart : (v : ℕ) (w u : World) (es : List Event) → u.events ≡ w.events ++ es → AllApart v es → ListGrows v w u es
grows-apart v w u es is a =
    let here : histories u.events ≡ fold after_event (histories w.events) es = ap histories is ∙ histories-append w.events es in
    let same : (histories u.events).write ≡ (histories w.events).write = ap (λ (h : Histories). h.write) here ∙ unheard-writes OfAny es (histories w.events) v a in
    record {
      list = λ t. ap (λ (h : Histories). h.now v t) here ∙ apart-lists es (histories w.events) v t a ∙ ap (λ f. lists w.events v t ++ acked_on f v t es) (sym same);
      writes = λ n h. ap (λ (f : ℕ → Write). f n) same;
    }

pub grows-more : (v : ℕ) (w u x : World) (es fs : List Event) → u.events ≡ w.events ++ es → ListGrows v w u es → ListGrows v u x fs → ListGrows v w x (es ++ fs)
grows-more v w u x es fs is a b =
    let f : (ℕ → Write) = (histories u.events).write in
    let g : (ℕ → Write) = (histories x.events).write in
    let told : ((n : ℕ) → list_any (is_ack n) u.events ≡ (list_any (is_ack n) w.events || list_any (is_ack n) es)) = λ n. ap (list_any (is_ack n)) is ∙ list_any-append (is_ack n) w.events es in
    record {
      list = λ t.
          b.list t
          ∙ (λ i. a.list t i ++ acked_on g v t fs)
          ∙ ap (λ ns. (lists w.events v t ++ ns) ++ acked_on g v t fs) (acked-same f g v t es (λ n h. sym (b.writes n (told n ∙ or_right (list_any (is_ack n) w.events) (list_any (is_ack n) es) h))))
          ∙ append_assoc (lists w.events v t) (acked_on g v t es) (acked_on g v t fs)
          ∙ ap (λ ns. lists w.events v t ++ ns) (sym (acked-append g v t es fs));
      writes = λ n h. b.writes n (told n ∙ or_left (list_any (is_ack n) w.events) (list_any (is_ack n) es) h) ∙ a.writes n h;
    }

-- no restore stores a track of v
abbrev pub NoRestore : ℕ → Move → Type 0
NoRestore v (Restore x t u) = v ≢ x
NoRestore v m = Unit {0}

module _ (v q : ℕ) (w : World) (rows : SoundRows (table w)) (st : Stays v q w) (metro : is_metro (fields_at w.control v).primary ≡ true) where
  not-target : (x s : ℕ) → source (table w x) ≡ Some s → v ≢ x
  not-target x s h e = no-target v q w rows st x s (inl (sym e)) h

  not-second : (x : ℕ) → is_part (fields_at w.control x).secondary ≡ true → v ≢ x
  not-second x h e = false_true (metro-second (table w v) (rows.parts.fit v) metro) (ap (λ j. is_part (fields_at w.control j).secondary) e ∙ h)

  not-single : (x : ℕ) → is_part (fields_at w.control x).primary ≡ false → v ≢ x
  not-single x h e = false_true h (ap (λ j. is_part (fields_at w.control j).primary) (sym e) ∙ first v q w rows st)

  pub apart-told : (m : Move) → Allowed (histories w.events).write (table w) m → NoRestore v m → (u : Volume) → AllApart v (told m u)
  apart-told (Relate x s choices) a off u = (not-single x a.no_primary, tt)
  apart-told (Withdraw x) a off u = unheard-blanked OfAny v x _ (not-target x a.from a.related)
  apart-told (Resync x s) a off u = (not-target x a.from a.related, tt)
  apart-told (Reverse x None) a off u = unheard-restored OfAny v x _ _ _ (not-target x a.resync.from a.resync.related)
  apart-told (Reverse x (Some p)) a off u = (tt, unheard-restored OfAny v x _ _ _ (not-target x a.resync.from a.resync.related))
  apart-told (Release x t) a off u = unheard-restored OfAny v x _ _ _ (not-target x a.from a.related)
  apart-told (Store x t y last) a off u = (not-second x (chosen _ _ y a.takes).0, tt)
  apart-told (Mirror x t y n) a off u = (not-second x (chosen _ _ y a.takes).0, tt)
  apart-told (Flash x y p s n) a off u = (not-target x a.resync.from a.resync.related, tt)
  apart-told (Revert x p s n) a off u = (not-target x a.from a.related, tt)
  apart-told m a off u = first_of (assumption, search (unheard-told OfAny v m u))

  pub apart-stop : (m : Move) → Allowed (histories w.events).write (table w) m → NoRestore v m → (u : Volume) (s k : ℕ) → AllApart v (told_in_stop m u ++ Stopped s k ∷ [])
  apart-stop (Land n x t) a off u s k = (tt, tt)
  apart-stop m a off u s k = first_of (assumption, assumption (unheard-append OfAny v (told m u) (Stopped s k ∷ []) (apart-told m a off u) (tt, tt)))
