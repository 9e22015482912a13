-- A drain of all tracks is answered by the state in which it begins, and so is a second one right after it.
use Rattle.std.proofs.Common.{ℕ, ◌≡◌, ◌≢◌, ◌<◌, inl, inr, ◌⊎◌, refl, ap, sym, ◌∙◌, subst, Bool, true, false, cond, not, ◌&&◌, List, [], ◌∷◌, ◌++◌, length, Option, Some, None, Ok}
use Rattle.std.specs.Prelude.{is_some}
use Rattle.std.specs.Option.{option_or}
use Rattle.std.specs.FinSet.{contains, len}
use Rattle.std.proofs.lemmas.Bool.{and_parts, and_from, and_right, false_from_ne_true, eq-eqb}
use Rattle.dr_ids.specs.declared.refusal.Refusal.{Refusal}
use Rattle.dr_ids.specs.declared.refusal.Refusal.TheVariants.{Stopped, JournalFull, Held, PairState as PairIs}
use Rattle.dr_ids.specs.declared.refusal.Kind.TheVariants.{Volume as OfVolume, Path as OfPath}
use Rattle.dr_ids.specs.declared.refusal.PairSeen.{PairSeen}
use Rattle.dr_ids.specs.declared.refusal.PairSeen.TheVariants.{None as NoPair}
use Rattle.dr_logic.specs.Bytes.{zeros}
use Rattle.dr_model.specs.Refusals.{stopped, unknown, server_off}
use Rattle.dr_model.specs.declared.event.Event.{Event}
use Rattle.dr_model.specs.declared.said.Addition.TheVariants.{Counted}
use Rattle.dr_model.specs.declared.said.Said.{Said}
use Rattle.dr_model.specs.declared.said.Said.TheVariants.{Done, Refused}
use Rattle.dr_model.specs.declared.state.PairState.{PairState}
use Rattle.dr_model.specs.declared.state.PairState.TheVariants.{CopyPending, FullDuplex, Suspended}
use Rattle.dr_model.specs.declared.step.Step.TheVariants.{Drain}
use Rattle.dr_model.specs.Layout.{Fields, is_part}
use Rattle.dr_model.specs.Messages.{Flight}
use Rattle.dr_model.specs.Sessions.{Session}
use Rattle.dr_model.specs.Relations.{is_bare}
use Rattle.dr_model.specs.Pairs.{is_secondary_of, is_cascaded, is_metro, is_pending, holds_back, secondary_of, secondary_seen, suspended, state_seen, target_seen}
use Rattle.dr_model.specs.Control.{Control, Fuse, Volume, World}
use Rattle.dr_model.specs.Moves.{Move, Suspend, tracks_after}
use Rattle.dr_model.specs.Carry.{Make, Pass, Do, End, Entry, Outcome, Turn, continue, follow, carry, entries_in}
use Rattle.dr_model.specs.Entries.{fields_at, is_running, copy_first, stands_in, is_revertible, relation_state, pair_state, secondary_state}
use Rattle.dr_model.specs.PairEntries.{link_down, has_path, are_linked, belongs_to, end_if, refuse_if, send_refusal, suspend_where, flashed_refusal, held_refusal, store_on, strike_on, sends, send_first, feeds, suspend_after, is_copying, tracks_to_send}
use Rattle.dr_model.specs.Plans.{Plan, refuses, is_defined, has_room, drain_plan}
use Rattle.dr_model.specs.Carried.{finish, answered, stop_place, said, masters_lost}
use Rattle.dr_model.specs.Runs.{Task, run, after_task, answered_part}
use Rattle.dr_model.specs.Laws.{Sound}
use Rattle.dr_model.proofs.CarryLemmas.{act-move, carry-none, carry-first, carry-skips, carry-passed, carry-refused, plan-ends}
use Rattle.dr_facts.proofs.Relations.{copies-from}
use Rattle.dr_facts.proofs.Tables.{at_part, at_cases}
use Rattle.dr_facts.proofs.Tracks.{bare-has}
use Rattle.dr_logic.proofs.Choices.{choose_some}
use Rattle.dr_logic.proofs.Tables.{at_same, at_other}
use Rattle.dr_logic.proofs.Truth.{false_true}
use Rattle.dr_laws_sound.specs.Acknowledged.{said_in, part_answer}
use Rattle.dr_laws_sound.proofs.CopyFirst.{unturned}
use Rattle.dr_laws_sound.proofs.FitsCollide.{third-apart}
use Rattle.dr_laws_sound.proofs.FitsDrain.{feeds-joined}
use Rattle.dr_laws_sound.proofs.FitsFlash.{as_begun}
use Rattle.dr_laws_sound.proofs.FitsPairs.{its-first, row, runs-done}
use Rattle.dr_laws_sound.proofs.Lands.{unflashed-by}
use Rattle.dr_laws_sound.proofs.Steps.{sound-run}
use Rattle.dr_laws_sound.proofs.Turns.{done, turn-armed}
use Rattle.dr_laws_recovery.specs.Emptied.{IsEmptied}
use Rattle.dr_laws_recovery.proofs.Emptied.{drain-empties}
use Rattle.dr_laws_return.specs.Drains.{Ending, seen_as, stays, parted, sent, drain_ends, EndsSo, EndsOrStops, DrainsOrStops, with_room, SecondDrains}
use Rattle.dr_laws_return.proofs.Counts.{length-in_order, none-in_order}
use Rattle.dr_laws_return.proofs.Drains.{HasFuse, Ready, Goes, all-go, drains-go}
use Rattle.dr_laws_return.proofs.Returned.{bare-none}

-- ---- the rows

-- a refusal that isn't that of a stop
abbrev Unstopped : Refusal → Type 0
Unstopped (Stopped q) = ⊥
Unstopped r = Unit {0}

abbrev IsUnstopped : Said → Type 0
IsUnstopped (Refused r) = Unstopped r
IsUnstopped a = Unit {0}

unless : (P : Ending → Type 0) (b : Bool) (e g : Ending) → (b ≡ false → P e) → (b ≡ true → P g) → P (cond (not b) e g)
unless P false e g p q = p refl
unless P true e g p q = q refl

if-so : (P : Ending → Type 0) (b : Bool) (e g : Ending) → (b ≡ true → P e) → (b ≡ false → P g) → P (cond b e g)
if-so P true e g p q = p refl
if-so P false e g p q = q refl

-- x is a primary in Copy Pending on a running server
record Begins (k : Control) (x : ℕ) : Type 0 where
  there : is_defined x k ≡ true
  on : is_running x k ≡ true
  copying : is_copying x k ≡ true

-- y can be sent to, and takes what it is sent
record Takes (k : Control) (x y : ℕ) : Type 0 where
  path : has_path x y k ≡ true
  other : is_running y k ≡ true
  linked : are_linked x y k ≡ true
  follows : belongs_to x y k ≡ true
  free : stands_in is_revertible k y ≡ false
  let_in : holds_back (fields_at k y) ≡ false

-- why x can't send to y, by what decides it
abbrev sends_by : Control → ℕ → ℕ → Bool → Bool → Bool → Bool → Option Refusal
sends_by k x y path other linked follows =
    option_or (cond (not path) (Some (unknown OfPath)) (cond (not other) (Some (server_off (k.volume y).server)) (cond (not linked) (Some (link_down (k.volume x).server (k.volume y).server)) None)))
    (cond follows None (Some (secondary_state k y)))

-- What holds of each row, holds of how a drain ends. Four rows are those of a refusal to send.
module _ (k : Control) (x : ℕ) (P : Ending → Type 0) where
  abbrev own : Fields
  own = fields_at k x

  abbrev partner : ℕ
  partner = own.primary_partner

  each-row : (is_defined x k ≡ false → P (stays own (Refused (unknown OfVolume))))
      → (is_defined x k ≡ true → is_running x k ≡ false → P (stays own (Refused (server_off (k.volume x).server))))
      → (is_defined x k ≡ true → is_running x k ≡ true → is_copying x k ≡ false → P (stays own (Refused (pair_state k x))))
      → (Begins k x → is_bare own.out_of_sync ≡ true → P (stays own (Done (Counted 0))))
      → (Begins k x → is_bare own.out_of_sync ≡ false → (r : Refusal) → Unstopped r → send_refusal x partner k ≡ Some r → P (parted x r))
      → (Begins k x → is_bare own.out_of_sync ≡ false → send_refusal x partner k ≡ None → stands_in is_revertible k partner ≡ true
      → P (stays own (Refused (relation_state k partner))))
      → (Begins k x → is_bare own.out_of_sync ≡ false → send_refusal x partner k ≡ None → stands_in is_revertible k partner ≡ false
      → holds_back (fields_at k partner) ≡ true → P (stays own (Refused (Held (record { 0 = partner })))))
      → (Begins k x → is_bare own.out_of_sync ≡ false → Takes k x partner → P (sent x own.primary (len own.out_of_sync)))
      → P (drain_ends k x)
  each-row unknown_is off idle bare parts flashed held goes =
      unless P (is_defined x k) _ _ unknown_is (λ there.
      unless P (is_running x k) _ _ (off there) (λ on.
      unless P (is_copying x k) _ _ (idle there on) (λ copying.
      let b : Begins k x = record { there = there; on = on; copying = copying } in
      if-so P (is_bare own.out_of_sync) _ _ (bare b) (λ some.
      unless P (has_path x partner k) _ _ (λ h. parts b some _ tt (λ i. sends_by k x partner (h i) (is_running partner k) (are_linked x partner k) (belongs_to x partner k))) (λ path.
      unless P (is_running partner k) _ _ (λ h. parts b some _ tt (λ i. sends_by k x partner (path i) (h i) (are_linked x partner k) (belongs_to x partner k))) (λ other.
      unless P (are_linked x partner k) _ _ (λ h. parts b some _ tt (λ i. sends_by k x partner (path i) (other i) (h i) (belongs_to x partner k))) (λ linked.
      unless P (belongs_to x partner k) _ _ (λ h. parts b some _ tt (λ i. sends_by k x partner (path i) (other i) (linked i) (h i))) (λ follows.
      let none : send_refusal x partner k ≡ None = λ i. sends_by k x partner (path i) (other i) (linked i) (follows i) in
      if-so P (stands_in is_revertible k partner) _ _ (flashed b some none) (λ free.
      if-so P (holds_back (fields_at k partner)) _ _ (held b some none free) (λ let_in.
      goes b some (record { path = path; other = other; linked = linked; follows = follows; free = free; let_in = let_in })))))))))))

-- ---- how the entries end

module _ (w : World) (x : ℕ) where
  abbrev first : World
  first = as_begun w

  abbrev f : Fields
  f = fields_at w.control x

  abbrev y : ℕ
  y = f.primary_partner

  abbrev c : ℕ
  c = (fields_at w.control y).primary_partner

  abbrev p : Plan
  p = drain_plan w.control x None

  abbrev ts : List ℕ
  ts = tracks_to_send None (w.control.volume x).tracks f.out_of_sync

  abbrev sent_by : Bool → List ℕ → List Entry
  sent_by fed qs = entries_in (cond fed (feeds w.control.volumes x y c qs) (record { entries = sends w.control.volumes x y qs; follows = suspend_after x } ∷ []))

  unknown-ends : is_defined x w.control ≡ false → carry first p.entries ≡ (first, Some (unknown OfVolume))
  unknown-ends h = carry-refused first (is_defined x) _ _ h

  off-ends : is_defined x w.control ≡ true → is_running x w.control ≡ false → carry first p.entries ≡ (first, Some (server_off (w.control.volume x).server))
  off-ends there h = carry-passed first (is_defined x) _ _ there ∙ carry-refused first (is_running x) _ _ h

  idle-ends : is_defined x w.control ≡ true → is_running x w.control ≡ true → is_copying x w.control ≡ false → carry first p.entries ≡ (first, Some (pair_state w.control x))
  idle-ends there on h = carry-passed first (is_defined x) _ _ there ∙ carry-passed first (is_running x) _ _ on ∙ carry-refused first (is_copying x) _ _ h

  -- a primary that isn't in Copy Pending says how its pair is seen
  seen-ends : (state : PairState) → is_defined x w.control ≡ true → is_running x w.control ≡ true → is_part f.primary ≡ true → f.primary_state ≡ state → is_pending state ≡ false
      → carry first p.entries ≡ (first, Some (PairIs (record { 0 = x }) (state_seen state)))
  seen-ends state there on leads is idle =
      idle-ends there on (ap (λ s. is_part f.primary && is_pending s) is ∙ ap (λ b. is_part f.primary && b) idle ∙ and_right (is_part f.primary) false refl)
      ∙ ap (λ (s : PairSeen). (first, Some (PairIs (record { 0 = x }) s)))
      (ap (λ b. cond b (state_seen f.primary_state) (cond (is_part f.secondary) (target_seen f.secondary_state) NoPair)) leads ∙ ap state_seen is)

  passes : Begins w.control x → carry first p.entries ≡ carry first (sent_by (is_cascaded (fields_at w.control y)) ts)
  passes b = carry-passed first (is_defined x) _ _ b.there ∙ carry-passed first (is_running x) _ _ b.on ∙ carry-passed first (is_copying x) _ _ b.copying

  none-ends : Begins w.control x → ts ≡ [] → carry first p.entries ≡ (first, None)
  none-ends b none = passes b ∙ ap (λ qs. carry first (sent_by (is_cascaded (fields_at w.control y)) qs)) none ∙ by (is_cascaded (fields_at w.control y))
    where
      by : (fed : Bool) → carry first (sent_by fed []) ≡ (first, None)
      by true = carry-none first
      by false = carry-none first

  -- ---- something is out of sync

  module _ (b : Begins w.control x) (ne : y ≢ x) (t : ℕ) (us : List ℕ) (some : ts ≡ t ∷ us) where
    abbrev rest_by : Bool → List Entry
    rest_by true = refuse_if (held_refusal y) ∷ send_first w.control.volumes y c t ++ (copy_first w.control.volumes y t ++ store_on x y t ∷ strike_on x t ∷ entries_in (feeds w.control.volumes x y c us))
    rest_by false = (copy_first w.control.volumes y t ++ store_on x y t ∷ strike_on x t ∷ []) ++ sends w.control.volumes x y us

    abbrev rest : List Entry
    rest = rest_by (is_cascaded (fields_at w.control y))

    joined : (fed : Bool) → sent_by fed (t ∷ us) ≡ suspend_where (send_refusal x y) x ∷ refuse_if (send_refusal x y) ∷ refuse_if (flashed_refusal y) ∷ rest_by fed
    joined true = feeds-joined w.control.volumes x y c t us
    joined false = refl

    begins : carry first p.entries ≡ carry first (suspend_where (send_refusal x y) x ∷ refuse_if (send_refusal x y) ∷ refuse_if (flashed_refusal y) ∷ rest)
    begins = passes b ∙ ap (λ qs. carry first (sent_by (is_cascaded (fields_at w.control y)) qs)) some ∙ ap (carry first) (joined (is_cascaded (fields_at w.control y)))

    skips : (ds : List Entry) → send_refusal x y w.control ≡ None → carry first (suspend_where (send_refusal x y) x ∷ refuse_if (send_refusal x y) ∷ ds) ≡ carry first ds
    skips ds none =
        carry-skips first (suspend_where (send_refusal x y) x) (refuse_if (send_refusal x y) ∷ ds) (ap (λ o. cond (is_some o) (Do (Make (Suspend x false))) Pass) none)
        ∙ carry-skips first (refuse_if (send_refusal x y)) ds (ap end_if none)

    flashed-ends : send_refusal x y w.control ≡ None → stands_in is_revertible w.control y ≡ true → carry first p.entries ≡ (first, Some (relation_state w.control y))
    flashed-ends none h =
        begins ∙ skips (refuse_if (flashed_refusal y) ∷ rest) none
        ∙ carry-first first (refuse_if (flashed_refusal y)) rest (End (relation_state w.control y)) (ap (λ b. end_if (cond b (Some (relation_state w.control y)) None)) h)

    held-ends : send_refusal x y w.control ≡ None → stands_in is_revertible w.control y ≡ false → holds_back (fields_at w.control y) ≡ true
        → carry first p.entries ≡ (first, Some (Held (record { 0 = y })))
    held-ends none free h =
        begins ∙ skips (refuse_if (flashed_refusal y) ∷ rest) none
        ∙ carry-skips first (refuse_if (flashed_refusal y)) rest (ap (λ b. end_if (cond b (Some (relation_state w.control y)) None)) free)
        ∙ ap (λ fed. carry first (rest_by fed)) (and_parts (is_cascaded (fields_at w.control y)) _ h).0
        ∙ carry-first first (refuse_if (held_refusal y)) _ (End (Held (record { 0 = y }))) (ap (λ b. end_if (cond b (Some (Held (record { 0 = y }))) None)) h)

    -- ---- y can't be sent to

    abbrev m : Move
    m = Suspend x false

    abbrev gone : Option Fuse → World
    gone g = done first m g

    -- x is Suspended, and the send refused; or a server with a fuse stops
    abbrev Parts : Refusal → Outcome → Type 0
    Parts r o = ((g : Option Fuse) × (o ≡ (gone g, Some r))) ⊎ ((u : World) × ((q : ℕ) × ((o ≡ (u, Some (stopped q))) × HasFuse w q)))

    abbrev still_by : ℕ → ℕ → Bool → PairSeen → Option Refusal
    still_by i j follows seen =
        option_or (cond (not (has_path x y w.control)) (Some (unknown OfPath)) (cond (not (w.control.on j)) (Some (server_off j)) (cond (not (w.control.link i j)) (Some (link_down i j)) None)))
        (cond follows None (Some (PairIs (record { 0 = y }) seen)))

    still : (g : Option Fuse) → send_refusal x y (gone g).control ≡ send_refusal x y w.control
    still g =
        let server : (v : ℕ) → ((gone g).control.volume v).server ≡ (w.control.volume v).server = at_part (λ (u : Volume). u.server) w.control.volume x (row first m g) refl in
        let there : (gone g).control.volume y ≡ w.control.volume y = at_other w.control.volume x (row first m g) y ne in
        λ i. still_by (server x i) (server y i) (is_secondary_of x (there i).fields) (secondary_seen (there i).fields)

    parts-ends : (r : Refusal) → send_refusal x y w.control ≡ Some r → Parts r (carry first p.entries)
    parts-ends r is =
        let more : List Entry = refuse_if (send_refusal x y) ∷ refuse_if (flashed_refusal y) ∷ rest in
        subst (Parts r) (sym (begins ∙ carry-first first (suspend_where (send_refusal x y) x) more (Do (Make m)) (ap (λ o. cond (is_some o) (Do (Make m)) Pass) is)))
        (subst (λ (t : Turn). Parts r (continue t.0 t.1 (λ v. carry v more))) (sym (act-move first m))
        (turn-armed first m (λ (t : Turn). Parts r (continue t.0 t.1 (λ v. carry v more)))
        (λ down. false_true down b.on)
        (λ g same. inl (g, carry-first (gone g) (refuse_if (send_refusal x y)) (refuse_if (flashed_refusal y) ∷ rest) (End r) (ap end_if (still g ∙ is))))
        (λ armed g. inr (_, (_, (refl, armed)))) (λ armed g. inr (_, (_, (refl, armed))))))

-- ---- the step

-- what a step that is a drain answers, by its plan
says-with : (w : World) (t : Task) (x : ℕ) (a : Said) → t.asked ≡ Ok (Drain x None)
    → part_answer (record { world = w; plan = drain_plan w.control x None }) ≡ a → said_in w t ≡ with_room w a
says-with w t x a asked is =
    let t_is : t ≡ record { line = t.line; asked = Ok (Drain x None); listed = t.listed } = λ i. record t { asked = asked i } in
    ap (said_in w) t_is ∙ by (has_room w.events)
  where
    by : (room : Bool) → part_answer (record { world = w; plan = cond room (drain_plan w.control x None) (refuses JournalFull) }) ≡ cond room a (Refused JournalFull)
    by true = is
    by false = ap (λ (o : Outcome). answered (refuses JournalFull) (finish (refuses JournalFull) (stop_place w (refuses JournalFull)) o.0 o.1).control o.1) (carry-none (as_begun w))

-- nothing follows a refusal that isn't that of a stop
follow-not : (u : World) (r : Refusal) (ds : List Entry) → Unstopped r → follow u r ds ≡ u
follow-not u (Stopped q) ds un = absurd un
follow-not u r ds un = refl

ends-so : (w : World) (e : Ending) (u : World) (x : ℕ) (r : Refusal) → Unstopped r → EndsSo e w u x (Refused r) → EndsOrStops w e u x (Refused r)
ends-so w e u x (Stopped q) un so = absurd un
ends-so w e u x r un so = so

module _ (w : World) (s : Sound w) (x : ℕ) (t : Task) (asked : t.asked ≡ Ok (Drain x None)) (room : has_room w.events ≡ true) where
  abbrev u : World
  u = after_task w t

  abbrev here : Plan
  here = p w x

  abbrev state_of : Fields
  state_of = f w x

  -- how the step is answered and ends, by how its entries end
  module _ (o : Outcome) (is : carry (as_begun w) here.entries ≡ o) where
    abbrev end : World
    end = finish here (stop_place w here) o.0 o.1

    says-by : said_in w t ≡ answered here end.control o.1
    says-by =
        says-with w t x (answered here end.control o.1) asked (ap (λ (o : Outcome). answered here (finish here (stop_place w here) o.0 o.1).control o.1) is)
        ∙ ap (λ b. cond b (answered here end.control o.1) (Refused JournalFull)) room

    left-by : u ≡ masters_lost w (said end t.line (answered here end.control o.1))
    left-by =
        let t_is : t ≡ record { line = t.line; asked = Ok (Drain x None); listed = t.listed } = λ i. record t { asked = asked i } in
        ap (λ (t : Task). after_task w t) t_is ∙ ap (λ b. answered_part t.line (record { world = w; plan = cond b here (refuses JournalFull) })) room
        ∙ ap (masters_lost w) (plan-ends w t.line here o is)

  -- A second drain is answered so.
  abbrev Second : Ending → Type 0
  Second e = (next : Task) → next.asked ≡ Ok (Drain x None) → said_in w t ≡ e.answer → said_in u next ≡ with_room u e.second

  abbrev Both : Ending → Type 0
  Both e = EndsOrStops w e u x (said_in w t) × Second e

  -- by how its entries end in the world that the first one left
  second-says : (v : World) (r : Option Refusal) (a : Said) → u ≡ v → carry (as_begun v) (p v x).entries ≡ (as_begun v, r) → answered (p v x) (as_begun v).control r ≡ a
      → (next : Task) → next.asked ≡ Ok (Drain x None) → said_in u next ≡ with_room u a
  second-says v r a left ends = by r ends
    where
      by : (r : Option Refusal) → carry (as_begun v) (p v x).entries ≡ (as_begun v, r) → answered (p v x) (as_begun v).control r ≡ a
          → (next : Task) → next.asked ≡ Ok (Drain x None) → said_in u next ≡ with_room u a
      by r ends is next wanted =
          subst (λ (z : World). said_in z next ≡ with_room z a) (sym left)
          (says-with v next x a wanted (ap (λ (o : Outcome). answered (p v x) (finish (p v x) (stop_place v (p v x)) o.0 o.1).control o.1) ends ∙ said_so r is))
        where
          said_so : (r : Option Refusal) → answered (p v x) (as_begun v).control r ≡ a → answered (p v x) (finish (p v x) (stop_place v (p v x)) (as_begun v) r).control r ≡ a
          said_so None is = is
          said_so (Some r) is = is

  -- ---- nothing is sent

  -- the same volumes and servers, with other sessions, messages and events
  abbrev beside : List Session → Flight → List Event → World
  beside sessions flight events = record w { control = record w.control { sessions = sessions; flight = flight }; events = events }

  abbrev Quiet : Option Refusal → Type 0
  Quiet r =
      (ss : List Session) (fl : Flight) (es : List Event)
      → carry (as_begun (beside ss fl es)) (p (beside ss fl es) x).entries ≡ (as_begun (beside ss fl es), r)

  quiet-refused : (r : Refusal) → Unstopped r → Quiet (Some r) → Both (stays state_of (Refused r))
  quiet-refused r un quiet =
      let first_ends : carry (as_begun w) here.entries ≡ (as_begun w, Some r) = quiet w.control.sessions w.control.flight w.events in
      let says : said_in w t ≡ Refused r = says-by (as_begun w, Some r) first_ends in
      let left : u ≡ masters_lost w (said (as_begun w) t.line (Refused r)) =
      left-by (as_begun w, Some r) first_ends ∙ ap (λ v. masters_lost w (said v t.line (Refused r))) (follow-not (as_begun w) r (here.follows (stop_place w here)) un) in (
        subst (EndsOrStops w (stays state_of (Refused r)) u x) (sym says)
            (ends-so w (stays state_of (Refused r)) u x r un (record {
              answer = refl;
              state = ap (λ (z : World). (fields_at z.control x).primary_state) left;
              emptied = λ a h. absurd cc;
              unsent = λ q h. record { others = λ v ne. ap (λ (z : World). z.control.volume v) left; tracks = λ v i. ap (λ (z : World). z.contents v i) left };
              kept = λ h. (ap (λ (z : World). z.control.volume) left, ap (λ (z : World). z.contents) left);
            })),
        λ next wanted h. second-says (masters_lost w (said (as_begun w) t.line (Refused r))) (Some r) (Refused r) left (quiet _ _ _) refl next wanted,
      )

  quiet-none : is_bare state_of.out_of_sync ≡ true → ts w x ≡ [] → Quiet None → Both (stays state_of (Done (Counted 0)))
  quiet-none bare none quiet =
      let first_ends : carry (as_begun w) here.entries ≡ (as_begun w, None) = quiet w.control.sessions w.control.flight w.events in
      let count : Done (Counted (length (ts w x))) ≡ Done (Counted 0) = ap (λ (qs : List ℕ). Done (Counted (length qs))) none in
      let says : said_in w t ≡ Done (Counted 0) = says-by (as_begun w, None) first_ends ∙ count in
      let left : u ≡ masters_lost w (said (as_begun w) t.line (Done (Counted (length (ts w x))))) = left-by (as_begun w, None) first_ends in (
        subst (EndsOrStops w (stays state_of (Done (Counted 0))) u x) (sym says) (record {
          answer = refl;
          state = ap (λ (z : World). (fields_at z.control x).primary_state) left;
          emptied = λ a h q. ap (λ (z : World). contains (fields_at z.control x).out_of_sync q) left ∙ bare-has state_of.out_of_sync q bare;
          unsent = λ q h. absurd cc;
          kept = λ h. (ap (λ (z : World). z.control.volume) left, ap (λ (z : World). z.contents) left);
        }),
        λ next wanted h. second-says (masters_lost w (said (as_begun w) t.line (Done (Counted (length (ts w x)))))) None (Done (Counted 0)) left (quiet _ _ _) count next wanted,
      )

  -- ---- x is Suspended

  -- a refusal that isn't that of a stop is another one
  not-stopped : {X : Type 0} (q : ℕ) (a : Said) → IsUnstopped a → Refused (stopped q) ≡ a → X
  not-stopped q a un e = absurd (subst IsUnstopped (sym e) un)

  stopped-so : (e : Ending) (z : World) (q : ℕ) → e.writes ≡ true → IsUnstopped e.answer → carry (as_begun w) here.entries ≡ (z, Some (stopped q)) → HasFuse w q → Both e
  stopped-so e z q writes un is armed =
      let says : said_in w t ≡ Refused (stopped q) = says-by (z, Some (stopped q)) is in
      (subst (EndsOrStops w e u x) (sym says) (writes, armed), λ next wanted h. not-stopped q e.answer un (sym says ∙ h))

  module _ (b : Begins w.control x) where
    leads : is_part state_of.primary ≡ true
    leads = (and_parts (is_part state_of.primary) _ b.copying).0

    pending : state_of.primary_state ≡ CopyPending
    pending = by state_of.primary_state (and_parts (is_part state_of.primary) _ b.copying).1
      where
        by : (s : PairState) → is_pending s ≡ true → s ≡ CopyPending
        by CopyPending is = refl
        by FullDuplex is = absurd cc
        by Suspended is = absurd cc

    second : secondary_of state_of ≡ Some (y w x)
    second = choose_some (is_part state_of.primary) (y w x) leads

    apart : x ≢ y w x
    apart e = (s.rows.parts.secondary x (y w x) second).apart (ap (λ v. (w.control.volume v).server) e)

    low : (q : ℕ) → contains state_of.out_of_sync q ≡ true → q < (w.control.volume x).tracks
    low q h = (s.rows.structure.lawful x).sets.out_of_sync_low q h

    count : length (ts w x) ≡ len state_of.out_of_sync
    count = length-in_order (w.control.volume x).tracks state_of.out_of_sync low

    -- some track is sent first
    record Some_out : Type 0 where
      first_out : ℕ
      more : List ℕ
      is : ts w x ≡ first_out ∷ more

    some-out : is_bare state_of.out_of_sync ≡ false → Some_out
    some-out some = by (ts w x) refl count
      where
        by : (qs : List ℕ) → ts w x ≡ qs → length qs ≡ len state_of.out_of_sync → Some_out
        by [] is none = false_true some (eq-eqb (len state_of.out_of_sync) 0 (sym none))
        by (q ∷ qs) is n = record { first_out = q; more = qs; is = is }

    -- a suspension changes no track
    suspended-tracks : (g : Option Fuse) (v i : ℕ) → (done (as_begun w) (Suspend x false) g).contents v i ≡ w.contents v i
    suspended-tracks g v i = at_cases (λ v (bytes : ℕ → List ℕ). bytes i ≡ w.contents v i) w.contents x (tracks_after (suspended false state_of) None (w.contents x)) (by (contains state_of.blank i) refl) (λ v ne. refl) v
      where
        by : (blank : Bool) → contains state_of.blank i ≡ blank → cond blank zeros (w.contents x i) ≡ w.contents x i
        by true is = sym (s.rows.images.blank x i is)
        by false is = refl

    parts-so : is_bare state_of.out_of_sync ≡ false → (r : Refusal) → Unstopped r → send_refusal x (y w x) w.control ≡ Some r → Both (parted x r)
    parts-so some r un is =
        let out : Some_out = some-out some in
        by (parts-ends w x b (λ e. apart (sym e)) out.first_out out.more out.is r is)
      where
        suspends : (g : Option Fuse) → carry (as_begun w) here.entries ≡ (done (as_begun w) (Suspend x false) g, Some r) → Both (parted x r)
        suspends g ends =
            let z : World = done (as_begun w) (Suspend x false) g in
            let v : World = masters_lost w (said z t.line (Refused r)) in
            let says : said_in w t ≡ Refused r = says-by (z, Some r) ends in
            let left : u ≡ v = left-by (z, Some r) ends ∙ ap (λ (a : World). masters_lost w (said a t.line (Refused r))) (follow-not z r (here.follows (stop_place w here)) un) in
            let now : z.control.volume x ≡ row (as_begun w) (Suspend x false) g = at_same w.control.volume x (row (as_begun w) (Suspend x false) g) in
            let still_leads : is_part (fields_at z.control x).primary ≡ true = ap (λ (a : Volume). is_part a.fields.primary) now ∙ leads in
            let suspended : (fields_at z.control x).primary_state ≡ Suspended = ap (λ (a : Volume). a.fields.primary_state) now in (
              subst (EndsOrStops w (parted x r) u x) (sym says)
                  (ends-so w (parted x r) u x r un (record {
                    answer = refl;
                    state = ap (λ (a : World). (fields_at a.control x).primary_state) left ∙ suspended;
                    emptied = λ a h. absurd cc;
                    unsent = λ q h. record {
                      others = λ v ne. ap (λ (a : World). a.control.volume v) left ∙ at_other w.control.volume x (row (as_begun w) (Suspend x false) g) v ne;
                      tracks = λ v i. ap (λ (a : World). a.contents v i) left ∙ suspended-tracks g v i;
                    };
                    kept = λ h. absurd cc;
                  })),
              λ next wanted h. second-says v (Some (PairIs (record { 0 = x }) (state_seen Suspended))) (Refused (PairIs (record { 0 = x }) (state_seen Suspended))) left
                  (seen-ends v x Suspended b.there (runs-done (as_begun w) (Suspend x false) g x b.on) still_leads suspended refl) refl next wanted,
            )

        by : Parts w x b (λ e. apart (sym e)) (some-out some).first_out (some-out some).more (some-out some).is r (carry (as_begun w) here.entries) → Both (parted x r)
        by (inl (g, ends)) = suspends g ends
        by (inr (z, (q, (ends, armed)))) = stopped-so (parted x r) z q refl un ends armed

    -- ---- all is sent

    ready : is_bare state_of.out_of_sync ≡ false → Takes w.control x (y w x) → Ready w x (y w x) state_of.primary apart (as_begun w)
    ready some takes = record {
      there = b.there;
      runs = b.on;
      of_kind = refl;
      state = pending
          ∙ sym (ap (λ c. cond (is_metro state_of.primary && c) FullDuplex CopyPending) some ∙ ap (λ c. cond c FullDuplex CopyPending) (and_right (is_metro state_of.primary) false refl));
      path = takes.path;
      other = takes.other;
      linked = takes.linked;
      follows = takes.follows;
      plain = false_from_ne_true (fields_at w.control (y w x)).related
          (λ h. false_true ((s.rows.parts.fit (y w x)).no_secondary h) (and_parts (is_part (fields_at w.control (y w x)).secondary) _ takes.follows).0);
      free = λ v from. unturned (fields_at w.control v).revertible (λ h. unflashed-by w s (y w x) takes.free v (copies-from (y w x) (fields_at w.control v) from) h);
      let_in = takes.let_in;
      armed = λ q h. h;
    }

    goes-on : is_bare state_of.out_of_sync ≡ false → (takes : Takes w.control x (y w x)) → Goes w x (y w x) state_of.primary apart (carry (as_begun w) here.entries)
    goes-on some takes =
        let third : is_cascaded (fields_at w.control (y w x)) ≡ true → x ≢ c w x =
        λ fed e. third-apart w s x (y w x) (c w x) (its-first x (fields_at w.control (y w x)) takes.follows)
        (choose_some (is_part (fields_at w.control (y w x)).primary) (c w x) (and_parts (is_part (fields_at w.control (y w x)).primary) _ fed).0) (sym e) in
        subst (Goes w x (y w x) state_of.primary apart) (sym (passes w x b))
        (all-go w x (y w x) state_of.primary apart (sent_by w x (is_cascaded (fields_at w.control (y w x))) (ts w x))
        (drains-go w x (y w x) state_of.primary apart w.control.volumes (c w x) (ts w x) (is_cascaded (fields_at w.control (y w x))) third) (as_begun w) (ready some takes))

    abbrev n : ℕ
    n = len state_of.out_of_sync

    abbrev as_metro : Ending
    as_metro = record { answer = Done (Counted n); state = FullDuplex; writes = true; second = seen_as x (state_seen FullDuplex) }

    abbrev as_global : Ending
    as_global = record { answer = Done (Counted n); state = CopyPending; writes = true; second = Done (Counted 0) }

    module _ (z : World) (ends : carry (as_begun w) here.entries ≡ (z, None)) (end : Ready w x (y w x) state_of.primary apart z) where
      abbrev after : World
      after = masters_lost w (said z t.line (Done (Counted (length (ts w x)))))

      sent-says : said_in w t ≡ Done (Counted n)
      sent-says = says-by (z, None) ends ∙ ap (λ q. Done (Counted q)) count

      sent-left : u ≡ after
      sent-left = left-by (z, None) ends

      emptied : IsEmptied z x
      emptied = drain-empties w s x z ends

      bare : is_bare (fields_at z.control x).out_of_sync ≡ true
      bare = bare-none (fields_at z.control x).out_of_sync emptied

      state-by : (metro : Bool) → is_metro state_of.primary ≡ metro → (fields_at z.control x).primary_state ≡ cond metro FullDuplex CopyPending
      state-by metro is = end.state ∙ ap (λ c. cond (is_metro state_of.primary && c) FullDuplex CopyPending) bare ∙ ap (λ c. cond (c && true) FullDuplex CopyPending) is ∙ by metro
        where
          by : (c : Bool) → cond (c && true) FullDuplex CopyPending ≡ cond c FullDuplex CopyPending
          by true = refl
          by false = refl

      still-leads : is_part (fields_at z.control x).primary ≡ true
      still-leads = ap is_part end.of_kind ∙ leads

      ends-in : (e : Ending) → e.writes ≡ true → e.answer ≡ Done (Counted n) → (fields_at z.control x).primary_state ≡ e.state → EndsOrStops w e u x (said_in w t)
      ends-in e writes answer state =
          subst (EndsOrStops w e u x) (sym sent-says) (record {
            answer = sym answer;
            state = ap (λ (a : World). (fields_at a.control x).primary_state) sent-left ∙ state;
            emptied = λ a h q. ap (λ (a : World). contains (fields_at a.control x).out_of_sync q) sent-left ∙ emptied q;
            unsent = λ q h. absurd cc;
            kept = λ h. false_true h writes;
          })

      both-by : (metro : Bool) → is_metro state_of.primary ≡ metro → Both (cond metro as_metro as_global)
      both-by true is = (
        ends-in as_metro refl refl (state-by true is),
        λ next wanted h. second-says after (Some (PairIs (record { 0 = x }) (state_seen FullDuplex))) (seen_as x (state_seen FullDuplex)) sent-left
            (seen-ends after x FullDuplex end.there end.runs still-leads (state-by true is) refl) refl next wanted,
      )
      both-by false is =
          let none : ts after x ≡ [] = none-in_order (z.control.volume x).tracks (fields_at z.control x).out_of_sync bare in (
            ends-in as_global refl refl (state-by false is),
            λ next wanted h. second-says after None (Done (Counted 0)) sent-left
                (none-ends after x (record { there = end.there; on = end.runs; copying = and_from (is_part (fields_at z.control x).primary) _ still-leads (ap is_pending (state-by false is)) }) none)
                (ap (λ (qs : List ℕ). Done (Counted (length qs))) none) next wanted,
          )

    sent-so : is_bare state_of.out_of_sync ≡ false → Takes w.control x (y w x) → Both (sent x state_of.primary n)
    sent-so some takes = by (carry (as_begun w) here.entries) refl (goes-on some takes)
      where
        un : (metro : Bool) → IsUnstopped (cond metro as_metro as_global).answer
        un true = tt
        un false = tt

        written : (metro : Bool) → (cond metro as_metro as_global).writes ≡ true
        written true = refl
        written false = refl

        by : (o : Outcome) → carry (as_begun w) here.entries ≡ o → Goes w x (y w x) state_of.primary apart o → Both (cond (is_metro state_of.primary) as_metro as_global)
        by (z, None) ends end = both-by z ends end (is_metro state_of.primary) refl
        by (z, Some (Stopped q)) ends armed = stopped-so (cond (is_metro state_of.primary) as_metro as_global) z q.0 (written (is_metro state_of.primary)) (un (is_metro state_of.primary)) ends armed
        by (z, Some r) ends none = absurd none

  -- ---- each row

  both : Both (drain_ends w.control x)
  both =
      each-row w.control x Both
      (λ h. quiet-refused (unknown OfVolume) tt (λ ss fl es. unknown-ends (beside ss fl es) x h))
      (λ there h. quiet-refused (server_off (w.control.volume x).server) tt (λ ss fl es. off-ends (beside ss fl es) x there h))
      (λ there on h. quiet-refused (pair_state w.control x) tt (λ ss fl es. idle-ends (beside ss fl es) x there on h))
      (λ b bare.
      let none : ts w x ≡ [] = none-in_order (w.control.volume x).tracks state_of.out_of_sync bare in
      quiet-none bare none (λ ss fl es. none-ends (beside ss fl es) x (again ss fl es b) none))
      (λ b some r un is. parts-so b some r un is)
      (λ b some none h.
      let out : Some_out b = some-out b some in
      quiet-refused (relation_state w.control (y w x)) tt (λ ss fl es. flashed-ends (beside ss fl es) x (again ss fl es b) (λ e. apart b (sym e)) out.first_out out.more out.is none h))
      (λ b some none free h.
      let out : Some_out b = some-out b some in
      quiet-refused (Held (record { 0 = y w x })) tt (λ ss fl es. held-ends (beside ss fl es) x (again ss fl es b) (λ e. apart b (sym e)) out.first_out out.more out.is none free h))
      (λ b some takes. sent-so b some takes)
    where
      again : (ss : List Session) (fl : Flight) (es : List Event) → Begins w.control x → Begins (beside ss fl es).control x
      again ss fl es b = record { there = b.there; on = b.on; copying = b.copying }

pub drains-or-stops : (tasks : List Task) → DrainsOrStops tasks
drains-or-stops tasks t x asked room = (both (run tasks) (sound-run tasks) x t asked room).0

pub second-drains : (tasks : List Task) → SecondDrains tasks
second-drains tasks t next x asked wanted room says = (both (run tasks) (sound-run tasks) x t asked room).1 next wanted says
