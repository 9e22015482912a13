-- What a drain sends goes on to its end if the secondary takes the first track, or a server stops on which a fuse was armed.
use Rattle.std.proofs.Common.{ℕ, ◌≡◌, ◌≢◌, inl, inr, refl, ap, sym, ◌∙◌, subst, Bool, true, false, cond, not, ◌&&◌, ◌||◌, List, [], ◌∷◌, filter, Option, Some, None, ◌++◌}
use Rattle.std.specs.Prelude.{is_some}
use Rattle.std.specs.List.{list_any}
use Rattle.std.specs.Option.{option_or}
use Rattle.std.specs.FinSet.{remove}
use Rattle.std.proofs.lemmas.Bool.{and_right}
use Rattle.std.proofs.lemmas.Bool.Decides.{eqb_tells}
use Rattle.dr_ids.specs.declared.refusal.Refusal.{Refusal}
use Rattle.dr_ids.specs.declared.refusal.Refusal.TheVariants.{Stopped, Held}
use Rattle.dr_ids.specs.declared.refusal.Kind.TheVariants.{Path as OfPath}
use Rattle.dr_model.specs.Refusals.{unknown, server_off}
use Rattle.dr_model.specs.declared.state.Part.{Part}
use Rattle.dr_model.specs.declared.state.PairState.TheVariants.{CopyPending, FullDuplex}
use Rattle.dr_model.specs.Layout.{Fields, Tracks, no_fields}
use Rattle.dr_model.specs.Relations.{is_bare, parted_if, noted, fetched}
use Rattle.dr_model.specs.Pairs.{is_secondary_of, is_cascaded, is_metro, is_last, struck, holds_back}
use Rattle.dr_model.specs.Control.{Control, Fuse, Volume, World}
use Rattle.dr_model.specs.Moves.{Move, Keep, Note, Store, Strike, Suspend, target, fields_left}
use Rattle.dr_model.specs.Carry.{Act, Make, Next, Pass, Do, End, Entry, Outcome, Turn, continue, go, carry, turn, entries_in}
use Rattle.dr_model.specs.Entries.{fields_at, is_running, copies_from, copy_first, stands_in, is_revertible, relation_state, secondary_state}
use Rattle.dr_model.specs.PairEntries.{link_down, has_path, are_linked, belongs_to, refuse_if, end_if, send_refusal, suspend_where, flashed_refusal, store_on, strike_on, send_entries, sends, held_refusal, send_first, feeds, suspend_after}
use Rattle.dr_model.specs.Plans.{is_defined}
use Rattle.dr_model.proofs.CarryLemmas.{act-move}
use Rattle.dr_facts.proofs.Tables.{IsOrNot, at_cases, at_part}
use Rattle.dr_facts.proofs.Tracks.{bare-has, not_removed_from}
use Rattle.dr_logic.specs.Tables.{at}
use Rattle.dr_logic.proofs.Tables.{at_same, at_other}
use Rattle.dr_laws_sound.proofs.Turns.{server_at, done, turn-armed}
use Rattle.dr_laws_sound.proofs.FitsPairs.{row, runs-done, part-same}
use Rattle.dr_facts.proofs.Entries.{Fine, AllFine, FineThen, fine-none, fine-then, fine-append}
use Rattle.dr_facts.proofs.SharedEntries.{copies-fine, send_first-fine}
use Rattle.dr_laws_return.proofs.Returned.{bare-none}
use Rattle.dr_logic.proofs.Truth.{false_true}
use Rattle.dr_laws_sound.proofs.FitsDrain.{feeds-joined}

-- ---- a server stops where a fuse is armed alone

-- a fuse is armed on server q
abbrev pub HasFuse : World → ℕ → Type 0
HasFuse w q = is_some (w.control.fuse q) ≡ true

-- one that stops in a move had a fuse, and one that has a fuse behind a move had it before
turn-fuse : (w : World) (m : Move) (P : Turn → Type 0)
    → P (w, None)
    → ((f : Option Fuse) → (is_some f ≡ true → HasFuse w (server_at w (target m))) → P (done w m f, None))
    → (HasFuse w (server_at w (target m)) → (u : World) → P (u, Some (server_at w (target m))))
    → P (turn w m)
turn-fuse w m P a b c = turn-armed w m P (λ down. a) (λ f same. b f (λ h. sym same ∙ h)) (λ armed f. c armed _) (λ armed f. c armed _)

-- ---- the acts of a send

-- Acts that suspend another volume than x, store on another one, and strike off tracks of x by what it has out of sync then.
abbrev Sends : ℕ → World → Move → Type 0
Sends x w (Keep v t) = Unit {0}
Sends x w (Note v t) = Unit {0}
Sends x w (Store v t u last) = x ≢ v
Sends x w (Strike v t last) = v ≡ x → last ≡ is_last (fields_at w.control x) t
Sends x w (Suspend v busy) = x ≢ v
Sends x w m = ⊥

abbrev IsSend : ℕ → World → Act → Type 0
IsSend x w (Make m) = Sends x w m
IsSend x w a = ⊥

-- of a record they leave this
abbrev parts_of : Fields → Fields
parts_of f = record no_fields { primary = f.primary; secondary = f.secondary; secondary_partner = f.secondary_partner }

sends-leave : (x : ℕ) (w : World) (m : Move) (f : Option Fuse) → Sends x w m → (v : ℕ) → parts_of (fields_at (done w m f).control v) ≡ parts_of (fields_at w.control v)
sends-leave x w (Keep u t) f is v = part-same w (Keep u t) f parts_of refl v
sends-leave x w (Note u t) f is v = part-same w (Note u t) f parts_of refl v
sends-leave x w (Store u t a last) f is v = part-same w (Store u t a last) f parts_of refl v
sends-leave x w (Strike u t last) f is v = part-same w (Strike u t last) f parts_of refl v
sends-leave x w (Suspend u busy) f is v = part-same w (Suspend u busy) f parts_of refl v
sends-leave x w m f is v = absurd is

-- A primary of this kind is in Copy Pending, or Full Duplex where the pair is one of Metro Mirror with nothing out of sync.
abbrev pub StateFits : Part → Fields → Type 0
StateFits kind f = f.primary_state ≡ cond (is_metro kind && is_bare f.out_of_sync) FullDuplex CopyPending

abbrev state_part : Fields → Fields
state_part f = record no_fields { primary_state = f.primary_state; out_of_sync = f.out_of_sync }

-- a set without tracks has none after one was struck off
bare-less : (s : Tracks) (t : ℕ) → is_bare s ≡ true → is_bare (remove s t) ≡ true
bare-less s t bare = bare-none (remove s t) (λ q. not_removed_from s t q (bare-has s q bare))

state-struck : (kind : Part) (f : Fields) (t : ℕ) (last : Bool) → f.primary ≡ kind → last ≡ is_last f t → StateFits kind f → StateFits kind (struck last f t)
state-struck kind f t last of_kind is old = ap (λ b. cond b FullDuplex f.primary_state) now ∙ by (is_metro kind) (is_bare f.out_of_sync) (is_bare (remove f.out_of_sync t)) (bare-less f.out_of_sync t) old
  where
    now : last ≡ (is_metro kind && is_bare (remove f.out_of_sync t))
    now = is ∙ ap (λ p. is_metro p && is_bare (remove f.out_of_sync t)) of_kind

    by : (m b c : Bool) → (b ≡ true → c ≡ true) → f.primary_state ≡ cond (m && b) FullDuplex CopyPending → cond (m && c) FullDuplex f.primary_state ≡ cond (m && c) FullDuplex CopyPending
    by false b c less is = is
    by true b true less is = refl
    by true false false less is = is
    by true true false less is = false_true refl (less refl)

state-left : (x : ℕ) (kind : Part) (w : World) (m : Move) (f : Option Fuse) → Sends x w m → (fields_at w.control x).primary ≡ kind → StateFits kind (fields_at w.control x) → StateFits kind (fields_at (done w m f).control x)
state-left x kind w (Keep u t) f is of_kind old = subst (StateFits kind) (sym (part-same w (Keep u t) f state_part refl x)) old
state-left x kind w (Note u t) f is of_kind old = subst (StateFits kind) (sym (part-same w (Note u t) f state_part refl x)) old
state-left x kind w (Store u t a last) f is of_kind old = subst (λ (v : Volume). StateFits kind v.fields) (sym (at_other w.control.volume u (row w (Store u t a last) f) x is)) old
state-left x kind w (Suspend u busy) f is of_kind old = subst (λ (v : Volume). StateFits kind v.fields) (sym (at_other w.control.volume u (row w (Suspend u busy) f) x is)) old
state-left x kind w (Strike u t last) f is of_kind old = by (eqb_tells x u)
  where
    by : IsOrNot x u → StateFits kind (fields_at (done w (Strike u t last) f).control x)
    by (inl same) =
        subst (λ q. StateFits kind (at w.control.volume u (row w (Strike u t last) f) q).fields) (sym same.1)
        (subst (λ (v : Volume). StateFits kind v.fields) (sym (at_same w.control.volume u (row w (Strike u t last) f)))
        (subst (λ q. StateFits kind (struck last (fields_at w.control q) t)) same.1 (state-struck kind (fields_at w.control x) t last of_kind (is (sym same.1)) old)))
    by (inr other) = subst (λ (v : Volume). StateFits kind v.fields) (sym (at_other w.control.volume u (row w (Strike u t last) f) x other.1)) old
state-left x kind w m f is of_kind old = absurd is

-- a relationship may end, and none begins
plain-parted : (ends : Bool) (f : Fields) → f.related ≡ false → (parted_if ends f).related ≡ false
plain-parted true f old = refl
plain-parted false f old = old

plain-left : (x : ℕ) (w : World) (m : Move) (u : Volume) → Sends x w m → u.fields.related ≡ false → (fields_left m u).related ≡ false
plain-left x w (Keep v t) u is old = plain-parted _ (noted (fetched u.fields t) t) old
plain-left x w (Note v t) u is old = old
plain-left x w (Store v t a last) u is old = old
plain-left x w (Strike v t last) u is old = old
plain-left x w (Suspend v busy) u is old = old
plain-left x w m u is old = absurd is

-- where a volume with these fields is a target of y, it isn't revertible
abbrev Frees : ℕ → Fields → Type 0
Frees y f = copies_from y f ≡ true → f.revertible ≡ false

frees-parted : (y : ℕ) (ends : Bool) (f : Fields) → Frees y f → Frees y (parted_if ends f)
frees-parted y true f old = λ h. refl
frees-parted y false f old = old

frees-left : (x : ℕ) (w : World) (y : ℕ) (m : Move) (u : Volume) → Sends x w m → Frees y u.fields → Frees y (fields_left m u)
frees-left x w y (Keep v t) u is old = frees-parted y _ (noted (fetched u.fields t) t) old
frees-left x w y (Note v t) u is old = old
frees-left x w y (Store v t a last) u is old = old
frees-left x w y (Strike v t last) u is old = old
frees-left x w y (Suspend v busy) u is old = old
frees-left x w y m u is old = absurd is

-- coordination holds back no more than it did
let-left : (x : ℕ) (w : World) (m : Move) (u : Volume) → Sends x w m → holds_back u.fields ≡ false → holds_back (fields_left m u) ≡ false
let-left x w (Keep v t) u is old = old
let-left x w (Note v t) u is old = old
let-left x w (Store v t a last) u is old = old
let-left x w (Strike v t last) u is old = old
let-left x w (Suspend v busy) u is old = and_right (is_cascaded u.fields) false refl
let-left x w m u is old = absurd is

-- none of those that pass the first test passes the second
none-among : (p q : ℕ → Bool) (xs : List ℕ) → ((u : ℕ) → p u ≡ true → q u ≡ false) → list_any q (filter p xs) ≡ false
none-among p q [] none = refl
none-among p q (u ∷ us) none = by (p u) refl (none-among p q us none)
  where
    by : (b : Bool) → p u ≡ b → list_any q (filter p us) ≡ false → list_any q (cond b (u ∷ filter p us) (filter p us)) ≡ false
    by true is rest = ap (λ c. c || list_any q (filter p us)) (none u is) ∙ rest
    by false is rest = rest

module _ (start : World) (x y : ℕ) (kind : Part) (ne : x ≢ y) where
  -- x is there and runs, is a primary of this kind, and in the state that goes with what is left. The secondary is reached and in place, the source of no revertible
  -- relationship, and lets in what it is sent; and fuses are armed where they were.
  pub record Ready (w : World) : Type 0 where
    pub there : is_defined x w.control ≡ true
    pub runs : is_running x w.control ≡ true
    pub of_kind : (fields_at w.control x).primary ≡ kind
    pub state : StateFits kind (fields_at w.control x)
    pub path : has_path x y w.control ≡ true
    pub other : is_running y w.control ≡ true
    pub linked : are_linked x y w.control ≡ true
    pub follows : belongs_to x y w.control ≡ true
    pub plain : (fields_at w.control y).related ≡ false
    pub free : (u : ℕ) → Frees y (fields_at w.control u)
    pub let_in : holds_back (fields_at w.control y) ≡ false
    pub armed : (q : ℕ) → HasFuse w q → HasFuse start q

  ready-done : (w : World) (m : Move) (f : Option Fuse) → Sends x w m → (is_some f ≡ true → HasFuse w (server_at w (target m))) → Ready w → Ready (done w m f)
  ready-done w m f is fused old =
      let server : (v : ℕ) → ((done w m f).control.volume v).server ≡ (w.control.volume v).server = at_part (λ (u : Volume). u.server) w.control.volume (target m) (row w m f) refl in
      record {
        there = old.there;
        runs = runs-done w m f x old.runs;
        of_kind = ap (λ (g : Fields). g.primary) (sends-leave x w m f is x) ∙ old.of_kind;
        state = state-left x kind w m f is old.of_kind old.state;
        path = old.path;
        other = runs-done w m f y old.other;
        linked = (λ i. w.control.link (server x i) (server y i)) ∙ old.linked;
        follows = ap (is_secondary_of x) (sends-leave x w m f is y) ∙ old.follows;
        plain = at_cases (λ q (u : Volume). (fields_at w.control q).related ≡ false → u.fields.related ≡ false) w.control.volume (target m) (row w m f) (plain-left x w m (w.control.volume (target m)) is) (λ q ne h. h) y old.plain;
        free = at_cases (λ q (u : Volume). Frees y u.fields) w.control.volume (target m) (row w m f) (frees-left x w y m (w.control.volume (target m)) is (old.free (target m))) (λ q ne. old.free q);
        let_in = at_cases (λ q (u : Volume). holds_back (fields_at w.control q) ≡ false → holds_back u.fields ≡ false) w.control.volume (target m) (row w m f) (let-left x w m (w.control.volume (target m)) is) (λ q ne h. h) y old.let_in;
        armed = at_cases (λ q (o : Option Fuse). is_some o ≡ true → HasFuse start q) w.control.fuse (server_at w (target m)) f (λ h. old.armed _ (fused h)) (λ q ne h. old.armed q h);
      }

  -- entries that end well, or in the stop of a server on which a fuse was armed
  abbrev pub Goes : Outcome → Type 0
  Goes (w, None) = Ready w
  Goes (w, Some (Stopped q)) = HasFuse start q.0
  Goes (w, Some r) = ⊥

  -- entries that come to such moves alone, and refuse nothing
  abbrev Refuses : Refusal → Type 0
  Refuses r = ⊥

  abbrev One : World → Next → Type 0
  One = Fine Ready (IsSend x) Refuses

  abbrev All : List Entry → Type 0
  All = AllFine Ready (IsSend x) Refuses

  next-goes : (w : World) (n : Next) (rest : World → Outcome) (more : Type 0) → FineThen Ready (IsSend x) Refuses w n more → Ready w → (more → (u : World) → Ready u → Goes (rest u)) → Goes (go w n rest)
  next-goes w Pass rest more is old on = on is w old
  next-goes w (Do (Make m)) rest more is old on =
      subst (λ (t : Turn). Goes (continue t.0 t.1 rest)) (sym (act-move w m))
      (turn-fuse w m (λ t. Goes (continue t.0 t.1 rest)) (on is.1 w old) (λ f fused. on is.1 (done w m f) (ready-done w m f is.0 fused old)) (λ armed u. old.armed _ armed))
  next-goes w (End r) rest more is old on = absurd is
  next-goes w (Do a) rest more is old on = absurd is.0

  pub all-go : (ds : List Entry) → All ds → (w : World) → Ready w → Goes (carry w ds)
  unfolding carry AllFine
  all-go [] fine w old = old
  all-go (d ∷ ds) fine w old = next-goes w (d w.control) (λ u. carry u ds) (All ds) (fine w old) old (λ rest u r. all-go ds rest u r)

  -- ---- nothing refuses a send

  none-refuses : (w : World) → Ready w → send_refusal x y w.control ≡ None
  none-refuses w old =
      let k : Control = w.control in
      ap (λ b. option_or (cond (not b) (Some (unknown OfPath)) (cond (not (is_running y k)) (Some (server_off (k.volume y).server)) (cond (not (are_linked x y k)) (Some (link_down (k.volume x).server (k.volume y).server)) None))) (cond (belongs_to x y k) None (Some (secondary_state k y)))) old.path
      ∙ ap (λ b. option_or (cond (not b) (Some (server_off (k.volume y).server)) (cond (not (are_linked x y k)) (Some (link_down (k.volume x).server (k.volume y).server)) None)) (cond (belongs_to x y k) None (Some (secondary_state k y)))) old.other
      ∙ ap (λ b. option_or (cond (not b) (Some (link_down (k.volume x).server (k.volume y).server)) None) (cond (belongs_to x y k) None (Some (secondary_state k y)))) old.linked
      ∙ ap (λ b. cond b None (Some (secondary_state k y))) old.follows

  none-flashed : (w : World) → Ready w → flashed_refusal y w.control ≡ None
  none-flashed w old =
      let k : Control = w.control in
      let related : stands_in is_revertible k y ≡ false =
      ap (λ b. (b && (fields_at k y).revertible) || list_any (λ u. (fields_at k u).revertible) (filter (λ u. copies_from y (fields_at k u)) k.volumes)) old.plain
      ∙ none-among (λ u. copies_from y (fields_at k u)) (λ u. (fields_at k u).revertible) k.volumes old.free in
      ap (λ b. cond b (Some (relation_state k y)) None) related

  each : (d : Entry) (ds : List Entry) → ((u : World) → Ready u → One u (d u.control)) → All ds → All (d ∷ ds)
  each = fine-then Ready (IsSend x) Refuses

  sent-go : (ds : List Entry) → All ds → All (suspend_where (send_refusal x y) x ∷ refuse_if (send_refusal x y) ∷ refuse_if (flashed_refusal y) ∷ ds)
  sent-go ds rest =
      each (suspend_where (send_refusal x y) x) _ (λ u r. subst (λ o. One u (cond (is_some o) (Do (Make (Suspend x false))) Pass)) (sym (none-refuses u r)) tt)
      (each (refuse_if (send_refusal x y)) _ (λ u r. subst (λ o. One u (end_if o)) (sym (none-refuses u r)) tt) (each (refuse_if (flashed_refusal y)) _ (λ u r. subst (λ o. One u (end_if o)) (sym (none-flashed u r)) tt) rest))

  stored-go : (volumes : List ℕ) (t : ℕ) (ds : List Entry) → All ds → All (copy_first volumes y t ++ store_on x y t ∷ strike_on x t ∷ ds)
  stored-go volumes t ds rest =
      fine-append Ready (IsSend x) Refuses (copy_first volumes y t) _ (copies-fine Ready (IsSend x) Refuses (λ v t u r. tt) (λ v t u r. tt) volumes y t)
      (each (store_on x y t) _ (λ u r. ne) (each (strike_on x t) ds (λ u r e. refl) rest))

  -- so each track is sent, until a server stops
  sends-go : (volumes ts : List ℕ) → All (sends volumes x y ts)
  sends-go volumes [] = fine-none Ready (IsSend x) Refuses
  sends-go volumes (t ∷ ts) = fine-append Ready (IsSend x) Refuses (send_entries volumes x y t) (sends volumes x y ts) (sent-go _ (stored-go volumes t [] (fine-none Ready (IsSend x) Refuses))) (sends-go volumes ts)

  -- and into a cascaded secondary, which sends on to c
  feeds-go : (c : ℕ) → x ≢ c → (volumes ts : List ℕ) → All (entries_in (feeds volumes x y c ts))
  feeds-go c third volumes [] = fine-none Ready (IsSend x) Refuses
  feeds-go c third volumes (t ∷ ts) =
      subst All (sym (feeds-joined volumes x y c t ts))
      (sent-go _ (each (refuse_if (held_refusal y)) _ (λ u r. subst (λ h. One u (end_if (cond h (Some (Held (record { 0 = y }))) None))) (sym r.let_in) tt)
      (fine-append Ready (IsSend x) Refuses (send_first volumes y c t) _ (send_first-fine Ready (IsSend x) Refuses (λ v t u r. tt) (λ v t u r. tt) volumes y c t (λ u r. ne) (λ last u r so. third) (λ last u r e. absurd (ne (sym e))))
      (stored-go volumes t _ (feeds-go c third volumes ts)))))

  pub drains-go : (volumes : List ℕ) (c : ℕ) (ts : List ℕ) (is_fed : Bool) → (is_fed ≡ true → x ≢ c) → All (entries_in (cond is_fed (feeds volumes x y c ts) (record { entries = sends volumes x y ts; follows = suspend_after x } ∷ [])))
  drains-go volumes c ts true third = feeds-go c (third refl) volumes ts
  drains-go volumes c ts false third = sends-go volumes ts
