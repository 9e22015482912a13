-- A track that is sent before what comes to its volume and collides with it: the entries of the send come as long as it can be sent.
use Rattle.std.proofs.Common.{ℕ, ◌≡◌, ◌≢◌, Bool, true, false, not, ◌&&◌, ◌||◌, cond, inl, inr, List, [], ◌∷◌, ◌++◌, map, filter, refl, sym, ◌∙◌, ap, subst, Option, None, Some}
use Rattle.std.specs.Prelude.{if◌then◌else◌, is_some}
use Rattle.std.specs.List.{list_any}
use Rattle.std.specs.Option.{option_or}
use Rattle.std.specs.FinSet.{contains}
use Rattle.std.proofs.lemmas.List.{append_assoc, map-append}
use Rattle.std.proofs.lemmas.Bool.Decides.{eqb_tells}
use Rattle.std.proofs.lemmas.Bool.{and_parts, and_right, or_parts, or_from}
use Rattle.dr_logic.specs.Tables.{at}
use Rattle.dr_ids.specs.Paths.{Path, path_in}
use Rattle.dr_ids.specs.declared.refusal.Refusal.{Refusal}
use Rattle.dr_ids.specs.declared.refusal.Refusal.TheVariants.{PairState}
use Rattle.dr_ids.specs.declared.refusal.Kind.TheVariants.{Path as OfPath}
use Rattle.dr_model.specs.declared.state.Part.TheVariants.{Global}
use Rattle.dr_model.specs.Layout.{Fields}
use Rattle.dr_model.specs.Histories.{histories}
use Rattle.dr_model.specs.Control.{Control, Volume, World}
use Rattle.dr_model.specs.Refusals.{unknown, server_off}
use Rattle.dr_model.specs.Moves.{Move, Carried, Keep, Note, Store, Suspend, target, next_fields, carried, moved, moved_keeping, keeps_staged}
use Rattle.dr_model.specs.Carry.{Make, act, Next, Pass, Do, End, Entry, Turn, turn, now}
use Rattle.dr_model.specs.Entries.{fields_at, subsystem, copies_from, stands_in, is_revertible, keep_on, copy_first}
use Rattle.dr_model.specs.PairEntries.{link_down, send_refusal, flashed_refusal, store_on, strike_on, sends_first, where_sent, suspend_unsent, send_first}
use Rattle.dr_model.specs.Pairs.{is_kind, collides, is_secondary_of, secondary_seen, received, is_last}
use Rattle.dr_model.specs.ReadStops.{EndsTurn, EndsNext, Ends}
use Rattle.dr_moves.specs.Turns.{Advances, Halts, Leads, Fails}
use Rattle.dr_facts.proofs.Ends.{ends-skips}
use Rattle.dr_moves.proofs.EntryLemmas.{alike-advances, alike-halts}
use Rattle.dr_gcopy.specs.Sending.{pass_entries}
use Rattle.dr_model.proofs.CarryLemmas.{turn-ends}
use Rattle.dr_logic.proofs.Truth.{false_true}
use Rattle.dr_logic.proofs.Tables.{at_same, at_other}

-- Track t of v collides and can be sent to u, of which neither is a target.
abbrev pub Sends : ℕ → ℕ → ℕ → Control → Type 0
Sends v u t k =
    (collides (fields_at k v) t ≡ true) × (send_refusal v u k ≡ None) × (stands_in is_revertible k u ≡ false)
    × (copies_from u (fields_at k v) ≡ false) × (copies_from u (fields_at k u) ≡ false)

by-parts : (a b c : Bool) (why : Refusal) → a ≡ true → b ≡ false → c ≡ false → (a && (not b && not (is_some (if c then Some why else None)))) ≡ true
by-parts true false false why a b c = refl
by-parts true false true why a b c = absurd cc
by-parts true true c why a b d = absurd cc
by-parts false b c why a d e = absurd cc

sends-now : (v u t : ℕ) (k : Control) → Sends v u t k → sends_first v u t k ≡ true
sends-now v u t k s = by-parts (collides (fields_at k v) t) (is_some (send_refusal v u k)) (stands_in is_revertible k u) _ s.0 (ap is_some s.1) s.2

sent-is : (v u t : ℕ) (d : Entry) (k : Control) → Sends v u t k → where_sent v u t d k ≡ d k
sent-is v u t d k s = ap (λ b. cond b (d k) Pass) (sends-now v u t k s)

-- what holds of a state in parts holds where a move was done, if it holds of what the move makes of its volume
module _ (Q : (ℕ → Volume) → (ℕ → Bool) → (ℕ → ℕ → Bool) → List Path → List ℕ → Type 0) where
  abbrev pub Of : Control → Type 0
  Of k = Q k.volume k.on k.link k.paths k.volumes

  -- the volume of a move once it is made
  abbrev pub made : World → Move → Volume
  made w m = moved_keeping (keeps_staged m) (w.control.volume (target m)) (next_fields m w.control.volume) (carried m w.control.volume w.contents (histories w.events).write)

  some-none : {P : Type 0} (s : ℕ) → ◌≡◌ {A = Option ℕ} (Some s) None → P
  some-none s h = absurd cc

  turned : (w : World) (m : Move) → Of w.control → Q (at w.control.volume (target m) (made w m)) w.control.on w.control.link w.control.paths w.control.volumes → (turn w m).1 ≡ None → Of (turn w m).0.control
  turned w m same next =
      turn-ends w m (λ (t : Turn). t.1 ≡ None → Of t.0.control)
      (λ down none. same) (λ on n none. next) (λ on armed stopped. some-none _ stopped) (λ on armed stopped. some-none _ stopped)

  pub acted : (w : World) (m : Move) → Of w.control → Q (at w.control.volume (target m) (made w m)) w.control.on w.control.link w.control.paths w.control.volumes → (act w (Make m)).1 ≡ None → Of (act w (Make m)).0.control
  unfolding act
  acted w m same next h = turned w m same next h

-- a list of which none passes both tests has none later, where no number passes them that didn't
abbrev either : Bool → Bool → Bool → Bool
either b c more = cond b (c || more) more

any-is : (g f : ℕ → Bool) (x : ℕ) (xs : List ℕ) → list_any f (filter g (x ∷ xs)) ≡ either (g x) (f x) (list_any f (filter g xs))
any-is g f x xs = by-test (g x)
  where
    by-test : (b : Bool) → list_any f (cond b (x ∷ filter g xs) (filter g xs)) ≡ either b (f x) (list_any f (filter g xs))
    by-test true = refl
    by-test false = refl

rest-none : (b c more : Bool) → either b c more ≡ false → more ≡ false
rest-none true true more h = absurd cc
rest-none true false more h = h
rest-none false c more h = h

passes-none : (b c more : Bool) → b ≡ true → c ≡ true → either b c more ≡ false → true ≡ false
passes-none true true more p q h = h
passes-none true false more p q h = absurd cc
passes-none false c more p q h = absurd cc

still-none : (b c b' c' more more' : Bool) → (b' ≡ true → c' ≡ true → (b ≡ true) × (c ≡ true)) → either b c more ≡ false → more' ≡ false → either b' c' more' ≡ false
still-none b c true true more more' back h none = let both = back refl refl in passes-none b c more both.0 both.1 h
still-none b c true false more more' back h none = none
still-none b c false c' more more' back h none = none

none-any : (g f g' f' : ℕ → Bool) → ((z : ℕ) → g' z ≡ true → f' z ≡ true → (g z ≡ true) × (f z ≡ true)) → (xs : List ℕ) → list_any f (filter g xs) ≡ false → list_any f' (filter g' xs) ≡ false
none-any g f g' f' back [] h = refl
none-any g f g' f' back (x ∷ xs) h =
    let first : either (g x) (f x) (list_any f (filter g xs)) ≡ false = sym (any-is g f x xs) ∙ h in
    any-is g' f' x xs
    ∙ still-none (g x) (f x) (g' x) (f' x) (list_any f (filter g xs)) (list_any f' (filter g' xs)) (back x) first (none-any g f g' f' back xs (rest-none (g x) (f x) (list_any f (filter g xs)) first))

-- what says whether a can send to b, part by part
abbrev refusal_by : ℕ → ℕ → List Path → (ℕ → Bool) → (ℕ → ℕ → Bool) → ℕ → Volume → Option Refusal
refusal_by a b paths on link from to = option_or
    (if not (is_some (path_in paths (subsystem a) (subsystem b))) then Some (unknown OfPath)
    else if not (on to.server) then Some (server_off to.server)
    else if not (link from to.server) then Some (link_down from to.server)
    else None)
    (if is_secondary_of a to.fields then None else Some (PairState (record { 0 = b }) (secondary_seen to.fields)))

-- it says the same of a secondary that is seen otherwise
reaches-still : (first : Option Refusal) (belongs : Bool) (why later : Refusal) → option_or first (if belongs then None else Some why) ≡ None → option_or first (if belongs then None else Some later) ≡ None
reaches-still None true why later h = refl
reaches-still None false why later h = absurd cc
reaches-still (Some r) belongs why later h = absurd cc

module _ (v u t : ℕ) (k : Control) (s : Sends v u t k) where
  -- a volume that is a target of u is neither v nor u
  no-v : (q : ℕ) → copies_from u (fields_at k q) ≡ true → q ≢ v
  no-v q copies is = (false_true (ap (λ z. copies_from u (fields_at k z)) is ∙ s.3) copies)

  no-u : (q : ℕ) → copies_from u (fields_at k q) ≡ true → q ≢ u
  no-u q copies is = (false_true (ap (λ z. copies_from u (fields_at k z)) is ∙ s.4) copies)

  -- none that copies from u is revertible, once a volume has moved whose relationship is no other than it was
  free-still : (q : ℕ) (x : Volume) → (copies_from u x.fields ≡ true → x.fields.revertible ≡ true → (copies_from u (fields_at k q) ≡ true) × ((fields_at k q).revertible ≡ true))
      → list_any (λ z. (at k.volume q x z).fields.revertible) (filter (λ z. copies_from u (at k.volume q x z).fields) k.volumes) ≡ false
  free-still q x back =
      none-any (λ z. copies_from u (fields_at k z)) (λ z. (fields_at k z).revertible) (λ z. copies_from u (at k.volume q x z).fields) (λ z. (at k.volume q x z).fields.revertible)
      (λ z copies rev. elim (eqb_tells z q) as (λ _. (copies_from u (fields_at k z) ≡ true) × ((fields_at k z).revertible ≡ true)) [
        | inl p ↦
            let e : at k.volume q x z ≡ x = ap (at k.volume q x) p.1 ∙ at_same k.volume q x in
            subst (λ y. (copies_from u (fields_at k y) ≡ true) × ((fields_at k y).revertible ≡ true)) (sym p.1)
            (back (ap (λ (y : Volume). copies_from u y.fields) (sym e) ∙ copies) (ap (λ (y : Volume). y.fields.revertible) (sym e) ∙ rev))
        | inr p ↦
            let e : at k.volume q x z ≡ k.volume z = at_other k.volume q x z p.1 in
            (ap (λ (y : Volume). copies_from u y.fields) (sym e) ∙ copies, ap (λ (y : Volume). y.fields.revertible) (sym e) ∙ rev)
      ]) k.volumes ((or_parts ((fields_at k u).related && (fields_at k u).revertible) _ s.2).1)

  -- where a target of u moved
  target-sends : (q : ℕ) (x : Volume) → copies_from u (fields_at k q) ≡ true → (x.fields.revertible ≡ true → (fields_at k q).revertible ≡ true) → Sends v u t (record k { volume = at k.volume q x })
  target-sends q x copies back =
      let from : at k.volume q x v ≡ k.volume v = at_other k.volume q x v (λ e. no-v q copies (sym e)) in
      let to : at k.volume q x u ≡ k.volume u = at_other k.volume q x u (λ e. no-u q copies (sym e)) in (
        ap (λ (y : Volume). collides y.fields t) from ∙ s.0,
        (λ i. refusal_by v u k.paths k.on k.link (from i).server (to i)) ∙ s.1,
        or_from _ _ (ap (λ (y : Volume). y.fields.related && y.fields.revertible) to ∙ (or_parts ((fields_at k u).related && (fields_at k u).revertible) _ s.2).0) (free-still q x (λ c r. (copies, back r))),
        ap (λ (y : Volume). copies_from u y.fields) from ∙ s.3,
        ap (λ (y : Volume). copies_from u y.fields) to ∙ s.4,
      )

  -- where u stored a track
  stored-sends : (n : ℕ) (last : Bool) (c : Carried) → v ≢ u → Sends v u t (record k { volume = at k.volume u (moved (k.volume u) (received last (fields_at k u) n) c) })
  stored-sends n last c apart =
      let x : Volume = moved (k.volume u) (received last (fields_at k u) n) c in
      let from : at k.volume u x v ≡ k.volume v = at_other k.volume u x v apart in
      let to : at k.volume u x u ≡ x = at_same k.volume u x in (
        ap (λ (y : Volume). collides y.fields t) from ∙ s.0,
        (λ i. refusal_by v u k.paths k.on k.link (from i).server (to i)) ∙ reaches-still _ (is_secondary_of v (fields_at k u)) _ _ s.1,
        or_from _ _ (ap (λ (y : Volume). y.fields.related && y.fields.revertible) to ∙ (or_parts ((fields_at k u).related && (fields_at k u).revertible) _ s.2).0) (free-still u x (λ c r. (c, r))),
        ap (λ (y : Volume). copies_from u y.fields) from ∙ s.3,
        ap (λ (y : Volume). copies_from u y.fields) to ∙ s.4,
      )

-- a relationship that ends where the target holds all tracks is revertible no more
closed-reverts : (ends r : Bool) → (if ends then false else r) ≡ true → r ≡ true
closed-reverts true r h = absurd cc
closed-reverts false r h = h

-- what an entry comes to leads on to where something holds
abbrev pub After : World → Next → (World → Type 0) → Type 0
After w Pass G = G w
After w (End r) G = Unit {0}
After w (Do a) G = (act w a).1 ≡ None → G (act w a).0

module _ (v u t : ℕ) where
  abbrev In : Control → (ℕ → Volume) → (ℕ → Bool) → (ℕ → ℕ → Bool) → List Path → List ℕ → Type 0
  In k volume on link paths volumes = Sends v u t (record k { volume = volume; on = on; link = link; paths = paths; volumes = volumes })

  -- after what a target of u keeps the track can be sent as before
  keep-after : (w : World) (q : ℕ) → Sends v u t w.control → (G : World → Type 0) → ((y : World) → Sends v u t y.control → G y) → After w (keep_on u t q w.control) G
  keep-after w q s G on = by (copies_from u f && not f.reversing) (contains f.own t) (f.recorded && not (contains f.source_changes t)) refl
    where
      f : Fields
      f = fields_at w.control q

      by : (b own noted : Bool) → (copies_from u f && not f.reversing) ≡ b → After w (cond b (cond (not own) (Do (Make (Keep q t))) (cond noted (Do (Make (Note q t))) Pass)) Pass) G
      by false own noted is = on w s
      by true false noted is = λ none. on _ (acted (In w.control) w (Keep q t) s (target-sends v u t w.control s q _ ((and_parts _ _ is).0) (closed-reverts _ f.revertible)) none)
      by true true true is = λ none. on _ (acted (In w.control) w (Note q t) s (target-sends v u t w.control s q _ ((and_parts _ _ is).0) (λ r. r)) none)
      by true true false is = on w s

  module _ (armed : ℕ → Bool) (x : World) (r : Option Refusal) where
    turn-on : (w y : World) (o : Option ℕ) (f g : World → Type 0) → (o ≡ None → f y → g y) → EndsTurn armed x r y o f → EndsTurn armed x r y o g
    turn-on w y None f g on e = on refl e
    turn-on w y (Some z) f g on e = e

    next-on : (w : World) (n : Next) (f g : World → Type 0) → After w n (λ y. f y → g y) → EndsNext armed x r w n f → EndsNext armed x r w n g
    next-on w Pass f g on e = on e
    next-on w (End why) f g on e = e
    next-on w (Do a) f g on e = turn-on w (act w a).0 (act w a).1 f g on e

    -- an entry that comes, since the track can be sent
    comes : (w : World) (d : Entry) (ds es : List Entry) → Sends v u t w.control → After w (d w.control) (λ y. Ends armed x r y ds → Ends armed x r y es) → Ends armed x r w (d ∷ ds) → Ends armed x r w (where_sent v u t d ∷ es)
    unfolding Ends
    comes w d ds es s on (inl off) = inl off
    comes w d ds es s on (inr e) =
        inr (subst (λ n. EndsNext armed x r w n (λ y. Ends armed x r y es)) (sym (sent-is v u t d w.control s)) (next-on w (d w.control) (λ y. Ends armed x r y ds) (λ y. Ends armed x r y es) on e))

    keeps-come : (qs : List ℕ) (w : World) (ds es : List Entry) → Sends v u t w.control → ((y : World) → Sends v u t y.control → Ends armed x r y ds → Ends armed x r y es)
        → Ends armed x r w (map (keep_on u t) qs ++ ds) → Ends armed x r w (map (where_sent v u t) (map (keep_on u t) qs) ++ es)
    keeps-come [] w ds es s on e = on w s e
    keeps-come (q ∷ qs) w ds es s on e =
        comes w (keep_on u t q) (map (keep_on u t) qs ++ ds) (map (where_sent v u t) (map (keep_on u t) qs) ++ es) s
        (keep-after w q s (λ y. Ends armed x r y (map (keep_on u t) qs ++ ds) → Ends armed x r y (map (where_sent v u t) (map (keep_on u t) qs) ++ es)) (λ y sy. keeps-come qs y ds es sy on)) e

    exchange-comes : (w : World) (ds : List Entry) → v ≢ u → Sends v u t w.control → Ends armed x r w (store_on v u t ∷ strike_on v t ∷ ds) → Ends armed x r w (where_sent v u t (store_on v u t) ∷ where_sent v u t (strike_on v t) ∷ ds)
    exchange-comes w ds apart s e =
        let last : Bool = is_last (fields_at w.control v) t in
        comes w (store_on v u t) (strike_on v t ∷ ds) (where_sent v u t (strike_on v t) ∷ ds) s
        (λ none. comes (act w (Make (Store u t v last))).0 (strike_on v t) ds ds (acted (In w.control) w (Store u t v last) s (stored-sends v u t w.control s t last (carried (Store u t v last) w.control.volume w.contents (histories w.events).write) apart) none) (λ done e. e)) e

    -- all entries of a send come
    send-comes : (volumes : List ℕ) (w : World) (ds : List Entry) → v ≢ u → Sends v u t w.control → Ends armed x r w (pass_entries volumes v u t ++ ds)
        → Ends armed x r w (map (where_sent v u t) (copy_first volumes u t ++ store_on v u t ∷ strike_on v t ∷ []) ++ ds)
    send-comes volumes w ds apart s e =
        let two : List Entry = store_on v u t ∷ strike_on v t ∷ [] in
        let sent : List Entry = where_sent v u t (store_on v u t) ∷ where_sent v u t (strike_on v t) ∷ [] in
        subst (λ es. Ends armed x r w (es ++ ds)) (sym (map-append (where_sent v u t) (copy_first volumes u t) two))
        (subst (Ends armed x r w) (sym (append_assoc (map (where_sent v u t) (copy_first volumes u t)) sent ds))
        (keeps-come volumes w (two ++ ds) (sent ++ ds) s (λ y sy. exchange-comes y ds apart sy)
        (subst (Ends armed x r w) (append_assoc (copy_first volumes u t) two ds) e)))

    -- none comes where the track can't be sent
    none-comes : (w : World) (es ds : List Entry) → sends_first v u t w.control ≡ false → Ends armed x r w ds → Ends armed x r w (map (where_sent v u t) es ++ ds)
    none-comes w [] ds stays e = e
    none-comes w (d ∷ es) ds stays e = ends-skips armed x r w (where_sent v u t d) (map (where_sent v u t) es ++ ds) (ap (λ b. cond b (d w.control) Pass) stays) (none-comes w es ds stays e)

-- the entries of a send, in short
abbrev move_entries : List ℕ → ℕ → ℕ → ℕ → List Entry
move_entries volumes v u t = copy_first volumes u t ++ store_on v u t ∷ strike_on v t ∷ []

none-is : (o : Option Refusal) → is_some o ≡ false → o ≡ None
none-is None h = refl
none-is (Some why) h = absurd cc

none-if : (b : Bool) (why : Refusal) → is_some (if b then Some why else None) ≡ false → b ≡ false
none-if true why h = absurd cc
none-if false why h = refl

-- a write that collides on a volume on another server than u, that can be sent what its track was
pub sends-by : (v u t : ℕ) (k : Control) → collides (fields_at k v) t ≡ true → is_some (send_refusal v u k) ≡ false → is_some (flashed_refusal u k) ≡ false
    → copies_from u (fields_at k v) ≡ false → copies_from u (fields_at k u) ≡ false → Sends v u t k
sends-by v u t k collided reach free other own = (collided, none-is (send_refusal v u k) reach, none-if (stands_in is_revertible k u) _ free, other, own)

module _ (volumes : List ℕ) (v u t : ℕ) (w : World) where
  abbrev first : Entry
  first = suspend_unsent v u t

  -- v isn't suspended where it can send, or where the track doesn't collide
  goes-by : (collided unsent : Bool) → (collided && unsent) ≡ false → cond (collided && unsent) (Do (Make (Suspend v false))) Pass ≡ Pass
  goes-by collided unsent h = ap (λ b. cond b (Do (Make (Suspend v false))) Pass) h

  stays-on : is_some (send_refusal v u w.control) ≡ false → first w.control ≡ Pass
  stays-on reach = goes-by (collides (fields_at w.control v) t) (is_some (send_refusal v u w.control)) (and_right (collides (fields_at w.control v) t) (is_some (send_refusal v u w.control)) reach)

  -- where the track can be sent it is sent
  passes : (armed : ℕ → Bool) (x : World) (r : Option Refusal) (ds : List Entry) → v ≢ u → Sends v u t w.control → Ends armed x r w (pass_entries volumes v u t ++ ds) → Ends armed x r w (send_first volumes v u t ++ ds)
  passes armed x r ds apart s e = ends-skips armed x r w first (map (where_sent v u t) (move_entries volumes v u t) ++ ds) (stays-on (ap is_some s.1)) (send-comes v u t armed x r volumes w ds apart s e)

  pub sent-leads : (y : World) → v ≢ u → Sends v u t w.control → Leads w (pass_entries volumes v u t) y → Leads w (send_first volumes v u t) y
  sent-leads y apart s leads armed x r ds more = passes armed x r ds apart s (leads armed x r ds more)

  pub sent-fails : (armed : ℕ → Bool) (y : World) (r : Option Refusal) → v ≢ u → Sends v u t w.control → Fails armed w (pass_entries volumes v u t) y r → Fails armed w (send_first volumes v u t) y r
  sent-fails armed y r apart s fails ds = passes armed y r ds apart s (fails ds)

  -- where u is the source of a revertible relationship nothing is done
  pub flashed-leads : is_some (send_refusal v u w.control) ≡ false → is_some (flashed_refusal u w.control) ≡ true → Leads w (send_first volumes v u t) w
  flashed-leads reach flashed armed x r ds more =
      ends-skips armed x r w first (map (where_sent v u t) (move_entries volumes v u t) ++ ds) (stays-on reach)
      (none-comes v u t armed x r w (move_entries volumes v u t) ds (held-up (collides (fields_at w.control v) t) (not (is_some (send_refusal v u w.control))) (is_some (flashed_refusal u w.control)) flashed) more)
    where
      held-up : (a b c : Bool) → c ≡ true → (a && (b && not c)) ≡ false
      held-up a b false h = absurd cc
      held-up true true true h = refl
      held-up true false true h = refl
      held-up false b true h = refl

  -- nor where the track doesn't collide
  pub apart-leads : collides (fields_at w.control v) t ≡ false → Leads w (send_first volumes v u t) w
  apart-leads apart armed x r ds more =
      ends-skips armed x r w first (map (where_sent v u t) (move_entries volumes v u t) ++ ds) (goes-by (collides (fields_at w.control v) t) (is_some (send_refusal v u w.control)) (ap (λ b. b && is_some (send_refusal v u w.control)) apart))
      (none-comes v u t armed x r w (move_entries volumes v u t) ds (ap (λ b. b && (not (is_some (send_refusal v u w.control)) && not (is_some (flashed_refusal u w.control)))) apart) more)

  -- where u can't be sent to v is suspended, and nothing more
  suspends-first : collides (fields_at w.control v) t ≡ true → is_some (send_refusal v u w.control) ≡ true → first w.control ≡ now (Suspend v false) w.control
  suspends-first collided is = λ i. cond (collided i && is i) (Do (Make (Suspend v false))) Pass

  pub parted-leads : (y : World) → collides (fields_at w.control v) t ≡ true → is_some (send_refusal v u w.control) ≡ true → (fields_at y.control v).recording ≡ false → Advances w (now (Suspend v false)) y → Leads w (send_first volumes v u t) y
  parted-leads y collided is void advances armed x r ds more =
      alike-advances w y first (now (Suspend v false)) (suspends-first collided is) advances armed x r (map (where_sent v u t) (move_entries volumes v u t) ++ ds)
      (none-comes v u t armed x r y (move_entries volumes v u t) ds (quiet (is_kind Global (fields_at y.control v).primary) (fields_at y.control v).recording _ _ void) more)
    where
      quiet : (a b c d : Bool) → b ≡ false → ((a && (b && c)) && d) ≡ false
      quiet true true c d h = absurd cc
      quiet true false c d h = refl
      quiet false b c d h = refl

  pub parted-fails : (armed : ℕ → Bool) (y : World) (r : Option Refusal) → collides (fields_at w.control v) t ≡ true → is_some (send_refusal v u w.control) ≡ true → Halts armed w (now (Suspend v false)) y r → Fails armed w (send_first volumes v u t) y r
  parted-fails armed y r collided is halts ds = alike-halts armed w y r first (now (Suspend v false)) (suspends-first collided is) halts (map (where_sent v u t) (move_entries volumes v u t) ++ ds)
