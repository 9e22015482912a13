-- What is sent first leaves each volume the parts that it has, and makes none a target.
use Rattle.std.proofs.Common.{ℕ, ◌≡◌, Bool, true, false, not, ◌&&◌, cond, inl, inr, List, [], ◌∷◌, ◌++◌, map, nat_eq, refl, sym, ◌∙◌, ap, subst, Option, None, Some}
use Rattle.std.specs.Prelude.{is_some, if◌then◌else◌}
use Rattle.std.specs.FinSet.{contains}
use Rattle.std.proofs.lemmas.Bool.Decides.{eqb_tells}
use Rattle.dr_logic.specs.Tables.{at}
use Rattle.dr_logic.proofs.Tables.{at_same, at_other}
use Rattle.dr_ids.specs.Paths.{Path}
use Rattle.dr_model.specs.Layout.{Fields}
use Rattle.dr_model.specs.Histories.{histories}
use Rattle.dr_model.specs.Control.{Volume, World}
use Rattle.dr_model.specs.Moves.{Move, Keep, Note, Store, Strike, Suspend, target, next_fields, fields_left, carried, keeps_staged, moved_keeping}
use Rattle.dr_model.specs.Carry.{Make, act, Next, Pass, Do, End, Entry}
use Rattle.dr_model.specs.Entries.{fields_at, copies_from, keep_on}
use Rattle.dr_model.specs.Relations.{is_whole, closed, noted, fetched}
use Rattle.dr_model.specs.Pairs.{collides, is_last, received, struck, suspended}
use Rattle.dr_model.specs.PairEntries.{send_refusal, store_on, strike_on, sends_first, where_sent, suspend_unsent, send_first}
use Rattle.dr_model.specs.ReadStops.{EndsTurn, EndsNext, Ends}
use Rattle.dr_moves.specs.Turns.{Leads}
use Rattle.dr_moves.proofs.EntryLemmas.{led}
use Rattle.dr_gcopy.specs.Sending.{SameParts}
use Rattle.dr_gcopy.proofs.CollideLemmas.{After, acted}

-- no server is armed
abbrev none_armed : ℕ → Bool
none_armed s = false

-- what the moves of a send leave of a volume
record Stays (Q : Fields → Type 0) : Type 0 where
  pub kept : (n t : ℕ) (f : Fields) → Q f → Q (closed n (noted (fetched f t) t))
  pub noted : (t : ℕ) (f : Fields) → Q f → Q (noted f t)
  pub stored : (last : Bool) (t : ℕ) (f : Fields) → Q f → Q (received last f t)
  pub struck : (last : Bool) (t : ℕ) (f : Fields) → Q f → Q (struck last f t)
  pub suspended : (f : Fields) → Q f → Q (suspended false f)

module _ (Q : Fields → Type 0) (stays : Stays Q) (q : ℕ) where
  abbrev In : (ℕ → Volume) → (ℕ → Bool) → (ℕ → ℕ → Bool) → List Path → List ℕ → Type 0
  In volume on link paths volumes = Q (volume q).fields

  abbrev Has : World → Type 0
  Has w = Q (fields_at w.control q)

  -- behind a move that leaves it
  behind : (w : World) (m : Move) → Has w → ((x : Volume) → Q x.fields → Q (fields_left m x)) → (act w (Make m)).1 ≡ None → Has (act w (Make m)).0
  behind w m has leaves none = acted In w m has (elim (eqb_tells q (target m)) as (λ _. Q (at w.control.volume (target m) x q).fields) [
    | inl p ↦
        let e : at w.control.volume (target m) x q ≡ x = ap (at w.control.volume (target m) x) p.1 ∙ at_same w.control.volume (target m) x in
        subst (λ (y : Volume). Q y.fields) (sym e) (leaves (w.control.volume (target m)) (subst (λ z. Q (fields_at w.control z)) p.1 has))
    | inr p ↦ subst (λ (y : Volume). Q y.fields) (sym (at_other w.control.volume (target m) x q p.1)) has
  ]) none
    where
      x : Volume
      x = moved_keeping (keeps_staged m) (w.control.volume (target m)) (next_fields m w.control.volume) (carried m w.control.volume w.contents (histories w.events).write)

  -- an entry leaves it
  abbrev Leaves : Entry → Type 0
  Leaves d = (w : World) → Has w → After w (d w.control) Has

  abbrev AllLeave : List Entry → Type 0
  AllLeave [] = Unit {0}
  AllLeave (d ∷ ds) = Leaves d × AllLeave ds

  -- entries that led on leave it
  turn-past : (y z : World) (o : Option ℕ) (more : World → Type 0) → ((x : World) → Has x → more x → Has y) → (o ≡ None → Has z) → EndsTurn none_armed y None z o more → Has y
  turn-past y z None more on has e = on z (has refl) e
  turn-past y z (Some s) more on has e = absurd (let none = e.refusal in cc)

  past : (y w : World) (n : Next) (more : World → Type 0) → ((z : World) → Has z → more z → Has y) → After w n Has → EndsNext none_armed y None w n more → Has y
  past y w Pass more on has e = on w has e
  past y w (End why) more on has e = absurd (let none = e.refusal in cc)
  past y w (Do a) more on has e = turn-past y (act w a).0 (act w a).1 more on has e

  through : (es : List Entry) → AllLeave es → (y w : World) → Has w → Ends none_armed y None w es → Has y
  unfolding Ends
  through [] all y w has (inl off) = absurd (let armed = off.is_armed in cc)
  through [] all y w has (inr end) = subst Has (sym end.world) has
  through (d ∷ ds) all y w has (inl off) = absurd (let armed = off.is_armed in cc)
  through (d ∷ ds) all y w has (inr e) = past y w (d w.control) (λ z. Ends none_armed y None z ds) (λ z has' e'. through ds all.1 y z has' e') (all.0 w has) e

  keep-leaves : (u t p : ℕ) → Leaves (keep_on u t p)
  keep-leaves u t p w has = by (copies_from u g && not g.reversing) (contains g.own t) (g.recorded && not (contains g.source_changes t))
    where
      g : Fields
      g = fields_at w.control p

      by : (b own noted : Bool) → After w (cond b (cond (not own) (Do (Make (Keep p t))) (cond noted (Do (Make (Note p t))) Pass)) Pass) Has
      by false own noted = has
      by true false noted = λ none. behind w (Keep p t) has (λ x. stays.kept x.tracks t x.fields) none
      by true true true = λ none. behind w (Note p t) has (λ x. stays.noted t x.fields) none
      by true true false = has

  sent-leaves : (v u t : ℕ) (d : Entry) → Leaves d → Leaves (where_sent v u t d)
  sent-leaves v u t d leaves w has = by (sends_first v u t w.control)
    where
      by : (b : Bool) → After w (cond b (d w.control) Pass) Has
      by true = leaves w has
      by false = has

  suspend-leaves : (v u t : ℕ) → Leaves (suspend_unsent v u t)
  suspend-leaves v u t w has = by (collides (fields_at w.control v) t && is_some (send_refusal v u w.control))
    where
      by : (b : Bool) → After w (cond b (Do (Make (Suspend v false))) Pass) Has
      by true = λ none. behind w (Suspend v false) has (λ x. stays.suspended x.fields) none
      by false = has

  sends-leave : (v u t : ℕ) (qs : List ℕ) → AllLeave (map (where_sent v u t) (map (keep_on u t) qs ++ store_on v u t ∷ strike_on v t ∷ []))
  sends-leave v u t [] =
      let last : World → Bool = λ w. is_last (fields_at w.control v) t in (
        sent-leaves v u t (store_on v u t) (λ w has none. behind w (Store u t v (last w)) has (λ x. stays.stored (last w) t x.fields) none),
        (sent-leaves v u t (strike_on v t) (λ w has none. behind w (Strike v t (last w)) has (λ x. stays.struck (last w) t x.fields) none), tt),
      )
  sends-leave v u t (p ∷ qs) = (sent-leaves v u t (keep_on u t p) (keep-leaves u t p), sends-leave v u t qs)

  sent : (volumes : List ℕ) (v u t : ℕ) (w y : World) → Has w → Leads w (send_first volumes v u t) y → Has y
  sent volumes v u t w y has leads = through (send_first volumes v u t) (suspend-leaves v u t, sends-leave v u t volumes) y w has (led none_armed w y (send_first volumes v u t) leads)

-- the parts of f
parts-stay : (f : Fields) → Stays (SameParts f)
parts-stay f = record {
  kept = λ n t g same. record { primary = same.primary; primary_partner = same.primary_partner; secondary = same.secondary; secondary_partner = same.secondary_partner };
  noted = λ t g same. record { primary = same.primary; primary_partner = same.primary_partner; secondary = same.secondary; secondary_partner = same.secondary_partner };
  stored = λ last t g same. record { primary = same.primary; primary_partner = same.primary_partner; secondary = same.secondary; secondary_partner = same.secondary_partner };
  struck = λ last t g same. record { primary = same.primary; primary_partner = same.primary_partner; secondary = same.secondary; secondary_partner = same.secondary_partner };
  suspended = λ g same. record { primary = same.primary; primary_partner = same.primary_partner; secondary = same.secondary; secondary_partner = same.secondary_partner };
}

pub parts-sent : (volumes : List ℕ) (v u t : ℕ) (w y : World) (q : ℕ) → Leads w (send_first volumes v u t) y → SameParts (fields_at w.control q) (fields_at y.control q)
parts-sent volumes v u t w y q leads =
    sent (SameParts (fields_at w.control q)) (parts-stay (fields_at w.control q)) q volumes v u t w y (record { primary = refl; primary_partner = refl; secondary = refl; secondary_partner = refl }) leads

-- a volume that is no target of p
abbrev IsApart : ℕ → Fields → Type 0
IsApart p f = copies_from p f ≡ false

apart-stays : (p : ℕ) → Stays (IsApart p)
apart-stays p = record {
  kept = λ n t f apart. by (is_whole n (fetched f t).own && not f.persistent) f.related f.source apart;
  noted = λ t f apart. apart;
  stored = λ last t f apart. apart;
  struck = λ last t f apart. apart;
  suspended = λ f apart. apart;
}
  where
    by : (ends related : Bool) (source : ℕ) → (related && nat_eq source p) ≡ false → ((if ends then false else related) && nat_eq (if ends then 0 else source) p) ≡ false
    by true related source apart = refl
    by false related source apart = apart

pub apart-sent : (volumes : List ℕ) (v u t : ℕ) (w y : World) (p q : ℕ) → Leads w (send_first volumes v u t) y → copies_from p (fields_at w.control q) ≡ false → copies_from p (fields_at y.control q) ≡ false
apart-sent volumes v u t w y p q leads apart = sent (IsApart p) (apart-stays p) q volumes v u t w y apart leads
