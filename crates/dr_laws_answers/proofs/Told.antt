-- How many events of a kind entries tell that led on.
use Rattle.std.proofs.Common.{ℕ, ◌≡◌, ◌+◌, refl, ap, sym, ◌∙◌, arith, Bool, true, false, cond, List, [], ◌∷◌, ◌++◌, length, filter, Option, Some, None}
use Rattle.std.proofs.lemmas.List.{append-nil, append_assoc}
use Rattle.dr_model.specs.Refusals.{stopped}
use Rattle.dr_model.specs.declared.event.Event.{Event}
use Rattle.dr_model.specs.Control.{Fuse, Volume, World}
use Rattle.dr_model.specs.Moves.{Move, target, told}
use Rattle.dr_model.specs.Carry.{Act, Make, Turn, Next, Pass, Do, End, Entry, act, continue, go, carry}
use Rattle.dr_model.specs.Allowed.{Runs}
use Rattle.dr_facts.proofs.Emits.{Tag, Of, Lists, all_tags, emits, each-told}
use Rattle.dr_laws_sound.specs.Stops.{StopsTold}
use Rattle.dr_laws_sound.proofs.Awaits.{none-refused}
use Rattle.dr_laws_sound.proofs.FitsPairs.{runs-done}
use Rattle.dr_laws_sound.proofs.StopsTold.{act-tells}
use Rattle.dr_laws_sound.proofs.Turned.{nothing-left}
use Rattle.dr_laws_sound.proofs.Turns.{done, after_act}
use Rattle.dr_laws_recovery.proofs.Went.{Each, carry-keeps}
use Rattle.dr_laws_answers.specs.Counts.{count}

-- ---- what entries told

pub record Extends (w u : World) : Type 0 where
  pub told : List Event
  pub events : u.events ≡ w.events ++ told

extends-then : (w v u : World) (stop : Option ℕ) → StopsTold w v stop → Extends v u → Extends w u
extends-then w v u stop a b = record { told = a.events ++ b.told; events = b.events ∙ ap (λ es. es ++ b.told) a.told ∙ append_assoc w.events a.events b.told }

pub extends : (ds : List Entry) (w u : World) → carry w ds ≡ (u, None) → Extends w u
unfolding carry
extends [] w u leads = record { told = []; events = ap (λ (z : World). z.events) (sym (nothing-left w u leads)) ∙ sym (append-nil w.events) }
extends (d ∷ ds) w u leads = next (d w.control) (λ v h. extends ds v u h) leads
  where
    turns : (t : Turn) → StopsTold w t.0 t.1 → ((v : World) → carry v ds ≡ (u, None) → Extends v u) → continue t.0 t.1 (λ v. carry v ds) ≡ (u, None) → Extends w u
    turns (v, None) told rest h = extends-then w v u None told (rest v h)
    turns (v, Some s) told rest h = none-refused v u (stopped s) h

    next : (x : Next) → ((v : World) → carry v ds ≡ (u, None) → Extends v u) → go w x (λ v. carry v ds) ≡ (u, None) → Extends w u
    next Pass rest h = rest w h
    next (End r) rest h = none-refused w u r h
    next (Do a) rest h = turns (act w a) (act-tells w a) rest h

-- ---- how many are so

module _ (is : Event → Bool) where
  pub count-append : (xs ys : List Event) → count is (xs ++ ys) ≡ count is xs + count is ys
  count-append [] ys = omega arith
  count-append (x ∷ xs) ys = by (is x) (count-append xs ys)
    where
      by : (b : Bool) → count is (xs ++ ys) ≡ count is xs + count is ys → length (cond b (x ∷ filter is (xs ++ ys)) (filter is (xs ++ ys))) ≡ length (cond b (x ∷ filter is xs) (filter is xs)) + count is ys
      by true rest = omega (arith, rest)
      by false rest = rest

  -- an event that isn't, and one that is
  pub one-not : (e : Event) → is e ≡ false → count is (e ∷ []) ≡ 0
  one-not e other = ap (λ b. length (cond b (e ∷ []) [])) other

  pub one-is : (e : Event) → is e ≡ true → count is (e ∷ []) ≡ 1
  one-is e so = ap (λ b. length (cond b (e ∷ []) [])) so

  -- kinds of events of which none is
  pub none-of : (p : Tag → Bool) → ((e : Event) → Of p e → is e ≡ false) → (m : Move) (u : Volume) → all_tags p (emits m) ≡ true → count is (told m u) ≡ 0
  none-of p silent m u h = each-told p (λ es. count is es ≡ 0) lists m u h
    where
      lists : Lists (Of p) (λ es. count is es ≡ 0)
      lists = record { none = refl; more = λ e es of none. ap (λ b. length (cond b (e ∷ filter is es) (filter is es))) (silent e of) ∙ none }

  -- a move that is done tells so many
  pub counted-done : (w : World) (m : Move) (f : Option Fuse) (n : ℕ) → count is (told m (w.control.volume (target m))) ≡ n → count is (done w m f).events ≡ count is w.events + n
  counted-done w m f n tells = count-append w.events (told m (w.control.volume (target m))) ∙ ap (λ n. count is w.events + n) tells

  -- moves that tell none
  abbrev pub Quiet : World → Act → Type 0
  Quiet w (Make m) = count is (told m (w.control.volume (target m))) ≡ 0
  Quiet w a = ⊥

  pub quiet-keeps : (w v : World) (ds : List Entry) → Each Quiet ds → carry w ds ≡ (v, None) → count is v.events ≡ count is w.events
  quiet-keeps w v ds fine leads = carry-keeps Quiet (λ u. count is u.events ≡ count is w.events) keeps w v ds fine leads refl
    where
      keeps : (u : World) (a : Act) (f : Option Fuse) → Quiet u a → count is u.events ≡ count is w.events → count is (after_act u a f).events ≡ count is w.events
      keeps u (Make m) f quiet old = let e : count is (done u m f).events ≡ count is u.events + 0 = counted-done u m f 0 quiet in omega arith
      keeps u a f quiet old = absurd quiet

  -- and leave which servers run
  pub runs-keeps : (j : ℕ) (w v : World) (ds : List Entry) → Each Quiet ds → carry w ds ≡ (v, None) → Runs w j → Runs v j
  runs-keeps j w v ds fine leads on = carry-keeps Quiet (λ u. Runs u j) keeps w v ds fine leads on
    where
      keeps : (u : World) (a : Act) (f : Option Fuse) → Quiet u a → Runs u j → Runs (after_act u a f) j
      keeps u (Make m) f quiet old = runs-done u m f j old
      keeps u a f quiet old = absurd quiet
