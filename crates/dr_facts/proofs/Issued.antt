-- No act of a step issues a write: however entries end, the writes that the journal tells of are as before.
use Rattle.std.proofs.Common.{ℕ, ◌≡◌, inl, inr, List, [], ◌∷◌, ◌++◌, refl, ap, ◌∙◌, Bool, true, false, not, cond, Option, Some, None}
use Rattle.std.specs.List.{fold}
use Rattle.dr_ids.specs.declared.refusal.Refusal.{Refusal}
use Rattle.dr_model.specs.declared.event.Event.{Event}
use Rattle.dr_model.specs.declared.event.Event.TheVariants.{Issue, Stopped, Ack, Frozen, Thawed, Recovered}
use Rattle.dr_model.specs.Layout.{Fields}
use Rattle.dr_model.specs.Histories.{Histories, histories, after_event}
use Rattle.dr_model.specs.Control.{Volume, World}
use Rattle.dr_model.specs.Moves.{Move, Carried, Hold, target, next_fields, carried, told, told_in_stop, landed, keeps_staged}
use Rattle.dr_model.specs.Carry.{Act, Make, OpenAttempt, Redo, Acknowledge, Drop, EndFreeze, EndThaw, EndRecovery, Next, Pass, Do, End, Entry, Turn, Ended, ended, update_keeping, spent, off, pass, turn, finished, cut_short, redo, redo_writes, act, equal, attempt_begun}
use Rattle.dr_model.specs.ReadStops.{GoesOff, IsEnd, EndsTurn, EndsNext, Ends}
use Rattle.dr_facts.proofs.Emits.{Of, Lists, by_moves, emitted, all-told, stop-onto}
use Rattle.dr_model.proofs.CarryLemmas.{update-cases}
use Rattle.dr_model.proofs.Images.{histories-append}

abbrev pub after : Histories → List Event → Histories
after h es = fold after_event h es

no-issue : (h : Histories) (e : Event) → Of by_moves e → (after_event h e).write ≡ h.write
no-issue h (Issue n v t offset len bytes) by = absurd cc
no-issue h e by = refl

writes-stay : Lists (Of by_moves) (λ es. (h : Histories) → (after h es).write ≡ h.write)
writes-stay = record { none = λ h. refl; more = λ e es by behind h. behind (after_event h e) ∙ no-issue h e by }

pub told-writes : (h : Histories) (m : Move) (u : Volume) → (after h (told m u)).write ≡ h.write
told-writes h m u = all-told _ writes-stay m u h

pub stop-writes : (h : Histories) (m : Move) (u : Volume) (s n : ℕ) → (after h (told_in_stop m u ++ Stopped s n ∷ [])).write ≡ h.write
stop-writes h m u s n = stop-onto by_moves _ writes-stay m u (Stopped s n ∷ []) (emitted m) (λ h. refl) h

-- the writes of one world are those of another
abbrev pub Alike : World → World → Type 0
Alike v w = (histories v.events).write ≡ (histories w.events).write

pub with-told : (w : World) (es : List Event) → (after (histories w.events) es).write ≡ (histories w.events).write → (histories (w.events ++ es)).write ≡ (histories w.events).write
with-told w es same = ap (λ (x : Histories). x.write) (histories-append w.events es) ∙ same

-- an update tells nothing
pub update-events : (keeps : Bool) (w : World) (v : ℕ) (f : Fields) (c : Carried) → (update_keeping keeps w v f c).world.events ≡ w.events
update-events keeps w v f c = update-cases keeps w v f c (λ e. e.world.events ≡ w.events) (λ down. refl) (λ on n. refl) (λ on armed. refl) (λ on armed. refl)

cut-writes : (w x : World) (m : Move) (u : Volume) → x.events ≡ w.events → (done : Bool) → Alike (cut_short x m u done) w
cut-writes w x m u same true =
    with-told x (told_in_stop m u ++ Stopped u.server (landed m) ∷ []) (stop-writes (histories x.events) m u u.server (landed m)) ∙ ap (λ es. (histories es).write) same
cut-writes w x m u same false = with-told x (Stopped u.server 0 ∷ []) refl ∙ ap (λ es. (histories es).write) same

turn_by-writes : (w x : World) (m : Move) (u : Volume) → x.events ≡ w.events → (on stopped done : Bool)
    → Alike (cond (not on) (let t : Turn = (w, None) in t) (cond stopped (cut_short x m u done, Some u.server) (finished x m u, None))).0 w
turn_by-writes w x m u same false stopped done = refl
turn_by-writes w x m u same true true done = cut-writes w x m u same done
turn_by-writes w x m u same true false done = with-told x (told m u) (told-writes (histories x.events) m u) ∙ ap (λ es. (histories es).write) same

turn-writes : (w : World) (m : Move) → Alike (turn w m).0 w
unfolding turn
turn-writes w m =
    let u : Volume = w.control.volume (target m) in
    let f : Fields = next_fields m w.control.volume in
    let c : Carried = carried m w.control.volume w.contents (histories w.events).write in
    let e : Ended = update_keeping (keeps_staged m) w (target m) f c in
    turn_by-writes w e.world m u (update-events (keeps_staged m) w (target m) f c) (w.control.on u.server) e.stopped e.done

redo_by-writes : (w : World) (v : ℕ) (on passes : Bool)
    → let s : ℕ = (w.control.volume v).server in
    let e : Ended = cond (not on) (ended w true false) (cond passes (ended (spent w s (redo_writes (w.control.volume v).staged)) false true) (ended (off w s) true false)) in
    Alike (cond (not on) (let t : Turn = (w, None) in t) (cond e.stopped (record e.world { events = w.events ++ Stopped s 0 ∷ [] }, Some s) (e.world, None))).0 w
redo_by-writes w v false passes = refl
redo_by-writes w v true true = refl
redo_by-writes w v true false = with-told w (Stopped (w.control.volume v).server 0 ∷ []) refl

opened-writes : (w : World) (t : Turn) (s : ℕ) (same : Bool) → Alike t.0 w → Alike (cond same t.0 (attempt_begun t.0 s)) w
opened-writes w t s true alike = alike
opened-writes w t s false alike = alike

pub act-writes : (w : World) (a : Act) → Alike (act w a).0 w
unfolding act redo
act-writes w (Make m) = turn-writes w m
act-writes w (OpenAttempt v s n) = opened-writes w (turn w (Hold v s n true)) s (equal (w.control.volume v).slot ((turn w (Hold v s n true)).0.control.volume v).slot) (turn-writes w (Hold v s n true))
act-writes w (Redo v) = redo_by-writes w v (w.control.on (w.control.volume v).server) (pass (w.control.fuse (w.control.volume v).server) (redo_writes (w.control.volume v).staged))
act-writes w (Acknowledge n) = with-told w (Ack n ∷ []) refl
act-writes w (Drop n) = refl
act-writes w (EndFreeze l m) = with-told w (Frozen l m ∷ []) refl
act-writes w (EndThaw l m) = with-told w (Thawed l m ∷ []) refl
act-writes w (EndRecovery s n) = with-told w (Recovered s n ∷ []) refl

module _ (armed : ℕ → Bool) (u : World) (r : Option Refusal) where
  off-writes : (w : World) → GoesOff armed u r w → Alike u w
  off-writes w off = ap (λ (x : World). (histories x.events).write) off.world ∙ with-told w (Stopped off.server 0 ∷ []) refl

  end-writes : (w : World) (end : Option Refusal) → IsEnd armed u r w end → Alike u w
  end-writes w end is = ap (λ (x : World). (histories x.events).write) is.world

  turn-ends : (w : World) (t : Turn) (more : World → Type 0) → Alike t.0 w → ((v : World) → more v → Alike u v) → EndsTurn armed u r t.0 t.1 more → Alike u w
  turn-ends w (v, None) more same on e = on v e ∙ same
  turn-ends w (v, Some s) more same on e = end-writes v (Some _) e ∙ same

  next-ends : (w : World) (x : Next) (more : World → Type 0) → ((v : World) → more v → Alike u v) → EndsNext armed u r w x more → Alike u w
  next-ends w Pass more on e = on w e
  next-ends w (End end) more on e = end-writes w (Some end) e
  next-ends w (Do a) more on e = turn-ends w (act w a) more (act-writes w a) on e

  pub unissued : (w : World) (ds : List Entry) → Ends armed u r w ds → Alike u w
  unfolding Ends
  unissued w [] (inl off) = off-writes w off
  unissued w [] (inr is) = end-writes w None is
  unissued w (d ∷ ds) (inl off) = off-writes w off
  unissued w (d ∷ ds) (inr e) = next-ends w (d w.control) (λ v. Ends armed u r v ds) (λ v. unissued v ds) e
