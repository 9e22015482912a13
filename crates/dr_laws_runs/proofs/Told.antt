-- Worlds that differ in journals alone, which tell the same histories: what is carried out in both tells the same.
use Rattle.std.proofs.Common.{ℕ, ◌≡◌, refl, ap, ◌∙◌, sym, subst, append_assoc, Bool, true, false, cond, not, List, [], ◌∷◌, ◌++◌, drop, length, Option, Some, None, ◌+◌}
use Rattle.std.proofs.Math.Seq.{drop-append_seam}
use Rattle.std.proofs.lemmas.List.{append-nil}
use Rattle.std.specs.List.{fold}
use Rattle.dr_ids.specs.declared.refusal.Refusal.{Refusal}
use Rattle.dr_ids.specs.declared.refusal.Refusal.TheVariants.{Stopped as StoppedIn}
use Rattle.dr_model.specs.Refusals.{stopped}
use Rattle.dr_model.specs.declared.event.Event.{Event}
use Rattle.dr_model.specs.declared.event.Event.TheVariants.{Ack, Stopped, Frozen, Thawed, Recovered}
use Rattle.dr_model.specs.Histories.{Histories, histories, after_event}
use Rattle.dr_model.specs.Layout.{Fields}
use Rattle.dr_model.specs.Control.{Volume, World}
use Rattle.dr_model.specs.Moves.{Move, Hold, Carried, target, next_fields, carried, keeps_staged, updated_keeping, told, told_in_stop, landed}
use Rattle.dr_model.specs.Carry.{Act, Make, OpenAttempt, Redo, Acknowledge, Drop, EndFreeze, EndThaw, EndRecovery, Turn, Ended, ended, Next, Pass, Do, End, Entry, Outcome, turn, redo, redo_ended, redo_writes, act, continue, go, carry, follow, spent, off, pass, counts_by, writes, gate_at, equal, attempt_begun, opened_by, update_keeping, finished, cut_short, dropped, stopped_turn, stopped_next, stopped_at, carry_each}
use Rattle.dr_model.specs.PlanParts.{Plan}
use Rattle.dr_model.specs.Carried.{begun, finish, carried_out}
use Rattle.dr_model.proofs.Images.{histories-append}
use Rattle.dr_laws_runs.specs.Walks.{with_events}

-- what the journal was told between two worlds of a run
abbrev pub told_since : World → World → List Event
told_since w u = drop (length w.events) u.events

-- a journal goes on
pub record GoesOn (w u : World) : Type 0 where
  pub more : List Event
  pub is : u.events ≡ w.events ++ more

pub told-is : (w u : World) (on : GoesOn w u) → told_since w u ≡ on.more
told-is w u on = ap (drop (length w.events)) on.is ∙ drop-append_seam w.events on.more

-- what is carried out tells the same in the other world
pub record Same (es : List Event) {X : Type 0} (w : World) (o p : World × X) : Type 0 where
  pub on : GoesOn w o.0
  pub is : p ≡ (with_events o.0 (es ++ on.more), o.1)

-- both journals tell the same histories
abbrev pub TellAlike : List Event → World → Type 0
TellAlike es w = histories es ≡ histories w.events

-- ---- a move

module _ (w : World) (es : List Event) (m : Move) (alike : TellAlike es w) where
  abbrev row : Volume
  row = w.control.volume (target m)

  abbrev next : Fields
  next = next_fields m w.control.volume

  -- its turn, by what decides it, with a journal and the histories
  abbrev turned_by : List Event → Histories → Bool → Bool → Bool → Turn
  turned_by fs h on passes counts =
      let u : World = with_events w fs in
      let track : Carried = carried m w.control.volume w.contents h.write in
      let new : World = updated_keeping (keeps_staged m) u (target m) next track in
      let e : Ended = cond (not on) (ended u true false) (cond passes (ended (spent new row.server (writes row next track)) false true) (cond counts (ended (off new row.server) true true) (ended (off u row.server) true false))) in
      cond (not on) (u, None) (cond e.stopped (cut_short e.world m row e.done, Some row.server) (finished e.world m row, None))

  abbrev decided : List Event → Histories → Turn
  decided fs h =
      let track : Carried = carried m w.control.volume w.contents h.write in
      turned_by fs h (w.control.on row.server) (pass (w.control.fuse row.server) (writes row next track)) (counts_by (gate_at row next track) (w.control.fuse row.server) (not row.slot))

  turned-by : (fs : List Event) → turn (with_events w fs) m ≡ decided fs (histories fs)
  unfolding turn update_keeping
  turned-by fs = refl

  turned-same : (h : Histories) (on passes counts : Bool) → Same es w (turned_by w.events h on passes counts) (turned_by es h on passes counts)
  turned-same h false passes counts = record { on = record { more = []; is = sym (append-nil w.events) }; is = ap (λ xs. (with_events w xs, None)) (sym (append-nil es)) }
  turned-same h true true counts = record { on = record { more = told m row; is = refl }; is = refl }
  turned-same h true false true = record { on = record { more = told_in_stop m row ++ Stopped row.server (landed m) ∷ []; is = refl }; is = refl }
  turned-same h true false false = record { on = record { more = Stopped row.server 0 ∷ []; is = refl }; is = refl }

  pub turn-same : Same es w (turn w m) (turn (with_events w es) m)
  turn-same =
      subst (λ t. Same es w t (turn (with_events w es) m)) (sym (turned-by w.events))
      (subst (λ t. Same es w (decided w.events (histories w.events)) t) (sym (turned-by es ∙ ap (decided es) alike)) (turned-same (histories w.events) _ _ _))

-- ---- a staged track that is written to its place

module _ (w : World) (es : List Event) (v : ℕ) where
  abbrev place : ℕ
  place = (w.control.volume v).server

  abbrev redone_by : List Event → Bool → Bool → Turn
  redone_by fs on passes =
      let u : World = with_events w fs in
      let e : Ended = cond (not on) (ended u true false) (cond passes (ended (spent u place (redo_writes (w.control.volume v).staged)) false true) (ended (off u place) true false)) in
      cond (not on) (u, None) (cond e.stopped (record e.world { events = fs ++ Stopped place 0 ∷ [] }, Some place) (e.world, None))

  redone-by : (fs : List Event) → redo_ended (with_events w fs) v (redo (with_events w fs) v) ≡ redone_by fs (w.control.on place) (pass (w.control.fuse place) (redo_writes (w.control.volume v).staged))
  unfolding redo
  redone-by fs = refl

  redone-same : (on passes : Bool) → Same es w (redone_by w.events on passes) (redone_by es on passes)
  redone-same false passes = record { on = record { more = []; is = sym (append-nil w.events) }; is = ap (λ xs. (with_events w xs, None)) (sym (append-nil es)) }
  redone-same true true = record { on = record { more = []; is = sym (append-nil w.events) }; is = ap (λ xs. (with_events (spent w place (redo_writes (w.control.volume v).staged)) xs, None)) (sym (append-nil es)) }
  redone-same true false = record { on = record { more = Stopped place 0 ∷ []; is = refl }; is = refl }

  redo-same : Same es w (redo_ended w v (redo w v)) (redo_ended (with_events w es) v (redo (with_events w es) v))
  redo-same =
      let passes : Bool = pass (w.control.fuse place) (redo_writes (w.control.volume v).staged) in
      subst (λ t. Same es w t (redo_ended (with_events w es) v (redo (with_events w es) v))) (sym (redone-by w.events))
      (subst (λ t. Same es w (redone_by w.events (w.control.on place) passes) t) (sym (redone-by es)) (redone-same (w.control.on place) passes))

-- ---- any act

same-nothing : {X : Type 0} → (es : List Event) (w v : World) (x : X) → v.events ≡ w.events → Same es w (v, x) (with_events v es, x)
same-nothing es w v x is = record { on = record { more = []; is = is ∙ sym (append-nil w.events) }; is = ap (λ xs. (with_events v xs, x)) (sym (append-nil es)) }

open-same : (w : World) (v s : ℕ) (es : List Event) (o p : Turn) → Same es w o p → Same es w (opened_by w v s o) (opened_by (with_events w es) v s p)
open-same w v s es o p same = subst (λ t. Same es w (opened_by w v s o) (opened_by (with_events w es) v s t)) (sym same.is) (by (equal (w.control.volume v).slot (o.0.control.volume v).slot))
  where
    by : (b : Bool) → Same es w (cond b o.0 (attempt_begun o.0 s), o.1) (cond b (with_events o.0 (es ++ same.on.more)) (attempt_begun (with_events o.0 (es ++ same.on.more)) s), o.1)
    by true = record { on = same.on; is = refl }
    by false = record { on = record { more = same.on.more; is = same.on.is }; is = refl }

pub act-same : (w : World) (es : List Event) (a : Act) → TellAlike es w → Same es w (act w a) (act (with_events w es) a)
unfolding act
act-same w es (Make m) alike = turn-same w es m alike
act-same w es (OpenAttempt v s n) alike = open-same w v s es (turn w (Hold v s n true)) (turn (with_events w es) (Hold v s n true)) (turn-same w es (Hold v s n true) alike)
act-same w es (Redo v) alike = redo-same w es v
act-same w es (Acknowledge n) alike = record { on = record { more = Ack n ∷ []; is = refl }; is = refl }
act-same w es (Drop n) alike = same-nothing es w (dropped w n) None refl
act-same w es (EndFreeze l m) alike = record { on = record { more = Frozen l m ∷ []; is = refl }; is = refl }
act-same w es (EndThaw l m) alike = record { on = record { more = Thawed l m ∷ []; is = refl }; is = refl }
act-same w es (EndRecovery s n) alike = record { on = record { more = Recovered s n ∷ []; is = refl }; is = refl }

-- ---- entries and plans

-- the histories are the same after the same events
pub alike-on : (w u : World) (es : List Event) (on : GoesOn w u) → TellAlike es w → TellAlike (es ++ on.more) u
alike-on w u es on alike = histories-append es on.more ∙ ap (λ h. fold after_event h on.more) alike ∙ sym (histories-append w.events on.more) ∙ ap histories (sym on.is)

abbrev pub goes-then : (w u v : World) → GoesOn w u → GoesOn u v → GoesOn w v
goes-then w u v p q = record { more = p.more ++ q.more; is = q.is ∙ ap (λ es. es ++ q.more) p.is ∙ append_assoc w.events p.more q.more }

-- one after the other
then-same : {X : Type 0} → (w u : World) (es : List Event) (on : GoesOn w u) (o p : World × X) → Same (es ++ on.more) u o p → Same es w o p
then-same w u es on o p same = record { on = goes-then w u o.0 on same.on; is = same.is ∙ ap (λ xs. (with_events o.0 xs, o.1)) (append_assoc es on.more same.on.more) }

continue-same : (w : World) (es : List Event) (next : World → Outcome) (t s : Turn) → TellAlike es w → Same es w t s → ((v : World) (fs : List Event) → TellAlike fs v → Same fs v (next v) (next (with_events v fs))) → Same es w (continue t.0 t.1 next) (continue s.0 s.1 next)
continue-same w es next (v, None) s alike same rest =
    subst (λ s. Same es w (next v) (continue s.0 s.1 next)) (sym same.is) (then-same w v es same.on (next v) (next (with_events v (es ++ same.on.more))) (rest v (es ++ same.on.more) (alike-on w v es same.on alike)))
continue-same w es next (v, Some q) s alike same rest = subst (λ s. Same es w (v, Some (stopped q)) (continue s.0 s.1 next)) (sym same.is) (record { on = same.on; is = refl })

go-same : (w : World) (es : List Event) (x : Next) (more : World → Outcome) → TellAlike es w → ((v : World) (fs : List Event) → TellAlike fs v → Same fs v (more v) (more (with_events v fs))) → Same es w (go w x more) (go (with_events w es) x more)
go-same w es Pass more alike rest = rest w es alike
go-same w es (End r) more alike rest = same-nothing es w w (Some r) refl
go-same w es (Do a) more alike rest = continue-same w es more (act w a) (act (with_events w es) a) alike (act-same w es a alike) rest

pub carry-same : (w : World) (es : List Event) (ds : List Entry) → TellAlike es w → Same es w (carry w ds) (carry (with_events w es) ds)
unfolding carry
carry-same w es [] alike = same-nothing es w w None refl
carry-same w es (d ∷ ds) alike = go-same w es (d w.control) (λ v. carry v ds) alike (λ v fs alike. carry-same v fs ds alike)

-- both stop after as many entries
turn-place : (w : World) (es : List Event) (t s : Turn) (later : World → ℕ) → TellAlike es w → Same es w t s → ((v : World) (fs : List Event) → TellAlike fs v → later (with_events v fs) ≡ later v) → stopped_turn s later ≡ stopped_turn t later
turn-place w es (v, None) s later alike same rest = subst (λ s. stopped_turn s later ≡ later v) (sym same.is) (rest v (es ++ same.on.more) (alike-on w v es same.on alike))
turn-place w es (v, Some q) s later alike same rest = subst (λ s. stopped_turn s later ≡ 0) (sym same.is) refl

next-place : (w : World) (es : List Event) (x : Next) (later : World → ℕ) → TellAlike es w → ((v : World) (fs : List Event) → TellAlike fs v → later (with_events v fs) ≡ later v) → stopped_next (with_events w es) x later ≡ stopped_next w x later
next-place w es Pass later alike rest = rest w es alike
next-place w es (End r) later alike rest = refl
next-place w es (Do a) later alike rest = turn-place w es (act w a) (act (with_events w es) a) later alike (act-same w es a alike) rest

place-same : (w : World) (es : List Event) (ds : List Entry) → TellAlike es w → stopped_at (with_events w es) ds ≡ stopped_at w ds
unfolding stopped_at
place-same w es [] alike = refl
place-same w es (d ∷ ds) alike = next-place w es (d w.control) (λ v. stopped_at v ds + 1) alike (λ v fs alike. ap (λ n. n + 1) (place-same v fs ds alike))

each-same : (w : World) (es : List Event) (r : Refusal) (ds : List Entry) → TellAlike es w → Same es w (carry_each w ds, Some r) (carry_each (with_events w es) ds, Some r)
each-same w es r [] alike = same-nothing es w w (Some r) refl
each-same w es r (d ∷ ds) alike = by (carry w (d ∷ [])) (carry (with_events w es) (d ∷ [])) (carry-same w es (d ∷ []) alike) (λ v fs alike. each-same v fs r ds alike)
  where
    by : (o q : Outcome) → Same es w o q → ((v : World) (fs : List Event) → TellAlike fs v → Same fs v (carry_each v ds, Some r) (carry_each (with_events v fs) ds, Some r)) → Same es w (carry_each o.0 ds, Some r) (carry_each q.0 ds, Some r)
    by o q same rest = subst (λ x. Same es w (carry_each o.0 ds, Some r) (carry_each x.0 ds, Some r)) (sym same.is) (then-same w o.0 es same.on _ _ (rest o.0 (es ++ same.on.more) (alike-on w o.0 es same.on alike)))

follow-same : (w : World) (es : List Event) (r : Refusal) (follows : List Entry) → TellAlike es w → Same es w (follow w r follows, Some r) (follow (with_events w es) r follows, Some r)
follow-same w es (StoppedIn s) follows alike = each-same w es (StoppedIn s) follows alike
follow-same w es r follows alike = same-nothing es w w (Some r) refl

finish-same : (p : Plan) (n : ℕ) (w : World) (es : List Event) (r : Option Refusal) → TellAlike es w → Same es w (finish p n w r, r) (finish p n (with_events w es) r, r)
finish-same p n w es None alike = same-nothing es w (record w { control = p.last w.control }) None refl
finish-same p n w es (Some r) alike = follow-same w es r (p.follows n) alike

-- a plan
pub plan-same : (w : World) (es : List Event) (p : Plan) → TellAlike es w → Same es w (carried_out w p) (carried_out (with_events w es) p)
plan-same w es p alike =
    let b : World = begun w p in
    let begins : GoesOn w b = record { more = p.told; is = refl } in
    let fs : List Event = es ++ p.told in
    let at_begin : TellAlike fs b = alike-on w b es begins alike in
    then-same w b es begins _ _ (subst (λ n. Same fs b (carried_out w p) (finish p n (carry (with_events b fs) p.entries).0 (carry (with_events b fs) p.entries).1, (carry (with_events b fs) p.entries).1)) (sym (place-same b fs p.entries at_begin))
    (by (carry b p.entries) (carry (with_events b fs) p.entries) at_begin (carry-same b fs p.entries at_begin)))
  where
    by : (o q : Outcome) → TellAlike (es ++ p.told) (begun w p) → Same (es ++ p.told) (begun w p) o q → Same (es ++ p.told) (begun w p) (finish p (stopped_at (begun w p) p.entries) o.0 o.1, o.1) (finish p (stopped_at (begun w p) p.entries) q.0 q.1, q.1)
    by o q alike same =
        subst (λ q. Same (es ++ p.told) (begun w p) (finish p (stopped_at (begun w p) p.entries) o.0 o.1, o.1) (finish p (stopped_at (begun w p) p.entries) q.0 q.1, q.1)) (sym same.is)
        (then-same (begun w p) o.0 (es ++ p.told) same.on _ _ (finish-same p (stopped_at (begun w p) p.entries) o.0 ((es ++ p.told) ++ same.on.more) o.1 (alike-on (begun w p) o.0 (es ++ p.told) same.on alike)))
