-- A step tells of a write that is issued before all else, with the number that comes next.
use Rattle.std.proofs.Common.{ℕ, ◌≡◌, ◌+◌, ◌⊎◌, inl, inr, refl, ap, sym, ◌∙◌, append_assoc, Bool, true, false, cond, List, [], ◌∷◌, ◌++◌, Option, Some, None, Result, Ok, Err}
use Rattle.std.proofs.lemmas.List.{append-nil}
use Rattle.dr_ids.specs.declared.refusal.Refusal.{Refusal}
use Rattle.dr_ids.specs.declared.refusal.Refusal.TheVariants.{JournalFull, Stopped as StoppedIn}
use Rattle.dr_model.specs.declared.event.Event.{Event}
use Rattle.dr_model.specs.declared.event.Event.TheVariants.{Issue, Ack, Stopped, Frozen, Thawed, Recovered}
use Rattle.dr_model.specs.declared.step.Step.{Step}
use Rattle.dr_model.specs.declared.step.Step.TheVariants.{Run, Image}
use Rattle.dr_model.specs.Answers.{answer}
use Rattle.dr_model.specs.Limits.{image_events}
use Rattle.dr_model.specs.Control.{Control, Fuse, Volume, World}
use Rattle.dr_model.specs.Moves.{Hold, target, told, told_in_stop, landed}
use Rattle.dr_model.specs.Carry.{Act, Make, OpenAttempt, Redo, Acknowledge, Drop, EndFreeze, EndThaw, EndRecovery, Next, Pass, Do, End, Entry, Outcome, act, carry, continue, go, follow, carry_each}
use Rattle.dr_model.specs.PlanParts.{Plan, refuses}
use Rattle.dr_model.specs.Plans.{has_room_for}
use Rattle.dr_model.specs.Carried.{begun, finish, carried_out, answered, after_plan, stop_place}
use Rattle.dr_model.specs.Forming.{Part, after_part}
use Rattle.dr_model.specs.Runs.{Task, course, image_plan, imaged, after_task}
use Rattle.dr_facts.proofs.Emits.{by_moves, emitted, stop-onto, all-told}
use Rattle.dr_laws_sound.proofs.Turns.{after_act, act-cases, Counts, server_of}
use Rattle.dr_laws_sound.proofs.Cases.{Case, Issues, Writes, Lists, Sends}
use Rattle.dr_laws_sound.proofs.Listed.{all-lines}
use Rattle.dr_model.specs.SessionPlans.{is_idle}
use Rattle.dr_laws_sound.proofs.Parts.{Comes, last-plan, plain-case}
use Rattle.dr_laws_losses.proofs.Alike.{NoIssue}
use Rattle.dr_laws_losses.proofs.Steps.{none-append, image-none}
use Rattle.dr_laws_recovery.proofs.OnTracks.{no-issues}
use Rattle.dr_laws_losses.specs.Pairs.{asks_write}
use Rattle.dr_laws_losses.proofs.Told.{line-none, begun-none}

-- from w to u events were told, and no write was issued
record Quietly (w u : World) : Type 0 where
  more : List Event
  is : u.events ≡ w.events ++ more
  none : NoIssue more

quietly-same : (w : World) → Quietly w w
quietly-same w = record { more = []; is = sym (append-nil w.events); none = refl }

quietly-then : (w u v : World) → Quietly w u → Quietly u v → Quietly w v
quietly-then w u v a b = record { more = a.more ++ b.more; is = b.is ∙ ap (λ es. es ++ b.more) a.is ∙ append_assoc w.events a.more b.more; none = none-append a.more b.more a.none b.none }

does-quietly : (w : World) (a : Act) (f : Option Fuse) → Quietly w (after_act w a f)
does-quietly w (Make m) f = record { more = told m (w.control.volume (target m)); is = refl; none = all-told _ no-issues m (w.control.volume (target m)) }
does-quietly w (OpenAttempt v s n) f = record { more = told (Hold v s n true) (w.control.volume v); is = refl; none = all-told _ no-issues (Hold v s n true) (w.control.volume v) }
does-quietly w (Redo v) f = record { more = []; is = sym (append-nil w.events); none = refl }
does-quietly w (Acknowledge n) f = record { more = Ack n ∷ []; is = refl; none = refl }
does-quietly w (Drop n) f = record { more = []; is = sym (append-nil w.events); none = refl }
does-quietly w (EndFreeze l m) f = record { more = Frozen l m ∷ []; is = refl; none = refl }
does-quietly w (EndThaw l m) f = record { more = Thawed l m ∷ []; is = refl; none = refl }
does-quietly w (EndRecovery s n) f = record { more = Recovered s n ∷ []; is = refl; none = refl }

counts-quietly : (w : World) (a : Act) → Counts w a (λ t. Quietly w t.0)
counts-quietly w (Make m) = λ f.
    let u : Volume = w.control.volume (target m) in
    record { more = told_in_stop m u ++ Stopped u.server (landed m) ∷ []; is = refl; none = stop-onto by_moves _ no-issues m u (Stopped u.server (landed m) ∷ []) (emitted m) refl }
counts-quietly w (OpenAttempt v s n) = λ f.
    let u : Volume = w.control.volume v in
    record { more = told_in_stop (Hold v s n true) u ++ Stopped u.server 0 ∷ []; is = refl; none = stop-onto by_moves _ no-issues (Hold v s n true) u (Stopped u.server 0 ∷ []) (emitted (Hold v s n true)) refl }
counts-quietly w (Redo v) = tt
counts-quietly w (Acknowledge n) = tt
counts-quietly w (Drop n) = tt
counts-quietly w (EndFreeze l m) = tt
counts-quietly w (EndThaw l m) = tt
counts-quietly w (EndRecovery s n) = tt

act-quietly : (w : World) (a : Act) → Quietly w (act w a).0
act-quietly w a = act-cases w a (λ t. Quietly w t.0) (λ d off. quietly-same w) (does-quietly w a) (counts-quietly w a) (λ d f. record { more = Stopped (server_of w a) 0 ∷ []; is = refl; none = refl })

continue-quietly : (w u : World) (o : Option ℕ) (next : World → Outcome) → ((v : World) → Quietly v (next v).0) → Quietly w u → Quietly w (continue u o next).0
continue-quietly w u None next each here = quietly-then w u (next u).0 here (each u)
continue-quietly w u (Some s) next each here = here

go-quietly : (w : World) (x : Next) (next : World → Outcome) → ((v : World) → Quietly v (next v).0) → Quietly w (go w x next).0
go-quietly w Pass next each = each w
go-quietly w (End r) next each = quietly-same w
go-quietly w (Do a) next each = continue-quietly w (act w a).0 (act w a).1 next each (act-quietly w a)

carry-quietly : (w : World) (ds : List Entry) → Quietly w (carry w ds).0
unfolding carry
carry-quietly w [] = quietly-same w
carry-quietly w (d ∷ ds) = go-quietly w (d w.control) (λ v. carry v ds) (λ v. carry-quietly v ds)

each-quietly : (w : World) (ds : List Entry) → Quietly w (carry_each w ds)
each-quietly w [] = quietly-same w
each-quietly w (d ∷ ds) = quietly-then w (carry w (d ∷ [])).0 _ (carry-quietly w (d ∷ [])) (each-quietly (carry w (d ∷ [])).0 ds)

follow-quietly : (w : World) (r : Refusal) (follows : List Entry) → Quietly w (follow w r follows)
follow-quietly w (StoppedIn s) follows = each-quietly w follows
follow-quietly w r follows = quietly-same w

finish-quietly : (p : Plan) (n : ℕ) (w : World) (r : Option Refusal) → Quietly w (finish p n w r)
finish-quietly p n w None = record { more = []; is = sym (append-nil w.events); none = refl }
finish-quietly p n w (Some r) = follow-quietly w r (p.follows n)

carried-quietly : (w : World) (p : Plan) → Quietly (begun w p) (carried_out w p).0
carried-quietly w p = let o : Outcome = carry (begun w p) p.entries in quietly-then (begun w p) o.0 (finish p (stop_place w p) o.0 o.1) (carry-quietly (begun w p) p.entries) (finish-quietly p (stop_place w p) o.0 o.1)

-- what a step tells: first what its plan tells as it begins, and then nothing of a write that is issued
pub record TellsFirst (w : World) (t : Task) : Type 0 where
  pub first : List Event
  pub more : List Event
  pub is : (after_task w t).events ≡ w.events ++ (first ++ more)
  pub none : NoIssue more
  pub way : NoIssue first ⊎ ((asks_write t.asked ≡ true) × (v : ℕ) × (q : ℕ) × (offset : ℕ) × (len : ℕ) × (bytes : List ℕ) × (first ≡ Issue (w.control.issued + 1) v q offset len bytes ∷ []))

-- a plan that begins where its step does
plan-tells : (w : World) (line : ℕ) (p : Plan) → Quietly (begun w p) (after_plan w line p)
unfolding after_plan
plan-tells w line p =
    let q : Quietly (begun w p) (carried_out w p).0 = carried-quietly w p in
    record {
      more = q.more ++ answer line (answered p (carried_out w p).0.control (carried_out w p).1) ∷ [];
      is = ap (λ es. es ++ answer line (answered p (carried_out w p).0.control (carried_out w p).1) ∷ []) q.is ∙ append_assoc (w.events ++ p.told) q.more (answer line (answered p (carried_out w p).0.control (carried_out w p).1) ∷ []);
      none = none-append q.more (answer line (answered p (carried_out w p).0.control (carried_out w p).1) ∷ []) q.none refl;
    }

-- what its plan tells as it begins
abbrev Way : Result Step ℕ → Control → List Event → Type 0
Way asked k first = NoIssue first ⊎ ((asks_write asked ≡ true) × (v : ℕ) × (q : ℕ) × (offset : ℕ) × (len : ℕ) × (bytes : List ℕ) × (first ≡ Issue (k.issued + 1) v q offset len bytes ∷ []))

case-way : (k : Control) (events : List Event) (line : ℕ) (asked : Result Step ℕ) (p : Plan) → Case k events line asked p → Way asked k p.told
case-way k events line _ _ (Issues v t offset len bytes free) = inr (refl, v, t, offset, len, bytes, refl)
case-way k events line _ _ (Writes v t offset len bytes free) = inr (refl, v, t, offset, len, bytes, refl)
case-way k events line _ _ (Lists told ls few) = inl (all-lines NoIssue refl line-none told ls)
case-way k events line _ _ (Sends s server x r o posts) = inl (begun-none (is_idle r.master.phase) s o.number)
case-way k events line _ _ c = inl refl

plan-first : (w : World) (t : Task) (p : Plan) → Way t.asked w.control p.told → (after_task w t).events ≡ (after_plan w t.line p).events → TellsFirst w t
plan-first w t p way is =
    let q : Quietly (begun w p) (after_plan w t.line p) = plan-tells w t.line p in
    record { first = p.told; more = q.more; is = is ∙ (q.is ∙ append_assoc w.events p.told q.more); none = q.none; way = way }

part-quietly : (w v : World) (p : Plan) → Comes v p → Quietly w v → Quietly w (after_part v p)
part-quietly w v p comes k =
    let q : Quietly (begun v p) (carried_out v p).0 = carried-quietly v p in
    quietly-then w v (after_part v p) k (record { more = q.more; is = q.is ∙ ap (λ es. (v.events ++ es) ++ q.more) comes.told ∙ ap (λ es. es ++ q.more) (append-nil v.events); none = q.none })

pub tells-first : (w : World) (t : Task) → TellsFirst w t
tells-first w t = by t.asked
  where
    by : (asked : Result Step ℕ) → TellsFirst w (record { line = t.line; asked = asked; listed = t.listed })
    by (Ok (Run i n)) =
        let run : Task = record { line = t.line; asked = Ok (Run i n); listed = t.listed } in
        let x : Part = (course w run).last in
        let k : Quietly w x.world = last-plan (Quietly w) (part-quietly w) w run (quietly-same w) in
        let q : Quietly (begun x.world x.plan) (after_plan x.world t.line x.plan) = plan-tells x.world t.line x.plan in
        record { first = []; more = k.more ++ q.more; is = q.is ∙ ap (λ es. es ++ q.more) (append-nil x.world.events ∙ k.is) ∙ append_assoc w.events k.more q.more; none = none-append k.more q.more k.none q.none; way = inl refl }
    by (Ok Image) = plan-first w (record { line = t.line; asked = Ok Image; listed = t.listed }) (imaged w t.listed) (inl (of (has_room_for image_events w.events))) refl
      where
        of : (b : Bool) → NoIssue (cond b (image_plan t.listed) (refuses JournalFull)).told
        of true = image-none t.listed
        of false = refl
    by (Ok step) = plan-first w (record { line = t.line; asked = Ok step; listed = t.listed }) _ (case-way w.control w.events t.line (Ok step) _ (plain-case w (record { line = t.line; asked = Ok step; listed = t.listed }) (λ e. cc))) refl
    by (Err column) = plan-first w (record { line = t.line; asked = Err column; listed = t.listed }) _
        (case-way w.control w.events t.line (Err column) _ (plain-case w (record { line = t.line; asked = Err column; listed = t.listed }) (λ e. cc))) refl
