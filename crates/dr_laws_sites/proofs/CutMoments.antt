-- Each cut of a run's journal was told from one moment to the next, with at most the stop of a server after it.
use Rattle.std.proofs.Common.{ℕ, ◌≡◌, ◌⊎◌, inl, inr, refl, ap, sym, ◌∙◌, subst, true, false, List, [], ◌∷◌, ◌++◌, Option, Some, None, Bool}
use Rattle.std.proofs.lemmas.List.{append-nil}
use Rattle.dr_ids.specs.declared.refusal.Refusal.{Refusal}
use Rattle.dr_ids.specs.declared.refusal.Refusal.TheVariants.{Stopped as StoppedIn}
use Rattle.dr_model.specs.declared.event.Event.{Event}
use Rattle.dr_model.specs.declared.event.Event.TheVariants.{Ack, Begin, Cut, Stopped, Frozen, Thawed, Recovered}
use Rattle.dr_model.specs.declared.said.Said.{Said}
use Rattle.dr_model.specs.Answers.{answer}
use Rattle.dr_model.specs.Control.{Fuse, Volume, World, nothing}
use Rattle.dr_model.specs.Moves.{Move, Hold, target, told, told_in_stop, landed}
use Rattle.dr_model.specs.Carry.{Act, Make, OpenAttempt, Redo, Acknowledge, Drop, EndFreeze, EndThaw, EndRecovery, Next, Pass, Do, End, Entry, Outcome, Turn, continue, go, carry, carry_each}
use Rattle.dr_model.specs.MessagePlans.{told_begun}
use Rattle.dr_model.specs.SessionPlans.{is_idle}
use Rattle.dr_model.specs.PlanParts.{Plan}
use Rattle.dr_model.specs.Forming.{Part, after_part}
use Rattle.dr_model.specs.Runs.{Task, course, begun, finish, stop_place, carried_out, answered, after_plan, after_task, after_tasks, run, image_told}
use Rattle.dr_facts.proofs.Joined.{InFirst, place-in}
use Rattle.dr_laws_cuts.specs.Once.{NoCut, NoCuts}
use Rattle.dr_laws_cuts.proofs.Places.{head-same, tail-same}
use Rattle.dr_laws_cuts.proofs.Told.{told-quiet, stop-quiet}
use Rattle.dr_laws_sound.proofs.Cases.{Case, DefinesServer, DefinesVolume, Issues, Writes, Lists, Shows, Stops, Starts, Sends}
use Rattle.dr_laws_sound.proofs.Listed.{lines-plain, image-lines}
use Rattle.dr_laws_sound.proofs.Parts.{Goes, Nothing, Next as NextPlan, course-goes, course-case, Ending, OnePlan, Imaged}
use Rattle.dr_laws_sound.proofs.Turns.{act-cases, after_act, Counts, done, done_in_stop, opened_in_stop, not_done, server_of}
use Rattle.dr_laws_freezes.specs.Moments.{on_from, on_next, worlds, worlds_each, worlds_after, plan_moments, part_moments, parts_moments, task_moments, moments_from, moments}
use Rattle.dr_laws_sites.specs.CutMoments.{AtMostStop, IsJustCut, HasCutMoment, CutsAreMoments}

-- ---- events that end with a cut, if they have one

-- after a cut there is at most the stop of a server
abbrev CutsLast : List Event → Type 0
CutsLast es = (s n a : ℕ) (middle after : List Event) → es ≡ middle ++ Cut s n a ∷ after → AtMostStop after

quiet-last : (es : List Event) → NoCuts es → CutsLast es
quiet-last [] none s n a [] after is = absurd cc
quiet-last [] none s n a (x ∷ xs) after is = absurd cc
quiet-last (e ∷ es) none s n a [] after is = absurd (subst NoCut (head-same e (Cut s n a) es after is) none.0)
quiet-last (e ∷ es) none s n a (x ∷ xs) after is = quiet-last es none.1 s n a xs after (tail-same e x es (xs ++ Cut s n a ∷ after) is)

stop-quiet-list : (es : List Event) → AtMostStop es → NoCuts es
stop-quiet-list [] stop = tt
stop-quiet-list (Stopped server landed ∷ []) stop = (tt, tt)
stop-quiet-list es stop = absurd stop

cut-last : (front : List Event) (z k x : ℕ) (rest : List Event) → NoCuts front → AtMostStop rest → CutsLast (front ++ Cut z k x ∷ rest)
cut-last [] z k x rest none stop s n a [] after is = subst AtMostStop (tail-same (Cut z k x) (Cut s n a) rest after is) stop
cut-last [] z k x rest none stop s n a (m ∷ ms) after is = quiet-last rest (stop-quiet-list rest stop) s n a ms after (tail-same (Cut z k x) m rest (ms ++ Cut s n a ∷ after) is)
cut-last (e ∷ es) z k x rest none stop s n a [] after is = absurd (subst NoCut (head-same e (Cut s n a) (es ++ Cut z k x ∷ rest) after is) none.0)
cut-last (e ∷ es) z k x rest none stop s n a (m ∷ ms) after is = cut-last es z k x rest none.1 stop s n a ms after (tail-same e m (es ++ Cut z k x ∷ rest) (ms ++ Cut s n a ∷ after) is)

no-cuts-then : (es fs : List Event) → NoCuts es → NoCuts fs → NoCuts (es ++ fs)
no-cuts-then [] fs one rest = rest
no-cuts-then (e ∷ es) fs one rest = (one.0, no-cuts-then es fs one.1 rest)

-- ---- from one moment to the next

-- such events are told
record Tells (w u : World) : Type 0 where
  told : List Event
  is : u.events ≡ w.events ++ told
  last : CutsLast told

quietly : (w u : World) (es : List Event) → u.events ≡ w.events ++ es → NoCuts es → Tells w u
quietly w u es is none = record { told = es; is = is; last = quiet-last es none }

silently : (w u : World) → u.events ≡ w.events → Tells w u
silently w u is = quietly w u [] (is ∙ sym (append-nil w.events)) tt

cutting : (w u : World) (front : List Event) (s n a : ℕ) (rest : List Event) → u.events ≡ w.events ++ (front ++ Cut s n a ∷ rest) → NoCuts front → AtMostStop rest → Tells w u
cutting w u front s n a rest is none stop = record { told = front ++ Cut s n a ∷ rest; is = is; last = cut-last front s n a rest none stop }

done-tells : (w : World) (m : Move) (f : Option Fuse) → Tells w (done w m f)
done-tells w (Hold v s n true) f = cutting w _ (Begin s n ∷ []) s n v [] refl (tt, tt) tt
done-tells w (Hold v s n false) f = cutting w _ [] s n v [] refl tt tt
done-tells w m f = let u : Volume = w.control.volume (target m) in quietly w _ (told m u) refl (told-quiet m u refl)

stop-tells : (w : World) (m : Move) (f : Option Fuse) → Tells w (done_in_stop w m f)
stop-tells w (Hold v s n true) f = cutting w _ (Begin s n ∷ []) s n v (Stopped (w.control.volume v).server 0 ∷ []) refl (tt, tt) tt
stop-tells w (Hold v s n false) f = cutting w _ [] s n v (Stopped (w.control.volume v).server 0 ∷ []) refl tt tt
stop-tells w m f =
    let u : Volume = w.control.volume (target m) in
    quietly w _ (told_in_stop m u ++ Stopped u.server (landed m) ∷ []) refl (no-cuts-then (told_in_stop m u) (Stopped u.server (landed m) ∷ []) (stop-quiet m u refl) (tt, tt))

act-tells : (w : World) (a : Act) (f : Option Fuse) → Tells w (after_act w a f)
act-tells w (Make m) f = done-tells w m f
act-tells w (OpenAttempt v s n) f = cutting w _ (Begin s n ∷ []) s n v [] refl (tt, tt) tt
act-tells w (Redo v) f = silently w _ refl
act-tells w (Acknowledge n) f = quietly w _ (Ack n ∷ []) refl (tt, tt)
act-tells w (Drop n) f = silently w _ refl
act-tells w (EndFreeze l m) f = quietly w _ (Frozen l m ∷ []) refl (tt, tt)
act-tells w (EndThaw l m) f = quietly w _ (Thawed l m ∷ []) refl (tt, tt)
act-tells w (EndRecovery s n) f = quietly w _ (Recovered s n ∷ []) refl (tt, tt)

-- moments from one world to another, where the last of them is that one
data Leads : World → List World → World → Type 0 where
  Stay : (w : World) → Leads w [] w
  Go : (w u : World) → (us : List World) → (v : World) → Tells w u → Leads u us v → Leads w (u ∷ us) v

leads-then : (w : World) (us : List World) (v : World) (vs : List World) (x : World) → Leads w us v → Leads v vs x → Leads w (us ++ vs) x
leads-then _ _ _ vs x (Stay w) rest = rest
leads-then _ _ _ vs x (Go w u us v tells more) rest = Go w u (us ++ vs) x tells (leads-then u us v vs x more rest)

-- ---- the moments of entries

module _ (more : World → List World) (go_on : World → Outcome) (on : (v : World) → Leads v (more v) (go_on v).0) where
  abbrev Turned : World → Turn → Type 0
  Turned w t = Leads w (on_from t.0 t.1 more) (continue t.0 t.1 go_on).0

  counts-lead : (w : World) (a : Act) → Counts w a (Turned w)
  counts-lead w (Make m) = λ f. Go w (done_in_stop w m f) [] (done_in_stop w m f) (stop-tells w m f) (Stay _)
  counts-lead w (OpenAttempt v s n) = λ f. Go w (opened_in_stop w v s n f) [] (opened_in_stop w v s n f) (cutting w _ (Begin s n ∷ []) s n v (Stopped (w.control.volume v).server 0 ∷ []) refl (tt, tt) tt) (Stay _)
  counts-lead w a = tt

  next-leads : (w : World) (x : Next) → Leads w (on_next w x more) (go w x go_on).0
  next-leads w Pass = on w
  next-leads w (End r) = Stay w
  next-leads w (Do a) =
      act-cases w a (Turned w)
      (λ d off. Go w w (more w) _ (silently w w refl) (on w))
      (λ f. Go w (after_act w a f) (more (after_act w a f)) _ (act-tells w a f) (on (after_act w a f)))
      (counts-lead w a)
      (λ d f. Go w (not_done w (server_of w a) f) [] _ (quietly w _ (Stopped (server_of w a) 0 ∷ []) refl (tt, tt)) (Stay _))

entries-lead : (ds : List Entry) (w : World) → Leads w (worlds w ds) (carry w ds).0
unfolding worlds carry
entries-lead [] w = Stay w
entries-lead (d ∷ ds) w = next-leads (λ v. worlds v ds) (λ v. carry v ds) (λ v. entries-lead ds v) w (d w.control)

each-lead : (ds : List Entry) (w : World) → Leads w (worlds_each w ds) (carry_each w ds)
unfolding worlds_each
each-lead [] w = Stay w
each-lead (d ∷ ds) w = let u : World = (carry w (d ∷ [])).0 in leads-then w (worlds w (d ∷ [])) u (worlds_each u ds) (carry_each u ds) (entries-lead (d ∷ []) w) (each-lead ds u)

-- ---- those of a plan

record Ends (w : World) (us : List World) (end : World) : Type 0 where
  last : World
  leads : Leads w us last
  same : end.events ≡ last.events

module _ (p : Plan) (n : ℕ) where
  finish-ends : (w : World) (r : Option Refusal) → Ends w (worlds_after w r (p.follows n)) (finish p n w r)
  finish-ends w None = record { last = w; leads = Stay w; same = refl }
  finish-ends w (Some (StoppedIn s)) = record { last = carry_each w (p.follows n); leads = each-lead (p.follows n) w; same = refl }
  finish-ends w (Some r) = record { last = w; leads = Stay w; same = refl }

plan-ends : (w : World) (p : Plan) → NoCuts p.told → Ends w (plan_moments w p) (carried_out w p).0
plan-ends w p none =
    let b : World = begun w p in
    let o : Outcome = carry b p.entries in
    let n : ℕ = stop_place w p in
    let f = finish-ends p n o.0 o.1 in
    record {
      last = f.last;
      leads = Go w b _ f.last (quietly w b p.told refl none) (leads-then b (worlds b p.entries) o.0 (worlds_after o.0 o.1 (p.follows n)) f.last (entries-lead p.entries b) f.leads);
      same = f.same;
    }

-- what a plan tells as it begins cuts no volume
case-quiet : (w : World) (line : ℕ) (p : Plan) → Ending w.control w.events line p → NoCuts p.told
case-quiet w line _ (Imaged vs) = (lines-plain (image_told vs) (image-lines vs)).cuts
case-quiet w line _ (OnePlan asked p c) = by asked p c
  where
    sends : (s n : ℕ) (b : Bool) → NoCuts (told_begun b s n)
    sends s n true = (tt, tt)
    sends s n false = tt

    by : (asked : _) (p : Plan) → Case w.control w.events line asked p → NoCuts p.told
    by _ _ (Lists told ls few) = (lines-plain told ls).cuts
    by _ _ (DefinesServer name free) = (tt, tt)
    by _ _ (DefinesVolume v s tracks here free) = (tt, tt)
    by _ _ (Issues v t offset len bytes free) = (tt, tt)
    by _ _ (Writes v t offset len bytes free) = (tt, tt)
    by _ _ (Shows v t there) = (tt, tt)
    by _ _ (Stops s on) = (tt, tt)
    by _ _ (Starts s off) = (tt, tt)
    by _ _ (Sends s server x r o posts) = sends s o.number (is_idle r.master.phase)
    by _ _ c = tt

-- ---- those of a run

parts-lead : (w : World) (xs : List Part) (u : World) → Goes w xs u → Leads w (parts_moments xs) u
unfolding parts_moments
parts-lead _ _ _ (Nothing w) = Stay w
parts-lead _ _ _ (NextPlan w p xs u comes rest) =
    let e = plan-ends w p (subst NoCuts (sym comes.told) tt) in
    let v : World = after_part w p in
    leads-then w (plan_moments w p) e.last (v ∷ parts_moments xs) u e.leads (Go e.last v (parts_moments xs) u (silently e.last v e.same) (parts-lead v xs u rest))

task-leads : (w : World) (t : Task) → Leads w (task_moments w t) (after_task w t)
unfolding after_plan
task-leads w t =
    let before : List Part = (course w t).before in
    let x : Part = (course w t).last in
    let u : World = after_task w t in
    let e = plan-ends x.world x.plan (case-quiet x.world t.line x.plan (course-case w t)) in
    let a : Said = answered x.plan (carried_out x.world x.plan).0.control (carried_out x.world x.plan).1 in
    leads-then w (parts_moments before) x.world (part_moments x ++ u ∷ []) u (parts-lead w before x.world (course-goes w t))
    (leads-then x.world (part_moments x) e.last (u ∷ []) u e.leads (Go e.last u [] u (quietly e.last u (answer t.line a ∷ []) (ap (λ es. es ++ answer t.line a ∷ []) e.same) (tt, tt)) (Stay u)))

run-leads : (tasks : List Task) (w : World) → Leads w (moments_from w tasks) (after_tasks w tasks)
unfolding moments_from after_tasks
run-leads [] w = Stay w
run-leads (t ∷ ts) w = let u : World = after_task w t in leads-then w (task_moments w t) u (moments_from u ts) (after_tasks u ts) (task-leads w t) (run-leads ts u)

-- ---- the moment of a cut

module _ (s n a : ℕ) (front : List Event) where
  record Found (us : List World) : Type 0 where
    before : List World
    moment : World
    later : List World
    is : us ≡ before ++ (moment ∷ later)
    cut : IsJustCut moment front s n a

  told-now : (w u : World) (us : List World) → Tells w u → InFirst u.events front (Cut s n a) → InFirst w.events front (Cut s n a) ⊎ Found (w ∷ u ∷ us)
  told-now w u us t here = elim (place-in w.events t.told front (Cut s n a) here.behind (sym t.is ∙ here.is)) [
    | inl was ↦ inl was
    | inr new ↦ inr (record { before = w ∷ []; moment = u; later = us; is = refl; cut = record { after = here.behind; is = here.is; last = t.last s n a new.middle here.behind new.other } })
  ]

  found : (w : World) (us : List World) (v : World) → Leads w us v → InFirst v.events front (Cut s n a) → InFirst w.events front (Cut s n a) ⊎ Found (w ∷ us)
  found _ _ _ (Stay w) here = inl here
  found _ _ _ (Go w u us v t rest) here = elim (found u us v rest here) [
    | inl now ↦ told-now w u us t now
    | inr f ↦ inr (record { before = w ∷ f.before; moment = f.moment; later = f.later; is = ap (λ vs. w ∷ vs) f.is; cut = f.cut })
  ]

pub cuts-run : (tasks : List Task) → CutsAreMoments tasks
cuts-run tasks s n a c = by (found s n a c.before nothing (moments_from nothing tasks) (run tasks) (run-leads tasks nothing) (record { behind = c.behind; is = c.is }))
  where
    by : InFirst [] c.before (Cut s n a) ⊎ Found s n a c.before (moments tasks) → HasCutMoment tasks c.before s n a
    by (inl here) = none c.before here.is
      where
        none : (front : List Event) → [] ≡ front ++ Cut s n a ∷ here.behind → HasCutMoment tasks c.before s n a
        none [] is = absurd cc
        none (e ∷ es) is = absurd cc
    by (inr f) = record { before = f.before; moment = f.moment; later = f.later; is = f.is; cut = f.cut }
