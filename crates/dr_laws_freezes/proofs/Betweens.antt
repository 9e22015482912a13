-- What holds between steps holds after each step of a run, since its plans may come in freeze windows.
use Rattle.std.proofs.Common.{ℕ, List, [], ◌∷◌, Option, Some, None}
use Rattle.std.proofs.lemmas.Bool.{and_from}
use Rattle.dr_ids.specs.declared.refusal.Refusal.{Refusal}
use Rattle.dr_ids.specs.declared.refusal.Refusal.TheVariants.{Stopped as StoppedIn}
use Rattle.dr_model.specs.Control.{World, nothing}
use Rattle.dr_model.specs.Carry.{Act, Make, OpenAttempt, Next, Pass, Do, End, Entry, Outcome, continue, go, carry, carry_each}
use Rattle.dr_model.specs.Plans.{Plan}
use Rattle.dr_model.specs.Forming.{Part, after_part}
use Rattle.dr_model.specs.Runs.{Task, course, begun, finish, carried_out, answered, after_plan, after_task, after_tasks, run, stop_place}
use Rattle.dr_laws_sound.proofs.Turns.{Counts, after_act, act-cases}
use Rattle.dr_laws_sound.proofs.Parts.{Comes, last-plan, course-case}
use Rattle.dr_laws_freezes.specs.InSync.{DuplexInSync}
use Rattle.dr_laws_freezes.proofs.Chains.{act_tag, CountsFin, window_next, WindowAlong, act-runs, PlanFin, WindowEach}
use Rattle.dr_laws_freezes.proofs.WindowActs.{Between}
use Rattle.dr_laws_freezes.proofs.WindowPlans.{good-between, answers-between, loses-between, PlanHolds}
use Rattle.dr_laws_freezes.proofs.WindowSteps.{between-nothing, window-case, window-ending}
use Rattle.dr_logic.proofs.Truth.{false_true}

-- entries that may come in windows come to such an end
module _ (Fin : Option ℕ → World → Option Refusal → Type 0) where
  record Came (o : Outcome) : Type 0 where
    tag : Option ℕ
    fin : Fin tag o.0 o.1

  counts-came : (w : World) (a : Act) (more : World → Outcome) → CountsFin Fin w a → Counts w a (λ t. Came (continue t.0 t.1 more))
  counts-came w (Make m) more fin = λ f. record { tag = None; fin = fin f }
  counts-came w (OpenAttempt v s n) more fin = λ f. record { tag = None; fin = fin f }
  counts-came w a more fin = tt

  next-came : (tag : Option ℕ) (w : World) (x : Next) (more : World → Outcome) (then : Option ℕ → World → Type 0) → ((tag : Option ℕ) (v : World) → then tag v → Came (more v)) → window_next Fin tag w x then → Came (go w x more)
  next-came tag w Pass more then on a = on tag w a
  next-came tag w (End r) more then on a = record { tag = tag; fin = a }
  next-came tag w (Do x) more then on a =
      act-cases w x (λ t. Came (continue t.0 t.1 more)) (λ d off. absurd (false_true off (act-runs tag w x d a.0))) (λ f. on (act_tag x tag) (after_act w x f) (a.1 f)) (counts-came w x more a.2.0)
      (λ d f. record { tag = None; fin = a.2.1 d f })

  window-came : (ds : List Entry) (tag : Option ℕ) (w : World) → WindowAlong Fin tag w ds → Came (carry w ds)
  unfolding WindowAlong carry
  window-came [] tag w a = record { tag = tag; fin = a.1 }
  window-came (d ∷ ds) tag w a = next-came tag w (d w.control) (λ v. carry v ds) (λ tag v. WindowAlong Fin tag v ds) (λ tag v b. window-came ds tag v b) a.1

-- and what follows a stop
each-came : (ds : List Entry) (tag : Option ℕ) (w : World) → WindowEach Between good-between answers-between tag w ds → Between (carry_each w ds)
each-came [] tag w a = a.1
each-came (d ∷ ds) tag w a = let c = window-came (λ tag u r. WindowEach Between good-between answers-between tag u ds) (d ∷ []) tag w a in each-came ds c.tag (carry w (d ∷ [])).0 c.fin

-- a plan that may come
carried-between : (w : World) (p : Plan) → PlanHolds w p → Between (carried_out w p).0
carried-between w p fair = by (carry (begun w p) p.entries) (window-came (PlanFin Between good-between answers-between p) p.entries None (begun w p) fair.entries)
  where
    by : (o : Outcome) → Came (PlanFin Between good-between answers-between p) o → Between (finish p (stop_place w p) o.0 o.1)
    by (u, None) c = c.fin
    by (u, Some (StoppedIn s)) c = each-came (p.follows (stop_place w p)) c.tag u (c.fin (stop_place w p))
    by (u, Some r) c = c.fin

between-part : (w : World) (p : Plan) → Comes w p → Between w → Between (after_part w p)
between-part w p comes k = loses-between w (carried_out w p).0 (carried-between w p (window-case w k 0 comes.asked p (comes.case 0)))

pub between-task : (w : World) (t : Task) → Between w → Between (after_task w t)
unfolding after_plan
between-task w t k =
    let x : Part = (course w t).last in
    let u : World = (carried_out x.world x.plan).0 in
    answers-between x.world u t.line (answered x.plan u.control (carried_out x.world x.plan).1)
    (carried-between x.world x.plan (window-ending x.world (last-plan Between between-part w t k) t.line x.plan (course-case w t)))

between-tasks : (w : World) (ts : List Task) → Between w → Between (after_tasks w ts)
unfolding after_tasks
between-tasks w [] k = k
between-tasks w (t ∷ ts) k = between-tasks (after_task w t) ts (between-task w t k)

pub between-run : (tasks : List Task) → Between (run tasks)
between-run tasks = between-tasks nothing tasks between-nothing

pub in-sync-run : (tasks : List Task) → DuplexInSync tasks
in-sync-run tasks before behind is =
    let in_sync = (between-run before).in_sync in
    record { sent = λ v t there runs metro full. in_sync.clean v there runs (and_from _ _ metro full) t; unchanged = λ v t metro. (in_sync.free v).changes metro t }
