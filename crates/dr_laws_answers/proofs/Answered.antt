-- What a plan that is answered ok leaves: its entries all came to their end, and no server stopped in them.
use Rattle.std.proofs.Common.{ℕ, ◌≡◌, refl, ap, sym, ◌∙◌, subst, List, [], Option, Some, None, Ok}
use Rattle.dr_ids.specs.declared.refusal.Refusal.{Refusal}
use Rattle.dr_ids.specs.declared.refusal.Refusal.TheVariants.{JournalFull}
use Rattle.dr_ids.specs.declared.refusal.Kind.TheVariants.{Server as OfServer}
use Rattle.dr_model.specs.declared.said.Addition.{Addition}
use Rattle.dr_model.specs.declared.said.Said.TheVariants.{Done}
use Rattle.dr_model.specs.declared.step.Step.{Step}
use Rattle.dr_model.specs.Control.{Control, World}
use Rattle.dr_model.specs.Carry.{Outcome, carry}
use Rattle.dr_model.specs.PlanParts.{Plan, refuses, on_named}
use Rattle.dr_model.specs.PlantImage.{Volume}
use Rattle.dr_model.specs.Plans.{plan_of, step_plan, has_room}
use Rattle.dr_model.specs.Runs.{Task, Course, own_course, course_of, course, alone, begun, finish, stop_place, carried_out, answered, said, masters_lost, answered_part, after_task}
use Rattle.dr_model.specs.Refusals.{unknown}
use Rattle.dr_model.proofs.CarryLemmas.{plan-ends, carry-none}
use Rattle.dr_laws_sound.specs.Acknowledged.{said_in, part_answer}
use Rattle.dr_laws_sound.proofs.AcknowledgingSteps.{if-plan}

module _ (w : World) (line : ℕ) (Q : Addition → World → Type 0) where
  -- where the plan is answered ok, this is so of the answer and the world behind it
  abbrev pub Gives : Plan → Type 0
  Gives p = (x : Addition) → answered p (carried_out w p).0.control (carried_out w p).1 ≡ Done x → Q x (answered_part line (record { world = w; plan = p }))

  pub refused-gives : (r : Refusal) → Gives (refuses r)
  refused-gives r x h = absurd (by (carried_out w (refuses r)).0.control (carried_out w (refuses r)).1 h)
    where
      by : (k : Control) (o : Option Refusal) → answered (refuses r) k o ≡ Done x → ⊥
      by k None h = cc
      by k (Some s) h = cc

  -- the world behind the answer of a plan whose entries led on to u
  abbrev pub behind : Plan → World → World
  behind p u = masters_lost w (said (record u { control = p.last u.control }) line (p.says (p.last u.control)))

  pub ends-gives : (p : Plan) → ((u : World) → carry (begun w p) p.entries ≡ (u, None) → (x : Addition) → p.says (p.last u.control) ≡ Done x → Q x (behind p u)) → Gives p
  ends-gives p ends x h = subst (λ v. Q x (masters_lost w v)) (sym (plan-ends w line p (carry (begun w p) p.entries) refl)) (by (carry (begun w p) p.entries) refl h)
    where
      by : (o : Outcome) → carry (begun w p) p.entries ≡ o → answered p (finish p (stop_place w p) o.0 o.1).control o.1 ≡ Done x
          → Q x (masters_lost w (said (finish p (stop_place w p) o.0 o.1) line (answered p (finish p (stop_place w p) o.0 o.1).control o.1)))
      by (u, None) is h = ends u is x h
      by (u, Some r) is h = absurd cc

  -- one without entries
  pub tables-gives : (p : Plan) → p.entries ≡ [] → ((x : Addition) → p.says (p.last (p.first w.control)) ≡ Done x → Q x (behind p (begun w p))) → Gives p
  tables-gives p none ends =
      ends-gives p (λ u leads.
      let is : begun w p ≡ u = ap (λ (o : Outcome). o.0) (sym (carry-none (begun w p)) ∙ (sym (ap (carry (begun w p)) none) ∙ leads)) in
      subst (λ u. (x : Addition) → p.says (p.last u.control) ≡ Done x → Q x (behind p u)) is ends)

  -- a plan that needs a server
  pub placed-gives : (o : Option ℕ) (p : ℕ → Plan) → ((s : ℕ) → o ≡ Some s → Gives (p s)) → Gives (on_named o p)
  placed-gives None p each = refused-gives (unknown OfServer)
  placed-gives (Some s) p each = each s refl

  -- the step of such a plan
  pub step-gives : (s : Step) (listed : List Volume) → own_course (Ok s) ≡ None → Gives (plan_of w.control w.events line s)
      → (x : Addition) → said_in w (record { line = line; asked = Ok s; listed = listed }) ≡ Done x → Q x (after_task w (record { line = line; asked = Ok s; listed = listed }))
  step-gives s listed plain gives x says =
      let t : Task = record { line = line; asked = Ok s; listed = listed } in
      let is : course w t ≡ alone w (step_plan w.control w.events line s) = ap (course_of w t) plain in
      subst (λ (c : Course). part_answer c.last ≡ Done x → Q x (answered_part line c.last)) (sym is)
      (if-plan Gives refused-gives (has_room w.events) (plan_of w.control w.events line s) (refuses JournalFull) gives (refused-gives JournalFull) x) says

-- a step of a run
pub task-gives : (w : World) (t : Task) (Q : Addition → World → Type 0) (s : Step) → own_course (Ok s) ≡ None → t.asked ≡ Ok s → Gives w t.line Q (plan_of w.control w.events t.line s)
    → (x : Addition) → said_in w t ≡ Done x → Q x (after_task w t)
task-gives w t Q s plain asked gives x says =
    let same : record { line = t.line; asked = Ok s; listed = t.listed } ≡ t = λ i. record t { asked = sym asked i } in
    subst (λ t. said_in w t ≡ Done x → Q x (after_task w t)) same (step-gives w t.line Q s t.listed plain gives x) says
