-- A plan that is carried out and answered, whatever its line.
use Rattle.std.proofs.Common.{ℕ, ◌≡◌, ap, ◌∙◌}
use Rattle.dr_model.specs.declared.said.Said.{Said}
use Rattle.dr_model.specs.Carry.{Outcome, carry}
use Rattle.dr_model.specs.Control.{World}
use Rattle.dr_model.specs.PlanParts.{Plan}
use Rattle.dr_model.specs.Runs.{begun, finish, stop_place, carried_out, answered, after_plan, said}
use Rattle.dr_steps.specs.Here.{Carries}

-- by how its entries end
pub carries : (w : World) (p : Plan) (o : Outcome) (u : World) (a : Said) → carry (begun w p) p.entries ≡ o → finish p (stop_place w p) o.0 o.1 ≡ u → answered p u.control o.1 ≡ a → Carries w p u a
carries w p o u a ends world says = record {
  world = ap (λ (o : Outcome). finish p (stop_place w p) o.0 o.1) ends ∙ world;
  says = ap (λ (o : Outcome). answered p u.control o.1) ends ∙ says;
}

pub carries-plan : (w : World) (p : Plan) (u : World) (a : Said) → Carries w p u a → (line : ℕ) → after_plan w line p ≡ said u line a
unfolding after_plan
carries-plan w p u a c line = (λ i. said (c.world i) line (answered p (c.world i).control (carried_out w p).1)) ∙ ap (said u line) c.says
