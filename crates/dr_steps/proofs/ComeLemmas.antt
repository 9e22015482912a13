-- A plan that a call of the layer below carried out and answered: the step, and the host's writes.
use Rattle.std.proofs.Common.{ℕ, ◌≡◌, ap, ◌∙◌, Option, Some, None}
use Rattle.dr_ids.specs.declared.refusal.Refusal.{Refusal}
use Rattle.dr_plant.specs.State.{PlantState}
use Rattle.dr_model.specs.declared.said.Said.{Said}
use Rattle.dr_model.specs.Control.{Control, World}
use Rattle.dr_model.specs.Carry.{carry}
use Rattle.dr_model.specs.Plans.{Plan}
use Rattle.dr_model.specs.Runs.{begun, answered, after_plan, said}
use Rattle.dr_model.proofs.CarryLemmas.{plan-ends, plan-fails}
use Rattle.dr_volume.specs.View.{ReadsPass}
use Rattle.dr_moves.specs.Here.{armed_in}
use Rattle.dr_admin.specs.Answering.{Comes}
use Rattle.dr_steps.specs.Here.{IsTold}
use Rattle.dr_steps.specs.declared.tables.Tables.{Tables}
use Rattle.dr_steps.proofs.LandLemmas.{exact, told-through}

module _ (s : PlantState) (pass : ReadsPass s) (w u : World) (p : Plan) (a : Said) (came : Comes (armed_in s) w p u a) where
  -- where no read fuse is armed it is carried out to the letter
  by-carry : carry (begun w p) p.entries ≡ (u, came.refusal)
  by-carry = exact s u came.refusal (begun w p) p.entries pass came.carried

  by-refusal : (line : ℕ) (r : Option Refusal) → carry (begun w p) p.entries ≡ (u, r) → answered p u.control r ≡ a → after_plan w line p ≡ said u line a
  by-refusal line None is answer = plan-ends w line p (u, None) is ∙ ap (λ (k : Control). said (record u { control = k }) line (p.says k)) came.tables ∙ ap (said u line) answer
  by-refusal line (Some r) is answer = plan-fails w u line p r came.alone is ∙ ap (said u line) answer

  pub plan-comes : (line : ℕ) → after_plan w line p ≡ said u line a
  plan-comes line = by-refusal line came.refusal by-carry came.answer

  -- no entry issues a write
  pub told-comes : (h : Tables) → IsTold h (begun w p).events → IsTold h u.events
  told-comes h told = told-through h (begun w p) u p.entries came.refusal by-carry told
