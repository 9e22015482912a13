-- The answer of a call that wants no memory, among those that may.
use Rattle.std.proofs.Common.{ℕ, ◌≡◌, ◌∙◌, ap, sym, subst, Result, Ok, Err}
use Rattle.dr_ids.specs.declared.refusal.Fault.{Fault}
use Rattle.dr_ids.specs.declared.refusal.Refusal.{Refusal}
use Rattle.dr_plant.specs.State.{PlantState}
use Rattle.dr_model.specs.declared.said.Addition.{Addition}
use Rattle.dr_model.specs.declared.said.Said.{Said}
use Rattle.dr_model.specs.declared.step.Step.{Step}
use Rattle.dr_model.specs.Control.{World}
use Rattle.dr_model.specs.Plans.{plan_of}
use Rattle.dr_model.specs.Runs.{after_plan}
use Rattle.dr_steps.specs.Faults.{CountsStop}
use Rattle.dr_steps.specs.Here.{said_of, answered_by, widened, refused, answer_widened, OnSaid, OnAnswer, OnNoMemory, StepLeads}
use Rattle.dr_steps.specs.Wants.{WantsRow}
use Rattle.dr_steps.proofs.DeliverLemmas.{answer-refused}

-- what a step owes, but for what its tables and its journal come to
pub record Widened (w u : World) (s s' : PlantState) (line : ℕ) (asked : Step) (result : Result Said Fault) : Type 0 where
  pub step : OnSaid result (λ a. StepLeads w line asked u a)
  pub faults : OnSaid result (λ a. CountsStop a s s')
  pub wanted : OnNoMemory result (WantsRow w asked)
  pub same : OnNoMemory result (u ≡ w)
  pub same_plant : OnNoMemory result (s' ≡ s)

said-so : (r : Result Addition Refusal) (P : Said → Type 0) → P (said_of r) → OnSaid (widened r) P
said-so (Ok added) P holds = holds
said-so (Err e) P holds = holds

never : (r : Result Addition Refusal) (P : Type 0) → OnNoMemory (widened r) P
never (Ok added) P = tt
never (Err e) P = tt

answered-so : (r : Result Said Refusal) (P : Said → Type 0) → P (answered_by r) → OnSaid (answer_widened r) P
answered-so (Ok a) P holds = holds
answered-so (Err e) P holds = holds

never-answered : (r : Result Said Refusal) (P : Type 0) → OnNoMemory (answer_widened r) P
never-answered (Ok a) P = tt
never-answered (Err e) P = tt

pub widens : (w u : World) (s s' : PlantState) (line : ℕ) (asked given : Step) (r : Result Addition Refusal) (result : Result Said Fault) → result ≡ widened r → asked ≡ given
    → StepLeads w line given u (said_of r) → CountsStop (said_of r) s s' → Widened w u s s' line asked result
widens w u s s' line asked given r result is same leads counts = record {
  step = subst (λ (x : Result Said Fault). OnSaid x (λ a. StepLeads w line asked u a)) (sym is) (said-so r (λ a. StepLeads w line asked u a) (ap (λ x. after_plan w line (plan_of w.control w.events line x)) same ∙ leads));
  faults = subst (λ (x : Result Said Fault). OnSaid x (λ a. CountsStop a s s')) (sym is) (said-so r (λ a. CountsStop a s s') counts);
  wanted = subst (λ (x : Result Said Fault). OnNoMemory x (WantsRow w asked)) (sym is) (never r (WantsRow w asked));
  same = subst (λ (x : Result Said Fault). OnNoMemory x (u ≡ w)) (sym is) (never r (u ≡ w));
  same_plant = subst (λ (x : Result Said Fault). OnNoMemory x (s' ≡ s)) (sym is) (never r (s' ≡ s));
}

-- the same of a call that may be answered in other ways than done
pub widens-answer : (w u : World) (s s' : PlantState) (line : ℕ) (asked given : Step) (r : Result Said Refusal) (result : Result Said Fault) → result ≡ answer_widened r → asked ≡ given
    → StepLeads w line given u (answered_by r) → CountsStop (answered_by r) s s' → Widened w u s s' line asked result
widens-answer w u s s' line asked given r result is same leads counts = record {
  step = subst (λ (x : Result Said Fault). OnSaid x (λ a. StepLeads w line asked u a)) (sym is) (answered-so r (λ a. StepLeads w line asked u a) (ap (λ x. after_plan w line (plan_of w.control w.events line x)) same ∙ leads));
  faults = subst (λ (x : Result Said Fault). OnSaid x (λ a. CountsStop a s s')) (sym is) (answered-so r (λ a. CountsStop a s s') counts);
  wanted = subst (λ (x : Result Said Fault). OnNoMemory x (WantsRow w asked)) (sym is) (never-answered r (WantsRow w asked));
  same = subst (λ (x : Result Said Fault). OnNoMemory x (u ≡ w)) (sym is) (never-answered r (u ≡ w));
  same_plant = subst (λ (x : Result Said Fault). OnNoMemory x (s' ≡ s)) (sym is) (never-answered r (s' ≡ s));
}

-- what a step owes whose call may be answered as done or refused alone
pub record Answered (w u : World) (s s' : PlantState) (asked : Step) (result : Result Addition Fault) : Type 0 where
  pub step : OnAnswer result (λ a. (line : ℕ) → StepLeads w line asked u a)
  pub faults : OnAnswer result (λ a. CountsStop a s s')
  pub wanted : OnNoMemory result (WantsRow w asked)
  pub same : OnNoMemory result (u ≡ w)
  pub same_plant : OnNoMemory result (s' ≡ s)

never-refused : (r : Result Addition Refusal) (P : Type 0) → OnNoMemory (refused r) P
never-refused (Ok added) P = tt
never-refused (Err e) P = tt

pub refuses : (w u : World) (s s' : PlantState) (asked given : Step) (r : Result Addition Refusal) (result : Result Addition Fault) → result ≡ refused r → asked ≡ given
    → ((line : ℕ) → StepLeads w line given u (said_of r)) → CountsStop (said_of r) s s' → Answered w u s s' asked result
refuses w u s s' asked given r result is same leads counts = record {
  step = subst (λ (x : Result Addition Fault). OnAnswer x (λ a. (line : ℕ) → StepLeads w line asked u a)) (sym is) (answer-refused r (λ a. (line : ℕ) → StepLeads w line asked u a) (λ line. ap (λ x. after_plan w line (plan_of w.control w.events line x)) same ∙ leads line));
  faults = subst (λ (x : Result Addition Fault). OnAnswer x (λ a. CountsStop a s s')) (sym is) (answer-refused r (λ a. CountsStop a s s') counts);
  wanted = subst (λ (x : Result Addition Fault). OnNoMemory x (WantsRow w asked)) (sym is) (never-refused r (WantsRow w asked));
  same = subst (λ (x : Result Addition Fault). OnNoMemory x (u ≡ w)) (sym is) (never-refused r (u ≡ w));
  same_plant = subst (λ (x : Result Addition Fault). OnNoMemory x (s' ≡ s)) (sym is) (never-refused r (s' ≡ s));
}
