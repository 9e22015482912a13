use Rattle.std.proofs.Common.{ap, ◌∙◌}
use Rattle.dr_model.specs.Carried.{after_plan}
use Rattle.dr_model.proofs.CarryLemmas.{plan-refuses}
use Rattle.dr_laws_orders.proofs.Arrivals.{below-refused, below-old}
use Rattle.dr_laws_orders.proofs.an_order_below_a_fence_is_refused.Goals as goal

pub returns-clause-refused : goal.returns-clause-refused
returns-clause-refused c = below-refused

pub returns-clause-leaves : goal.returns-clause-leaves
returns-clause-leaves c = λ w line p r. ap (after_plan w line) r.is ∙ plan-refuses w line r.refusal

pub returns-clause-old : goal.returns-clause-old
returns-clause-old c = below-old

pub returns-clause-present : goal.returns-clause-present
returns-clause-present c = λ w s server sound. sound.flights.fences s server
