use Rattle.std.proofs.Common.{inr}
use Rattle.dr_sweep.proofs.comparing.compare_plans.Goals as goal

pub returns-in-Ok-swept : goal.returns-in-Ok-swept
returns-in-Ok-swept g c =
    inr (inr (record { first = c.in-Ok.first; of_first = c.in-Ok.ensures.is; second = c.in-Ok-swept.second; of_second = c.in-Ok-swept.ensures.is; put = c.put_both.ensures }))
