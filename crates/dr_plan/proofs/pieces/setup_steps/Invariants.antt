use Rattle.std.proofs.Common.{◌≡◌, ◌+◌, ◌++◌, drop}
use Rattle.dr_plan.specs.Parts.{tried_from}
use Rattle.dr_plan.proofs.pieces.setup_steps.Given as goal

abbrev pub invariant-loop-i : goal.invariant-loop-i
invariant-loop-i l = l.steps.items ++ tried_from (l.i + 1) (drop l.i l.setup) ≡ tried_from 1 l.setup
