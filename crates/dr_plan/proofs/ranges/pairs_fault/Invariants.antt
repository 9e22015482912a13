use Rattle.std.proofs.Common.{◌≡◌, drop}
use Rattle.dr_plan.specs.Reading.{pairs_fault}
use Rattle.dr_plan.proofs.ranges.pairs_fault.Given as goal

abbrev pub invariant-loop-pair : goal.invariant-loop-pair
invariant-loop-pair l = pairs_fault l.sizes (drop l.pair-index l.pairs) ≡ pairs_fault l.sizes l.pairs
