use Rattle.std.proofs.Common.{◌≡◌, ◌++◌, ◌+◌, ◌-◌}
use Rattle.dr_model.specs.LineWords.{items_from, span_len}
use Rattle.dr_plan.proofs.ranges.push_pairs.Given as goal

abbrev pub invariant-loop-k : goal.invariant-loop-k
invariant-loop-k l = l.pairs.items ++ items_from (l.a.low + l.k) (l.b.low + l.k) (span_len l.a - l.k) ≡ l.fn.pairs.items ++ items_from l.a.low l.b.low (span_len l.a)
