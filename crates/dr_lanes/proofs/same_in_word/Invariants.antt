use Rattle.std.proofs.Common.{ℕ, ◌≡◌, ◌↔◌, ◌<◌, ◌+◌}
use Rattle.std.specs.Int.{bit_at}
use Rattle.dr_lanes.specs.Blocks.{IsSameBlock}
use Rattle.dr_lanes.proofs.same_in_word.Given as goal

abbrev pub invariant-loop-k : goal.invariant-loop-k
invariant-loop-k l = (j : ℕ) → (bit_at l.word j ≡ 1) ↔ ((j < l.k) × IsSameBlock l.a l.b (l.at + j))
