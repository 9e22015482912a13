use Rattle.std.proofs.Common.{length, ◌-◌, ◌≡◌, ◌≤◌, ◌==◌, ◌+◌, drop}
use Rattle.std.specs.List.{common_prefix_len}
use Rattle.dr_verdict.proofs.texts.common_len.Given as goal

abbrev pub invariant-loop-at : goal.invariant-loop-at
invariant-loop-at l =
    (l.at ≤ length l.wanted) × (l.at ≤ length l.printed)
    × (common_prefix_len (λ x y. x == y) l.wanted l.printed ≡ l.at + common_prefix_len (λ x y. x == y) (drop l.at l.wanted) (drop l.at l.printed))

abbrev pub decreases-loop-at : goal.decreases-loop-at
decreases-loop-at l = length l.wanted - l.at
