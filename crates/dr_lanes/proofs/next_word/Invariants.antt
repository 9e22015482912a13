use Rattle.std.proofs.Common.{ℕ, ◌≡◌, ◌≤◌, ◌<◌, ◌-◌, length, get_or}
use Rattle.dr_lanes.proofs.next_word.Given as goal

abbrev pub invariant-lanes : goal.invariant-lanes
invariant-lanes l = record { past : l.from ≤ l.at; within : l.at ≤ length l.a; zeros : (k : ℕ) → l.from ≤ k → k < l.at → get_or l.a k 0 ≡ 0 }

abbrev pub decreases-lanes : goal.decreases-lanes
decreases-lanes l = length l.a - l.at

abbrev pub invariant-rest : goal.invariant-rest
invariant-rest l = record { past : l.from ≤ l.at; within : l.at ≤ length l.a; zeros : (k : ℕ) → l.from ≤ k → k < l.at → get_or l.a k 0 ≡ 0 }

abbrev pub decreases-rest : goal.decreases-rest
decreases-rest l = length l.a - l.at
