use Rattle.std.proofs.Common.{◌≤◌, ◌-◌, length, bit_and, w64}
use Rattle.std.specs.Int.{bit_not}
use Rattle.dr_lanes.proofs.Merges.{Merged}
use Rattle.dr_lanes.proofs.and_not_into.Given as goal

abbrev pub invariant-lanes : goal.invariant-lanes
invariant-lanes l = record { within : l.at ≤ length l.a; merged : Merged (λ x y. bit_and x (bit_not w64 y)) l.initial.a l.b l.a l.at }

abbrev pub decreases-lanes : goal.decreases-lanes
decreases-lanes l = length l.initial.a - l.at

abbrev pub invariant-rest : goal.invariant-rest
invariant-rest l = record { within : l.at ≤ length l.a; merged : Merged (λ x y. bit_and x (bit_not w64 y)) l.fn.a l.b l.a l.at }

abbrev pub decreases-rest : goal.decreases-rest
decreases-rest l = length l.initial.a - l.at
