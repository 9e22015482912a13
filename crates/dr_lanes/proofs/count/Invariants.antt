use Rattle.std.proofs.Common.{◌≡◌, ◌≤◌, ◌-◌, ◌*◌, length}
use Rattle.dr_lanes.specs.Words.{is_set}
use Rattle.dr_lanes.proofs.Members.{how_many}
use Rattle.dr_lanes.proofs.count.Given as goal

abbrev pub invariant-lanes : goal.invariant-lanes
invariant-lanes l = record { within : l.at ≤ length l.a; few : l.ones ≤ 64 * l.at; so_far : l.ones ≡ how_many (is_set l.a) 0 (64 * l.at) }

abbrev pub decreases-lanes : goal.decreases-lanes
decreases-lanes l = length l.a - l.at

abbrev pub invariant-rest : goal.invariant-rest
invariant-rest l = record { within : l.at ≤ length l.a; few : l.ones ≤ 64 * l.at; so_far : l.ones ≡ how_many (is_set l.a) 0 (64 * l.at) }

abbrev pub decreases-rest : goal.decreases-rest
decreases-rest l = length l.a - l.at
