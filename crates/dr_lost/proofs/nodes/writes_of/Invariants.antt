use Rattle.std.proofs.Common.{◌≡◌, ◌≤◌, ◌++◌, reverse, length}
use Rattle.dr_lost.specs.Nodes.{list_of}
use Rattle.dr_lost.proofs.nodes.writes_of.Given as goal

abbrev pub invariant-loop-number : goal.invariant-loop-number
invariant-loop-number l = record { within : l.number ≤ length l.nodes; rest : list_of l.nodes l.number ++ reverse l.writes.items ≡ list_of l.nodes l.initial.number }

abbrev pub decreases-loop-number : goal.decreases-loop-number
decreases-loop-number l = l.number
