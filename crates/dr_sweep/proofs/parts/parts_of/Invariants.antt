use Rattle.std.proofs.Common.{◌≡◌}
use Rattle.std.specs.List.{flat_map, range_with_len}
use Rattle.dr_sweep.specs.Parts.{disaster_parts}
use Rattle.dr_sweep.proofs.parts.parts_of.Given as goal

abbrev pub invariant-loop-disaster : goal.invariant-loop-disaster
invariant-loop-disaster l = l.parts.items ≡ flat_map (disaster_parts l.plan) (range_with_len 0 l.disaster)
