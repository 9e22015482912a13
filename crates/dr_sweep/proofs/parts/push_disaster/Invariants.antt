use Rattle.std.proofs.Common.{◌≡◌, ◌++◌, ◌∷◌}
use Rattle.std.specs.List.{flat_map, range_with_len}
use Rattle.dr_sweep.specs.Parts.{step_parts}
use Rattle.dr_sweep.specs.declared.parts.Part.TheVariants.{Between}
use Rattle.dr_sweep.proofs.parts.push_disaster.Given as goal

abbrev pub invariant-loop-place : goal.invariant-loop-place
invariant-loop-place l = l.parts.items ≡ l.fn.parts.items ++ Between l.disaster 0 ∷ flat_map (step_parts l.plan l.disaster) (range_with_len 0 l.place)
