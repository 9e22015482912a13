use Rattle.std.proofs.Common.{◌≡◌, ◌++◌, take}
use Rattle.std.specs.List.{flat_map}
use Rattle.dr_rows.specs.Calm.{step_said}
use Rattle.dr_rows.proofs.calm.push_steps.Given as goal

abbrev pub invariant-loop-step : goal.invariant-loop-step
invariant-loop-step l = l.text ≡ l.fn.text ++ flat_map (step_said l.plan l.number) (take l.step-index l.told)
