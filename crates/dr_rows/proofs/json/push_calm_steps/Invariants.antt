use Rattle.std.proofs.Common.{◌≡◌, ◌++◌, take}
use Rattle.std.specs.List.{flat_map}
use Rattle.dr_rows.specs.Json.{calm_item}
use Rattle.dr_rows.proofs.json.push_calm_steps.Given as goal

abbrev pub invariant-loop-step : goal.invariant-loop-step
invariant-loop-step l = l.items ≡ l.fn.items ++ flat_map (calm_item l.plan) (take l.step-index l.told)
