use Rattle.std.proofs.Common.{◌≡◌, ◌++◌, take}
use Rattle.dr_plan.specs.Points.{text_of}
use Rattle.dr_plan.specs.Sweep.{texts}
use Rattle.dr_plan.proofs.points.push_texts.Given as goal

abbrev pub invariant-loop-step : goal.invariant-loop-step
invariant-loop-step l = l.text ≡ l.fn.text ++ text_of (texts (take l.step-index l.tried))
