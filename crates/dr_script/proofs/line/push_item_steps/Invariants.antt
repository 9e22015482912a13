use Rattle.std.proofs.Common.{◌≡◌, ◌++◌, drop}
use Rattle.dr_model.specs.Grammar.{item_steps}
use Rattle.dr_script.proofs.line.push_item_steps.Given as goal

abbrev pub invariant-loop-item : goal.invariant-loop-item
invariant-loop-item l = l.steps.items ++ item_steps l.place (drop l.item-index l.items) ≡ l.fn.steps.items ++ item_steps l.place l.items
