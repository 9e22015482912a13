use Rattle.std.proofs.Common.{◌≡◌, length}
use Rattle.dr_model.specs.LineWords.{list_items, onto}
use Rattle.dr_script.proofs.items.push_list.Given as goal

abbrev pub invariant-loop-comma : goal.invariant-loop-comma
invariant-loop-comma l = onto l.items.items (list_items l.rest) ≡ onto l.fn.items.items (list_items l.fn.word)

abbrev pub decreases-loop-comma : goal.decreases-loop-comma
decreases-loop-comma l = length l.rest
