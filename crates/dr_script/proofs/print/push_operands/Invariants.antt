use Rattle.std.proofs.Common.{◌≡◌, ◌++◌, drop}
use Rattle.dr_model.specs.LineText.{spaced, operand_words}
use Rattle.dr_script.proofs.print.push_operands.Given as goal

abbrev pub invariant-loop-operand : goal.invariant-loop-operand
invariant-loop-operand l = l.text ++ spaced (operand_words (drop l.operand-index l.all) l.said.operands l.said.item) ≡ l.fn.text ++ spaced (operand_words l.all l.said.operands l.said.item)
