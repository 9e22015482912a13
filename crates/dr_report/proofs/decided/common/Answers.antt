use Rattle.std.proofs.Common.{sym, ◌∙◌}
use Rattle.dr_report.proofs.Chosen.{common-all, common-none}
use Rattle.dr_report.proofs.decided.common.Goals as goal

pub returns-then-all_are : goal.returns-then-all_are
returns-then-all_are c = common-all c.args.numbers.now c.in_ok-first.field-0.now c.in_ok-first.ensures.value (sym c.all_are.ensures ∙ c.if-all_are.true)

pub returns-else-all_are : goal.returns-else-all_are
returns-else-all_are c = common-none c.args.numbers.now c.in_ok-first.field-0.now c.in_ok-first.ensures.value (sym c.all_are.ensures ∙ c.if-all_are.false)
