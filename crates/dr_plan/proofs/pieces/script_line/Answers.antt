use Rattle.std.proofs.Common.{◌++◌, ap, ◌∙◌}
use Rattle.std.specs.Str.Lines.{lines}
use Rattle.dr_plan.specs.Points.{with_end}
use Rattle.dr_plan.proofs.WholeLemmas.{line-text}
use Rattle.dr_plan.proofs.pieces.script_line.Goals as goal

pub returns-clause-lines : goal.returns-clause-lines
returns-clause-lines c unbroken = ap lines (c.in_ok-push_end.ensures ∙ ap (λ t. t ++ with_end c.args.line.now) c.new-text.ensures) ∙ line-text c.args.line.now unbroken
