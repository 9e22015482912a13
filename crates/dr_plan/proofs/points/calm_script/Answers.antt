use Rattle.std.proofs.Common.{ap, ◌∙◌}
use Rattle.std.specs.Str.Lines.{lines}
use Rattle.std.proofs.lemmas.Result.{IfOk-weaker}
use Rattle.dr_plan.specs.Points.{calm_lines, text_of}
use Rattle.dr_plan.proofs.StepLemmas.{calm-read}
use Rattle.dr_plan.proofs.points.calm_script.Goals as goal

pub returns-clause-lines : goal.returns-clause-lines
returns-clause-lines c =
    IfOk-weaker c.calm_text.result _ _ (λ text is. ap lines (is ∙ ap (λ p. text_of (calm_lines p)) c.draft.ensures.draft) ∙ calm-read c.args.plan.now c.draft.ensures.sweep) c.calm_text.ensures
