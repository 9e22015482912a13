use Rattle.std.proofs.Common.{ap, ◌∙◌}
use Rattle.std.specs.Str.Lines.{lines}
use Rattle.std.proofs.lemmas.Result.{IfOk-weaker}
use Rattle.dr_plan.specs.Points.{text_of}
use Rattle.dr_plan.specs.Sweep.{Sweep}
use Rattle.dr_plan.proofs.WholeLemmas.{lines-text}
use Rattle.dr_plan.proofs.points.setup_text.Goals as goal

pub returns : goal.returns
returns c =
    IfOk-weaker c.setup_of.result _ _ (λ text is. (is ∙ ap (λ (p : Sweep). text_of p.setup) c.draft.ensures.draft, ap lines (is ∙ ap (λ (p : Sweep). text_of p.setup) c.draft.ensures.draft) ∙ lines-text c.args.plan.now.setup c.draft.ensures.sweep.setup)) c.setup_of.ensures
