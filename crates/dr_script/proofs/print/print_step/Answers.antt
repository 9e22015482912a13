use Rattle.std.proofs.Common.{◌≡◌, ◌∷◌, [], ap, ◌∙◌}
use Rattle.std.specs.Prelude.{Ok}
use Rattle.std.proofs.lemmas.Result.{IfOk-weaker}
use Rattle.dr_model.specs.LineText.{said_text, step_text}
use Rattle.dr_model.specs.Grammar.{line_of}
use Rattle.dr_script.proofs.StepLemmas.{reads}
use Rattle.dr_script.proofs.print.print_step.Goals as goal

pub returns-clause-reads : goal.returns-clause-reads
unfolding step_text
returns-clause-reads c =
    IfOk-weaker c.say.result (λ text. text ≡ said_text c.saying.result) (λ text. line_of text ≡ Ok (c.args.step.now ∷ []))
    (λ text is. ap line_of (is ∙ ap said_text c.saying.ensures) ∙ reads c.args.step.now c.requires)
    c.say.ensures
