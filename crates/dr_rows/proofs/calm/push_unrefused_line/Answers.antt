use Rattle.std.proofs.Common.{◌++◌, ◌∷◌, [], ap, ◌∙◌}
use Rattle.std.specs.Prelude.{codes}
use Rattle.std.proofs.lemmas.Result.{on_ok_weaker}
use Rattle.dr_rows.specs.Calm.{line_text, numbered, unrefused_line}
use Rattle.dr_rows.proofs.TextLemmas.{pieces}
use Rattle.dr_rows.proofs.calm.push_unrefused_line.Goals as goal

pub returns : goal.returns
unfolding unrefused_line
returns c =
    on_ok_weaker c.append.result
    (pieces c.args.text.now (numbered c.args.number (line_text c.args.plan.now c.args.number)) c.push_numbered.new.text (codes "not refused (announced)" ++ 10 ∷ []) c.append.new.self
    (c.in_ok-push_numbered.ensures ∙ ap (λ l. c.args.text.now ++ numbered c.args.number l) c.line_text.ensures))
    c.append.ensures.ok
