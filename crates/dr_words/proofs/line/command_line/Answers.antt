use Rattle.std.proofs.Common.{◌≡◌, ◌∙◌, ap, ap₂, codes, rules}
use Rattle.std.proofs.lemmas.Result.{IfOk-weaker}
use Rattle.clap.specs.Words.{App, app_of, new_app, with_subcommand}
use Rattle.dr_words.specs.Line.{bare_program, valued}
use Rattle.dr_words.proofs.line.command_line.Goals as goal

pub returns : goal.returns
returns c =
    let first_is : app_of c.in_ok-line.line ≡ with_subcommand bare_program (new_app (codes "run")).top =
    c.in_ok-line.ensures.shape (search rules) ∙ ap₂ with_subcommand c.bare_program.ensures (ap (λ (a : App). a.top) c.new.ensures.app) in
    let second_is : app_of c.in_ok-line-2.line ≡ with_subcommand (with_subcommand bare_program (new_app (codes "run")).top) (valued (codes "recover") (codes "session")).top =
    c.in_ok-line-2.ensures ∙ ap (λ (a : App). with_subcommand a (valued (codes "recover") (codes "session")).top) first_is in
    IfOk-weaker c.with_valued-2.result _ _ (λ line is. is ∙ ap (λ (a : App). with_subcommand a (valued (codes "trial") (codes "number")).top) second_is) c.with_valued-2.ensures
