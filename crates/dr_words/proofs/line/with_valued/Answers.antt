use Rattle.std.proofs.Common.{◌≡◌, ◌∙◌, ap, ap₂, rules}
use Rattle.std.proofs.lemmas.Result.{IfOk-weaker}
use Rattle.clap.specs.Words.{App, app_of, rule_of, with_rule, with_subcommand}
use Rattle.dr_words.specs.Line.{value_rule, valued}
use Rattle.dr_words.proofs.line.with_valued.Goals as goal

pub returns : goal.returns
returns c =
    let value_is : rule_of c.required-value.result ≡ value_rule c.args.id.now = search rules in
    let command_is : app_of c.in_ok-command.command ≡ valued c.args.name.now c.args.id.now =
    c.in_ok-command.ensures.shape (search rules) ∙ ap₂ with_rule c.new-2.ensures.app value_is in
    IfOk-weaker c.subcommand.result _ _ (λ line added. added.shape (search rules) ∙ ap (λ (a : App). with_subcommand (app_of c.args.line) a.top) command_is) c.subcommand.ensures
