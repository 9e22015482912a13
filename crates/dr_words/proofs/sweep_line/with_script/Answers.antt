use Rattle.std.proofs.Common.{◌≡◌, ◌∙◌, ap, ap₂, codes, rules}
use Rattle.std.proofs.lemmas.Result.{IfOk-weaker}
use Rattle.clap.specs.Words.{App, app_of, new_app, with_rule, with_subcommand}
use Rattle.dr_words.specs.SweepLine.{point_rule}
use Rattle.dr_words.proofs.sweep_line.with_script.Goals as goal

pub returns : goal.returns
returns c =
    let script_is : app_of c.in_ok-script.script ≡ with_rule (new_app (codes "script")) point_rule =
    c.in_ok-script.ensures.shape c.point.ensures.1 ∙ ap₂ with_rule c.new.ensures.app c.point.ensures.0 in
    IfOk-weaker c.subcommand.result _ _ (λ line added. added.shape (search rules) ∙ ap (λ (a : App). with_subcommand (app_of c.args.line) a.top) script_is) c.subcommand.ensures
