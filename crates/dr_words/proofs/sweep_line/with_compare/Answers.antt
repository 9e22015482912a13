use Rattle.std.proofs.Common.{◌≡◌, ◌∙◌, ap, ap₂, codes, rules}
use Rattle.std.proofs.lemmas.Result.{IfOk-weaker}
use Rattle.clap.specs.Words.{App, app_of, new_app, with_rule, with_subcommand}
use Rattle.dr_words.specs.SweepLine.{files_rule}
use Rattle.dr_words.proofs.sweep_line.with_compare.Goals as goal

pub returns : goal.returns
returns c =
    let compare_is : app_of c.in_ok-compare.compare ≡ with_rule (new_app (codes "compare")) files_rule =
    c.in_ok-compare.ensures.shape c.files.ensures.1 ∙ ap₂ with_rule c.new.ensures.app c.files.ensures.0 in
    IfOk-weaker c.subcommand.result _ _ (λ line added. added.shape (search rules) ∙ ap (λ (a : App). with_subcommand (app_of c.args.line) a.top) compare_is) c.subcommand.ensures
