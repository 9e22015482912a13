use Rattle.std.proofs.Common.{◌≡◌, ◌∙◌, ap, ap₂, codes, rules}
use Rattle.std.proofs.lemmas.Result.{IfOk-weaker}
use Rattle.clap.specs.Words.{App, app_of, new_app, with_rule, with_subcommand}
use Rattle.dr_words.specs.SweepLine.{bare_sweep, files_rule, point_rule}
use Rattle.dr_words.proofs.sweep_line.sweep_line.Goals as goal

pub returns : goal.returns
returns c =
    let first_is : app_of c.in_ok-line.line ≡ with_subcommand bare_sweep (new_app (codes "rows")).top =
    c.in_ok-line.ensures.shape (search rules) ∙ ap₂ with_subcommand c.bare_sweep.ensures (ap (λ (a : App). a.top) c.new.ensures.app) in
    let second_is : app_of c.in_ok-line-2.line ≡ with_subcommand (with_subcommand bare_sweep (new_app (codes "rows")).top) (new_app (codes "picture")).top =
    c.in_ok-line-2.ensures.shape (search rules) ∙ ap₂ with_subcommand first_is (ap (λ (a : App). a.top) c.new-2.ensures.app) in
    let third_is : app_of c.in_ok-line-3.line ≡ with_subcommand (with_subcommand (with_subcommand bare_sweep (new_app (codes "rows")).top) (new_app (codes "picture")).top) (new_app (codes "json")).top =
    c.in_ok-line-3.ensures.shape (search rules) ∙ ap₂ with_subcommand second_is (ap (λ (a : App). a.top) c.new-3.ensures.app) in
    let fourth_is = c.in_ok-line-4.ensures ∙ ap (λ (a : App). with_subcommand a (with_rule (new_app (codes "script")) point_rule).top) third_is in
    IfOk-weaker c.with_compare.result _ _ (λ line is. is ∙ ap (λ (a : App). with_subcommand a (with_rule (new_app (codes "compare")) files_rule).top) fourth_is) c.with_compare.ensures
