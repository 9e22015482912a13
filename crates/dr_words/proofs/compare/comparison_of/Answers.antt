use Rattle.std.proofs.Common.{◌≡◌, ◌∙◌, ap, sym, map, true}
use Rattle.std.specs.Prelude.{string_bytes}
use Rattle.std.proofs.lemmas.Result.{IfOk-weaker}
use Rattle.clap.specs.Words.{App, app_of, is_simple, subcommand_of, subcommand_rows_of, takes}
use Rattle.dr_logic.proofs.Truth.{false_true}
use Rattle.dr_words.specs.Compare.{has_form, met_comparison}
use Rattle.dr_words.specs.SweepLine.{sweep_line}
use Rattle.dr_words.proofs.CompareLemmas.{formless, taken_as}
use Rattle.dr_words.proofs.SweepLemmas.{sweep_is_simple}
use Rattle.dr_words.proofs.compare.comparison_of.Goals as goal

pub returns-then-not-has_form : goal.returns-then-not-has_form
returns-then-not-has_form c = sym (formless c.args.words.now (sym c.has_form.ensures ∙ c.if-not-has_form.true))

pub returns-in-Ok : goal.returns-in-Ok
returns-in-Ok c =
    let form : has_form c.args.words.now ≡ true = sym c.has_form.ensures ∙ c.if-not-has_form.false in
    let line_is : app_of c.in_ok-sweep_line.field-0 ≡ sweep_line = c.in_ok-sweep_line.ensures in
    let met : subcommand_rows_of c.in-Ok.matches ≡ subcommand_of sweep_line (map string_bytes c.args.words.now) =
    (c.in-Ok.ensures.matches (ap is_simple line_is ∙ sweep_is_simple)).1 ∙ ap (λ (a : App). subcommand_of a (map string_bytes c.args.words.now)) line_is in
    IfOk-weaker c.met_comparison.result _ _ (λ comparison is. is ∙ ap met_comparison met ∙ (taken_as c.args.words.now form).1) c.met_comparison.ensures

pub returns-in-Err-2 : goal.returns-in-Err-2
returns-in-Err-2 c =
    let form : has_form c.args.words.now ≡ true = sym c.has_form.ensures ∙ c.if-not-has_form.false in
    let takes_all : takes (app_of c.in_ok-sweep_line.field-0) (map string_bytes c.args.words.now) ≡ true =
    ap (λ (a : App). takes a (map string_bytes c.args.words.now)) c.in_ok-sweep_line.ensures ∙ (taken_as c.args.words.now form).0 in
    false_true c.if-eq.false (rw (c.kind.ensures ∙ c.in-Err.ensures.passes takes_all) at c.eq.ensures)
