use Rattle.std.proofs.Common.{◌≡◌, ◌∙◌, ap, sym, map, true}
use Rattle.std.specs.Prelude.{string_bytes}
use Rattle.clap.specs.Words.{App, app_of, is_simple, subcommand_of, subcommand_rows_of, takes}
use Rattle.dr_logic.proofs.Truth.{false_true}
use Rattle.dr_words.specs.Line.{command_line, has_form, met_command}
use Rattle.dr_words.proofs.LineLemmas.{formless, line_is_simple, taken}
use Rattle.dr_words.proofs.words.command_of.Goals as goal

pub returns-then-not-has_form : goal.returns-then-not-has_form
returns-then-not-has_form c = sym (formless c.args.words.now (sym c.has_form.ensures ∙ c.if-not-has_form.true))

pub returns-in-Ok : goal.returns-in-Ok
returns-in-Ok c =
    let form : has_form c.args.words.now ≡ true = sym c.has_form.ensures ∙ c.if-not-has_form.false in
    let line_is : app_of c.in_ok-command_line.field-0 ≡ command_line = c.in_ok-command_line.ensures in
    let met : subcommand_rows_of c.in-Ok.matches ≡ subcommand_of command_line (map string_bytes c.args.words.now) =
    (c.in-Ok.ensures.matches (ap is_simple line_is ∙ line_is_simple)).1 ∙ ap (λ (a : App). subcommand_of a (map string_bytes c.args.words.now)) line_is in
    c.met_command.ensures ∙ ap met_command met ∙ (taken c.args.words.now form).1

pub returns-in-Err-2 : goal.returns-in-Err-2
returns-in-Err-2 c =
    let form : has_form c.args.words.now ≡ true = sym c.has_form.ensures ∙ c.if-not-has_form.false in
    let takes_all : takes (app_of c.in_ok-command_line.field-0) (map string_bytes c.args.words.now) ≡ true =
    ap (λ (a : App). takes a (map string_bytes c.args.words.now)) c.in_ok-command_line.ensures ∙ (taken c.args.words.now form).0 in
    false_true c.if-eq.false (rw (c.kind.ensures ∙ c.in-Err.ensures.passes takes_all) at c.eq.ensures)
