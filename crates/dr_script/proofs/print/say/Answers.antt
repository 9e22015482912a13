use Rattle.std.proofs.Common.{ap, sym, ◌∙◌, ◌++◌, append_assoc, ◌≡◌}
use Rattle.dr_model.specs.LineTable.{settings, command_word}
use Rattle.dr_model.specs.LineText.{spaced, settings_words, operand_words, said_operands}
use Rattle.dr_script.proofs.CutLemmas.{spaced-append}
use Rattle.dr_script.proofs.print.say.Goals as goal

pub returns : goal.returns
returns c =
    let said = c.args.said.now in
    let options = settings_words (settings said.command) said.options said.item in
    let others = operand_words (said_operands said) said.operands said.item in
    let word : c.append.new.self ≡ command_word said.command = c.in_ok-append.ensures.ok ∙ ap (λ t. t ++ c.command_word.result.now) c.new-text.ensures ∙ c.command_word.ensures in
    c.in_ok-push_operands.ensures
    ∙ ap (λ t. t ++ spaced others) (c.in_ok-push_settings.ensures ∙ ap (λ t. t ++ spaced options) word)
    ∙ append_assoc (command_word said.command) (spaced options) (spaced others)
    ∙ ap (λ t. command_word said.command ++ t) (sym (spaced-append options others))
