use Rattle.std.proofs.Common.{◌∙◌, ap, codes}
use Rattle.std.specs.Prelude.{option_and_then}
use Rattle.clap.specs.Words.{found_of}
use Rattle.clap.proofs.WalkLemmas.{first_value-rows}
use Rattle.dr_ids.specs.Spelling.{session_word}
use Rattle.dr_words.proofs.words.session_in.Goals as goal

pub returns-in_err-get_str : goal.returns-in_err-get_str
returns-in_err-get_str c = c.from_residual.ensures ∙ ap (option_and_then session_word) (c.in_err-get_str.ensures ∙ first_value-rows (found_of c.args.values.now) (codes "session"))

pub returns : goal.returns
returns c =
    c.read_session.ensures ∙ ap session_word c.as_bytes.ensures.value
    ∙ ap (option_and_then session_word) (c.in_ok-get_str.ensures ∙ first_value-rows (found_of c.args.values.now) (codes "session"))
