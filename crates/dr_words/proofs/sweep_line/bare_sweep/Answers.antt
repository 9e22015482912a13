use Rattle.std.proofs.Common.{◌∙◌, ap, true}
use Rattle.clap.specs.Words.{App}
use Rattle.clap.specs.Simple.{app_of_fields}
use Rattle.dr_words.proofs.sweep_line.bare_sweep.Goals as goal

pub returns : goal.returns
returns c =
    ap app_of_fields c.disable_help_subcommand.ensures ∙ ap (λ (a : App). record a { top = record a.top { disable_help_subcommand = true } }) (ap app_of_fields c.disable_help_flag.ensures ∙ ap (λ (a : App). record a { top = record a.top { disable_help_flag = true } }) (ap app_of_fields c.no_binary_name.ensures ∙ ap (λ (a : App). record a { top = record a.top { no_binary_name = true } }) c.new.ensures.app))
