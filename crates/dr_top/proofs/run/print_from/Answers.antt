use Rattle.std.proofs.Common.{◌∙◌, ap, drop}
use Rattle.std.specs.List.{fold}
use Rattle.dr_model.specs.Text.{heard}
use Rattle.dr_top.proofs.RunLemmas.{heard-on}
use Rattle.dr_top.proofs.run.print_from.Goals as goal

pub returns-in_default-clause-heard : goal.returns-in_default-clause-heard
returns-in_default-clause-heard g c = c.text_on.ensures.told ∙ ap (λ told. fold heard told (drop c.args.from c.args.journal.now.events)) c.requires.heard ∙ heard-on c.args.journal.now.events c.args.from

pub returns-in_default-put_all-clause-heard : goal.returns-in_default-put_all-clause-heard
returns-in_default-put_all-clause-heard g c = c.text_on.ensures.told ∙ ap (λ told. fold heard told (drop c.args.from c.args.journal.now.events)) c.requires.heard ∙ heard-on c.args.journal.now.events c.args.from

pub returns-clause-heard : goal.returns-clause-heard
returns-clause-heard g c = c.text_on.ensures.told ∙ ap (λ told. fold heard told (drop c.args.from c.args.journal.now.events)) c.requires.heard ∙ heard-on c.args.journal.now.events c.args.from
