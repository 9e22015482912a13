use Rattle.std.proofs.Common.{◌∙◌, ap}
use Rattle.dr_io.specs.Pieces.{lines_of, more}
use Rattle.dr_io.specs.declared.amount.Amount.{Amount}
use Rattle.dr_io.proofs.AmountLemmas.{lines_counted}
use Rattle.dr_io.proofs.amount.line_count.Goals as goal

pub returns : goal.returns
returns c = c.lines.ensures ∙ ap lines_of (c.add.ensures ∙ ap (λ (amount : Amount). more amount c.args.text.now) c.none-amount.ensures) ∙ lines_counted c.args.text.now
