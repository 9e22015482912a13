use Rattle.std.proofs.Common.{sym, ◌∙◌}
use Rattle.dr_volume.proofs.PackedLaws.{names-lowest, none-lowest}
use Rattle.dr_volume.proofs.entries.name_lowest.Goals as goal

pub returns-in-Some : goal.returns-in-Some
returns-in-Some c = names-lowest c.args.entries.now c.in-Some.k c.args.t (sym c.in-Some.is ∙ c.lowest_free.ensures)

pub returns-in_default : goal.returns-in_default
returns-in_default c = none-lowest c.args.entries.now c.args.t (sym c.in_default.is ∙ c.lowest_free.ensures)
