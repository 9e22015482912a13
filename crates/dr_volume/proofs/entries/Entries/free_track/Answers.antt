use Rattle.std.proofs.Common.{sym, ◌∙◌}
use Rattle.dr_volume.proofs.PackedLaws.{none-freed}
use Rattle.dr_volume.proofs.entries.Entries.free_track.Goals as goal

pub returns-else-not-are_free : goal.returns-else-not-are_free
returns-else-not-are_free c = none-freed c.args.self.now c.args.t (sym c.are_free.ensures ∙ c.if-not-are_free.false)
